-- A journal: its acts, line by line, or its first bad line.
use Rattle.std.specs.Prelude.{◌≡◌, ℕ, ◌+◌, ◌==◌, Bool, true, false, ◌&&◌, ◌||◌, nat_lt, List, [], ◌∷◌, ◌++◌, length, slice_get, Option, Some, None, Result, Ok, Err, if◌then◌else◌}
use Rattle.xfs_base.specs.Limits.{max_bytes}
use Rattle.script_text.specs.declared.refusal.Kind.{Kind}
use Rattle.script_text.specs.declared.refusal.Kind.TheVariants.{TooLong}
use Rattle.script_text.specs.declared.refusal.ScriptError.{ScriptError}
use Rattle.script_text.specs.declared.refusal.ScriptError.TheVariants as errors
use Rattle.script_text.specs.Lines.{lines}
use Rattle.script_text.specs.Outcome.{◌>>=◌}
use Rattle.version_model.specs.declared.act.Act.{Act}
use Rattle.version_model.specs.declared.verdict.Verdict.{Verdict}
use Rattle.version_model.specs.declared.verdict.Verdict.TheVariants.{Legal, Illegal}
use Rattle.version_model.specs.Legal.{IsVerdict, IsFirstIllegal}
use Rattle.audit.specs.declared.journal.Journal.{Journal}
use Rattle.audit.specs.Acts.{read_act}
use Rattle.audit.specs.Shapes.{is_digit}

abbrev pub begins_end : List ℕ → Bool
begins_end [] = false
begins_end (a ∷ []) = false
begins_end (a ∷ b ∷ []) = false
begins_end (a ∷ b ∷ c ∷ rest) = (a == 101) && ((b == 110) && (c == 100))

-- a line that tells no act: an empty one, one that begins with a digit, and the end line of a run
abbrev pub is_skipped : List ℕ → Bool
is_skipped [] = true
is_skipped (b ∷ bytes) = begins_end (b ∷ bytes) || is_digit b

-- the act of a line; none where it tells none
abbrev pub said : List ℕ → Result (Option Act) Kind
said line = if is_skipped line then Ok None else read_act line >>= λ act. Ok (Some act)

-- the journal with what a line of this number says
abbrev pub noted : Journal → ℕ → Option Act → Journal
noted j number None = j
noted j number (Some act) = record { acts = j.acts ++ act ∷ []; lines = j.lines ++ number ∷ [] }

-- a line that is no act's, and why
pub record BadLine : Type 0 where
  pub line : ℕ
  pub kind : Kind

-- the line that ends at this place holds byte 1,048,577 of the input, or comes after it
abbrev pub is_past : ℕ → ℕ → Bool
is_past total end = nat_lt max_bytes total && nat_lt max_bytes end

abbrev pub behind_line : ℕ → Result (Option Act) Kind → (Option Act → Result Journal BadLine) → Result Journal BadLine
behind_line number (Ok act) f = f act
behind_line number (Err kind) f = Err (record { line = number; kind = kind })

-- a journal with lines behind it, of which the first has this number and begins at this place of an input of so many bytes
abbrev pub journal_from : ℕ → ℕ → ℕ → List (List ℕ) → Journal → Result Journal BadLine
journal_from total place number [] j = Ok j
journal_from total place number (line ∷ rest) j =
    if is_past total (place + (length line + 1)) then Err (record { line = number; kind = TooLong })
    else behind_line number (said line) (λ act. journal_from total (place + (length line + 1)) (number + 1) rest (noted j number act))

-- the acts of a journal, and the numbers of their lines, or the first bad line
abbrev pub read_journal : List ℕ → Result Journal BadLine
read_journal bytes = journal_from (length bytes) 0 1 (lines bytes) (record { acts = []; lines = [] })

-- a fault is the first bad line
abbrev pub IsBad : ScriptError → Result Journal BadLine → Type 0
IsBad (errors.Bad number kind) read = read ≡ Err (record { line = number; kind = kind })
IsBad errors.Memory read = Unit {0}

-- what is answered is the journal or its first bad line, unless memory runs out
abbrev pub AnswersJournal : Result Journal ScriptError → Result Journal BadLine → Type 0
AnswersJournal (Ok j) read = read ≡ Ok j
AnswersJournal (Err e) read = IsBad e read

-- what is said of a journal: that all its acts are legal and how many they are, or the line of the first that is not
abbrev pub Says : Journal → Verdict → Type 0
Says j (Legal count) = IsVerdict j.acts (Legal count)
Says j (Illegal line) = (place : ℕ) × IsFirstIllegal j.acts place × (slice_get j.lines place ≡ Some line)

-- the verdict on the journal that the bytes are
abbrev pub IsAudited : List ℕ → Verdict → Type 0
IsAudited bytes verdict = (j : Journal) × (read_journal bytes ≡ Ok j) × Says j verdict
