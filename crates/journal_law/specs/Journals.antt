-- Journals of such acts, with lines among them that tell no act, and the verdict on them.
use Rattle.std.specs.Prelude.{◌≡◌, ℕ, ◌+◌, ◌-◌, ◌≤◌, true, List, [], ◌∷◌, ◌++◌, length, slice_get, Option, Some, None, Ok}
use Rattle.std.specs.List.{AllByRecursion, filter_map}
use Rattle.xfs_base.specs.Limits.{max_bytes}
use Rattle.act_text.specs.Acts.{act_text, line_of}
use Rattle.audit.specs.Journal.{is_skipped, read_journal, IsAudited}
use Rattle.audit.specs.declared.journal.Journal.{Journal}
use Rattle.script_text.specs.Lines.{lines}
use Rattle.script_text.specs.Words.{Lacks}
use Rattle.version_model.specs.Legal.{IsVerdict}
use Rattle.version_model.specs.declared.act.Act.{Act}
use Rattle.version_model.specs.declared.verdict.Verdict.{Verdict}
use Rattle.version_model.specs.declared.verdict.Verdict.TheVariants.{Legal, Illegal}
use Rattle.journal_law.specs.Told.{IsTold, IsLineOf}

-- a line of a journal: an act's, or another
pub data Entry : Type 0 where
  Tells : Act → Entry
  Other : List ℕ → Entry

-- an act that can be told, or one line that tells none: an empty one, one that begins with a digit, or the end line of a run
abbrev pub IsEntry : Entry → Type 0
IsEntry (Tells act) = IsTold act
IsEntry (Other line) = Lacks 10 line × (is_skipped line ≡ true)

abbrev pub entry_text : Entry → List ℕ
entry_text (Tells act) = act_text act
entry_text (Other line) = line_of line

-- the lines, one after the other
abbrev pub journal_text : List Entry → List ℕ
journal_text [] = []
journal_text (e ∷ es) = entry_text e ++ journal_text es

abbrev pub act_in : Entry → Option Act
act_in (Tells act) = Some act
act_in (Other line) = None

-- the acts that are told
abbrev pub acts_in : List Entry → List Act
acts_in entries = filter_map act_in entries

-- the number of a line that tells an act
abbrev pub number_in : ℕ → Entry → List ℕ
number_in n (Tells act) = n ∷ []
number_in n (Other line) = []

-- the numbers of all these, where the first line has this one
abbrev pub numbers_from : ℕ → List Entry → List ℕ
numbers_from n [] = []
numbers_from n (e ∷ es) = number_in n e ++ numbers_from (n + 1) es

-- a journal that can be read: of good lines, and not too long
pub record IsJournal (entries : List Entry) : Type 0 where
  pub each : AllByRecursion IsEntry entries
  pub short : length (journal_text entries) ≤ max_bytes

abbrev pub journal_of : List Entry → Journal
journal_of entries = record { acts = acts_in entries; lines = numbers_from 1 entries }

-- The text is read as just these acts, each on its own line.
abbrev pub JournalsAreReadAsPrinted : Type 0
JournalsAreReadAsPrinted = (entries : List Entry) → IsJournal entries → read_journal (journal_text entries) ≡ Ok (journal_of entries)

-- the line of this number, from 1, is the act's
abbrev pub IsOnLine : List ℕ → ℕ → Act → Type 0
IsOnLine text number act = (line : List ℕ) × (slice_get (lines text) (number - 1) ≡ Some line) × IsLineOf act line

-- the verdict on some acts, where the first that is not legal is named by its line in this text
abbrev pub JudgesByLine : List ℕ → List Act → Verdict → Type 0
JudgesByLine text acts (Legal count) = IsVerdict acts (Legal count)
JudgesByLine text acts (Illegal number) =
    (place : ℕ) × IsVerdict acts (Illegal (place + 1)) × ((act : Act) → slice_get acts place ≡ Some act → IsOnLine text number act)

-- What is said of the text is the verdict on just these acts.
abbrev pub VerdictsAreOnTheActs : Type 0
VerdictsAreOnTheActs =
    (entries : List Entry) → IsJournal entries → (verdict : Verdict) → IsAudited (journal_text entries) verdict
    → JudgesByLine (journal_text entries) (acts_in entries) verdict
