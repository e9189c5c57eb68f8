-- The text of a run is a journal of the run's acts.
use Rattle.std.specs.Prelude.{◌≡◌, ℕ, ◌≤◌, true, List, ◌++◌, length, Ok}
use Rattle.std.specs.List.{AllByRecursion}
use Rattle.xfs_base.specs.Limits.{max_bytes}
use Rattle.act_text.specs.Acts.{acts_text}
use Rattle.audit.specs.Journal.{read_journal, IsAudited}
use Rattle.script_text.specs.Words.{Lacks}
use Rattle.headline.specs.Audits.{told}
use Rattle.transcript.specs.Text.{items_text, text_of}
use Rattle.version_model.specs.Legal.{AreLegal}
use Rattle.version_model.specs.declared.act.Act.{Act}
use Rattle.version_model.specs.declared.act.Act.TheVariants as acts
use Rattle.version_model.specs.declared.answer.Answer.{Answer}
use Rattle.version_model.specs.declared.answer.Answer.TheVariants as answers
use Rattle.version_model.specs.declared.verdict.Verdict.{Verdict}
use Rattle.version_model.specs.declared.verdict.Verdict.TheVariants.{Legal, Illegal}
use Rattle.world_base.specs.declared.estate.Estate.{Estate}
use Rattle.journal_law.specs.Journals.{JudgesByLine}
use Rattle.journal_law.specs.Told.{IsTold}

-- an answer of one line: no name of a listing has a line feed
abbrev pub IsOneLine : Answer → Type 0
IsOneLine (answers.Names names) = AllByRecursion (Lacks 10) names
IsOneLine answer = Unit {0}

-- an act that has a line and can be told, or an answer, which the line of its item tells
abbrev pub IsPrinted : Act → Type 0
IsPrinted (acts.Answered node item answer) = IsOneLine answer
IsPrinted act = IsTold act

-- an answer of one line, or another act
abbrev pub IsAnsweredInALine : Act → Type 0
IsAnsweredInALine (acts.Answered node item answer) = IsOneLine answer
IsAnsweredInALine act = Unit {0}

-- whether all acts of a run are legal, answers among them, is as the verdict says
abbrev pub SaysOfAll : List Act → Verdict → Type 0
SaysOfAll acts (Legal count) = AreLegal acts
SaysOfAll acts (Illegal number) = ¬ AreLegal acts

module _ {N : Type 0} where
  -- the script asks for the acts, each can be told, and the text is not too long
  pub record IsPrintedRun (e : Estate N) : Type 0 where
    pub asked : e.script.setup.acts ≡ true
    pub acts : AllByRecursion IsPrinted e.world.acts
    pub short : length (text_of e) ≤ max_bytes

  -- The text of such a run is read as all its acts that are no answers, in their order.
  abbrev pub IsReadAsPrinted : Estate N → Type 0
  IsReadAsPrinted e = IsPrintedRun e → (numbers : List ℕ) × (read_journal (text_of e) ≡ Ok (record { acts = told e.world.acts; lines = numbers }))

  -- What is said of it is the verdict on these acts, which names the line of the first that is not legal.
  abbrev pub IsJudgedByItsActs : Estate N → Type 0
  IsJudgedByItsActs e =
      IsPrintedRun e → (verdict : Verdict) → IsAudited (text_of e) verdict → JudgesByLine (text_of e) (told e.world.acts) verdict

  -- What is said of it is so of all acts of the run.
  abbrev pub IsSaidOfTheRun : Estate N → Type 0
  IsSaidOfTheRun e = IsPrintedRun e → (verdict : Verdict) → IsAudited (text_of e) verdict → SaysOfAll e.world.acts verdict

  -- What is said of it, where all acts of the run are legal, is just that.
  abbrev pub IsJudgedLegal : Estate N → Type 0
  IsJudgedLegal e = IsPrintedRun e → AreLegal e.world.acts → IsAudited (text_of e) (Legal (length (told e.world.acts)))

  -- the front of the text of a run that ends with these acts
  abbrev pub front_of : Estate N → List Act → List ℕ
  front_of e deeds = items_text e ++ acts_text deeds

  -- each answer of the run is of one line, each of these acts can be told, and the front is not too long
  pub record IsPrintedFront (e : Estate N) (deeds : List Act) : Type 0 where
    pub answers : AllByRecursion IsAnsweredInALine e.world.acts
    pub acts : AllByRecursion IsPrinted deeds
    pub short : length (front_of e deeds) ≤ max_bytes

  -- What is said of the front that ends with acts that are legal is just that.
  abbrev pub AreFrontsJudgedLegal : Estate N → Type 0
  AreFrontsJudgedLegal e = (deeds : List Act) → IsPrintedFront e deeds → AreLegal deeds → IsAudited (front_of e deeds) (Legal (length (told deeds)))

-- Of bytes that are said to be legal nothing else is said.
abbrev pub LegalIsTheOneVerdict : Type 0
LegalIsTheOneVerdict =
    (bytes : List ℕ) (count : ℕ) → IsAudited bytes (Legal count) → (verdict : Verdict) → IsAudited bytes verdict → verdict ≡ Legal count
