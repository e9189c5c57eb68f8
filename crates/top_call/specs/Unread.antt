-- What script an input spells, why none is played, and what is told then.
use Rattle.std.specs.Prelude.{◌≡◌, ℕ, Bool, true, List, None}
use Rattle.std.specs.Io.KnownBytes.{Keeps}
use Rattle.script_text.specs.declared.script.Script.{Script}
use Rattle.script_text.specs.Script.{IsFirstBad, IsScriptOf}
use Rattle.xfs_base.specs.Causes.{Rose}
use Rattle.top_call.specs.declared.outcome.Outcome.{Outcome}
use Rattle.top_call.specs.declared.unread.Unread.{Unread}
use Rattle.top_call.specs.declared.unread.Unread.TheVariants.{Failed, Memory, Bad}
use Rattle.top_call.specs.Claim.{GivesUp, IsRead, Reading, TellsOrGivesUp, Writing, refusal}

-- a source was read to its end or to the limit, and what it gave spells this script
abbrev pub IsScriptRead : Bool → Reading → Script → Type 0
IsScriptRead live r script = (input : List ℕ) × IsRead true r input × IsScriptOf live input script

-- why no script is played: a read failed, memory is wanting, or what was read has a first bad line
abbrev pub IsWhy : Bool → Reading → Unread → Type 0
IsWhy live r Failed = Rose r.faults r.faults_after
IsWhy live r Memory = Unit {0}
IsWhy live r (Bad number kind) = (input : List ℕ) × IsRead true r input × IsFirstBad live input number kind

-- what is told then: that line is named, or memory is wanting; else nothing is written
abbrev pub TellsWhy : {N : Type 0} → Writing → Outcome N → Unread → Type 0
TellsWhy s o Failed = (o.status ≡ 4) × (o.estate ≡ None) × Keeps s.before s.after
TellsWhy s o Memory = GivesUp s o
TellsWhy s o (Bad number kind) = TellsOrGivesUp s o (refusal number kind)
