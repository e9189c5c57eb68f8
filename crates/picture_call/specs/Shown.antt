-- What `xfs_picture` answers: the picture of the run of the script that it reads, or why there is none.
use Rattle.std.specs.Prelude.{◌≡◌, ◌≢◌, ◌⊎◌, ◌<◌, ◌≤◌, ℕ, true, false, List, [], ◌∷◌, ◌++◌, codes, length, Option, Some, None}
use Rattle.std.specs.Io.KnownBytes.{Appends, Keeps}
use Rattle.board_play.specs.Plays.{estate_of as board_estate_of}
use Rattle.board_world.specs.declared.board_event.BoardEvent.{BoardEvent}
use Rattle.core_world.specs.AnyNode.{any_start, any_step}
use Rattle.core_world.specs.declared.any_node.AnyNode.{AnyNode}
use Rattle.disk_play.specs.Courses.{disk_estate_of}
use Rattle.play.specs.Plays.{estate_of}
use Rattle.run_chart.specs.Boards.{board_chart_of, board_rows}
use Rattle.run_chart.specs.Charts.{chart_of, max_rows, rows_drawn}
use Rattle.run_chart.specs.declared.row.Row.{Row}
use Rattle.script_text.specs.declared.refusal.Kind.{Kind}
use Rattle.script_text.specs.declared.script.Script.{Script}
use Rattle.script_text.specs.Script.{IsFirstBad, IsScriptOf}
use Rattle.shelved_nodes.specs.AnyShelf.{any_shelf}
use Rattle.top_call.specs.Claim.{IsRead, Reading, Writing}
use Rattle.top_call.specs.Output.{AppendsFront}
use Rattle.top_call.specs.Spoken.{refused_text}
use Rattle.world_base.specs.declared.estate.Estate.{Estate}
use Rattle.xfs_base.specs.Causes.{Rose}
use Rattle.picture_call.specs.Asking.{span_of}
use Rattle.picture_call.specs.declared.asked.Asked.{Asked}
use Rattle.picture_call.specs.declared.asked.Asked.TheVariants.{All, Lines, Boards, Disks}

abbrev pub usage_text : List ℕ
usage_text = codes "usage: xfs_picture [lines A B | boards | disks]" ++ 10 ∷ []

-- where more events would be drawn than one picture has
abbrev pub many_text : List ℕ
many_text = codes "more than 20000 events: name lines A B" ++ 10 ∷ []

-- the run of a script: plainly, with three boards in the registry's place, or with servers that stop
abbrev pub run_of : Asked → Script → Estate AnyNode
run_of All script = estate_of any_step any_start script
run_of (Lines first last) script = estate_of any_step any_start script
run_of Boards script = (board_estate_of any_step any_start script).estate
run_of Disks script = disk_estate_of any_step any_shelf any_start script

-- what happened in it to nodes and boards
abbrev pub boards_of : Asked → Script → List BoardEvent
boards_of Boards script = (board_estate_of any_step any_start script).events
boards_of asked script = []

-- the rows that are drawn of a run, and their picture
abbrev pub rows_of : Asked → Estate AnyNode → List BoardEvent → List Row
rows_of Boards e events = board_rows e events
rows_of asked e events = rows_drawn e (span_of asked e.script.lines)

abbrev pub picture_of : Asked → Estate AnyNode → List BoardEvent → List ℕ
picture_of Boards e events = board_chart_of e events
picture_of asked e events = chart_of e (span_of asked e.script.lines)

-- the events of a run that are drawn are at most so many, and this is their picture; or they are more
abbrev pub Draws : Asked → Estate AnyNode → List BoardEvent → List ℕ → ℕ → Type 0
Draws asked e events text status =
    ((length (rows_of asked e events) ≤ max_rows) × (text ≡ picture_of asked e events) × (status ≡ 0))
    ⊎ ((max_rows < length (rows_of asked e events)) × (text ≡ many_text) × (status ≡ 3))

-- an input is a script, whose run is drawn, or has a first bad line, which is named as `xfs run` names it
abbrev pub Wants : Asked → List ℕ → List ℕ → ℕ → Type 0
Wants asked input text status =
    ((script : Script) × IsScriptOf false input script × Draws asked (run_of asked script) (boards_of asked script) text status)
    ⊎ ((number : ℕ) × (kind : Kind) × IsFirstBad false input number kind × (text ≡ refused_text number kind) × (status ≡ 3))

-- a text is written whole, and this is the status; or a front of it, a write failed, and the status is 5
abbrev pub Written : Writing → List ℕ → ℕ → ℕ → Type 0
Written s text wanted status = ((status ≡ wanted) × Appends s.before s.after text) ⊎ ((status ≡ 5) × AppendsFront s.before s.after text × Rose s.faults s.faults_after)

-- memory is wanting, or a read failed, and nothing is written
abbrev pub GivesUp : Writing → ℕ → Type 0
GivesUp s status = (status ≡ 7) × Keeps s.before s.after

abbrev pub CannotRead : Reading → Writing → ℕ → Type 0
CannotRead r s status = (status ≡ 4) × Keeps s.before s.after × Rose r.faults r.faults_after

-- the picture of a run, or that it would be too long, is written
abbrev pub Drawn : Asked → Estate AnyNode → List BoardEvent → Writing → ℕ → Type 0
Drawn asked e events s status = ((text : List ℕ) × (wanted : ℕ) × Draws asked e events text wanted × Written s text wanted status) ⊎ GivesUp s status

-- what a call tells of nodes and boards; nothing where it tells nothing
abbrev pub told_of : Option (List BoardEvent) → List BoardEvent
told_of None = []
told_of (Some events) = events

-- where a call of `xfs run` that ended with this status has no run to show: its line is handed on where it is a refusal; where memory was wanting for that
-- line, it is wanting here
pub record Refused (ended : ℕ) (text : List ℕ) (s : Writing) (status : ℕ) : Type 0 where
  pub refusal : ended ≡ 3 → Written s text 3 status
  pub unread : ended ≡ 4 → (status ≡ 4) × Keeps s.before s.after
  pub others : ended ≢ 3 → ended ≢ 4 → GivesUp s status

-- what is wanted of what was read is written
pub record Answers (asked : Asked) (r : Reading) (s : Writing) (status : ℕ) : Type 0 where
  pub input : List ℕ
  pub is_read : IsRead true r input
  pub text : List ℕ
  pub wanted : ℕ
  pub wants : Wants asked input text wanted
  pub written : Written s text wanted status

abbrev pub Shows : Option Asked → Reading → Writing → ℕ → Type 0
Shows None r s status = Written s usage_text 2 status
Shows (Some asked) r s status = Answers asked r s status ⊎ (GivesUp s status ⊎ CannotRead r s status)
