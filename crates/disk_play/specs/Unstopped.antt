-- A script by which no server stops is played as `play` plays it.
use Rattle.std.specs.Prelude.{◌≡◌, Bool, true, false, not, List, Option}
use Rattle.std.specs.List.{list_all}
use Rattle.script_text.specs.declared.script.Line.{Line}
use Rattle.script_text.specs.declared.script.Script.{Script}
use Rattle.version_model.specs.declared.work.Work.{Work}
use Rattle.version_model.specs.declared.work.Work.TheVariants as works
use Rattle.wire_msg.specs.declared.packet.Do.{Do}
use Rattle.xfs_base.specs.declared.node.NodeId.{NodeId}
use Rattle.xfs_base.specs.declared.setup.Setup.{Setup}
use Rattle.fragment_store.specs.ShelfState.{ShelfState}
use Rattle.play.specs.Plays.{estate_of}
use Rattle.wire_msg.specs.NodeStep.{NodeStep}
use Rattle.disk_play.specs.Courses.{disk_estate_of}

-- a server is to stop, or is started
abbrev pub is_stop : Work → Bool
is_stop (works.ServerStop server passes) = true
is_stop (works.ServerStart server) = true
is_stop work = false

abbrev pub StopsNone : List Line → Type 0
StopsNone lines = list_all (λ (line : Line). not (is_stop line.work)) lines ≡ true

abbrev pub UnstoppedIsPlayed : Type 0 → Type 0
UnstoppedIsPlayed N =
    (step : N → Do → NodeStep N) (shelf_of : N → Option ShelfState) (first : NodeId → Setup → List Work → N) (script : Script) → StopsNone script.lines
    → disk_estate_of step shelf_of first script ≡ estate_of step first script
