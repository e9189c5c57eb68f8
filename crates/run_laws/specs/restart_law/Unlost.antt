-- Runs in which no server loses its disk.
use Rattle.std.specs.Prelude.{◌≡◌, ◌<◌, ℕ, Some, IfSome, length}
use Rattle.core_world.specs.AnyNode.{any_start, any_step}
use Rattle.core_world.specs.declared.any_node.AnyNode.{AnyNode}
use Rattle.group_map.specs.declared.group.Group.{Group}
use Rattle.log_tie.specs.Setting.{Setting}
use Rattle.log_flight.specs.Flights.{generation_of, server_of}
use Rattle.node_base.specs.Setups.{IsSetup}
use Rattle.world_base.specs.declared.estate.Estate.{Estate}
use Rattle.world_base.specs.Items.{works_of}
use Rattle.world_base.specs.Runs.{IsRun}
use Rattle.headline.specs.Moments.{moment}
use Rattle.run_laws.specs.world_logs.Lines.{HasLines}
use Rattle.headline.specs.Servers.{group_at, shelf_at}
use Rattle.headline.specs.Restarts.{LosesNone, NoDoubtfulRestart}

-- no disk is lost: at each moment of a run the server of each member of a group, by the registry's map at its end, is of the generation with which it was made
abbrev pub NoDiskIsLost : Estate AnyNode → Type 0
NoDiskIsLost e =
    (count id : ℕ) (group : Group) → group_at e.world id ≡ Some group → (place : ℕ) → place < length group.members
    → IfSome (shelf_at (moment e count) (server_of group.members place)) (λ s. s.generation ≡ generation_of group.members place)

-- then no restart is doubtful, at any count of the events of the run
abbrev pub WithoutLossesNoRestartIsDoubtful : Type 0
WithoutLossesNoRestartIsDoubtful =
    (base : Setting) (e : Estate AnyNode) → IsRun any_step any_start e.script e.events e.world → HasLines base e → NoDiskIsLost e → (count : ℕ)
    → NoDoubtfulRestart e count

-- ---- scripts

-- in a run of a script without a line by which a server loses its disk none is lost, and no restart is doubtful
abbrev pub ScriptsWithoutLossesAreUndoubted : Type 0
ScriptsWithoutLossesAreUndoubted =
    (e : Estate AnyNode) → IsSetup e.script.setup → IsRun any_step any_start e.script e.events e.world → LosesNone (works_of e.script.lines)
    → NoDiskIsLost e × ((count : ℕ) → NoDoubtfulRestart e count)
