-- Where no server loses its disk nothing is refused as lost, in the words of a run of the nodes.
use Rattle.core_world.specs.AnyNode.{any_start, any_step}
use Rattle.core_world.specs.declared.any_node.AnyNode.{AnyNode}
use Rattle.node_base.specs.Setups.{IsSetup}
use Rattle.world_base.specs.declared.estate.Estate.{Estate}
use Rattle.world_base.specs.Runs.{IsRun}
use Rattle.headline.specs.Losses.{WithoutLossesNothingIsLost}

-- So it is in each run of a script of whose setup a run can be started.
abbrev pub ScriptsWithoutLossesLoseNothing : Type 0
ScriptsWithoutLossesLoseNothing =
    (e : Estate AnyNode) → IsSetup e.script.setup → IsRun any_step any_start e.script e.events e.world → WithoutLossesNothingIsLost e
