-- Managers and epochs: what holds of the nodes of a run at each of its moments.
use Rattle.core_world.specs.AnyNode.{any_start, any_step}
use Rattle.core_world.specs.declared.any_node.AnyNode.{AnyNode}
use Rattle.node_base.specs.Setups.{IsSetup}
use Rattle.headline.specs.Managers.{OneManagerThroughout}
use Rattle.world_base.specs.declared.estate.Estate.{Estate}
use Rattle.world_base.specs.Runs.{IsRun}

-- Each run of a script of whose setup a run can be started has one manager of each slot, at each of its moments.
abbrev pub EveryRunHasOneManager : Type 0
EveryRunHasOneManager = (e : Estate AnyNode) → IsSetup e.script.setup → IsRun any_step any_start e.script e.events e.world → OneManagerThroughout e
