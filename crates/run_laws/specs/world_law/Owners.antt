-- One owner: what holds of the nodes of a run at each of its moments.
use Rattle.core_world.specs.AnyNode.{any_start, any_step}
use Rattle.core_world.specs.declared.any_node.AnyNode.{AnyNode}
use Rattle.node_base.specs.Setups.{IsSetup}
use Rattle.world_base.specs.declared.estate.Estate.{Estate}
use Rattle.world_base.specs.Runs.{IsRun}
use Rattle.headline.specs.Owners.{OneOwnerThroughout}

-- Each run of a script of whose setup a run can be started has one owner of each block, at each of its moments.
abbrev pub EveryRunHasOneOwner : Type 0
EveryRunHasOneOwner = (e : Estate AnyNode) → IsSetup e.script.setup → IsRun any_step any_start e.script e.events e.world → OneOwnerThroughout e
