-- Horizons of logs: how far those that the registry keeps may be, by what the owner of a log did.
use Rattle.core_world.specs.AnyNode.{any_start, any_step}
use Rattle.core_world.specs.declared.any_node.AnyNode.{AnyNode}
use Rattle.node_base.specs.Setups.{IsSetup}
use Rattle.world_base.specs.declared.estate.Estate.{Estate}
use Rattle.world_base.specs.Runs.{IsRun}
use Rattle.headline.specs.Horizons.{HorizonsReached}

-- so it is in each run of a script of whose setup a run can be started
abbrev pub RunsReachHorizons : Type 0
RunsReachHorizons = (e : Estate AnyNode) → IsSetup e.script.setup → IsRun any_step any_start e.script e.events e.world → HorizonsReached e
