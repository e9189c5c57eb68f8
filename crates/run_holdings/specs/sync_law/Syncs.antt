-- Where a sync is done, all that its client wrote is settled: it has nothing dirty, and what logs filed has its versions.
use Rattle.core_world.specs.AnyNode.{any_start, any_step}
use Rattle.core_world.specs.declared.any_node.AnyNode.{AnyNode}
use Rattle.node_base.specs.Setups.{IsSetup}
use Rattle.world_base.specs.declared.estate.Estate.{Estate}
use Rattle.world_base.specs.Runs.{IsRun}
use Rattle.headline.specs.Syncs.{SyncsSettle}

-- So it is in each run of a script of whose setup a run can be started.
abbrev pub EachSyncSettles : Type 0
EachSyncSettles = (e : Estate AnyNode) → IsSetup e.script.setup → IsRun any_step any_start e.script e.events e.world → SyncsSettle e
