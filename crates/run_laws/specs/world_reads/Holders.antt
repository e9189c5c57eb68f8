-- Who holds a block has its newest version: what a client that serves holds of a block, where it keeps a value, is the newest version of the block and that
-- version's value, up to each moment up to which no restart was doubtful (the 1996 paper, on cache consistency).
use Rattle.core_world.specs.AnyNode.{any_start, any_step}
use Rattle.core_world.specs.declared.any_node.AnyNode.{AnyNode}
use Rattle.node_base.specs.Setups.{IsSetup}
use Rattle.world_base.specs.declared.estate.Estate.{Estate}
use Rattle.world_base.specs.Runs.{IsRun}
use Rattle.headline.specs.Versions.{HoldersAreNewestThroughout}

-- so it is in each run of a script of whose setup a run can be started
abbrev pub EveryRunsHoldersAreNewest : Type 0
EveryRunsHoldersAreNewest =
    (e : Estate AnyNode) → IsSetup e.script.setup → IsRun any_step any_start e.script e.events e.world → HoldersAreNewestThroughout e
