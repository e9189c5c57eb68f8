-- What is settled of each block, in the words of a run of the nodes: the join of all that logs filed of it. Where nobody has the block dirty, and no client fell
-- with it that isn't back, that is the newest version, with its value; and where a client has it dirty, it is the version that the client knows as settled (the
-- 1996 paper, on cache consistency and on recovery).
use Rattle.core_world.specs.AnyNode.{any_start, any_step}
use Rattle.core_world.specs.declared.any_node.AnyNode.{AnyNode}
use Rattle.node_base.specs.Setups.{IsSetup}
use Rattle.world_base.specs.declared.estate.Estate.{Estate}
use Rattle.world_base.specs.Runs.{IsRun}
use Rattle.headline.specs.Settled.{BlocksAreSettled}

-- ---- in a run

-- So it is in each run of a script of whose setup a run can be started.
abbrev pub EveryRunsBlocksAreSettled : Type 0
EveryRunsBlocksAreSettled = (e : Estate AnyNode) → IsSetup e.script.setup → IsRun any_step any_start e.script e.events e.world → BlocksAreSettled e
