-- In every run the version that a write answers is the newest of its block, and the value that was written is its: up to each moment up to which no restart was
-- doubtful.
use Rattle.core_world.specs.AnyNode.{any_start, any_step}
use Rattle.core_world.specs.declared.any_node.AnyNode.{AnyNode}
use Rattle.node_base.specs.Setups.{IsSetup}
use Rattle.world_base.specs.declared.estate.Estate.{Estate}
use Rattle.world_base.specs.Runs.{IsRun}
use Rattle.headline.specs.Answers.{VersionsAreNewest}

-- So it is in each run of a script of whose setup a run can be started.
abbrev pub EachVersionIsNewest : Type 0
EachVersionIsNewest = (e : Estate AnyNode) → IsSetup e.script.setup → IsRun any_step any_start e.script e.events e.world → VersionsAreNewest e
