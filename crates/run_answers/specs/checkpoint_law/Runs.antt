-- In every run what checkpoints count is true.
use Rattle.core_world.specs.AnyNode.{any_start, any_step}
use Rattle.core_world.specs.declared.any_node.AnyNode.{AnyNode}
use Rattle.world_base.specs.declared.estate.Estate.{Estate}
use Rattle.world_base.specs.Runs.{IsRun}
use Rattle.headline.specs.Checkpoints.{CheckpointsAreTrue}

-- So it is of each run of a script.
abbrev pub EachRunsCheckpointsAreTrue : Type 0
EachRunsCheckpointsAreTrue = (e : Estate AnyNode) → IsRun any_step any_start e.script e.events e.world → CheckpointsAreTrue e
