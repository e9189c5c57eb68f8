-- In every run the numbers that rebuilds and cleanings answer are true.
use Rattle.core_world.specs.AnyNode.{any_start, any_step}
use Rattle.core_world.specs.declared.any_node.AnyNode.{AnyNode}
use Rattle.world_base.specs.declared.estate.Estate.{Estate}
use Rattle.world_base.specs.Runs.{IsRun}
use Rattle.headline.specs.Numbers.{CleaningsAreTrue, RebuildsAreTrue}

-- So it is of each run of a script.
abbrev pub EachRunsRebuildsAreTrue : Type 0
EachRunsRebuildsAreTrue = (e : Estate AnyNode) → IsRun any_step any_start e.script e.events e.world → RebuildsAreTrue e

abbrev pub EachRunsCleaningsAreTrue : Type 0
EachRunsCleaningsAreTrue = (e : Estate AnyNode) → IsRun any_step any_start e.script e.events e.world → CleaningsAreTrue e
