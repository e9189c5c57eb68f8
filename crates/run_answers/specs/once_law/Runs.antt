-- In every run each item is answered at most once, by its own node, after its Begin.
use Rattle.core_world.specs.AnyNode.{any_start, any_step}
use Rattle.core_world.specs.declared.any_node.AnyNode.{AnyNode}
use Rattle.world_base.specs.declared.estate.Estate.{Estate}
use Rattle.world_base.specs.Runs.{IsRun}
use Rattle.headline.specs.Items.{ItemsAnsweredOnce}

-- So it is in each run of a script.
abbrev pub EachItemIsAnsweredOnce : Type 0
EachItemIsAnsweredOnce = (e : Estate AnyNode) → IsRun any_step any_start e.script e.events e.world → ItemsAnsweredOnce e
