-- In every run, where the cleaner comes back, no two segments of its new incarnation have been filed: there is at most the one by which its log was opened.
use Rattle.core_world.specs.AnyNode.{any_start, any_step}
use Rattle.core_world.specs.declared.any_node.AnyNode.{AnyNode}
use Rattle.node_base.specs.Setups.{IsSetup}
use Rattle.world_base.specs.declared.estate.Estate.{Estate}
use Rattle.world_base.specs.Runs.{IsRun}
use Rattle.headline.specs.Boots.{TheCleanerFilesOne}

-- So it is in each run of a script of whose setup a run can be started, after doubtful restarts, too.
abbrev pub EveryRunFilesOne : Type 0
EveryRunFilesOne = (e : Estate AnyNode) → IsSetup e.script.setup → IsRun any_step any_start e.script e.events e.world → TheCleanerFilesOne e
