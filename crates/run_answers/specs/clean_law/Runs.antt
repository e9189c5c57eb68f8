-- In every run a cleaning takes what is due.
use Rattle.core_world.specs.AnyNode.{any_start, any_step}
use Rattle.core_world.specs.declared.any_node.AnyNode.{AnyNode}
use Rattle.world_base.specs.declared.estate.Estate.{Estate}
use Rattle.world_base.specs.Runs.{IsRun}
use Rattle.headline.specs.Cleanings.{CleaningsTakeWhatIsDue}

-- So it is of each run of a script.
abbrev pub EachRunsCleaningsTakeWhatIsDue : Type 0
EachRunsCleaningsTakeWhatIsDue = (e : Estate AnyNode) → IsRun any_step any_start e.script e.events e.world → CleaningsTakeWhatIsDue e
