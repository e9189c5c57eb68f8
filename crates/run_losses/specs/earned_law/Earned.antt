-- Only what is gone is refused as lost: each act of a run that a segment is lost is earned (the 1996 paper, on RAID).
use Rattle.core_world.specs.AnyNode.{any_start, any_step}
use Rattle.core_world.specs.declared.any_node.AnyNode.{AnyNode}
use Rattle.node_base.specs.Setups.{IsSetup}
use Rattle.world_base.specs.declared.estate.Estate.{Estate}
use Rattle.world_base.specs.Runs.{IsRun}
use Rattle.headline.specs.Losses.{EachLostActIsEarned}

-- So it is in each run of a script of whose setup a run can be started.
abbrev pub LostActsAreEarned : Type 0
LostActsAreEarned = (e : Estate AnyNode) → IsSetup e.script.setup → IsRun any_step any_start e.script e.events e.world → EachLostActIsEarned e
