-- In every run each event leaves a client whose call is open with all asked for that it lacks, and at each tick that is asked for again.
use Rattle.core_world.specs.declared.any_node.AnyNode.{AnyNode}
use Rattle.world_base.specs.declared.estate.Estate.{Estate}
use Rattle.headline.specs.Waits.{CallsWait, WantsAgain}

-- So it is whatever events a script's world goes through.
abbrev pub EachRunsCallsWait : Type 0
EachRunsCallsWait = (e : Estate AnyNode) → CallsWait e

abbrev pub EachRunWantsAgain : Type 0
EachRunWantsAgain = (e : Estate AnyNode) → WantsAgain e
