-- What is answered where each item of a node but a crash, or the loss of a disk, begins only once all earlier items of the node are answered, as by workers.
use Rattle.core_world.specs.declared.any_node.AnyNode.{AnyNode}
use Rattle.world_base.specs.declared.estate.Estate.{Estate}
use Rattle.headline.specs.Turns.{AnswersInTurn, BeginsInTurn, CrashesAreFelt}
    -- ---- what is so of it

-- So it is whatever events a script's world goes through.
abbrev pub EachRunInTurn : Type 0
EachRunInTurn = (e : Estate AnyNode) → BeginsInTurn e → AnswersInTurn e

abbrev pub EachCrashIsFelt : Type 0
EachCrashIsFelt = (e : Estate AnyNode) → CrashesAreFelt e
