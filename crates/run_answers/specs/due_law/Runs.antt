-- In every run each node serves until a crash of it begins, and answers what is due as an item begins.
use Rattle.core_world.specs.declared.any_node.AnyNode.{AnyNode}
use Rattle.world_base.specs.declared.estate.Estate.{Estate}
use Rattle.headline.specs.Dues.{AnswersDue}

-- So it is whatever events a script's world goes through.
abbrev pub EachRunAnswersDue : Type 0
EachRunAnswersDue = (e : Estate AnyNode) → AnswersDue e
