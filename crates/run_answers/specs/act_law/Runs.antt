-- In every run the answers of clients, and of the cleaner, tell of acts.
use Rattle.core_world.specs.declared.any_node.AnyNode.{AnyNode}
use Rattle.world_base.specs.declared.estate.Estate.{Estate}
use Rattle.headline.specs.Answers.{AnswersAreActs}

-- So it is whatever events a script's world goes through.
abbrev pub EachAnswersActs : Type 0
EachAnswersActs = (e : Estate AnyNode) → AnswersAreActs e
