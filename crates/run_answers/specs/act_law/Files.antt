-- In every run the answers of calls on files are what their plans say of what their calls on blocks were answered.
use Rattle.core_world.specs.declared.any_node.AnyNode.{AnyNode}
use Rattle.world_base.specs.declared.estate.Estate.{Estate}
use Rattle.headline.specs.Files.{FileAnswersArePlanned}

-- So it is whatever events a script's world goes through.
abbrev pub EachFileAnswerIsPlanned : Type 0
EachFileAnswerIsPlanned = (e : Estate AnyNode) → FileAnswersArePlanned e
