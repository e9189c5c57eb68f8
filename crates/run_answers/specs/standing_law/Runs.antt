-- In every run what a node answers it may answer, by where it stands.
use Rattle.core_world.specs.declared.any_node.AnyNode.{AnyNode}
use Rattle.world_base.specs.declared.estate.Estate.{Estate}
use Rattle.headline.specs.Standings.{AnswersFit}

-- So it is whatever events a script's world goes through.
abbrev pub EachAnswerFits : Type 0
EachAnswerFits = (e : Estate AnyNode) → AnswersFit e
