-- In every run a storage server, a manager, a client or a cleaner that serves, and the registry answer what they are asked in the event in which it comes, and a shelf changes only so.
use Rattle.core_world.specs.declared.any_node.AnyNode.{AnyNode}
use Rattle.wire_msg.specs.declared.packet.Do.{Do}
use Rattle.world_base.specs.declared.estate.Estate.{Estate}
use Rattle.headline.specs.Replies.{AnswersQuestions, RepliesAt}

abbrev pub EachQuestionIsAnswered : Type 0
EachQuestionIsAnswered = (node : AnyNode) (what : Do) → RepliesAt node what

abbrev pub EachRunAnswersQuestions : Type 0
EachRunAnswersQuestions = (e : Estate AnyNode) → AnswersQuestions e
