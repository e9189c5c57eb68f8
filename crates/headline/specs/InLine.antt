-- The answers among the acts of a run, held against the lines of its script.
use Rattle.std.specs.Prelude.{◌≡◌, ℕ, List, [], ◌∷◌, ◌++◌, filter, Option, Some, None}
use Rattle.script_text.specs.declared.script.Line.{Line}
use Rattle.transcript.specs.Replies.{is_answer}
use Rattle.transcript.specs.Text.{number_of}
use Rattle.version_model.specs.declared.act.Act.{Act}
use Rattle.version_model.specs.declared.act.Act.TheVariants as act
use Rattle.world_base.specs.declared.estate.Estate.{Estate}
use Rattle.world_base.specs.Items.{actor_of}
use Rattle.xfs_base.specs.declared.node.NodeId.{NodeId}
use Rattle.headline.specs.ItemActs.{IsOfCall}

-- those among acts that answer items, in their order
abbrev pub answers_in : List Act → List Act
answers_in acts = filter is_answer acts

-- the act answers the item of this number of a node, as a call is answered that is done
abbrev pub DoesAnswer : NodeId → ℕ → Act → Type 0
DoesAnswer node number (act.Answered other item a) = (other ≡ node) × (item ≡ number) × IsOfCall a
DoesAnswer node number _ = ⊥

-- The first of these answers is that of a line behind others, where the line is an item, and of those that are left more is so.
abbrev pub AnswersLine : List Line → Option NodeId → List Act → (List Act → Type 0) → Type 0
AnswersLine before None answers More = More answers
AnswersLine before (Some node) [] More = ⊥
AnswersLine before (Some node) (a ∷ answers) More = DoesAnswer node (number_of before node) a × More answers

-- these are the answers to all lines behind others, one to each that is an item, and in the order of the lines
abbrev pub AnswerLines : List Line → List Line → List Act → Type 0
AnswerLines before [] answers = answers ≡ []
AnswerLines before (line ∷ lines) answers = AnswersLine before (actor_of line.work) answers (AnswerLines (before ++ line ∷ []) lines)

-- Each item of the run is answered, once, as a call is that is done, and they are answered in the order of their lines.
abbrev pub AnswersInLine : {N : Type 0} → Estate N → Type 0
AnswersInLine e = AnswerLines [] e.script.lines (answers_in e.world.acts)
