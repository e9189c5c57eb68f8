-- Which items of a node have an answer.
use Rattle.std.specs.Prelude.{◌≡◌, ℕ, ◌+◌, ◌≤◌, nat_lt, nat_le, Bool, true, false, ◌&&◌, ◌||◌, ◌==◌, List}
use Rattle.std.specs.List.{list_any}
use Rattle.version_model.specs.declared.act.Act.{Act}
use Rattle.version_model.specs.declared.act.Act.TheVariants as acts
use Rattle.xfs_base.specs.declared.node.NodeId.{NodeId}
use Rattle.xfs_base.specs.Nodes.{same_node}
use Rattle.journals.specs.declared.answers.Answers.{Answers}

-- whether an act answers the item of this number of a node
abbrev pub is_answer_to : NodeId → ℕ → Act → Bool
is_answer_to node k (acts.Answered by item answer) = same_node by node && (item == k)
is_answer_to node k act = false

-- whether one of these acts does
abbrev pub has_answer : NodeId → ℕ → List Act → Bool
has_answer node k done = list_any (is_answer_to node k) done

-- each of the first so many items of a node has an answer
abbrev pub AreAnswered : NodeId → ℕ → List Act → Type 0
AreAnswered node count done = (k : ℕ) → 1 ≤ k → k ≤ count → has_answer node k done ≡ true

-- whether a number is one of these
abbrev pub is_among : ℕ → List ℕ → Bool
is_among k numbers = list_any (λ n. n == k) numbers

-- whether the item of this number is known to have an answer: all are up to a number, and some more
abbrev pub answers_advance : Answers → ℕ → Bool
answers_advance a k = (nat_lt 0 k && nat_le k a.all) || is_among k a.more

-- those that are known to have an answer are just those that have one among these acts
abbrev pub AreKnown : NodeId → Answers → List Act → Type 0
AreKnown node a done = (k : ℕ) → answers_advance a k ≡ has_answer node k done

-- all are known up to the last number up to which all have an answer
abbrev pub IsSettled : Answers → Type 0
IsSettled a = answers_advance a (a.all + 1) ≡ false
