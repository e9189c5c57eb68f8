-- What a node answered to its own items.
use Rattle.std.specs.Prelude.{◌≡◌, ℕ, ◌+◌, Bool, false, List, [], ◌∷◌, ◌++◌, filter}
use Rattle.script_text.specs.declared.script.Script.{Script}
use Rattle.version_model.specs.declared.act.Act.{Act}
use Rattle.version_model.specs.declared.act.Act.TheVariants as acts
use Rattle.version_model.specs.declared.work.Work.{Work}
use Rattle.wire_msg.specs.declared.packet.Do.{Do}
use Rattle.wire_msg.specs.NodeStep.{NodeStep}
use Rattle.xfs_base.specs.declared.node.NodeId.{NodeId}
use Rattle.xfs_base.specs.declared.setup.Setup.{Setup}
use Rattle.xfs_base.specs.Nodes.{same_node}
use Rattle.journals.specs.declared.moment.Moment.{Moment}
use Rattle.journals.specs.Journals.{acts_in, whats}
use Rattle.live_links.specs.Acts.{ticks}
use Rattle.live_links.specs.Facts.{first_at, name_at}

-- whether an act answers an item of this node
abbrev pub is_answer_by : NodeId → Act → Bool
is_answer_by node (acts.Answered by item answer) = same_node by node
is_answer_by node act = false

-- the answers of a node among some acts, in their order
abbrev pub answers_by : NodeId → List Act → List Act
answers_by node done = filter (is_answer_by node) done

-- how often time passed at a node since it last answered an item of its own, after one event more in which it answered these
abbrev pub wait_after : List Act → Do → ℕ → ℕ
wait_after [] what k = k + ticks (what ∷ [])
wait_after (a ∷ more) what k = 0

module _ {N : Type 0} (step : N → Do → NodeStep N) (node : NodeId) where
  -- and after all this happened to it, where before it was so often
  abbrev pub waited_in : ℕ → N → List Do → ℕ
  waited_in k n [] = k
  waited_in k n (d ∷ ds) = waited_in (wait_after (answers_by node (step n d).acts) d k) (step n d).node ds

module _ {N : Type 0} (step : N → Do → NodeStep N) (first : NodeId → Setup → List Work → N) (script : Script) where
  -- what the node at a place answered in its journal
  abbrev pub answered_at : ℕ → List Moment → List Act
  answered_at place moments = answers_by (name_at script place) (acts_in step (first_at first script place) (whats moments))

  -- how often time passed behind its last answer there, or in all of its journal where it answered nothing
  abbrev pub waited_at : ℕ → List Moment → ℕ
  waited_at place moments = waited_in step (name_at script place) 0 (first_at first script place) (whats moments)

  -- nothing that was answered is unsaid
  abbrev pub AnswersMore : ℕ → List Moment → List Moment → Type 0
  AnswersMore place old new = (more : List Act) × (answered_at place new ≡ answered_at place old ++ more)
