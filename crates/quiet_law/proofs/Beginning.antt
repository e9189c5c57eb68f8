-- A line whose packets lead from the begin of its item to a drained scene ends there.
use Rattle.std.proofs.Common.{◌≡◌, ℕ, suc, ◌+◌, ◌-◌, ◌≤◌, List, [], ◌∷◌, ◌++◌, map, sym, ap, subst, ◌∙◌, append_assoc, arith}
use Rattle.client_node.specs.Phases.{client_step}
use Rattle.core_world.specs.AnyNode.{any_step, as_any}
use Rattle.core_world.specs.declared.any_node.AnyNode.{AnyNode}
use Rattle.core_world.specs.declared.any_node.AnyNode.TheVariants as any
use Rattle.headline.specs.ItemActs.{IsOfCall}
use Rattle.play.specs.Plays.{answers}
use Rattle.quiet_flow.specs.Flow.{Done, Drains, Stage, begins, one_more, stepped, turned, unclocked}
use Rattle.version_model.specs.declared.act.Act.{Act}
use Rattle.version_model.specs.declared.act.Act.TheVariants as acts
use Rattle.version_model.specs.declared.answer.Answer.{Answer}
use Rattle.version_model.specs.declared.work.Work.{Work}
use Rattle.wire_msg.specs.declared.packet.Do.TheVariants.{Begin}
use Rattle.wire_msg.specs.declared.packet.Packet.{Packet}
use Rattle.wire_msg.specs.NodeStep.{NodeStep}
use Rattle.xfs_base.specs.declared.node.NodeId.{NodeId}
use Rattle.xfs_base.specs.declared.node.NodeId.TheVariants.{Client}
use Rattle.xfs_base.specs.declared.setup.Setup.{Setup}
use Rattle.quiet_law.specs.Drained.{Drained}
use Rattle.quiet_law.specs.Lines.{Ends, IsNamed, Stands}
use Rattle.quiet_nodes.specs.Moves.{Emptied, Empties}
use Rattle.quiet_nodes.specs.Scene.{ClientPart, Scene, client_at, node_at, with_client}
use Rattle.quiet_nodes.proofs.Moving.{answers_both}
use Rattle.quiet_nodes.proofs.Staging.{client_frame, client_put, happens_as, placed_on}

-- what is acted from the begin of an item on: one answer, that of the item
pub record AnswersIt (c item : ℕ) (all : List Act) : Type 0 where
  pub answer : Answer
  pub of_call : IsOfCall answer
  pub before : List Act
  pub after : List Act
  pub are : all ≡ before ++ acts.Answered (Client c) item answer ∷ after
  pub none_before : answers before ≡ 0
  pub none_after : answers after ≡ 0

module _ (setup : Setup) (works : NodeId → List Work) (k : ℕ) (s u : Scene) (t : Stage AnyNode) (c item n most_of : ℕ) (q : ClientPart) (packets : List Packet)
    (first done : List Act) (stands : Stands setup works s t) (least : 1 ≤ c) (most : c ≤ setup.clients)
    (is : client_step (client_at setup works c (s.client c)) Begin ≡ record { node = client_at setup works c q; packets = packets; acts = first })
    (leads : Empties setup works n (with_client s c q) (map unclocked packets) done u) (few : n ≤ most_of) (drained : Drained setup works (suc k) u)
    (begun : (u.client c).begun ≡ item) (others : (e : ℕ) → (e ≡ c → ⊥) → (u.client e).begun ≡ (s.client e).begun)
    (one : AnswersIt c item (first ++ done)) (believed : IsNamed setup works s u c) where
  abbrev s1 : Scene
  s1 = with_client s c q

  abbrev r : NodeStep AnyNode
  r = record { node = node_at setup works s1 (Client c); packets = packets; acts = first }

  abbrev with_node : AnyNode → NodeStep AnyNode
  with_node x = record { node = x; packets = packets; acts = first }

  steps_so : any_step (node_at setup works s (Client c)) Begin ≡ r
  steps_so = ap (as_any any.Client) is ∙ ap with_node (sym (client_put setup works c q s))

  begins_so : begins any_step t (Client c) ≡ stepped (one_more t) (Client c) r
  begins_so = happens_as setup works (Client c) Begin s s1 (one_more t) packets first (least, most) stands.placed steps_so

  abbrev t1 : Stage AnyNode
  t1 = turned (one_more t) (Client c) r

  then_ : Emptied setup works n t1 (map unclocked packets) done u
  then_ = leads t1 (placed_on setup works (Client c) s s1 (one_more t) packets first stands.placed (client_frame setup works c q s))

  counts_one : answers (first ++ done) ≡ 1
  counts_one =
      ap answers one.are
      ∙ answers_both one.before (acts.Answered (Client c) item one.answer ∷ one.after)
      ∙ ap (λ n. n + answers (acts.Answered (Client c) item one.answer ∷ one.after)) one.none_before
      ∙ ap (λ n. 0 + n) (answers_both (acts.Answered (Client c) item one.answer ∷ []) one.after ∙ ap (λ n. 1 + n) one.none_after)

  left : (before a b : ℕ) → before ≡ 0 → a + b ≡ 1 → ((before + 1) - a) - b ≡ 0
  left before a b none all = omega arith

  pub ends_by : Ends setup works k most_of s t c item
  ends_by = record {
    scene = u;
    end = then_.end;
    deliveries = n;
    few = few;
    drains = subst (λ (b : Done AnyNode). Drains any_step setup n b.state b.outs then_.end) (sym begins_so) then_.drains;
    answered = record {
      stands = record {
        placed = then_.is_after.placed;
        settled = then_.is_after.answered ∙ left t.unanswered (answers first) (answers done) stands.settled (sym (answers_both first done) ∙ counts_one);
      };
      drained = drained;
      begun = begun;
      others = others;
      answer = one.answer;
      of_call = one.of_call;
      before = one.before;
      after = one.after;
      acted = then_.is_after.acted ∙ append_assoc t.acts first done ∙ ap (λ xs. t.acts ++ xs) one.are;
      none_before = one.none_before;
      none_after = one.none_after;
      believed = believed;
    };
  }
