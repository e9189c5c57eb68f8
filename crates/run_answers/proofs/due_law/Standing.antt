-- How a node stands behind an event, shown by what is known of it before and behind.
use Rattle.std.proofs.Common.{◌≡◌, ◌⊎◌, ℕ, List, [], ◌∷◌, ◌++◌, Option, Some, None, inl, inr, refl, sym, ap, ◌∙◌}
use Rattle.core_world.specs.declared.any_node.AnyNode.{AnyNode}
use Rattle.node_base.specs.Beginning.{answers_unanswered, items_begin}
use Rattle.node_base.specs.declared.effects.Effect.{Effect}
use Rattle.node_base.specs.declared.effects.Effect.TheVariants.{Send, Answer as Answers, Lose, Does}
use Rattle.node_base.specs.declared.items.Items.{Items}
use Rattle.node_base.specs.Effects.{acts_of}
use Rattle.token_protocol.specs.Basics.{In}
use Rattle.version_model.specs.declared.act.Act.TheVariants as act
use Rattle.version_model.specs.declared.answer.Answer.{Answer}
use Rattle.version_model.specs.declared.answer.Answer.TheVariants as answer
use Rattle.version_model.specs.declared.work.Work.{Work}
use Rattle.wire_msg.specs.declared.packet.Do.{Do}
use Rattle.wire_msg.specs.NodeStep.{NodeStep}
use Rattle.xfs_base.specs.declared.node.NodeId.{NodeId}
use Rattle.run_answers.proofs.once_law.Items.{begun_works}
use Rattle.headline.specs.Items.{asked_at}
use Rattle.headline.specs.Dues.{BeginsWork, EndsOpening, Fells, HasOpen, ItemsFit, KeepsStanding, Restarts}
use Rattle.headline.specs.Standings.{Standing, standing}
use Rattle.headline.specs.Standings.Standing.{Fallen, Opens, Serves}

one_number : (a b : ℕ) → Some a ≡ Some b → a ≡ b
one_number a b fact = cc

-- one that serves has not fallen
serves_apart : (node : AnyNode) → standing node ≡ Serves → standing node ≡ Fallen → ⊥
serves_apart node serves fallen = (let clash : Serves ≡ Fallen = sym serves ∙ fallen in cc)

opens_fallen : (s : Standing) → s ≡ Opens → s ≡ Fallen → ⊥
opens_fallen s opens fallen = (let clash : Opens ≡ Fallen = sym opens ∙ fallen in cc)

opens_serves : (s : Standing) → s ≡ Opens → s ≡ Serves → ⊥
opens_serves s opens serves = (let clash : Opens ≡ Serves = sym opens ∙ serves in cc)

-- what an item asks for is not changed by its Begin
pub asked_begun : (items : Items) (number : ℕ) → asked_at items.works number ≡ asked_at (items_begin items).works number
asked_begun items number = sym (ap (λ (ws : List Work). asked_at ws number) (begun_works items))

-- what is open is open still
pub open_same : (before after : Items) → after.unanswered ≡ before.unanswered → HasOpen before → HasOpen after
open_same before after same fits = (fits.0, same ∙ fits.1)

-- what is done is among the acts, behind what is cut
pub done_among : (me : NodeId) (o : Option ℕ) (number : ℕ) (more : List Effect)
    → In (act.Answered me number answer.Done) (acts_of me (answers_unanswered o answer.Cut ++ Answers number answer.Done ∷ more))
done_among me None number more = inl refl
done_among me (Some item) number more = inr (inl refl)

-- and what answers the open item is, behind what else is done
pub answer_among : (me : NodeId) (outs : List Effect) (o : Option ℕ) (a : Answer) (item : ℕ) → o ≡ Some item
    → In (act.Answered me item a) (acts_of me (outs ++ answers_unanswered o a))
answer_among me [] None a item waits = absurd cc
answer_among me [] (Some n) a item waits = inl (ap (λ k. act.Answered me k a) (sym (one_number n item waits)))
answer_among me (Send to b ∷ outs) o a item waits = answer_among me outs o a item waits
answer_among me (Answers n x ∷ outs) o a item waits = inr (answer_among me outs o a item waits)
answer_among me (Lose name ∷ outs) o a item waits = inr (answer_among me outs o a item waits)
answer_among me (Does x ∷ outs) o a item waits = inr (answer_among me outs o a item waits)

module _ (node : AnyNode) (what : Do) (s : NodeStep AnyNode) where
  pub serves_so : standing node ≡ Serves → standing s.node ≡ Serves → (ItemsFit node → ItemsFit s.node) → KeepsStanding node what s
  serves_so serves on fits = record {
    serving = λ _. inl on;
    opening = λ opens. absurd (opens_serves (standing node) opens serves);
    fallen = λ fallen. absurd (serves_apart node serves fallen);
    silent = λ fallen none. absurd (serves_apart node serves fallen);
    items_fit = fits;
  }

  pub serves_on : standing node ≡ Serves → standing s.node ≡ Serves → ItemsFit s.node → KeepsStanding node what s
  serves_on serves on fits = serves_so serves on (λ _. fits)

  pub opens_so : standing node ≡ Opens → (standing s.node ≡ Opens) ⊎ (EndsOpening node what s ⊎ Fells node what s) → (ItemsFit node → ItemsFit s.node)
      → KeepsStanding node what s
  opens_so opens so fits = record {
    serving = λ serves. absurd (opens_serves (standing node) opens serves);
    opening = λ _. so;
    fallen = λ fallen. absurd (opens_fallen (standing node) opens fallen);
    silent = λ fallen none. absurd (opens_fallen (standing node) opens fallen);
    items_fit = fits;
  }

  pub opens_on : standing node ≡ Opens → standing s.node ≡ Opens → (ItemsFit node → ItemsFit s.node) → KeepsStanding node what s
  opens_on opens on fits = opens_so opens (inl on) fits

  pub falls_so : standing node ≡ Serves → Fells node what s → ItemsFit s.node → KeepsStanding node what s
  falls_so serves fells fits = record {
    serving = λ _. inr fells;
    opening = λ opens. absurd (opens_serves (standing node) opens serves);
    fallen = λ fallen. absurd (serves_apart node serves fallen);
    silent = λ fallen none. absurd (serves_apart node serves fallen);
    items_fit = λ _. fits;
  }

  -- nothing is done by one that has fallen
  pub down_still : standing node ≡ Fallen → standing s.node ≡ Fallen → s.acts ≡ [] → s.packets ≡ [] → (ItemsFit node → ItemsFit s.node) → KeepsStanding node what s
  down_still fallen on acts packets fits = record {
    serving = λ serves. absurd (serves_apart node serves fallen);
    opening = λ opens. absurd (opens_fallen (standing node) opens fallen);
    fallen = λ _. inl on;
    silent = λ _ none. (acts, packets);
    items_fit = fits;
  }

  -- an item begins of one that has fallen
  pub down_begins : standing node ≡ Fallen → (number : ℕ) (wanted : Option Work) → BeginsWork node what number wanted
      → (standing s.node ≡ Fallen) ⊎ Restarts node what s → (ItemsFit node → ItemsFit s.node) → KeepsStanding node what s
  down_begins fallen number wanted begins on fits = record {
    serving = λ serves. absurd (serves_apart node serves fallen);
    opening = λ opens. absurd (opens_fallen (standing node) opens fallen);
    fallen = λ _. on;
    silent = λ _ none. absurd (none number begins.begin begins.next);
    items_fit = fits;
  }
