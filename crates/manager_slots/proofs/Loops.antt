-- One turn of each loop over what a takeover says.
use Rattle.std.proofs.Common.{◌≡◌, Bool, true, false, cond, List, [], ◌∷◌, ◌++◌, filter, refl, sym, ap, ◌∙◌, append_assoc}
use Rattle.xfs_base.specs.Steps.{steps}
use Rattle.node_base.specs.declared.effects.Effect.{Effect}
use Rattle.node_base.specs.declared.questions.Questions.{Questions}
use Rattle.takeover.specs.declared.output.Out.{Out}
use Rattle.manager_slots.specs.declared.slot_phase.SlotPhase.{SlotPhase}
use Rattle.manager_slots.specs.Takeovers.{Asker, Done, asker}

-- what is asked for with both its parts is the same
pub asker_is : (a : Asker) (p : SlotPhase) (q : Questions) → p ≡ a.phase → q ≡ a.questions → asker p q ≡ a
asker_is a p q same_phase same_questions = ap (λ x. asker x q) same_phase ∙ ap (λ x. asker a.phase x) same_questions

module _ (step : Asker → Out → Done) (a b : Asker) (x : Out) (xs items : List Out) (fact : items ≡ x ∷ xs) (now : b ≡ (step a x).state) where
  -- the state in the end, from the state at this turn
  pub state_on : (end : Asker) → (steps step a items).state ≡ end → (steps step b xs).state ≡ end
  state_on end h = ap (λ s. (steps step s xs).state) now ∙ sym (ap (λ ys. (steps step a ys).state) fact) ∙ h

  -- what was done so far and what is to be done is all
  pub outs_on : (made more all : List Effect) → more ≡ made ++ (step a x).outs → made ++ (steps step a items).outs ≡ all → more ++ (steps step b xs).outs ≡ all
  outs_on made more all e h =
      ap (λ u. u ++ (steps step b xs).outs) e ∙ ap (λ s. (made ++ (step a x).outs) ++ (steps step s xs).outs) now
      ∙ append_assoc made (step a x).outs (steps step (step a x).state xs).outs ∙ sym (ap (λ ys. made ++ (steps step a ys).outs) fact) ∙ h

first_or_not : (b : Bool) (x : Out) (xs : List Out) → cond b (x ∷ []) [] ++ xs ≡ cond b (x ∷ xs) xs
first_or_not true x xs = refl
first_or_not false x xs = refl

-- those kept so far and those to come are all
pub kept_on : (p : Out → Bool) (x : Out) (xs items : List Out) → items ≡ x ∷ xs → (made more all : List Out) → more ≡ made ++ cond (p x) (x ∷ []) []
    → made ++ filter p items ≡ all → more ++ filter p xs ≡ all
kept_on p x xs items fact made more all e h =
    ap (λ u. u ++ filter p xs) e ∙ append_assoc made (cond (p x) (x ∷ []) []) (filter p xs)
    ∙ ap (λ u. made ++ u) (first_or_not (p x) x (filter p xs)) ∙ sym (ap (λ ys. made ++ filter p ys) fact) ∙ h
