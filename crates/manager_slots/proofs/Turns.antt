-- One turn of each loop over slots, in which takeovers may ask.
use Rattle.std.proofs.Common.{◌≡◌, ℕ, ◌+◌, ◌<◌, List, ◌++◌, length, drop, get_or, sym, ap, ◌∙◌, append_assoc}
use Rattle.std.proofs.lemmas.List.{drop_more}
use Rattle.xfs_base.specs.Steps.{steps}
use Rattle.node_base.specs.declared.effects.Effect.{Effect}
use Rattle.node_base.specs.declared.questions.Questions.{Questions}
use Rattle.manager_slots.specs.SlotTable.{Table, TableAsker, Asks, table_asker}

-- what is asked for with both its parts is the same
pub table_asker_is : (a : TableAsker) (t : Table) (q : Questions) → t ≡ a.table → q ≡ a.questions → table_asker t q ≡ a
table_asker_is a t q same_table same_questions = ap (λ x. table_asker x q) same_table ∙ ap (λ x. table_asker a.table x) same_questions

module _ {X : Type 0} where
  module _ (step : TableAsker → X → Asks) (a b : TableAsker) (xs : List X) (i : ℕ) (d : X) (lt : i < length xs) (now : b ≡ (step a (get_or xs i d)).state) where
    -- the state in the end, from the state at this turn
    pub table_on : (end : TableAsker) → (steps step a (drop i xs)).state ≡ end → (steps step b (drop (i + 1) xs)).state ≡ end
    table_on end h =
        ap (λ s. (steps step s (drop (i + 1) xs)).state) now ∙ sym (ap (λ ys. (steps step a ys).state) (drop_more xs i d lt)) ∙ h

    -- what was done so far and what is to be done is all
    pub effects_on : (made more all : List Effect) → more ≡ made ++ (step a (get_or xs i d)).outs → made ++ (steps step a (drop i xs)).outs ≡ all
        → more ++ (steps step b (drop (i + 1) xs)).outs ≡ all
    effects_on made more all e h =
        let x = get_or xs i d in
        let rest = drop (i + 1) xs in
        ap (λ u. u ++ (steps step b rest).outs) e ∙ ap (λ s. (made ++ (step a x).outs) ++ (steps step s rest).outs) now
        ∙ append_assoc made (step a x).outs (steps step (step a x).state rest).outs ∙ sym (ap (λ ys. made ++ (steps step a ys).outs) (drop_more xs i d lt)) ∙ h
