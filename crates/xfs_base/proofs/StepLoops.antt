-- A loop that makes one step for each item, what all steps keep, and where the steps of two lists lead.
use Rattle.std.proofs.Common.{◌≡◌, ℕ, ◌+◌, ◌<◌, List, [], ◌∷◌, ◌++◌, length, get_or, drop, refl, sym, ap, ◌∙◌, append_assoc}
use Rattle.std.proofs.lemmas.List.{at_drop_more}
use Rattle.xfs_base.specs.Steps.{Stepped, steps}

module _ {S O A : Type 0} (step : S → A → Stepped S O) (xs : List A) (i : ℕ) (d : A) (s t : S) (now : t ≡ (step s (get_or xs i d)).state)
    (here : i < length xs) where
  -- the state in the end, from the state at this turn
  pub state_more : (end : S) → (steps step s (drop i xs)).state ≡ end → (steps step t (drop (i + 1) xs)).state ≡ end
  state_more end h = ap (λ u. (steps step u (drop (i + 1) xs)).state) now ∙ sym (at_drop_more (λ ys. (steps step s ys).state) xs i d here) ∙ h

  -- the outs so far and those to come are all
  pub outs_more : (made more all : List O) → more ≡ made ++ (step s (get_or xs i d)).outs → made ++ (steps step s (drop i xs)).outs ≡ all
      → more ++ (steps step t (drop (i + 1) xs)).outs ≡ all
  outs_more made more all e h =
      ap (λ u. u ++ (steps step t (drop (i + 1) xs)).outs) e ∙ ap (λ u. (made ++ (step s (get_or xs i d)).outs) ++ (steps step u (drop (i + 1) xs)).outs) now
      ∙ append_assoc made _ _ ∙ sym (ap (λ u. made ++ u) (at_drop_more (λ ys. (steps step s ys).outs) xs i d here)) ∙ h

-- what each step keeps, all keep
pub steps_keep : {S O A : Type 0} (step : S → A → Stepped S O) (P : S → Type 0) → ((s : S) (x : A) → P s → P (step s x).state) → (s : S) (xs : List A) → P s
    → P (steps step s xs).state
steps_keep step P keep s [] p = p
steps_keep step P keep s (x ∷ xs) p = steps_keep step P keep (step s x).state xs (keep s x p)

-- the steps of one list and then of another lead where those of both lead
pub steps_both : {S O A : Type 0} (step : S → A → Stepped S O) (s : S) (first second : List A)
    → (steps step s (first ++ second)).state ≡ (steps step (steps step s first).state second).state
steps_both step s [] second = refl
steps_both step s (x ∷ first) second = steps_both step (step s x).state first second
