-- A history with one more input behind it, and what each input keeps.
use Rattle.std.proofs.Common.{◌≡◌, List, [], ◌∷◌, ◌++◌, sym, ap, subst, ◌∙◌, append-nil, append_assoc}
use Rattle.stripe_cleaner.specs.declared.input.In.{In}
use Rattle.stripe_cleaner.specs.CleaningState.{CleaningState}
use Rattle.stripe_cleaner.specs.Histories.{state_after}
use Rattle.stripe_cleaner.specs.Transition.{transition}
use Rattle.xfs_base.proofs.StepLoops.{steps_both}

-- where an input is in a history, it is when one more is put behind
pub split_with : (history before later : List In) (found i : In) → history ≡ before ++ found ∷ later → history ++ i ∷ [] ≡ before ++ found ∷ (later ++ i ∷ [])
split_with history before later found i split = ap (λ h. h ++ i ∷ []) split ∙ append_assoc before (found ∷ later) (i ∷ [])

module _ (start : CleaningState) (P : List In → CleaningState → Type 0) (first : P [] start)
    (keeps : (history : List In) (i : In) → P history (state_after start history)
    → P (history ++ i ∷ []) (transition (state_after start history) i).state) where
  abbrev Now : List In → Type 0
  Now history = P history (state_after start history)

  after_more : (before later : List In) → Now before → Now (before ++ later)
  after_more before [] p = subst Now (sym (append-nil before)) p
  after_more before (i ∷ later) p =
      subst Now (append_assoc before (i ∷ []) later)
      (after_more (before ++ i ∷ []) later (subst (P (before ++ i ∷ [])) (sym (steps_both transition start before (i ∷ []))) (keeps before i p)))

  -- what holds at the start, and which each input keeps, holds after any inputs
  pub always : (history : List In) → P history (state_after start history)
  always history = after_more [] history first
