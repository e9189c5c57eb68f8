-- What stands in a list in which one place was made another.
use Rattle.std.proofs.Common.{◌≡◌, ◌≢◌, ℕ, ◌≤◌, ◌<◌, true, false, nat_lt, List, Some, length, slice_get, slice_set, refl, sym, ap, subst, ◌∙◌}
use Rattle.std.proofs.lemmas.Bool.{ltb-false, ltb-true}
use Rattle.std.proofs.lemmas.List.{get_or-set_same, get_or-set_other}
use Rattle.std.proofs.lemmas.Option.{slice_get_past, slice_get_within, slice_get-get_or}
use Rattle.std.proofs.Math.ListN.{length-set}

module _ {X : Type 0} (xs : List X) (p : ℕ) (x : X) where
  pub get_set_same : (y : X) → slice_get xs p ≡ Some y → slice_get (slice_set xs p x) p ≡ Some x
  get_set_same y fact =
      let less = slice_get_within xs p y fact in
      slice_get-get_or (slice_set xs p x) p x (subst (λ n. p < n) (sym (length-set xs p x)) less) ∙ ap Some (get_or-set_same xs p x x less)

  pub get_set_other : (q : ℕ) → q ≢ p → slice_get (slice_set xs p x) q ≡ slice_get xs q
  get_set_other q other =
      elim (nat_lt q (length xs)) as (λ t. nat_lt q (length xs) ≡ t → slice_get (slice_set xs p x) q ≡ slice_get xs q) [
        | true ↦ λ h. let less = ltb-true q (length xs) h in
            slice_get-get_or (slice_set xs p x) q x (subst (λ n. q < n) (sym (length-set xs p x)) less)
            ∙ (ap Some (get_or-set_other xs p q x x other) ∙ sym (slice_get-get_or xs q x less))
        | false ↦ λ h. let past = ltb-false q (length xs) h in
            slice_get_past (slice_set xs p x) q (subst (λ n. n ≤ q) (sym (length-set xs p x)) past) ∙ sym (slice_get_past xs q past)
      ] refl
