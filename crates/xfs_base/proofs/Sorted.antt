-- The keys of entries stay in order when an entry is put in its place, and when one is taken out.
-- Of any total order.
use Rattle.std.proofs.Common.{◌≡◌, Bool, true, false, cond, List, [], ◌∷◌, refl, ap, ◌∙◌}
use Rattle.std.specs.declared.cmp.Ordering.{Ordering}
use Rattle.std.specs.declared.cmp.Ordering.TheVariants.{Less, Equal, Greater}
use Rattle.std.specs.Ordering.{match_ordering, ordering_reverse}
use Rattle.std.specs.Cmp.{IsTotalOrder}
use Rattle.std.specs.List.{AllByRecursion}
use Rattle.std.specs.List.Sorted.{IsStrictlySortedBy}
use Rattle.std.specs.Map.{keys_of, remove_entry}
use Rattle.std.specs.BTreeMap.{insert_entry}

-- a key is below all of these
abbrev IsBelow : {K : Type 0} → (K → K → Ordering) → K → List K → Type 0
IsBelow R x ks = AllByRecursion (λ y. R x y ≡ Less) ks

below_all : {K : Type 0} (R : K → K → Ordering) → IsTotalOrder R → (x y : K) (ks : List K) → R x y ≡ Less → IsBelow R y ks → IsBelow R x ks
below_all R total x y [] less below = below
below_all R total x y (k ∷ ks) less below = (total.trans x y k less below.0, below_all R total x y ks less below.1)

module _ {K X : Type 0} (R : K → K → Ordering) where
  below_insert : (x k : K) (v : X) (es : List (K × X)) → R x k ≡ Less → IsBelow R x (keys_of es) → IsBelow R x (keys_of (insert_entry R es k v))
  below_insert x k v [] less below = (less, tt)
  below_insert x k v (e ∷ es) less below =
      elim (R k e.0) as (λ r. IsBelow R x (keys_of (match_ordering r ((k, v) ∷ e ∷ es) ((e.0, v) ∷ es) (e ∷ insert_entry R es k v)))) [
        | Less ↦ (less, below)
        | Equal ↦ below
        | Greater ↦ (below.0, below_insert x k v es less below.1)
      ]

  below_remove : (x : K) (test : K → Bool) (es : List (K × X)) → IsBelow R x (keys_of es) → IsBelow R x (keys_of (remove_entry test es))
  below_remove x test [] below = below
  below_remove x test (e ∷ es) below =
      elim (test e.0) as (λ b. IsBelow R x (keys_of (cond b es (e ∷ remove_entry test es))))
      [ true ↦ below.1 | false ↦ (below.0, below_remove x test es below.1) ]

  pub sorted_remove : (test : K → Bool) (es : List (K × X)) → IsStrictlySortedBy R (keys_of es) → IsStrictlySortedBy R (keys_of (remove_entry test es))
  unfolding IsStrictlySortedBy
  sorted_remove test [] sorted = sorted
  sorted_remove test (e ∷ es) sorted =
      elim (test e.0) as (λ b. IsStrictlySortedBy R (keys_of (cond b es (e ∷ remove_entry test es)))) [
        | true ↦ sorted.1
        | false ↦ (below_remove e.0 test es sorted.0, sorted_remove test es sorted.1)
      ]

  module _ (total : IsTotalOrder R) where
    pub sorted_insert : (k : K) (v : X) (es : List (K × X)) → IsStrictlySortedBy R (keys_of es) → IsStrictlySortedBy R (keys_of (insert_entry R es k v))
    unfolding IsStrictlySortedBy
    sorted_insert k v [] sorted = (tt, tt)
    sorted_insert k v (e ∷ es) sorted =
        elim (R k e.0) as (λ r. R k e.0 ≡ r → IsStrictlySortedBy R (keys_of (match_ordering r ((k, v) ∷ e ∷ es) ((e.0, v) ∷ es) (e ∷ insert_entry R es k v)))) [
          | Less ↦ λ less. ((less, below_all R total k e.0 (keys_of es) less sorted.0), sorted)
          | Equal ↦ λ _. sorted
          | Greater ↦ λ greater. (below_insert e.0 k v es (total.antisymm e.0 k ∙ ap ordering_reverse greater) sorted.0, sorted_insert k v es sorted.1)
        ] refl
