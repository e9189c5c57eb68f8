-- The segments that a job of the cleaner chooses have different names.
use Rattle.std.proofs.Common.{◌≡◌, ℕ, zero, suc, List, [], ◌∷◌, map, take, refl, sym, ap, ◌∙◌}
use Rattle.std.proofs.lemmas.Cmp.{nat_cmp_total, on_total, then_total, tied_itself}
use Rattle.std.specs.BTreeMap.{insert_entry}
use Rattle.std.specs.Cmp.{IsTotalOrder}
use Rattle.std.specs.declared.cmp.Ordering.{Ordering}
use Rattle.std.specs.declared.cmp.Ordering.TheVariants.{Equal, Greater, Less}
use Rattle.std.specs.List.{AllByRecursion, fold}
use Rattle.std.specs.List.Sorted.{IsStrictlySortedBy}
use Rattle.std.specs.Map.{keys_of}
use Rattle.std.specs.Ordering.{match_ordering}
use Rattle.stripe_cleaner.specs.Counting.{CountingState, by_fullness, by_fullness_with_one, chosen, fullness_cmp, fullness_of, segment_at}
use Rattle.stripe_cleaner.specs.declared.counting.Fullness.{Fullness}
use Rattle.xfs_base.proofs.Orders.{seg_cmp_total}
use Rattle.xfs_base.proofs.Sorted.{sorted_insert}
use Rattle.xfs_base.specs.declared.segment.SegName.{SegName}
pub use Rattle.headline.specs.Cleanings.{Apart, NoneNamed}

fullness_total : IsTotalOrder fullness_cmp
fullness_total = then_total (on_total (λ (f : Fullness). f.live) nat_cmp_total) (on_total (λ (f : Fullness). f.name) seg_cmp_total)

pub keys_put : {K X : Type 0} (P : K → Type 0) (cmp : K → K → Ordering) (es : List (K × X)) (k : K) (v : X) → P k → AllByRecursion P (keys_of es)
    → AllByRecursion P (keys_of (insert_entry cmp es k v))
keys_put P cmp [] k v new all = (new, tt)
keys_put P cmp (e ∷ es) k v new all =
    elim (cmp k e.0) as (λ r. AllByRecursion P (keys_of (match_ordering r ((k, v) ∷ e ∷ es) ((e.0, v) ∷ es) (e ∷ insert_entry cmp es k v)))) [
      | Less ↦ (new, all)
      | Equal ↦ all
      | Greater ↦ (all.0, keys_put P cmp es k v new all.1)
    ]

module _ (usages : List (ℕ × List (SegName × ℕ))) where
  -- each stands there as its name says
  abbrev IsOf : Fullness → Type 0
  IsOf f = f ≡ fullness_of usages f.name

  record Ordered (es : List (Fullness × ℕ)) : Type 0 where
    rising : IsStrictlySortedBy fullness_cmp (keys_of es)
    named : AllByRecursion IsOf (keys_of es)

  ordered : (candidates : List (SegName × ℕ)) (es : List (Fullness × ℕ)) → Ordered es → Ordered (fold (by_fullness_with_one usages) es candidates)
  ordered [] es h = h
  ordered (c ∷ candidates) es h =
      ordered candidates (by_fullness_with_one usages es c) (record {
        rising = sorted_insert fullness_cmp fullness_total (fullness_of usages c.0) c.1 es h.rising;
        named = keys_put IsOf fullness_cmp es (fullness_of usages c.0) c.1 refl h.named;
      })

  -- of two, one before the other, the names differ
  differ : (f g : Fullness) → IsOf f → IsOf g → fullness_cmp f g ≡ Less → g.name ≡ f.name → ⊥
  differ f g is_f is_g less same =
      let one : g ≡ f = is_g ∙ (ap (fullness_of usages) same ∙ sym is_f) in
      let clash : Less ≡ Equal = sym less ∙ (ap (fullness_cmp f) one ∙ tied_itself fullness_total f) in
      absurd cc

  none_named : (f : Fullness) → IsOf f → (n : ℕ) (es : List (Fullness × ℕ)) → AllByRecursion (λ (g : Fullness). fullness_cmp f g ≡ Less) (keys_of es)
      → AllByRecursion IsOf (keys_of es) → NoneNamed f.name (map segment_at (take n es))
  none_named f is zero es less named = tt
  none_named f is (suc n) [] less named = tt
  none_named f is (suc n) (e ∷ es) less named = (differ f e.0 is named.0 less.0, none_named f is n es less.1 named.1)

  apart : (n : ℕ) (es : List (Fullness × ℕ)) → IsStrictlySortedBy fullness_cmp (keys_of es) → AllByRecursion IsOf (keys_of es)
      → Apart (map segment_at (take n es))
  unfolding IsStrictlySortedBy
  apart zero es rising named = tt
  apart (suc n) [] rising named = tt
  apart (suc n) (e ∷ es) rising named = (none_named e.0 named.0 n es rising.0 named.1, apart n es rising.1 named.1)

no_entries : IsStrictlySortedBy fullness_cmp []
unfolding IsStrictlySortedBy
no_entries = tt

pub chosen_apart : (count : ℕ) (c : CountingState) → Apart (chosen count c)
chosen_apart count c =
    (let h = ordered c.usages c.candidates [] (record { rising = no_entries; named = tt }) in apart c.usages count (by_fullness c) h.rising h.named)
