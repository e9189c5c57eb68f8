-- Tables: entries sorted by a total and exact order of their keys, where each key without an entry stands
-- for one default value. What a table has at each key once an entry is put anew, or once all are changed in
-- place, and that the keys stay in order.
use Rattle.std.proofs.Common.{◌≡◌, Bool, true, false, cond, List, [], ◌∷◌, Option, Some, map, unwrap_or, refl, sym, ap, subst, ◌∙◌}
use Rattle.std.specs.declared.cmp.Ordering.{Ordering}
use Rattle.std.specs.Ordering.{eq_by_cmp, is_eq}
use Rattle.std.specs.Cmp.{IsTotalOrder}
use Rattle.std.specs.Map.{lookup, keys_of, remove_entry}
use Rattle.std.specs.BTreeMap.{is_at, insert_entry}
use Rattle.std.specs.List.Sorted.{IsStrictlySortedBy}
use Rattle.std.proofs.lemmas.Cmp.{tied_itself}
use Rattle.std.proofs.lemmas.Map.Lookups.{CmpEqualImpliesEq}
use Rattle.std.proofs.lemmas.Map.Views.{tells_apart}
use Rattle.xfs_base.proofs.BlockOrder.{lookup-insert_entry}
use Rattle.xfs_base.proofs.Sorted.{sorted_insert, sorted_remove}

module _ {K V : Type 0} {R : K → K → Ordering} (total : IsTotalOrder R) (exact : CmpEqualImpliesEq R) (none : V) where
  -- what a table has at a key
  abbrev at : List (K × V) → K → V
  at es q = unwrap_or (lookup (is_at (R q)) es) none

  -- the table with an entry put anew
  abbrev put : List (K × V) → K → V → List (K × V)
  put es k v = insert_entry R (remove_entry (is_at (R k)) es) k v

  removed_step : (q : K) (e : K × V) (es rest : List (K × V)) (k : K) (t : Bool) → eq_by_cmp R k e.0 ≡ t → eq_by_cmp R q k ≡ false
      → lookup (is_at (R q)) rest ≡ lookup (is_at (R q)) es
      → lookup (is_at (R q)) (cond t es (e ∷ rest)) ≡ cond (eq_by_cmp R q e.0) (Some e.1) (lookup (is_at (R q)) es)
  removed_step q e es rest k true h other same =
      sym (ap (λ b. cond b (Some e.1) (lookup (is_at (R q)) es)) (ap (eq_by_cmp R q) (sym (tells_apart exact k e.0 h)) ∙ other))
  removed_step q e es rest k false h other same = ap (cond (eq_by_cmp R q e.0) (Some e.1)) same

  -- removing one entry leaves what is found at another key
  lookup-removed : (q k : K) (es : List (K × V)) → eq_by_cmp R q k ≡ false → lookup (is_at (R q)) (remove_entry (is_at (R k)) es) ≡ lookup (is_at (R q)) es
  lookup-removed q k [] other = refl
  lookup-removed q k (e ∷ es) other = removed_step q e es (remove_entry (is_at (R k)) es) k (eq_by_cmp R k e.0) refl other (lookup-removed q k es other)

  -- what is at each key once an entry is put anew
  pub at-put : (q k : K) (v : V) (es : List (K × V)) → at (put es k v) q ≡ cond (eq_by_cmp R q k) v (at es q)
  at-put q k v es =
      ap (λ o. unwrap_or o none) (lookup-insert_entry total q k v (remove_entry (is_at (R k)) es)) ∙ put_cases (eq_by_cmp R q k) refl
    where
      put_cases : (t : Bool) → eq_by_cmp R q k ≡ t
          → unwrap_or (cond t (Some v) (lookup (is_at (R q)) (remove_entry (is_at (R k)) es))) none ≡ cond t v (at es q)
      put_cases true same = refl
      put_cases false other = ap (λ o. unwrap_or o none) (lookup-removed q k es other)

  put_by : (P : K → V → Type 0) (q k : K) (v w : V) (t : Bool) → eq_by_cmp R q k ≡ t → P k v → P q w → P q (cond t v w)
  put_by P q k v w true same here there = subst (λ b. P b v) (sym (tells_apart exact q k same)) here
  put_by P q k v w false other here there = there

  -- what holds of the entry that is put, and held at every other key, holds at all
  pub put_each : (P : K → V → Type 0) (k : K) (v : V) (es : List (K × V)) → P k v → ((q : K) → P q (at es q)) → (q : K) → P q (at (put es k v) q)
  put_each P k v es here there q = subst (P q) (sym (at-put q k v es)) (put_by P q k v (at es q) (eq_by_cmp R q k) refl here (there q))

  -- what is at the very key at which an entry is put
  pub at-put_itself : (k : K) (v : V) (es : List (K × V)) → at (put es k v) k ≡ v
  at-put_itself k v es = at-put k k v es ∙ ap (λ o. cond (is_eq o) v (at es k)) (tied_itself total k)

  -- what the entry that is put has as before, there is at each key as before
  pub put_same : {A : Type 0} (f : V → A) (q k : K) (v : V) (es : List (K × V)) → f v ≡ f (at es k) → f (at (put es k v) q) ≡ f (at es q)
  put_same f q k v es same = put_each (λ b w. f w ≡ f (at es b)) k v es same (λ b. refl) q

  -- the keys stay in order once an entry is put anew
  pub sorted_put : (k : K) (v : V) (es : List (K × V)) → IsStrictlySortedBy R (keys_of es) → IsStrictlySortedBy R (keys_of (put es k v))
  sorted_put k v es sorted = sorted_insert R total k v (remove_entry (is_at (R k)) es) (sorted_remove R (is_at (R k)) es sorted)

  module _ (g : K → V → V) where
    abbrev changed : List (K × V) → List (K × V)
    changed es = map (λ e. (e.0, g e.0 e.1)) es

    -- the keys are the same once all are changed in place
    pub keys-changed : (es : List (K × V)) → keys_of (changed es) ≡ keys_of es
    keys-changed [] = refl
    keys-changed (e ∷ es) = ap (λ ks. e.0 ∷ ks) (keys-changed es)

    changed_step : (q : K) (e : K × V) (found rest : Option V) (t : Bool) → eq_by_cmp R q e.0 ≡ t → unwrap_or found none ≡ g q (unwrap_or rest none)
        → unwrap_or (cond t (Some (g e.0 e.1)) found) none ≡ g q (unwrap_or (cond t (Some e.1) rest) none)
    changed_step q e found rest true same h = ap (λ b. g b e.1) (sym (tells_apart exact q e.0 same))
    changed_step q e found rest false other h = h

    -- what is at each key once all are changed in place
    pub at-changed : (q : K) (es : List (K × V)) → g q none ≡ none → at (changed es) q ≡ g q (at es q)
    at-changed q [] default = sym default
    at-changed q (e ∷ es) default =
        changed_step q e (lookup (is_at (R q)) (changed es)) (lookup (is_at (R q)) es) (eq_by_cmp R q e.0) refl (at-changed q es default)
