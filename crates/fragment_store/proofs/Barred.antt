-- Names put in order one by one: just these names are there.
use Rattle.std.proofs.Common.{◌≡◌, List, [], ◌∷◌, ◌++◌, ◌↔◌, refl, sym, subst, inl, inr}
use Rattle.std.specs.Prelude.{◌⊎◌, Contains, fold}
use Rattle.std.specs.declared.cmp.Ordering.TheVariants.{Less, Equal, Greater}
use Rattle.std.specs.Ordering.{is_eq, match_ordering}
use Rattle.std.specs.BTreeSet.{insert_key}
use Rattle.xfs_base.specs.declared.segment.SegName.{SegName}
use Rattle.xfs_base.specs.Segments.{seg_cmp}
use Rattle.xfs_base.proofs.Members.{contains_nothing, contains_first, contains_rest, contains_cases}
use Rattle.fragment_store.specs.Calls.{in_order}
use Rattle.xfs_base.proofs.SegmentNames.{one_name}

abbrev With : SegName → List SegName → SegName → Type 0
With new names name = (new ≡ name) ⊎ Contains names name

-- the first is passed over, or is the name
past : (m name : SegName) (ms rest : List SegName) (P : Type 0) → ((m ≡ name) → P) → (Contains rest name → P) → Contains (m ∷ rest) name → P
past m name ms rest P here there h = elim (contains_cases m name rest h) [ inl e ↦ here e | inr k ↦ there k ]

put_in : (new : SegName) (names : List SegName) (name : SegName) → Contains (insert_key seg_cmp names new) name → With new names name
put_in new [] name h = past new name [] [] (With new [] name) (λ e. inl e) (λ k. inr k) h
put_in new (m ∷ ms) name h =
    elim (seg_cmp new m) as (λ o. Contains (match_ordering o (new ∷ m ∷ ms) (m ∷ ms) (m ∷ insert_key seg_cmp ms new)) name → With new (m ∷ ms) name) [
      | Less ↦ λ k. past new name [] (m ∷ ms) (With new (m ∷ ms) name) (λ e. inl e) (λ there. inr there) k
      | Equal ↦ λ k. inr k
      | Greater ↦ λ k. past m name [] (insert_key seg_cmp ms new) (With new (m ∷ ms) name) (λ e. inr (subst (Contains (m ∷ ms)) e (contains_first m ms)))
          (λ there. later (put_in new ms name there)) k
    ] h
  where
    later : With new ms name → With new (m ∷ ms) name
    later (inl e) = inl e
    later (inr k) = inr (contains_rest m name ms k)

new_is_in : (new : SegName) (names : List SegName) → Contains (insert_key seg_cmp names new) new
new_is_in new [] = contains_first new []
new_is_in new (m ∷ ms) =
    elim (seg_cmp new m) as (λ o. is_eq (seg_cmp new m) ≡ is_eq o → Contains (match_ordering o (new ∷ m ∷ ms) (m ∷ ms) (m ∷ insert_key seg_cmp ms new)) new) [
      | Less ↦ λ e. contains_first new (m ∷ ms)
      | Equal ↦ λ e. subst (Contains (m ∷ ms)) (sym (one_name new m e)) (contains_first m ms)
      | Greater ↦ λ e. contains_rest m new (insert_key seg_cmp ms new) (new_is_in new ms)
    ] refl

still_in : (new : SegName) (names : List SegName) (name : SegName) → Contains names name → Contains (insert_key seg_cmp names new) name
still_in new [] name h = absurd (contains_nothing name h)
still_in new (m ∷ ms) name h =
    elim (seg_cmp new m) as (λ o. Contains (match_ordering o (new ∷ m ∷ ms) (m ∷ ms) (m ∷ insert_key seg_cmp ms new)) name) [
      | Less ↦ contains_rest new name (m ∷ ms) h
      | Equal ↦ h
      | Greater ↦ past m name [] ms (Contains (m ∷ insert_key seg_cmp ms new) name)
          (λ e. subst (Contains (m ∷ insert_key seg_cmp ms new)) e (contains_first m (insert_key seg_cmp ms new)))
          (λ k. contains_rest m name (insert_key seg_cmp ms new) (still_in new ms name k)) h
    ]

in_start : (start names : List SegName) (name : SegName) → Contains start name → Contains (fold (insert_key seg_cmp) start names) name
in_start start [] name h = h
in_start start (n ∷ ns) name h = in_start (insert_key seg_cmp start n) ns name (still_in n start name h)

in_names : (start names : List SegName) (name : SegName) → Contains names name → Contains (fold (insert_key seg_cmp) start names) name
in_names start [] name h = absurd (contains_nothing name h)
in_names start (n ∷ ns) name h =
    past n name [] ns (Contains (fold (insert_key seg_cmp) (insert_key seg_cmp start n) ns) name)
    (λ e. in_start (insert_key seg_cmp start n) ns name (subst (Contains (insert_key seg_cmp start n)) e (new_is_in n start)))
    (λ k. in_names (insert_key seg_cmp start n) ns name k) h

from_either : (start names : List SegName) (name : SegName) → Contains (fold (insert_key seg_cmp) start names) name → Contains start name ⊎ Contains names name
from_either start [] name h = inl h
from_either start (n ∷ ns) name h = by (from_either (insert_key seg_cmp start n) ns name h)
  where
    first : With n start name → Contains start name ⊎ Contains (n ∷ ns) name
    first (inl e) = inr (subst (Contains (n ∷ ns)) e (contains_first n ns))
    first (inr k) = inl k

    by : Contains (insert_key seg_cmp start n) name ⊎ Contains ns name → Contains start name ⊎ Contains (n ∷ ns) name
    by (inl k) = first (put_in n start name k)
    by (inr k) = inr (contains_rest n name ns k)

append_left : (xs ys : List SegName) (name : SegName) → Contains xs name → Contains (xs ++ ys) name
append_left [] ys name h = absurd (contains_nothing name h)
append_left (x ∷ xs) ys name h =
    past x name [] xs (Contains (x ∷ (xs ++ ys)) name) (λ e. subst (Contains (x ∷ (xs ++ ys))) e (contains_first x (xs ++ ys)))
    (λ k. contains_rest x name (xs ++ ys) (append_left xs ys name k)) h

append_right : (xs ys : List SegName) (name : SegName) → Contains ys name → Contains (xs ++ ys) name
append_right [] ys name h = h
append_right (x ∷ xs) ys name h = contains_rest x name (xs ++ ys) (append_right xs ys name h)

append_either : (xs ys : List SegName) (name : SegName) → Contains (xs ++ ys) name → Contains xs name ⊎ Contains ys name
append_either [] ys name h = inr h
append_either (x ∷ xs) ys name h = by (λ k. append_either xs ys name k) (contains_cases x name (xs ++ ys) h)
  where
    later : Contains xs name ⊎ Contains ys name → Contains (x ∷ xs) name ⊎ Contains ys name
    later (inl k) = inl (contains_rest x name xs k)
    later (inr k) = inr k

    by : (Contains (xs ++ ys) name → Contains xs name ⊎ Contains ys name) → (x ≡ name) ⊎ Contains (xs ++ ys) name → Contains (x ∷ xs) name ⊎ Contains ys name
    by more (inl e) = inl (subst (Contains (x ∷ xs)) e (contains_first x xs))
    by more (inr k) = later (more k)

-- names in order are just the names
pub in_order_has : (xs ys : List SegName) (name : SegName) → Contains (in_order (xs ++ ys)) name ↔ (Contains xs name ⊎ Contains ys name)
in_order_has xs ys name = (to, from)
  where
    into : Contains [] name ⊎ Contains (xs ++ ys) name → Contains xs name ⊎ Contains ys name
    into (inl k) = absurd (contains_nothing name k)
    into (inr k) = append_either xs ys name k

    to : Contains (in_order (xs ++ ys)) name → Contains xs name ⊎ Contains ys name
    to h = into (from_either [] (xs ++ ys) name h)

    from : Contains xs name ⊎ Contains ys name → Contains (in_order (xs ++ ys)) name
    from (inl k) = in_names [] (xs ++ ys) name (append_left xs ys name k)
    from (inr k) = in_names [] (xs ++ ys) name (append_right xs ys name k)
