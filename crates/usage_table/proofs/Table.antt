-- What a shift makes of the counts: they stay in order and above 0, and the count of each segment
-- gains what came to it and loses what went.
use Rattle.std.proofs.Common.{◌≡◌, ℕ, ◌+◌, ◌-◌, ◌<◌, Bool, true, false, cond, nat_lt, List, Option, Some, None, IsSome, IfSome, Contains, ◌↔◌, unwrap_or, refl, sym, ap, subst, ◌∙◌, arith}
use Rattle.std.specs.declared.cmp.Ordering.{Ordering}
use Rattle.std.specs.declared.cmp.Ordering.TheVariants.{Less, Equal, Greater}
use Rattle.std.specs.Ordering.{is_eq, eq_by_cmp}
use Rattle.std.specs.Cmp.{IsEquivalence}
use Rattle.std.specs.Option.{ForSome}
use Rattle.std.specs.Map.{lookup, keys_of, remove_entry, set_value}
use Rattle.std.specs.BTreeMap.{is_at}
use Rattle.std.specs.List.Sorted.{IsStrictlySortedBy}
use Rattle.std.proofs.lemmas.Bool.Decides.{nat_tests}
use Rattle.std.proofs.lemmas.Cmp.{eq_by_cmp_equiv}
use Rattle.std.proofs.lemmas.Map.{lookup-set_value, lookup-remove_entry, keys-set_value}
use Rattle.std.proofs.lemmas.Map.Keys.{IsDistinct-from_sorted}
use Rattle.std.proofs.lemmas.Map.Views.{All-values-insert_entry, All-values-set_value, All-map-remove_entry, Contains-from_lookup, lookup-from_Contains, IfSome-lookup_from_All, tells_apart}
use Rattle.xfs_base.specs.declared.segment.SegName.{SegName}
use Rattle.xfs_base.specs.Segments.{seg_cmp}
use Rattle.xfs_base.proofs.BlockOrder.{lookup-insert_entry}
use Rattle.usage_table.specs.Counts.{IsTable, count_of, blocks_at, is_same, usage_give, usage_take, usage_shift}
use Rattle.xfs_base.proofs.Orders.{seg_cmp_total, seg_cmp_exact}
use Rattle.xfs_base.proofs.Sorted.{sorted_insert, sorted_remove}

same_laws : IsEquivalence (eq_by_cmp seg_cmp)
same_laws = eq_by_cmp_equiv seg_cmp_total

-- ---- the counts stay a table

pub table_with_one_more : (counts : List (SegName × ℕ)) (to : Option SegName) → IsTable counts → IsTable (usage_give counts to)
table_with_one_more counts None table = table
table_with_one_more counts (Some seg) table = record {
  sorted = sorted_insert seg_cmp seg_cmp_total seg _ counts table.sorted;
  above_0 = All-values-insert_entry seg_cmp seg (count_of counts seg + 1) (λ count. 0 < count) counts table.above_0 (omega arith);
}

pub table_with_one_less : (counts : List (SegName × ℕ)) (from : Option SegName) → IsTable counts → IsTable (usage_take counts from)
table_with_one_less counts None table = table
table_with_one_less counts (Some seg) table =
    let count = count_of counts seg in
    let at = is_at (seg_cmp seg) in
    elim (nat_lt 1 count) as (λ more. nat_lt 1 count ≡ more → IsTable (cond more (set_value at counts (count - 1)) (remove_entry at counts))) [
      | true ↦ λ more. record {
        sorted = subst (IsStrictlySortedBy seg_cmp) (sym (keys-set_value at counts (count - 1))) table.sorted;
        above_0 = All-values-set_value at (λ (n : ℕ). 0 < n) counts (count - 1) table.above_0 (grind (arith, nat_tests));
      }
      | false ↦ λ _. record {
        sorted = sorted_remove seg_cmp at counts table.sorted;
        above_0 = All-map-remove_entry at (λ (e : SegName × ℕ). e.1) (λ (n : ℕ). 0 < n) counts table.above_0;
      }
    ] refl

pub table_after_shift : (counts : List (SegName × ℕ)) (from to : Option SegName) → IsTable counts → IsTable (usage_shift counts from to)
unfolding usage_shift
table_after_shift counts from to table =
    elim (is_same from to) as (λ same. IsTable (cond same counts (usage_take (usage_give counts to) from))) [
      | true ↦ table
      | false ↦ table_with_one_less (usage_give counts to) from (table_with_one_more counts to table)
    ]

-- ---- the count of any segment

count_of-usage_give : (counts : List (SegName × ℕ)) (to : Option SegName) (seg : SegName)
    → count_of (usage_give counts to) seg ≡ count_of counts seg + blocks_at to seg
count_of-usage_give counts None seg = omega arith
count_of-usage_give counts (Some to) seg =
    ap (λ o. unwrap_or o 0) (lookup-insert_entry seg_cmp_total seg to (count_of counts to + 1) counts) ∙ at_seg (seg_cmp seg to) refl
  where
    at_seg : (r : Ordering) → seg_cmp seg to ≡ r
        → unwrap_or (cond (is_eq r) (Some (count_of counts to + 1)) (lookup (is_at (seg_cmp seg)) counts)) 0 ≡ count_of counts seg + cond (is_eq r) 1 0
    at_seg Less _ = omega arith
    at_seg Equal same = ap (λ s. count_of counts s + 1) (sym (seg_cmp_exact seg to same))
    at_seg Greater _ = omega arith

-- what is found at each segment once the count at one of them is lessened by one
one_less : (counts : List (SegName × ℕ)) (from seg : SegName) (left : Option ℕ) → unwrap_or left 0 + 1 ≡ count_of counts from
    → unwrap_or (cond (is_eq (seg_cmp from seg)) left (lookup (is_at (seg_cmp seg)) counts)) 0 + cond (is_eq (seg_cmp seg from)) 1 0 ≡ count_of counts seg
one_less counts from seg left less =
    ap (λ same. unwrap_or (cond same left (lookup (is_at (seg_cmp seg)) counts)) 0 + cond (is_eq (seg_cmp seg from)) 1 0) (same_laws.symm from seg)
    ∙ at_seg (seg_cmp seg from) refl
  where
    at_seg : (r : Ordering) → seg_cmp seg from ≡ r
        → unwrap_or (cond (is_eq r) left (lookup (is_at (seg_cmp seg)) counts)) 0 + cond (is_eq r) 1 0 ≡ count_of counts seg
    at_seg Less _ = omega arith
    at_seg Equal same = less ∙ ap (count_of counts) (sym (seg_cmp_exact seg from same))
    at_seg Greater _ = omega arith

found : (o : Option ℕ) → 0 < unwrap_or o 0 → IsSome o
found None held = absurd (omega arith)
found (Some n) held = refl

count_of-usage_take : (counts : List (SegName × ℕ)) (from : Option SegName) (seg : SegName) → IsTable counts → ForSome from (λ s. 0 < count_of counts s)
    → count_of (usage_take counts from) seg + blocks_at from seg ≡ count_of counts seg
count_of-usage_take counts None seg table held = omega arith
count_of-usage_take counts (Some from) seg table held =
    let count = count_of counts from in
    let at = is_at (seg_cmp from) in
    let one : (x y : SegName) → at x ≡ true → at y ≡ eq_by_cmp seg_cmp x y = λ x y same. same_laws.congr from x y same in
    let some : 0 < count = held from refl in
    elim (nat_lt 1 count) as
    (λ more. nat_lt 1 count ≡ more
    → count_of (cond more (set_value at counts (count - 1)) (remove_entry at counts)) seg + blocks_at (Some from) seg ≡ count_of counts seg) [
      | true ↦ λ more. ap (λ o. unwrap_or o 0 + blocks_at (Some from) seg) (lookup-set_value same_laws at one seg (count - 1) counts (found _ some))
          ∙ one_less counts from seg (Some (count - 1)) (omega arith)
      | false ↦ λ last. ap (λ o. unwrap_or o 0 + blocks_at (Some from) seg)
          (lookup-remove_entry same_laws at one seg counts (IsDistinct-from_sorted seg_cmp (keys_of counts) table.sorted))
          ∙ one_less counts from seg None (grind (arith, nat_tests))
    ] refl

pub one_segment : (from to : Option SegName) → is_same from to ≡ true → from ≡ to
one_segment None to same = absurd (cc)
one_segment (Some from) None same = absurd (cc)
one_segment (Some from) (Some to) same = ap Some (tells_apart seg_cmp_exact from to same)

-- what a segment had and what came is what it has and what went
pub count_of-usage_shift : (counts : List (SegName × ℕ)) (from to : Option SegName) (seg : SegName) → IsTable counts → ForSome from (λ s. 0 < count_of counts s)
    → count_of (usage_shift counts from to) seg + blocks_at from seg ≡ count_of counts seg + blocks_at to seg
unfolding usage_shift
count_of-usage_shift counts from to seg table held =
    elim (is_same from to) as
    (λ same. is_same from to ≡ same
    → count_of (cond same counts (usage_take (usage_give counts to) from)) seg + blocks_at from seg ≡ count_of counts seg + blocks_at to seg) [
      | true ↦ λ same. ap (λ end. count_of counts seg + blocks_at end seg) (one_segment from to same)
      | false ↦ λ _. count_of-usage_take (usage_give counts to) from seg (table_with_one_more counts to table)
          (λ s fact. let one = count_of-usage_give counts to s in let had = held s fact in omega arith) ∙ count_of-usage_give counts to seg
    ] refl

-- ---- the two ways of the code

pub usage_shift_same : (counts : List (SegName × ℕ)) (from to : Option SegName) → is_same from to ≡ true → usage_shift counts from to ≡ counts
unfolding usage_shift
usage_shift_same counts from to same = ap (λ b. cond b counts (usage_take (usage_give counts to) from)) same

pub usage_shift_apart : (counts : List (SegName × ℕ)) (from to : Option SegName) → is_same from to ≡ false
    → usage_shift counts from to ≡ usage_take (usage_give counts to) from
unfolding usage_shift
usage_shift_apart counts from to apart = ap (λ b. cond b counts (usage_take (usage_give counts to) from)) apart

-- ---- the list of the counts

-- what is listed is just the segments with a live block, each with its count
pub table_lists : (counts : List (SegName × ℕ)) → IsTable counts → (seg : SegName) (count : ℕ)
    → Contains counts (seg, count) ↔ ((0 < count) × (count ≡ count_of counts seg))
table_lists counts table seg count = (in_table, from_table (lookup at counts) refl)
  where
    at : SegName → Bool
    at = is_at (seg_cmp seg)

    in_table : Contains counts (seg, count) → (0 < count) × (count ≡ count_of counts seg)
    in_table listed =
        let fact : lookup at counts ≡ Some count =
        lookup-from_Contains same_laws seg count counts (IsDistinct-from_sorted seg_cmp (keys_of counts) table.sorted) listed in
        let above : IfSome (lookup at counts) (λ n. 0 < n) = IfSome-lookup_from_All (λ (n : ℕ). 0 < n) at counts table.above_0 in
        (subst (λ o. IfSome o (λ n. 0 < n)) fact above, sym (ap (λ o. unwrap_or o 0) fact))

    from_table : (o : Option ℕ) → lookup at counts ≡ o → (0 < count) × (count ≡ count_of counts seg) → Contains counts (seg, count)
    from_table None fact (above, same) = absurd (let none : count_of counts seg ≡ 0 = ap (λ o. unwrap_or o 0) fact in omega arith)
    from_table (Some n) fact (above, same) =
        let one : n ≡ count = sym (same ∙ ap (λ o. unwrap_or o 0) fact) in
        Contains-from_lookup (tells_apart seg_cmp_exact) seg count counts (fact ∙ ap Some one)
