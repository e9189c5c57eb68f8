-- Of all that there is to empty a job takes as many segments as it was asked for, or all, each once.
use Rattle.std.proofs.Common.{◌≡◌, ◌+◌, min, ℕ, zero, suc, List, [], ◌∷◌, Option, map, take, length, inl, inr, refl, sym, ap, subst, ◌∙◌, arith}
use Rattle.std.proofs.lemmas.Cmp.{tied_itself}
use Rattle.std.specs.BTreeMap.{insert_entry}
use Rattle.std.specs.declared.cmp.Ordering.{Ordering}
use Rattle.std.specs.declared.cmp.Ordering.TheVariants.{Equal, Greater, Less}
use Rattle.std.specs.List.{AllByRecursion, fold}
use Rattle.std.specs.List.Sorted.{IsStrictlySortedBy}
use Rattle.std.specs.Map.{keys_of}
use Rattle.std.specs.Ordering.{match_ordering, nat_cmp, ordering_then}
use Rattle.core_world.specs.declared.any_node.AnyNode.{AnyNode}
use Rattle.group_map.specs.GroupMapState.{GroupMapState}
use Rattle.stripe_cleaner.specs.Candidates.{candidates_with, candidates_with_one, is_candidate}
use Rattle.stripe_cleaner.specs.Counting.{CountingState, by_fullness, by_fullness_with_one, chosen, fullness_cmp, fullness_of, segment_at}
use Rattle.stripe_cleaner.specs.declared.counting.Fullness.{Fullness}
use Rattle.token_protocol.specs.Basics.{In}
use Rattle.wire_msg.specs.declared.storage.Listed.{Listed}
use Rattle.world_base.specs.declared.estate.Estate.{Estate}
use Rattle.xfs_base.proofs.Alls.{all_take}
use Rattle.xfs_base.proofs.Booleans.{by_test}
use Rattle.xfs_base.proofs.Orders.{seg_cmp_exact, seg_cmp_total}
use Rattle.xfs_base.proofs.Sorted.{sorted_insert}
use Rattle.xfs_base.specs.declared.fragment.FragMeta.{FragMeta}
use Rattle.xfs_base.specs.declared.news.SlotNews.{SlotNews}
use Rattle.xfs_base.specs.declared.segment.SegName.{SegName}
use Rattle.xfs_base.specs.declared.segment.SegRef.{SegRef}
use Rattle.xfs_base.specs.Segments.{seg_cmp}
use Rattle.run_answers.proofs.number_law.Choosing.{chosen_apart, keys_put}
use Rattle.headline.specs.Cleanings.{AreCandidates, AreTaken, candidates_by}

-- ---- an entry whose key is new

module _ {K X : Type 0} (R : K → K → Ordering) where
  abbrev Fresh : K → List (K × X) → Type 0
  Fresh k es = AllByRecursion (λ (key : K). R k key ≡ Equal → ⊥) (keys_of es)

  length_fresh : (k : K) (v : X) (es : List (K × X)) → Fresh k es → length (insert_entry R es k v) ≡ suc (length es)
  length_fresh k v [] fresh = refl
  length_fresh k v (e ∷ es) fresh =
      elim (R k e.0) as
      (λ r. R k e.0 ≡ r → length (match_ordering r ((k, v) ∷ e ∷ es) ((e.0, v) ∷ es) (e ∷ insert_entry R es k v)) ≡ suc (suc (length es))) [
        | Less ↦ λ _. refl
        | Equal ↦ λ same. absurd (fresh.0 same)
        | Greater ↦ λ _. ap suc (length_fresh k v es fresh.1)
      ] refl

  all_fresh : (P : K × X → Type 0) (k : K) (v : X) (es : List (K × X)) → P (k, v) → AllByRecursion P es → Fresh k es
      → AllByRecursion P (insert_entry R es k v)
  all_fresh P k v [] new all fresh = (new, tt)
  all_fresh P k v (e ∷ es) new all fresh =
      elim (R k e.0) as (λ r. R k e.0 ≡ r → AllByRecursion P (match_ordering r ((k, v) ∷ e ∷ es) ((e.0, v) ∷ es) (e ∷ insert_entry R es k v))) [
        | Less ↦ λ _. (new, all)
        | Equal ↦ λ same. absurd (fresh.0 same)
        | Greater ↦ λ _. (all.0, all_fresh P k v es new all.1 fresh.1)
      ] refl

-- ---- the candidates

-- no two have one name
abbrev Differ : List (SegName × ℕ) → Type 0
Differ [] = Unit {0}
Differ (c ∷ candidates) = AllByRecursion (λ (d : SegName × ℕ). c.0 ≡ d.0 → ⊥) candidates × Differ candidates

not_less : (a b : SegName) → seg_cmp a b ≡ Less → a ≡ b → ⊥
not_less a b less same =
    (let clash : Less ≡ Equal = sym less ∙ (ap (seg_cmp a) (sym same) ∙ tied_itself seg_cmp_total a) in absurd cc)

above_differ : (name : SegName) (cs : List (SegName × ℕ)) → AllByRecursion (λ (key : SegName). seg_cmp name key ≡ Less) (keys_of cs)
    → AllByRecursion (λ (d : SegName × ℕ). name ≡ d.0 → ⊥) cs
above_differ name [] below = tt
above_differ name (c ∷ cs) below = (not_less name c.0 below.0, above_differ name cs below.1)

sorted_differ : (cs : List (SegName × ℕ)) → IsStrictlySortedBy seg_cmp (keys_of cs) → Differ cs
unfolding IsStrictlySortedBy
sorted_differ [] rising = tt
sorted_differ (c ∷ cs) rising = (above_differ c.0 cs rising.0, sorted_differ cs rising.1)

abbrev Rising : List (SegName × ℕ) → Type 0
Rising cs = IsStrictlySortedBy seg_cmp (keys_of cs)

no_entries : Rising []
unfolding IsStrictlySortedBy
no_entries = tt

one_rising : (slots : List SlotNews) (cs : List (SegName × ℕ)) (meta : FragMeta) → Rising cs → Rising (candidates_with_one slots cs meta)
one_rising slots cs meta h =
    by_test Rising (is_candidate slots meta.name) (insert_entry seg_cmp cs meta.name meta.group) cs
    (λ _. sorted_insert seg_cmp seg_cmp_total meta.name meta.group cs h) (λ _. h)

held_rising : (slots : List SlotNews) (held : List FragMeta) (cs : List (SegName × ℕ)) → Rising cs → Rising (candidates_with slots held cs)
held_rising slots [] cs h = h
held_rising slots (meta ∷ held) cs h = held_rising slots held (candidates_with_one slots cs meta) (one_rising slots cs meta h)

lists_rising : (slots : List SlotNews) (lists : List (ℕ × Listed)) (cs : List (SegName × ℕ)) → Rising cs
    → Rising (fold (λ (candidates : List (SegName × ℕ)) (list : ℕ × Listed). candidates_with slots list.1.held candidates) cs lists)
lists_rising slots [] cs h = h
lists_rising slots (list ∷ lists) cs h = lists_rising slots lists (candidates_with slots list.1.held cs) (held_rising slots list.1.held cs h)

candidates_differ : (slots : List SlotNews) (lists : List (ℕ × Listed)) → Differ (candidates_by slots lists)
candidates_differ slots lists = sorted_differ (candidates_by slots lists) (lists_rising slots lists [] no_entries)

-- ---- by fullness

then_equal : (a b : Ordering) → ordering_then a b ≡ Equal → b ≡ Equal
then_equal Less b fact = absurd cc
then_equal Equal b fact = fact
then_equal Greater b fact = absurd cc

module _ (usages : List (ℕ × List (SegName × ℕ))) where
  abbrev full : SegName × ℕ → Fullness
  full c = fullness_of usages c.0

  apart_full : (c d : SegName × ℕ) → (c.0 ≡ d.0 → ⊥) → fullness_cmp (full d) (full c) ≡ Equal → ⊥
  apart_full c d apart same =
      apart (sym (seg_cmp_exact d.0 c.0 (then_equal (nat_cmp (full d).live (full c).live) (seg_cmp d.0 c.0) same)))

  abbrev IsFresh : List (Fullness × ℕ) → SegName × ℕ → Type 0
  IsFresh es c = Fresh fullness_cmp (full c) es

  -- one more entry leaves the others new
  fresh_still : (c : SegName × ℕ) (es : List (Fullness × ℕ)) (cs : List (SegName × ℕ)) → AllByRecursion (λ (d : SegName × ℕ). c.0 ≡ d.0 → ⊥) cs
      → AllByRecursion (IsFresh es) cs → AllByRecursion (IsFresh (by_fullness_with_one usages es c)) cs
  fresh_still c es [] apart fresh = tt
  fresh_still c es (d ∷ cs) apart fresh = (
    keys_put (λ (key : Fullness). fullness_cmp (full d) key ≡ Equal → ⊥) fullness_cmp es (full c) c.1 (apart_full c d apart.0) fresh.0,
    fresh_still c es cs apart.1 fresh.1,
  )

  module _ (all : List (SegName × ℕ)) where
    abbrev IsThere : Fullness × ℕ → Type 0
    IsThere e = In (e.0.name, e.1) all

    record Sized (n : ℕ) (es : List (Fullness × ℕ)) : Type 0 where
      long : length es ≡ n
      there : AllByRecursion IsThere es

    sized : (cs : List (SegName × ℕ)) (es : List (Fullness × ℕ)) (n : ℕ) → Differ cs → AllByRecursion (IsFresh es) cs
        → AllByRecursion (λ (c : SegName × ℕ). In (c.0, c.1) all) cs → Sized n es → Sized (n + length cs) (fold (by_fullness_with_one usages) es cs)
    sized [] es n differ fresh of_all h = record { long = h.long ∙ none n; there = h.there }
      where
        none : (n : ℕ) → n ≡ n + 0
        none n = omega arith
    sized (c ∷ cs) es n differ fresh of_all h =
        subst (λ (m : ℕ). Sized m (fold (by_fullness_with_one usages) (by_fullness_with_one usages es c) cs)) (one n (length cs))
        (sized cs (by_fullness_with_one usages es c) (suc n) differ.1 (fresh_still c es cs differ.0 fresh.1) of_all.1
        (record {
          long = length_fresh fullness_cmp (full c) c.1 es fresh.0 ∙ ap suc h.long;
          there = all_fresh fullness_cmp IsThere (full c) c.1 es of_all.0 h.there fresh.0;
        }))
      where
        one : (n m : ℕ) → suc n + m ≡ n + suc m
        one n m = omega arith

length_taken : {X : Type 0} (n : ℕ) (xs : List X) → length (take n xs) ≡ min n (length xs)
length_taken zero xs = none (length xs)
  where
    none : (m : ℕ) → 0 ≡ min 0 m
    none m = omega arith
length_taken (suc n) [] = none n
  where
    none : (n : ℕ) → 0 ≡ min (suc n) 0
    none n = omega arith
length_taken (suc n) (x ∷ xs) = ap suc (length_taken n xs) ∙ one n (length xs)
  where
    one : (n m : ℕ) → suc (min n m) ≡ min (suc n) (suc m)
    one n m = omega arith

length_mapped : {X Y : Type 0} (f : X → Y) (xs : List X) → length (map f xs) ≡ length xs
length_mapped f [] = refl
length_mapped f (x ∷ xs) = ap suc (length_mapped f xs)

none_held : (usages : List (ℕ × List (SegName × ℕ))) (cs : List (SegName × ℕ)) → AllByRecursion (IsFresh usages []) cs
none_held usages [] = tt
none_held usages (c ∷ cs) = (tt, none_held usages cs)

all_there : (all front : List (SegName × ℕ)) → ((c : SegName × ℕ) → In c front → In c all) → AllByRecursion (λ (c : SegName × ℕ). In (c.0, c.1) all) front
all_there all [] of_all = tt
all_there all (c ∷ front) of_all = (of_all c (inl refl), all_there all front (λ d among. of_all d (inr among)))

module _ (e : Estate AnyNode) (begun end last : ℕ) (at_first : Option GroupMapState) (many : ℕ) (c : CountingState)
    (are : AreCandidates e begun end last at_first c.candidates) where
  candidates_apart : Differ c.candidates
  candidates_apart = subst Differ (sym are.are) (candidates_differ are.welcome.news.slots are.lists)

  in_order : Sized c.usages c.candidates (0 + length c.candidates) (by_fullness c)
  in_order =
      sized c.usages c.candidates c.candidates [] 0 candidates_apart (none_held c.usages c.candidates)
      (all_there c.candidates c.candidates (λ d among. among)) (record { long = refl; there = tt })

  pub chosen_taken : AreTaken e begun end many last at_first (chosen many c)
  chosen_taken = record {
    candidates = c.candidates;
    are = are;
    apart = chosen_apart many c;
    each = each (take many (by_fullness c)) (all_take (IsThere c.usages c.candidates) many (by_fullness c) in_order.there);
    length_is = length_mapped segment_at (take many (by_fullness c)) ∙ (length_taken many (by_fullness c) ∙ ap (min many) (in_order.long ∙ none (length c.candidates)));
  }
    where
      none : (n : ℕ) → 0 + n ≡ n
      none n = omega arith

      each : (es : List (Fullness × ℕ)) → AllByRecursion (IsThere c.usages c.candidates) es
          → AllByRecursion (λ (s : SegRef). In (s.name, s.group) c.candidates) (map segment_at es)
      each [] all = tt
      each (x ∷ es) all = (all.0, each es all.1)
