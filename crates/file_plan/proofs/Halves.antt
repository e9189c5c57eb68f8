-- A name among entries in rising order: those before it come first, and the next one alone can be its own.
use Rattle.std.proofs.Common.{◌≡◌, ℕ, zero, suc, ◌<◌, ◌≤◌, true, false, cond, List, [], ◌∷◌, length, take, drop, Option, Some, None, refl, sym, ap, ◌∙◌, arith}
use Rattle.std.specs.Prelude.{T, slice_index_or}
use Rattle.std.specs.FinMap.Entries.{is_sorted, below_all}
use Rattle.std.specs.List.{AllWithin}
use Rattle.std.specs.List.Sorted.{IsPartitionedBy}
use Rattle.std.specs.Ordering.{is_eq, is_gt, is_lt, ordering_reverse}
use Rattle.std.specs.declared.cmp.Ordering.{Ordering}
use Rattle.std.specs.declared.cmp.Ordering.TheVariants.{Less, Equal, Greater}
use Rattle.file_plan.specs.declared.node.Node.{Node}
use Rattle.file_plan.specs.Names.{Name, Row, name_cmp, named}
use Rattle.file_plan.proofs.Buckets.{name_total, is_T, first, second, none_below}
use Rattle.file_plan.proofs.Merging.{higher}
use Rattle.file_plan.proofs.RowPlaces.{less_all}

-- ---- those before a name come first

below_at : (x : Name) (rows : List Row) (j : ℕ) (d : Row) → j < length rows → T (below_all name_cmp x rows) → name_cmp x (slice_index_or rows j d).0 ≡ Less
below_at x [] j d h below = absurd (omega (arith, h))
below_at x (row ∷ rows) zero d h below = by (name_cmp x row.0) (first (is_lt (name_cmp x row.0)) (below_all name_cmp x rows) below)
  where
    by : (o : Ordering) → T (is_lt o) → o ≡ Less
    by Less h = refl
    by Equal h = absurd h
    by Greater h = absurd h
below_at x (row ∷ rows) (suc j) d h below = below_at x rows j d (omega (arith, h)) (second (is_lt (name_cmp x row.0)) (below_all name_cmp x rows) below)

past_lower : (name x y : Name) → name_cmp x y ≡ Less → is_gt (name_cmp name y) ≡ true → is_gt (name_cmp name x) ≡ true
past_lower name x y less past =
    let up : name_cmp y name ≡ Less = higher name y (greater (name_cmp name y) past) in
    ap is_gt (name_total.antisymm name x ∙ ap ordering_reverse (name_total.trans x y name less up))
  where
    greater : (o : Ordering) → is_gt o ≡ true → o ≡ Greater
    greater Less h = let e : false ≡ true = h in cc
    greater Equal h = let e : false ≡ true = h in cc
    greater Greater h = refl

parted : (name : Name) (rows : List Row) → T (is_sorted name_cmp rows) → IsPartitionedBy (λ (row : Row). is_gt (name_cmp name row.0)) rows
parted name [] rising i j d le h past = absurd (omega (arith, h))
parted name (row ∷ rows) rising zero zero d le h past = past
parted name (row ∷ rows) rising zero (suc j) d le h past =
    let less = below_at row.0 rows j d (omega (arith, h)) (first (below_all name_cmp row.0 rows) (is_sorted name_cmp rows) rising) in
    past_lower name row.0 (slice_index_or rows j d).0 less past
parted name (row ∷ rows) rising (suc i) zero d le h past = absurd (omega (arith, le))
parted name (row ∷ rows) rising (suc i) (suc j) d le h past =
    parted name rows (second (below_all name_cmp row.0 rows) (is_sorted name_cmp rows) rising) i j d (omega (arith, le)) (omega (arith, h)) past

pub past_before : (name : Name) (rows : List Row) → is_sorted name_cmp rows ≡ true → IsPartitionedBy (λ (row : Row). is_gt (name_cmp name row.0)) rows
past_before name rows rising = parted name rows (is_T (is_sorted name_cmp rows) rising)

-- ---- the next one alone can be its own

at_front : (name : Name) (row : Row) (rows : List Row) (o : Ordering) → name_cmp name row.0 ≡ o → T (below_all name_cmp row.0 rows) → is_gt o ≡ false
    → cond (is_eq o) (Some row.1) None ≡ cond (is_eq o) (Some row.1) (named name rows)
at_front name row rows Less e below h = sym (none_below name name rows refl (less_all name row.0 rows e below))
at_front name row rows Equal e below h = refl
at_front name row rows Greater e below h = let f : true ≡ false = h in cc

passed_by : (row : Row) (rest : Option Node) (o : Ordering) → is_gt o ≡ true → rest ≡ cond (is_eq o) (Some row.1) rest
passed_by row rest Less h = refl
passed_by row rest Equal h = let e : false ≡ true = h in cc
passed_by row rest Greater h = refl

from_place : (name : Name) (rows : List Row) (i : ℕ) → T (is_sorted name_cmp rows) → i ≤ length rows
    → AllWithin (λ (row : Row). is_gt (name_cmp name row.0) ≡ true) rows 0 i
    → AllWithin (λ (row : Row). is_gt (name_cmp name row.0) ≡ false) rows i (length rows)
    → named name (take 1 (drop i rows)) ≡ named name rows
from_place name [] zero rising le before after = refl
from_place name [] (suc i) rising le before after = absurd (omega (arith, le))
from_place name (row ∷ rows) zero rising le before after =
    at_front name row rows (name_cmp name row.0) refl (first (below_all name_cmp row.0 rows) (is_sorted name_cmp rows) rising)
    (after zero row (omega arith) (omega arith))
from_place name (row ∷ rows) (suc i) rising le before after =
    from_place name rows i (second (below_all name_cmp row.0 rows) (is_sorted name_cmp rows) rising) (omega (arith, le))
    (λ k d low high. before (suc k) d (omega arith) (omega (arith, high)))
    (λ k d low high. after (suc k) d (omega (arith, low)) (omega (arith, high)))
    ∙ passed_by row (named name rows) (name_cmp name row.0) (before zero row (omega arith) (omega arith))

pub halves : (name : Name) (rows : List Row) (i : ℕ) → is_sorted name_cmp rows ≡ true → i ≤ length rows
    → AllWithin (λ (row : Row). is_gt (name_cmp name row.0) ≡ true) rows 0 i
    → AllWithin (λ (row : Row). is_gt (name_cmp name row.0) ≡ false) rows i (length rows)
    → named name (take 1 (drop i rows)) ≡ named name rows
halves name rows i rising = from_place name rows i (is_T (is_sorted name_cmp rows) rising)
