-- The gathering of usages, and the order in which segments are emptied: those with the fewest live blocks first (the 1996
-- paper, "The Log Cleaner").
use Rattle.std.specs.Prelude.{ℕ, Bool, List, [], not, is_some, unwrap_or, map, filter, fold, sum_by, take}
use Rattle.std.specs.declared.cmp.Ordering.{Ordering}
use Rattle.std.specs.Ordering.{nat_cmp, ordering_then}
use Rattle.std.specs.List.{list_all}
use Rattle.std.specs.Map.{lookup}
use Rattle.std.specs.BTreeMap.{is_at, insert_entry}
use Rattle.group_map.specs.GroupMapState.{GroupMapState}
use Rattle.usage_table.specs.Counts.{count_of}
use Rattle.xfs_base.specs.declared.segment.SegName.{SegName}
use Rattle.xfs_base.specs.declared.segment.SegRef.{SegRef}
use Rattle.xfs_base.specs.Segments.{seg_cmp}
use Rattle.stripe_cleaner.specs.declared.counting.Fullness.{Fullness}
pub use Rattle.xfs_base.specs.Limits.{all_slots}

pub record CountingState : Type 0 where
  pub groups : GroupMapState
  -- the candidates, each with its group, by name
  pub candidates : List (SegName × ℕ)
  -- by slot, the counts that are in
  pub usages : List (ℕ × List (SegName × ℕ))

abbrev pub has_usage : List (ℕ × List (SegName × ℕ)) → ℕ → Bool
has_usage usages slot = is_some (lookup (is_at (nat_cmp slot)) usages)

-- whether the counts of all slots are in
abbrev pub is_counted : List (ℕ × List (SegName × ℕ)) → Bool
is_counted usages = list_all (has_usage usages) all_slots

abbrev pub awaited_among : List (ℕ × List (SegName × ℕ)) → List ℕ → List ℕ
awaited_among usages slots = filter (λ slot. not (has_usage usages slot)) slots

-- the slots whose counts are not in, in order
abbrev pub awaited_slots : List (ℕ × List (SegName × ℕ)) → List ℕ
awaited_slots usages = awaited_among usages all_slots

-- the live blocks of a segment in a slot
abbrev pub live_in : List (ℕ × List (SegName × ℕ)) → SegName → ℕ → ℕ
live_in usages name slot = count_of (unwrap_or (lookup (is_at (nat_cmp slot)) usages) []) name

abbrev pub live_among : List (ℕ × List (SegName × ℕ)) → SegName → List ℕ → ℕ
live_among usages name slots = sum_by (live_in usages name) slots

-- the live blocks of a segment in all slots
abbrev pub live_count : List (ℕ × List (SegName × ℕ)) → SegName → ℕ
live_count usages name = live_among usages name all_slots

-- by live count, then log, number and pass
abbrev pub fullness_cmp : Fullness → Fullness → Ordering
fullness_cmp a b = ordering_then (nat_cmp a.live b.live) (seg_cmp a.name b.name)

abbrev pub fullness_of : List (ℕ × List (SegName × ℕ)) → SegName → Fullness
fullness_of usages name = record { live = live_count usages name; name = name }

abbrev pub by_fullness_with_one : List (ℕ × List (SegName × ℕ)) → List (Fullness × ℕ) → SegName × ℕ → List (Fullness × ℕ)
by_fullness_with_one usages by_fullness e = insert_entry fullness_cmp by_fullness (fullness_of usages e.0) e.1

-- the candidates, each with its group, the least full first
abbrev pub by_fullness : CountingState → List (Fullness × ℕ)
by_fullness c = fold (by_fullness_with_one c.usages) [] c.candidates

abbrev pub segment_at : Fullness × ℕ → SegRef
segment_at e = record { name = e.0.name; group = e.1 }

-- the candidates that are least full, so many, in order
abbrev pub chosen : ℕ → CountingState → List SegRef
chosen count c = map segment_at (take count (by_fullness c))
