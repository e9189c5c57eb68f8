-- How many live blocks each segment has: the counts above 0, by segment.
use Rattle.std.specs.Prelude.{ℕ, ◌+◌, ◌-◌, ◌<◌, Bool, false, if◌then◌else◌, nat_lt, List, Option, Some, None, All, unwrap_or}
use Rattle.std.specs.Map.{lookup, keys_of, values_of, remove_entry, set_value}
use Rattle.std.specs.BTreeMap.{is_at, insert_entry}
use Rattle.std.specs.List.Sorted.{IsStrictlySortedBy}
use Rattle.xfs_base.specs.declared.segment.SegName.{SegName}
use Rattle.xfs_base.specs.Segments.{seg_cmp, same_name}

-- the segments stand in order, each once, and none of them with 0
pub record IsTable (counts : List (SegName × ℕ)) : Type 0 where
  pub sorted : IsStrictlySortedBy seg_cmp (keys_of counts)
  pub above_0 : All (λ count. 0 < count) (values_of counts)

-- the live blocks of a segment: 0 where it isn't listed
abbrev pub count_of : List (SegName × ℕ) → SegName → ℕ
count_of counts seg = unwrap_or (lookup (is_at (seg_cmp seg)) counts) 0

-- whether both ends of a shift are one segment
abbrev pub is_same : Option SegName → Option SegName → Bool
is_same None to = false
is_same (Some from) None = false
is_same (Some from) (Some to) = same_name from to

-- how many blocks a shift moves at this segment by this end: 1 where the end is the segment, else 0
abbrev pub blocks_at : Option SegName → SegName → ℕ
blocks_at None seg = 0
blocks_at (Some end) seg = if same_name seg end then 1 else 0

-- the counts with one live block more for this segment, if it is one
abbrev pub usage_give : List (SegName × ℕ) → Option SegName → List (SegName × ℕ)
usage_give counts None = counts
usage_give counts (Some seg) = insert_entry seg_cmp counts seg (count_of counts seg + 1)

-- the counts with one live block less for this segment; one that has none left isn't listed
abbrev pub usage_take : List (SegName × ℕ) → Option SegName → List (SegName × ℕ)
usage_take counts None = counts
usage_take counts (Some seg) =
    if nat_lt 1 (count_of counts seg)
    then set_value (is_at (seg_cmp seg)) counts (count_of counts seg - 1)
    else remove_entry (is_at (seg_cmp seg)) counts

-- the counts once one live block has left one segment and come to the other
unfoldable pub usage_shift : List (SegName × ℕ) → Option SegName → Option SegName → List (SegName × ℕ)
usage_shift counts from to = if is_same from to then counts else usage_take (usage_give counts to) from
