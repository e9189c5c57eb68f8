-- Where the blocks of a slot lie, and how many of them live in each segment.
use Rattle.std.specs.Prelude.{◌≡◌, ℕ, ◌+◌, ◌-◌, ◌^◌, ◌<◌, Bool, true, nat_le, List, [], ◌∷◌, Option, Some, None, if◌then◌else◌}
use Rattle.std.specs.List.{list_all}
use Rattle.std.specs.List.Sorted.{IsStrictlySortedBy}
use Rattle.std.specs.Map.{keys_of}
use Rattle.xfs_base.specs.Blocks.{block_cmp}
use Rattle.xfs_base.specs.declared.block.BlockId.{BlockId}
use Rattle.xfs_base.specs.declared.entry.Entry.{Entry}
use Rattle.xfs_base.specs.declared.entry.Place.{Place}
use Rattle.xfs_base.specs.declared.segment.SegName.{SegName}
use Rattle.xfs_base.specs.Limits.{u32_end}
use Rattle.delta_index.specs.Entries.{is_newer}
use Rattle.delta_index.specs.Index.{entry_of, merged}
use Rattle.usage_table.specs.Counts.{IsTable, count_of, blocks_at, usage_shift}
use Rattle.index_pages.specs.declared.layout.Page.{Page}
use Rattle.index_pages.specs.Pages.{PagesState, pages_merge, pages_clean}

pub record Indexed : Type 0 where
  -- what the index holds of each block, by block
  pub rows : List (BlockId × Entry)
  -- the live blocks of each segment, by segment
  pub usage : List (SegName × ℕ)
  -- the number of each page, by its first block
  pub numbers : List (BlockId × ℕ)
  -- the pages, in order of number
  pub pages : List Page

-- the index of nothing
abbrev pub block_index_new : Indexed
block_index_new = record { rows = []; usage = []; numbers = []; pages = [] }

-- the pages of an index
abbrev pub pages_of : Indexed → PagesState
pages_of i = record { rows = i.rows; numbers = i.numbers; pages = i.pages }

-- from here on no page of the index has changed
abbrev pub block_index_clean : Indexed → Indexed
block_index_clean i = record i { pages = (pages_clean (pages_of i)).pages }

-- the segment of a place
abbrev pub segment_at : Option Place → Option SegName
segment_at None = None
segment_at (Some place) = Some place.seg.name

-- the segment in which an entry's version lies, if it lies in one
abbrev pub segment_of : Entry → Option SegName
segment_of entry = segment_at entry.place

-- how many of these rows lie in a segment: the count from scratch
abbrev pub live_in : SegName → List (BlockId × Entry) → ℕ
live_in seg [] = 0
live_in seg (m ∷ ms) = blocks_at (segment_of m.1) seg + live_in seg ms

-- the counts once a block that lay in one segment lies in the other, where its entry was taken
abbrev pub moved : Bool → List (SegName × ℕ) → Option SegName → Option SegName → List (SegName × ℕ)
moved taken usage from to = if taken then usage_shift usage from to else usage

-- one entry is merged, the counts follow, and the page of an entry that is taken has changed
unfoldable pub block_index_merge : Indexed → BlockId × Entry → Indexed
block_index_merge i m = record {
  rows = merged i.rows m.0 m.1;
  usage = moved (is_newer m.1 (entry_of i.rows m.0)) i.usage (segment_of (entry_of i.rows m.0)) (segment_of m.1);
  numbers = (pages_merge (pages_of i) m.0 m.1).numbers;
  pages = (pages_merge (pages_of i) m.0 m.1).pages;
}

-- all of these are merged, in their order
abbrev pub merge_all : Indexed → List (BlockId × Entry) → Indexed
merge_all i [] = i
merge_all i (m ∷ ms) = merge_all (block_index_merge i m) ms

-- whether a count can rise by so many
abbrev pub can_rise : ℕ → List (SegName × ℕ) → Option SegName → Bool
can_rise more usage None = true
can_rise more usage (Some seg) = nat_le more (u32_end - count_of usage seg)

-- whether each segment of these rows can get as many live blocks more as there are rows
abbrev pub has_room : ℕ → List (SegName × ℕ) → List (BlockId × Entry) → Bool
has_room more usage rows = list_all (λ m. can_rise more usage (segment_of m.1)) rows

-- each segment of these rows can get a live block more for each row that lies in it
abbrev pub Fits : List (SegName × ℕ) → List (BlockId × Entry) → Type 0
Fits usage rows = (seg : SegName) → 0 < live_in seg rows → count_of usage seg + live_in seg rows < 2 ^ 32

-- the rows and the counts stand in order, and the count of each segment is the count from scratch over
-- the places of the rows
pub record IsCounted (i : Indexed) : Type 0 where
  pub sorted : IsStrictlySortedBy block_cmp (keys_of i.rows)
  pub table : IsTable i.usage
  pub counted : (seg : SegName) → count_of i.usage seg ≡ live_in seg i.rows
