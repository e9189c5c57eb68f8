-- What a segment says of a block, as the small world of tokens has it, a version and a value, and as that of the index has it, a version and where it lies.
use Rattle.std.specs.Prelude.{◌≡◌, ◌<◌, ◌≤◌, ℕ, List, Option, Some, None, Contains, length}
use Rattle.std.specs.List.{AllByRecursion}
use Rattle.client_call.specs.Reads.{value_at}
use Rattle.index_tie.specs.Growth.{said_of}
use Rattle.node_slots.specs.node_tie.LogRows.{rows_told}
use Rattle.segment_format.specs.Rows.{rows_of}
use Rattle.segment_format.specs.Rule.{no_item}
use Rattle.segment_format.specs.declared.segment.Segment.{Segment}
use Rattle.token_law.specs.Books.{Row, AreOnce, row_in}
use Rattle.xfs_base.specs.declared.block.BlockId.{BlockId}
use Rattle.xfs_base.specs.declared.entry.Entry.{Entry}
use Rattle.xfs_base.specs.declared.entry.Place.{Place}

-- No block's Delta stands in the segment twice, and none of its items has the number that stands for no item.
pub record IsPlain (s : Segment) : Type 0 where
  pub once : AreOnce (rows_told s.items)
  pub few : length s.items ≤ no_item

-- its Deltas are of versions from 1 on
abbrev pub AreVersioned : Segment → Type 0
AreVersioned s = AllByRecursion (λ row. 0 < row.1.ver) (rows_of s)

-- the place is of an item of the segment that has this value
pub record LiesIn (s : Segment) (value : Option (List ℕ)) (place : Place) : Type 0 where
  pub name : place.seg.name ≡ s.name
  pub group : place.seg.group ≡ s.group
  pub item : value ≡ value_at s place.item

-- A row and an entry say the same of a block: one version, and where the entry lies in the segment there is the row's value; where it lies nowhere, that is
-- absent.
pub record SaysSame (s : Segment) (row : Row) (entry : Entry) : Type 0 where
  pub version : row.version ≡ entry.ver
  pub absent : entry.place ≡ None → row.value ≡ None
  pub place : (place : Place) → entry.place ≡ Some place → LiesIn s row.value place

-- each Delta of the segment is what it says of the Delta's block
abbrev pub DeltasAreSaid : Type 0
DeltasAreSaid = (s : Segment) (b : BlockId) (e : Entry) → IsPlain s → AreVersioned s → Contains (rows_of s) (b, e) → said_of s b ≡ e

-- What a segment says of a block to the one small world it says to the other.
abbrev pub RowsAreEntries : Type 0
RowsAreEntries = (s : Segment) (b : BlockId) → IsPlain s → AreVersioned s → SaysSame s (row_in (rows_told s.items) b) (said_of s b)
