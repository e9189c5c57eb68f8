-- What a segment tells of a slot's blocks.
use Rattle.std.specs.Prelude.{ℕ, ◌==◌, Bool, List, [], ◌++◌, filter, if◌then◌else◌}
use Rattle.std.specs.List.{flat_map}
use Rattle.xfs_base.specs.Blocks.{slot_of}
use Rattle.xfs_base.specs.declared.block.BlockId.{BlockId}
use Rattle.xfs_base.specs.declared.entry.Entry.{Entry}
use Rattle.segment_format.specs.Rows.{rows_of}
use Rattle.segment_format.specs.declared.segment.Item.{Item}
use Rattle.segment_format.specs.declared.segment.Item.TheVariants.{Block, Delta, Part}
use Rattle.segment_format.specs.declared.segment.Segment.{Segment}

-- a row of a block of the slot
abbrev pub is_of : ℕ → BlockId × Entry → Bool
is_of slot row = slot_of row.0.ino.0 == slot

-- the rows of a Part of the slot
abbrev pub part_rows : ℕ → Item → List (BlockId × Entry)
part_rows slot (Block block value) = []
part_rows slot (Delta block ver hop item) = []
part_rows slot (Part of rows) = if of == slot then rows else []

-- the rows of its Parts of the slot, and its Deltas of the slot's blocks
abbrev pub told_of : ℕ → Segment → List (BlockId × Entry)
told_of slot s = flat_map (part_rows slot) s.items ++ filter (is_of slot) (rows_of s)
