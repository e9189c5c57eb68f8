-- What a segment tells of blocks once it is settled.
use Rattle.std.specs.Prelude.{ℕ, ◌==◌, List, Option, Some, None, if◌then◌else◌}
use Rattle.std.specs.List.{filter_map}
use Rattle.xfs_base.specs.declared.block.BlockId.{BlockId}
use Rattle.xfs_base.specs.declared.entry.Entry.{Entry}
use Rattle.xfs_base.specs.declared.entry.Place.{Place}
use Rattle.segment_format.specs.declared.segment.Item.{Item}
use Rattle.segment_format.specs.declared.segment.Item.TheVariants.{Block, Delta, Part}
use Rattle.segment_format.specs.declared.segment.Segment.{Segment}
use Rattle.segment_format.specs.Rule.{no_item}

-- where the version of a Delta of the segment lies; nowhere where it is absent
abbrev pub place_of : Segment → ℕ → Option Place
place_of s item = if item == no_item then None else Some (record { seg = record { name = s.name; group = s.group }; item = item })

-- what an item of a settled segment tells of a block
abbrev pub row_of : Segment → Item → Option (BlockId × Entry)
row_of s (Block block value) = None
row_of s (Delta block ver hop item) = Some (block, record { ver = ver; hop = hop; place = place_of s item })
row_of s (Part slot rows) = None

-- what a settled segment tells of blocks: its Deltas
abbrev pub rows_of : Segment → List (BlockId × Entry)
rows_of s = filter_map (row_of s) s.items
