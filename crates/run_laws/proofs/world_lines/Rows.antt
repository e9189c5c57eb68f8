-- What a segment that has a text says of blocks fits its types.
use Rattle.std.proofs.Common.{List, [], ◌∷◌}
use Rattle.std.specs.List.{AllByRecursion, filter_map}
use Rattle.node_slots.specs.node_index_tie.Sight.{RowsFit}
use Rattle.segment_format.specs.Ranges.{Fits, FitsItem}
use Rattle.segment_format.specs.Rows.{row_of, rows_of}
use Rattle.segment_format.specs.declared.segment.Item.{Item}
use Rattle.segment_format.specs.declared.segment.Item.TheVariants.{Block, Delta, Part}
use Rattle.segment_format.specs.declared.segment.Segment.{Segment}

items_fit : (s : Segment) (items : List Item) → AllByRecursion FitsItem items → RowsFit (filter_map (row_of s) items)
items_fit s [] all = tt
items_fit s (Block block value ∷ items) all = items_fit s items all.1
items_fit s (Delta block ver hop item ∷ items) all = (all.0.0.1, items_fit s items all.1)
items_fit s (Part slot rows ∷ items) all = items_fit s items all.1

pub rows_fit : (s : Segment) → Fits s → RowsFit (rows_of s)
rows_fit s fits = items_fit s s.items fits.items
