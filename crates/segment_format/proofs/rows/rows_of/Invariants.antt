use Rattle.std.proofs.Common.{◌≡◌, ◌++◌, drop}
use Rattle.std.specs.List.{filter_map}
use Rattle.segment_format.specs.Rows.{row_of}
use Rattle.segment_format.proofs.rows.rows_of.Given as goal

-- the rows so far and those of the items to come are all
abbrev pub invariant-loop-item : goal.invariant-loop-item
invariant-loop-item l = l.rows ++ filter_map (row_of l.segment) (drop l.item-index l.item-items) ≡ filter_map (row_of l.segment) l.item-items
