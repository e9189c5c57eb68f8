use Rattle.std.proofs.Common.{◌≡◌, ◌++◌, drop}
use Rattle.std.specs.List.{flat_map}
use Rattle.takeover.specs.Rows.{part_rows}
use Rattle.takeover.proofs.rows.add_parts.Given as goal

-- the rows so far and those to come are all
abbrev pub invariant-loop-item : goal.invariant-loop-item
invariant-loop-item l = l.rows ++ flat_map (part_rows l.slot) (drop l.item-index l.items) ≡ l.initial.rows ++ flat_map (part_rows l.slot) l.items
