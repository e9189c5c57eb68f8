use Rattle.std.proofs.Common.{◌≡◌, ◌++◌, take}
use Rattle.std.specs.List.{flat_map}
use Rattle.segment_format.specs.Text.{row_text}
use Rattle.segment_format.proofs.encoding.put_rows.Given as goal

abbrev pub invariant-loop-row : goal.invariant-loop-row
invariant-loop-row l = l.out ≡ l.fn.out ++ flat_map row_text (take l.row-index l.rows)
