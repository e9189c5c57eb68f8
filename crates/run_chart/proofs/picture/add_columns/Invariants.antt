use Rattle.std.proofs.Common.{◌≡◌, ◌++◌, ◌-◌}
use Rattle.std.specs.List.{flat_map, range_with_len}
use Rattle.run_chart.specs.Drawing.{column_text, columns_text}
use Rattle.run_chart.proofs.picture.add_columns.Given as goal

abbrev pub invariant-loop-column : goal.invariant-loop-column
invariant-loop-column l = l.out ++ flat_map (column_text l.cluster l.rows) (range_with_len l.column (l.column-end - l.column)) ≡ l.fn.out ++ columns_text l.cluster l.boards l.rows
