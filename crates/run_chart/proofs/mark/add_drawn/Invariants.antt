use Rattle.std.proofs.Common.{◌≡◌, ◌++◌, drop}
use Rattle.std.specs.List.{flat_map}
use Rattle.run_chart.specs.Marks.{drawn_by}
use Rattle.run_chart.specs.Moments.{is_there, row_found}
use Rattle.run_chart.proofs.mark.add_drawn.Given as goal

abbrev pub invariant-loop-row : goal.invariant-loop-row
invariant-loop-row l =
    let one = drawn_by (row_found l.first) (is_there l.coming) l.estate in
    l.marks ++ flat_map one (drop l.row-index l.rows) ≡ l.fn.marks ++ flat_map one l.rows
