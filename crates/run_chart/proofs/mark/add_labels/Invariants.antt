use Rattle.std.proofs.Common.{◌≡◌, ◌++◌, drop}
use Rattle.run_chart.specs.Marks.{labels_of}
use Rattle.run_chart.proofs.mark.add_labels.Given as goal

abbrev pub invariant-loop-row : goal.invariant-loop-row
invariant-loop-row l = l.marks ++ labels_of (drop l.row-index l.rows) ≡ l.fn.marks ++ labels_of l.rows
