use Rattle.std.proofs.Common.{◌≡◌, ◌++◌, drop}
use Rattle.run_chart.specs.Marks.{out_from}
use Rattle.run_chart.proofs.mark.add_out.Given as goal

abbrev pub invariant-loop-column : goal.invariant-loop-column
invariant-loop-column l = l.marks ++ out_from l.number l.column (drop l.column l.serving) ≡ l.fn.marks ++ out_from l.number 0 l.serving
