use Rattle.std.proofs.Common.{◌≡◌, ◌++◌, drop}
use Rattle.run_chart.specs.Charts.{items_from}
use Rattle.run_chart.proofs.charting.items_of.Given as goal

abbrev pub invariant-loop-place : goal.invariant-loop-place
invariant-loop-place l = l.items ++ items_from l.place (drop l.place l.lines) ≡ items_from 0 l.lines
