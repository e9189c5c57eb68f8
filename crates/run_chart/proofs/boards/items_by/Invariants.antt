use Rattle.std.proofs.Common.{◌≡◌, ◌++◌, drop}
use Rattle.run_chart.specs.Boards.{items_by}
use Rattle.run_chart.proofs.boards.items_by.Given as goal

abbrev pub invariant-loop-place : goal.invariant-loop-place
invariant-loop-place l = l.items ++ items_by l.own l.place (drop l.place l.lines) ≡ items_by l.own 0 l.lines
