use Rattle.std.proofs.Common.{◌≡◌, ◌≤◌, ◌+◌, drop}
use Rattle.std.specs.List.{count_by}
use Rattle.run_chart.specs.Rows.{is_before}
use Rattle.run_chart.proofs.row.count_before.Given as goal

abbrev pub invariant-loop-line : goal.invariant-loop-line
invariant-loop-line l = (l.count + count_by (is_before l.number) (drop l.line-index l.lines) ≡ count_by (is_before l.number) l.lines) × (l.count ≤ l.line-index)
