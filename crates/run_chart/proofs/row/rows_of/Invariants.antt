use Rattle.std.proofs.Common.{◌≡◌, drop}
use Rattle.run_chart.specs.Rows.{at_first, with_events}
use Rattle.run_chart.proofs.row.rows_of.Given as goal

abbrev pub invariant-loop-place : goal.invariant-loop-place
invariant-loop-place l = with_events l.span l.walk l.place (drop l.place l.events) ≡ with_events l.span (at_first l.script) 0 l.events
