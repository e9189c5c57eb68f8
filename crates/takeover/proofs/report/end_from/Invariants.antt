use Rattle.std.proofs.Common.{◌≡◌, drop}
use Rattle.takeover.specs.Reports.{end_from}
use Rattle.takeover.proofs.report.end_from.Given as goal

-- the node is in none of the reports so far
abbrev pub invariant-loop-report : goal.invariant-loop-report
invariant-loop-report l = end_from l.node (drop l.report-index l.reports) ≡ end_from l.node l.reports
