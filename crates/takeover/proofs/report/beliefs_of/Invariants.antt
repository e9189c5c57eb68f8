use Rattle.std.proofs.Common.{◌≡◌, ◌++◌, drop}
use Rattle.takeover.specs.Reports.{beliefs_of}
use Rattle.takeover.proofs.report.beliefs_of.Given as goal

-- the beliefs so far and those to come are all
abbrev pub invariant-loop-report : goal.invariant-loop-report
invariant-loop-report l = l.beliefs ++ beliefs_of (drop l.report-index l.reports) ≡ beliefs_of l.reports
