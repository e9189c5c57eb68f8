use Rattle.std.proofs.Common.{◌≡◌, ◌+◌, ◌++◌, ◌-◌, map}
use Rattle.std.specs.List.{range_with_len}
use Rattle.xfs_base.specs.Limits.{block_logs}
use Rattle.takeover.specs.Reports.{applied_at, applied_of}
use Rattle.takeover.proofs.report.applied_of.Given as goal

-- the numbers so far and those to come are all
abbrev pub invariant-loop-log : goal.invariant-loop-log
invariant-loop-log l = l.applied ++ map (applied_at l.horizon l.reports) (range_with_len l.log (block_logs + 1 - l.log)) ≡ applied_of l.horizon l.reports
