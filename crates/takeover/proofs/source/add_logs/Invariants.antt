use Rattle.std.proofs.Common.{◌≡◌, ◌+◌, ◌++◌, ◌-◌}
use Rattle.std.specs.List.{flat_map, range_with_len}
use Rattle.xfs_base.specs.Limits.{block_logs}
use Rattle.takeover.specs.Sources.{log_sources}
use Rattle.takeover.proofs.source.add_logs.Given as goal

-- the sources so far and those to come are all
abbrev pub invariant-loop-log : goal.invariant-loop-log
invariant-loop-log l =
    l.sources.items ++ flat_map (log_sources l.horizon l.reports) (range_with_len l.log (block_logs + 1 - l.log)) ≡ l.initial.sources.items
    ++ flat_map (log_sources l.horizon l.reports) (range_with_len 1 block_logs)
