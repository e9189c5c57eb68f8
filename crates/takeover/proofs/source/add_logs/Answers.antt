use Rattle.std.proofs.Common.{◌+◌, ◌∙◌}
use Rattle.xfs_base.specs.Limits.{block_logs}
use Rattle.takeover.specs.Sources.{log_sources}
use Rattle.takeover.proofs.Loops.{flat_step}
use Rattle.takeover.proofs.source.add_logs.Goals as goal

pub loop-log-preserved : goal.loop-log-preserved
loop-log-preserved c =
    flat_step (log_sources c.args.horizon.now c.args.reports.now) c.loop-log.sources.items _ c.loop-log.log (block_logs + 1) c.loop-log-test.true c.in_ok-add_log.ensures
    ∙ c.loop-log.invariant
