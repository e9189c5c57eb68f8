use Rattle.std.proofs.Common.{◌+◌, ◌++◌, [], ◌∷◌, ap, ◌∙◌}
use Rattle.xfs_base.specs.Limits.{block_logs}
use Rattle.takeover.specs.Reports.{applied_at, applied_of}
use Rattle.takeover.proofs.Loops.{map_step}
use Rattle.takeover.proofs.report.applied_of.Goals as goal

pub loop-log-preserved : goal.loop-log-preserved
unfolding applied_of
loop-log-preserved c =
    map_step (applied_at c.args.horizon.now c.args.reports.now) c.loop-log.applied _ c.loop-log.log (block_logs + 1) c.loop-log-test.true
    (c.in_ok-push.ensures.ok ∙ ap (λ n. c.loop-log.applied ++ n ∷ []) c.applied_at.ensures)
    ∙ c.loop-log.invariant
