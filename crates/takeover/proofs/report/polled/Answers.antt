use Rattle.std.proofs.Common.{◌∙◌}
use Rattle.takeover.specs.Reports.{client_after}
use Rattle.takeover.proofs.Loops.{map_step}
use Rattle.takeover.proofs.report.polled.Goals as goal

pub loop-before-preserved : goal.loop-before-preserved
loop-before-preserved c =
    map_step client_after c.loop-before.nodes _ c.loop-before.before c.args.clients c.loop-before-test.true c.in_ok-push.ensures.ok ∙ c.loop-before.invariant
