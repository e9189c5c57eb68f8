use Rattle.std.proofs.Common.{◌∙◌}
use Rattle.node_base.specs.Nodes.{nth_manager}
use Rattle.node_base.proofs.Ranges.{map_step}
use Rattle.node_base.proofs.peers.add_managers.Goals as goal

pub loop-before-preserved : goal.loop-before-preserved
loop-before-preserved c =
    map_step nth_manager c.loop-before.nodes _ c.loop-before.before c.args.count c.loop-before-test.true c.in_ok-push.ensures.ok ∙ c.loop-before.invariant
