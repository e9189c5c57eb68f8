use Rattle.std.proofs.Common.{◌∙◌}
use Rattle.version_model.proofs.ShownChanges.{falls_more}
use Rattle.version_model.proofs.histories.settle_falls.Goals as goal

pub loop-fall-preserved : goal.loop-fall-preserved
loop-fall-preserved c = falls_more _ _ _ _ _ _ _ c.loop-fall-test.true c.falls_to.ensures c.in_ok-cut_block.ensures ∙ c.loop-fall.invariant
