use Rattle.std.proofs.Common.{arith}
use Rattle.xfs_base.proofs.StepLoops.{state_more, outs_more}
use Rattle.token_manager.specs.Transition.{finish_job}
use Rattle.token_manager.proofs.slot.Slot.finish_jobs.Goals as goal

pub loop-block-preserved : goal.loop-block-preserved
loop-block-preserved c =
    let e = c.in_ok-finish_job.ensures in
    record {
      room = omega arith;
      state = state_more finish_job c.args.blocks.now c.loop-block.block-index _ _ _ e.state c.loop-block-test.true _ c.loop-block.invariant.state;
      outs = outs_more finish_job c.args.blocks.now c.loop-block.block-index _ _ _ e.state c.loop-block-test.true _ _ _ e.outs c.loop-block.invariant.outs;
    }
