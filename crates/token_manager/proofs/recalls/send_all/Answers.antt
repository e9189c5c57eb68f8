-- The recalls of one want are sent, and those of the others are left.
use Rattle.std.proofs.Common.{◌++◌, List, sym, ap, ◌∙◌, append_assoc}
use Rattle.xfs_base.specs.declared.block.BlockId.{BlockId}
use Rattle.slot_beliefs.specs.declared.job.Job.{Job}
use Rattle.token_manager.specs.Recalls.{send_recalls, send_all}
use Rattle.token_manager.proofs.recalls.send_all.Goals as goal

pub loop-block-preserved : goal.loop-block-preserved
loop-block-preserved c =
    let rest : List (BlockId × Job) = c.next.new.self in
    let outs = c.loop-block.outs in
    let block = c.in-Some.block.now in
    ap (λ now. now ++ send_all rest) (c.in_ok-send_recalls.ensures ∙ ap (λ awaited. outs ++ send_recalls block awaited) c.as_slice.ensures)
    ∙ append_assoc outs (send_recalls block c.in-Some.job.now.awaited) (send_all rest)
    ∙ ap (λ jobs. outs ++ send_all jobs) (sym c.in-Some.ensures.steps)
    ∙ c.loop-block.invariant
