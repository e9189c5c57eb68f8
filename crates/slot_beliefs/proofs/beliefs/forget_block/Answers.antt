-- A belief about the block that goes leaves those about other blocks.
use Rattle.std.proofs.Common.{◌∙◌, ap}
use Rattle.slot_beliefs.specs.Beliefs.{forget_block}
use Rattle.slot_beliefs.proofs.Together.{without_removed}
use Rattle.slot_beliefs.proofs.beliefs.forget_block.Goals as goal

pub loop-holder-preserved : goal.loop-holder-preserved
loop-holder-preserved c =
    let here = c.in-Some.ensures.found.0 in
    ap (λ es. forget_block es c.args.block) c.remove.ensures.entries ∙ without_removed c.in-Some.holder c.args.block c.loop-holder.beliefs.entries here
    ∙ c.loop-holder.invariant
