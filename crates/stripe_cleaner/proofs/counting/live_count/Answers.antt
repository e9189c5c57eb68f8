use Rattle.std.proofs.Common.{◌+◌, drop, sym, ap, ◌∙◌, arith}
use Rattle.std.specs.Prelude.{fold}
use Rattle.stripe_cleaner.specs.Counting.{live_in}
use Rattle.stripe_cleaner.proofs.Loops.{live_step}
use Rattle.stripe_cleaner.proofs.counting.live_count.Goals as goal

pub loop-slot-preserved : goal.loop-slot-preserved
loop-slot-preserved c =
    let es = c.args.usages.now.entries in
    let slots = c.args.slots.now in
    let i = c.loop-slot.slot-index in (
      ap (λ live. fold (λ sum slot. sum + live_in es c.args.name slot) (c.loop-slot.live + live) (drop (i + 1) slots)) c.wide_live_in-live.ensures.exact
          ∙ sym (live_step es c.args.name c.loop-slot.live slots i 0 c.loop-slot-test.true)
          ∙ c.loop-slot.invariant.0,
      omega (arith, c.loop-slot.invariant.1, c.wide_live_in-live.ensures.fits),
    )
