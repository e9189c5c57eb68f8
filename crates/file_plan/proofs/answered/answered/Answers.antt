use Rattle.std.proofs.Common.{subst, sym}
use Rattle.file_plan.specs.declared.block_call.BlockAnswer.TheVariants.{Got}
use Rattle.file_plan.specs.declared.block_call.BlockAnswer.TheVariants.{Put as Written}
use Rattle.file_plan.specs.Ranges.{IsInRange}
use Rattle.file_plan.proofs.InRange.{in_after}
use Rattle.file_plan.proofs.answered.answered.Goals as goal

pub returns-in_ok-next-in-Got-clause-in_range : goal.returns-in_ok-next-in-Got-clause-in_range
returns-in_ok-next-in-Got-clause-in_range c =
    subst IsInRange (sym c.in_ok-next-in-Got.ensures.next) (in_after c.args.state (Got c.in-Got.ver c.in-Got.value) c.got.ensures.fits c.requires)

pub returns-in_ok-next-in-Put-clause-in_range : goal.returns-in_ok-next-in-Put-clause-in_range
returns-in_ok-next-in-Put-clause-in_range c =
    subst IsInRange (sym c.in_ok-next-in-Put.ensures) (in_after c.args.state (Written c.in-Put.field-0) tt c.requires)
