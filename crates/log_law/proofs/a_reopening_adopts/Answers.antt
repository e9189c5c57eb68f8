use Rattle.log_law.proofs.Adopting.{a_reopening_adopts}
use Rattle.log_law.proofs.a_reopening_adopts.Goals as goal

pub returns : goal.returns
returns c = record { adopts = a_reopening_adopts c.below.ensures }
