use Rattle.token_manager.proofs.AppliedRises.{rises-all}
use Rattle.token_manager.proofs.laws.applied_never_falls.Goals as goal

pub returns : goal.returns
returns c = rises-all
