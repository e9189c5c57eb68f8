use Rattle.run_losses.proofs.missing_law.Twice.{what_is_missing_twice_was_torn}
use Rattle.run_losses.proofs.missing_law.what_is_missing_twice_was_torn.Goals as goal

pub returns : goal.returns
returns c = record { torn = what_is_missing_twice_was_torn }
