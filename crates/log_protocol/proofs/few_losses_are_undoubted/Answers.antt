use Rattle.log_protocol.proofs.Counting.{not_all_hurt}
use Rattle.log_protocol.proofs.few_losses_are_undoubted.Goals as goal

pub returns : goal.returns
returns c = record { undoubted = not_all_hurt }
