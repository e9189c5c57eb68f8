use Rattle.log_protocol.proofs.StepLaws.{names_new_always}
use Rattle.log_protocol.proofs.names_are_new.Goals as goal

pub returns : goal.returns
returns c = record { new = names_new_always }
