use Rattle.log_protocol.proofs.LogTheorems.{adopts_one_always}
use Rattle.log_protocol.proofs.what_reopening_adopts.Goals as goal

pub returns : goal.returns
returns c = record { adopted = adopts_one_always }
