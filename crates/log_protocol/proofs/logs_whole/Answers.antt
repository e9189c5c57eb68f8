use Rattle.log_protocol.proofs.LogTheorems.{logs_whole_always}
use Rattle.log_protocol.proofs.logs_whole.Goals as goal

pub returns : goal.returns
returns c = record { whole = logs_whole_always }
