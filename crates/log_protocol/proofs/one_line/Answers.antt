use Rattle.log_protocol.proofs.LogTheorems.{one_line_always}
use Rattle.log_protocol.proofs.one_line.Goals as goal

pub returns : goal.returns
returns c = record { line = one_line_always }
