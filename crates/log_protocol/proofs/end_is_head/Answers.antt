use Rattle.log_protocol.proofs.StateLaws.{end_is_head_always}
use Rattle.log_protocol.proofs.end_is_head.Goals as goal

pub returns : goal.returns
returns c = record { head = end_is_head_always }
