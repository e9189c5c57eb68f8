use Rattle.log_protocol.proofs.LogTheorems.{one_text_always}
use Rattle.log_protocol.proofs.one_text.Goals as goal

pub returns : goal.returns
returns c = record { text = one_text_always }
