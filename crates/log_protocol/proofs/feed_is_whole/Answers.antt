use Rattle.log_protocol.proofs.LogTheorems.{feed_whole_always}
use Rattle.log_protocol.proofs.feed_is_whole.Goals as goal

pub returns : goal.returns
returns c = record { whole = feed_whole_always }
