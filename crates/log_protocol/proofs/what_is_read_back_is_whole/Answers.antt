use Rattle.log_protocol.proofs.TwoRounds.{whole_when_read_always, not_dropped_always}
use Rattle.log_protocol.proofs.what_is_read_back_is_whole.Goals as goal

pub returns : goal.returns
returns c = record { whole = whole_when_read_always; kept = not_dropped_always }
