use Rattle.log_protocol.proofs.Interval.{past_stays_always}
use Rattle.log_protocol.proofs.past_stays.Goals as goal

pub returns : goal.returns
returns c = record { stays = past_stays_always }
