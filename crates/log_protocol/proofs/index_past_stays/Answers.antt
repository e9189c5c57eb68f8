use Rattle.log_protocol.proofs.IndexGrowth.{index_past_stays_always}
use Rattle.log_protocol.proofs.index_past_stays.Goals as goal

pub returns : goal.returns
returns c = record { stays = index_past_stays_always }
