use Rattle.log_protocol.proofs.IndexInduction.{dead_stays_always}
use Rattle.log_protocol.proofs.dead_stays.Goals as goal

pub returns : goal.returns
returns c = record { dead = dead_stays_always }
