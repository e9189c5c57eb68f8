use Rattle.log_protocol.proofs.IndexInduction.{horizon_stays_always}
use Rattle.log_protocol.proofs.horizons_stand_still.Goals as goal

pub returns : goal.returns
returns c = record { still = horizon_stays_always }
