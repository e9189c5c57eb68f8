use Rattle.client_log.proofs.Keeping.{nothing_lost}
use Rattle.client_log.proofs.laws.nothing_is_lost.Goals as goal

pub returns : goal.returns
returns c = nothing_lost
