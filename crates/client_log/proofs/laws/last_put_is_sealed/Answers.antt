use Rattle.client_log.proofs.LastPuts.{last_sealed}
use Rattle.client_log.proofs.laws.last_put_is_sealed.Goals as goal

pub returns : goal.returns
returns c = last_sealed
