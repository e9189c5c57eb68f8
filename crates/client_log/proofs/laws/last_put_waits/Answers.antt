use Rattle.client_log.proofs.LastPuts.{last_waits}
use Rattle.client_log.proofs.laws.last_put_waits.Goals as goal

pub returns : goal.returns
returns c = last_waits
