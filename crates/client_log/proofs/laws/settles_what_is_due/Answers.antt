use Rattle.client_log.proofs.Settlings.{tells_due}
use Rattle.client_log.proofs.laws.settles_what_is_due.Goals as goal

pub returns : goal.returns
returns c = tells_due
