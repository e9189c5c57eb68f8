use Rattle.client_log.proofs.Attempts.{flies}
use Rattle.client_log.proofs.laws.attempts_rise.Goals as goal

pub returns : goal.returns
returns c = flies
