use Rattle.token_client.proofs.Readings.{ended_want_takes_nothing}
use Rattle.token_client.proofs.laws.ended_want_takes_nothing.Goals as goal

pub returns : goal.returns
returns c = ended_want_takes_nothing
