use Rattle.token_client.proofs.Readings.{promise_drops}
use Rattle.token_client.proofs.laws.promise_drops.Goals as goal

pub returns : goal.returns
returns c = promise_drops
