use Rattle.token_client.proofs.AllInputs.{numbers_rise}
use Rattle.token_client.proofs.laws.numbers_rise.Goals as goal

pub returns : goal.returns
returns c = numbers_rise
