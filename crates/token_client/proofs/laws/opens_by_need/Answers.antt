use Rattle.token_client.proofs.AllInputs.{opens_by_need}
use Rattle.token_client.proofs.laws.opens_by_need.Goals as goal

pub returns : goal.returns
returns c = opens_by_need
