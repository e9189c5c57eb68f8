use Rattle.token_client.proofs.AllInputs.{stamps_never_fall}
use Rattle.token_client.proofs.laws.stamps_never_fall.Goals as goal

pub returns : goal.returns
returns c = stamps_never_fall
