use Rattle.token_client.proofs.Readings.{quit_ends}
use Rattle.token_client.proofs.laws.quit_ends.Goals as goal

pub returns : goal.returns
returns c = quit_ends
