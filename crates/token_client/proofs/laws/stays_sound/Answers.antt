use Rattle.token_client.proofs.AllInputs.{stays_sound}
use Rattle.token_client.proofs.laws.stays_sound.Goals as goal

pub returns : goal.returns
returns c = stays_sound
