use Rattle.token_tie.proofs.Applying.{slot_takes}
use Rattle.token_tie.proofs.slot_inputs.Goals as goal

pub returns : goal.returns
returns c = slot_takes
