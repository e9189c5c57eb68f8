use Rattle.token_manager.proofs.AwaitsJust.{guarded-all}
use Rattle.token_manager.proofs.laws.owners_are_alone.Goals as goal

pub returns : goal.returns
returns c = guarded-all
