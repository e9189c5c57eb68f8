use Rattle.token_manager.proofs.Wants.{not_forgotten}
use Rattle.token_manager.proofs.laws.no_want_is_forgotten.Goals as goal

pub returns : goal.returns
returns c = not_forgotten
