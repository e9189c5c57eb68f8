use Rattle.token_manager.proofs.RecallTurns.{given-all}
use Rattle.token_manager.proofs.laws.recalls_are_given_out.Goals as goal

pub returns : goal.returns
returns c = given-all
