use Rattle.token_manager.proofs.Turns.{takes-transition}
use Rattle.token_manager.proofs.laws.each_stamp_is_fresh.Goals as goal

pub returns : goal.returns
returns c = takes-transition
