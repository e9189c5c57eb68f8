use Rattle.token_manager.proofs.Wants.{answered_or_waits}
use Rattle.token_manager.proofs.laws.each_want_is_answered_or_waits.Goals as goal

pub returns : goal.returns
returns c = answered_or_waits
