use Rattle.quiet_gets.proofs.Lonely.{lonely_gets}
use Rattle.quiet_gets.proofs.lonely_gets_are_answered.Goals as goal

pub returns : goal.returns
returns c = record { lonely = lonely_gets }
