use Rattle.checkpoint.proofs.Holding.{done_as_asked}
use Rattle.checkpoint.proofs.laws.parts_hold_what_was_begun.Goals as goal

pub returns : goal.returns
returns c = done_as_asked
