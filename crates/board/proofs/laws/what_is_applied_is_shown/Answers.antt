use Rattle.board.proofs.Applying.{applies_no_more}
use Rattle.board.proofs.laws.what_is_applied_is_shown.Goals as goal

pub returns : goal.returns
returns c s input = applies_no_more s input
