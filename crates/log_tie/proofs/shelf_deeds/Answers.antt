use Rattle.log_tie.proofs.ShelfSteps.{takes_deeds}
use Rattle.log_tie.proofs.shelf_deeds.Goals as goal

pub returns : goal.returns
returns c = takes_deeds
