use Rattle.takeover.proofs.Ending.{nothing_said, over_stays}
use Rattle.takeover.proofs.Standing.{over_once_handed, over_once_lost}
use Rattle.takeover.proofs.laws.nothing_comes_after_the_end.Goals as goal

pub returns-clause-handed : goal.returns-clause-handed
returns-clause-handed c = over_once_handed

pub returns-clause-lost : goal.returns-clause-lost
returns-clause-lost c = over_once_lost

pub returns-clause-silent : goal.returns-clause-silent
returns-clause-silent c = nothing_said

pub returns-clause-stays : goal.returns-clause-stays
returns-clause-stays c = over_stays
