use Rattle.takeover.proofs.Standing.{taken_over}
use Rattle.takeover.proofs.laws.index_is_the_join.Goals as goal

pub returns : goal.returns
returns c = taken_over
