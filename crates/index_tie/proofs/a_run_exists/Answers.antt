use Rattle.index_tie.proofs.RunExists.{taken_over}
use Rattle.index_tie.proofs.a_run_exists.Goals as goal

pub returns : goal.returns
returns c = taken_over
