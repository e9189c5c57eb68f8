use Rattle.delta_index.proofs.JoinAlgebra.{join-append}
use Rattle.delta_index.proofs.laws.join_of_a_concatenation.Goals as goal

pub returns : goal.returns
returns c = join-append
