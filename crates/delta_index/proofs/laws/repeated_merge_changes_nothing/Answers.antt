use Rattle.delta_index.proofs.JoinAlgebra.{join-repeat}
use Rattle.delta_index.proofs.laws.repeated_merge_changes_nothing.Goals as goal

pub returns : goal.returns
returns c = join-repeat
