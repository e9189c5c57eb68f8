use Rattle.delta_index.proofs.JoinAlgebra.{join-swap}
use Rattle.delta_index.proofs.laws.differing_merges_change_places.Goals as goal

pub returns : goal.returns
returns c = join-swap
