use Rattle.delta_index.proofs.IndexJoin.{index_join}
use Rattle.delta_index.proofs.laws.index_is_the_join.Goals as goal

pub returns : goal.returns
returns c = index_join
