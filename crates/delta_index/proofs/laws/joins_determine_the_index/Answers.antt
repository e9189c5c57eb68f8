use Rattle.delta_index.proofs.IndexOfJoin.{index_of_join}
use Rattle.delta_index.proofs.laws.joins_determine_the_index.Goals as goal

pub returns : goal.returns
returns c = index_of_join
