use Rattle.log_protocol.proofs.IndexInduction.{index_is_join_always}
use Rattle.log_protocol.proofs.index_is_the_join.Goals as goal

pub returns : goal.returns
returns c = record { join = index_is_join_always }
