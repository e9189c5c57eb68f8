use Rattle.log_protocol.proofs.IndexInduction.{index_in_bounds_always}
use Rattle.log_protocol.proofs.index_is_in_bounds.Goals as goal

pub returns : goal.returns
returns c = record { bounds = index_in_bounds_always }
