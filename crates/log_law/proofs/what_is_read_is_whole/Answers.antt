use Rattle.log_law.proofs.BeingRead.{what_is_read_is_whole}
use Rattle.log_law.proofs.what_is_read_is_whole.Goals as goal

pub returns : goal.returns
returns c = record { whole = what_is_read_is_whole c.below.ensures c.what_is_read_back_is_whole.ensures.whole }
