use Rattle.loss_law.proofs.Losing.{a_reopening_loses_what_is_torn}
use Rattle.loss_law.proofs.a_reopening_loses_what_is_torn.Goals as goal

pub returns : goal.returns
returns c = record { earned = a_reopening_loses_what_is_torn c.what_is_read_is_whole.ensures.whole }
