use Rattle.log_protocol.proofs.IndexInduction.{cleaning_loses_nothing_always}
use Rattle.log_protocol.proofs.cleaning_loses_nothing.Goals as goal

pub returns : goal.returns
returns c = record { nothing_lost = cleaning_loses_nothing_always }
