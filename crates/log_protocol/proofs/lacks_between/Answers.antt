use Rattle.log_protocol.proofs.Interval.{lacks_between_always}
use Rattle.log_protocol.proofs.lacks_between.Goals as goal

pub returns : goal.returns
returns c = record { lacks = lacks_between_always }
