use Rattle.log_protocol.proofs.TwoRounds.{torn_between_always}
use Rattle.log_protocol.proofs.two_rounds_tell_of_a_torn_segment.Goals as goal

pub returns : goal.returns
returns c = record { torn = torn_between_always }
