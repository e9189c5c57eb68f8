use Rattle.client_log.proofs.Lines.{in_line}
use Rattle.client_log.proofs.laws.flight_is_next.Goals as goal

pub returns : goal.returns
returns c = in_line
