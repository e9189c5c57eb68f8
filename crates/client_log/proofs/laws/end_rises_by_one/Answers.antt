use Rattle.client_log.proofs.Lines.{rises_by_one}
use Rattle.client_log.proofs.laws.end_rises_by_one.Goals as goal

pub returns : goal.returns
returns c = rises_by_one
