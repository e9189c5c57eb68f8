use Rattle.quiet_nodes.proofs.Blind.{any_blind}
use Rattle.quiet_nodes.proofs.clocks_are_not_read.Goals as goal

pub returns : goal.returns
returns c = record { blind = λ node packet. any_blind node packet }
