use Rattle.log_tie.proofs.Serving.{takes_inputs}
use Rattle.log_tie.proofs.log_inputs.Goals as goal

pub returns : goal.returns
returns c = takes_inputs
