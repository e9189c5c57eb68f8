use Rattle.log_tie.proofs.Openings.{opens_by_step, opening_takes}
use Rattle.log_tie.proofs.opening_inputs.Goals as goal

pub returns : goal.returns
returns c = record { opens = opens_by_step; takes = opening_takes }
