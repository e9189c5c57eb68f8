use Rattle.quiet_law.proofs.Starting.{start_is_drained}
use Rattle.quiet_law.proofs.runs_start_drained.Goals as goal
use Rattle.quiet_nodes.proofs.Starts.{starts_as}

pub returns : goal.returns
returns c = record {
  placed = λ setup works managers name. starts_as setup works managers name;
  drained = λ setup works. start_is_drained setup works;
}
