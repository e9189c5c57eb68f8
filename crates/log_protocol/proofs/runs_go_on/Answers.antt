use Rattle.log_protocol.proofs.RunsGoOn.{steps_on, reached_on, names_on}
use Rattle.log_protocol.proofs.IndexRunsGoOn.{index_steps_on, index_reached_on}
use Rattle.log_protocol.proofs.runs_go_on.Goals as goal

pub returns : goal.returns
returns c = record { joined = steps_on; reached = reached_on; names = names_on; index_joined = index_steps_on; index_reached = index_reached_on }
