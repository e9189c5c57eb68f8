use Rattle.log_protocol.proofs.UndoubtedRuns.{sure_run_clean}
use Rattle.log_protocol.proofs.undoubted_runs_are_clean.Goals as goal

pub returns : goal.returns
returns c = record { clean = sure_run_clean }
