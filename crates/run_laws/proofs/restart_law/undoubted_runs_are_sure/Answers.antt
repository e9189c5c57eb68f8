use Rattle.run_laws.proofs.restart_law.Sure.{undoubted_runs_are_sure}
use Rattle.run_laws.proofs.restart_law.undoubted_runs_are_sure.Goals as goal

pub returns : goal.returns
returns c = record { sure = undoubted_runs_are_sure c.laws_below.ensures }
