use Rattle.run_answers.proofs.number_law.Rebuilds.{each_run}
use Rattle.run_answers.proofs.number_law.rebuilds_are_true.Goals as goal

pub returns : goal.returns
returns c = record { runs = each_run }
