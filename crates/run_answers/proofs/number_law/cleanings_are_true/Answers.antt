use Rattle.run_answers.proofs.number_law.Counts.{each_run}
use Rattle.run_answers.proofs.number_law.cleanings_are_true.Goals as goal

pub returns : goal.returns
returns c = record { runs = each_run }
