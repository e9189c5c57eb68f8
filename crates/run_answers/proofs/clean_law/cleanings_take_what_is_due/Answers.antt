use Rattle.run_answers.proofs.clean_law.Runs.{each_run}
use Rattle.run_answers.proofs.clean_law.cleanings_take_what_is_due.Goals as goal

pub returns : goal.returns
returns c = record { runs = each_run }
