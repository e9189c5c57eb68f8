use Rattle.run_answers.proofs.checkpoint_law.Runs.{each_run}
use Rattle.run_answers.proofs.checkpoint_law.checkpoints_are_true.Goals as goal

pub returns : goal.returns
returns c = record { runs = each_run }
