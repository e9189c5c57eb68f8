use Rattle.run_answers.proofs.act_law.Runs.{each_is_planned}
use Rattle.run_answers.proofs.act_law.file_answers_are_planned.Goals as goal

pub returns : goal.returns
returns c = record { planned = each_is_planned }
