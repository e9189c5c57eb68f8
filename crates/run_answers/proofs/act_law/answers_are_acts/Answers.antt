use Rattle.run_answers.proofs.act_law.Runs.{each_answers_acts}
use Rattle.run_answers.proofs.act_law.answers_are_acts.Goals as goal

pub returns : goal.returns
returns c = record { acted = each_answers_acts }
