use Rattle.run_answers.proofs.act_law.Answered.{versions_are_newest}
use Rattle.run_answers.proofs.act_law.answered_versions_are_newest.Goals as goal

pub returns : goal.returns
returns c = record { newest = λ e setup run. versions_are_newest e (c.every_runs_acts_are_legal.ensures.holders e setup run) }
