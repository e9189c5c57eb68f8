use Rattle.run_answers.proofs.act_law.Answered.{versions_are_newest}
use Rattle.run_answers.proofs.linear_law.Acts.{acts_are, answers_are}
use Rattle.run_answers.proofs.linear_law.Falls.{falls_are, returns_are}
use Rattle.run_answers.proofs.linear_law.Syncs.{syncs_drain}
use Rattle.run_answers.proofs.linear_law.Updates.{no_update_is_lost}
use Rattle.run_answers.proofs.linear_law.runs_are_linearizable.Goals as goal
use Rattle.run_answers.proofs.once_law.Runs.{runs_answer_once}

pub returns : goal.returns
returns c = record {
  linear = λ e setup run. record {
    acts = acts_are e;
    answers = answers_are e (runs_answer_once e run);
    falls = falls_are e;
    returns = returns_are e;
    syncs = syncs_drain e (runs_answer_once e run);
    legal = c.every_runs_acts_are_legal.ensures.legal e setup run;
    newest = versions_are_newest e (c.every_runs_acts_are_legal.ensures.holders e setup run);
  };
  updates = λ e setup run. no_update_is_lost e (c.every_runs_acts_are_legal.ensures.holders e setup run);
}
