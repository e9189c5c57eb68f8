use Rattle.run_answers.proofs.once_law.Runs.{each_keeps, runs_answer_once}
use Rattle.run_answers.proofs.once_law.items_are_answered_once.Goals as goal

pub returns : goal.returns
returns c = record {
  events = each_keeps;
  runs = runs_answer_once;
}
