use Rattle.run_laws.proofs.place_law.Answering.{runs_answer}
use Rattle.run_laws.proofs.place_law.ManagerAnswers.{managers_answer}
use Rattle.run_laws.proofs.place_law.lives_answer_checks.Goals as goal

pub returns : goal.returns
returns c = record {
  managers = managers_answer;
  runs = runs_answer managers_answer c.nodes_are_seen.ensures;
}
