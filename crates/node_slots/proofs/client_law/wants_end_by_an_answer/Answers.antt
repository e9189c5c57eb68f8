use Rattle.node_slots.proofs.client_law.Fetching.{wants_end_by_an_answer}
use Rattle.node_slots.proofs.client_law.wants_end_by_an_answer.Goals as goal

pub returns : goal.returns
returns c = record {
  answered = wants_end_by_an_answer;
}
