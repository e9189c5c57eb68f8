use Rattle.run_text.proofs.OneClient.{one_client_alone}
use Rattle.run_text.proofs.items_of_one_client_begin_alone.Goals as goal

pub returns : goal.returns
returns c = record {
  runs = one_client_alone c.runs_answer_what_is_due.ensures.runs c.nodes_serve_until_they_crash.ensures.starts c.nodes_serve_until_they_crash.ensures.events;
}
