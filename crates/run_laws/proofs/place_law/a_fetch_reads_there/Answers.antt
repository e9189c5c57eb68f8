use Rattle.run_laws.proofs.place_law.AimsClients.{clients_keep_so, clients_start_so}
use Rattle.run_laws.proofs.place_law.AimsRuns.{runs_read_their_fetches}
use Rattle.run_laws.proofs.place_law.Fetching.{fetches_read_there}
use Rattle.run_laws.proofs.place_law.a_fetch_reads_there.Goals as goal

pub returns : goal.returns
returns c = record {
  start = clients_start_so;
  its = clients_keep_so;
  runs = runs_read_their_fetches;
  there = fetches_read_there c.laws_of_logs.ensures.one_text c.laws_of_logs.ensures.content c.clients_read_what_came.ensures.reads;
}
