use Rattle.run_laws.proofs.world_lines.Acting as acting
use Rattle.run_laws.proofs.world_lines.what_is_acted_is_filed.Goals as goal

pub returns : goal.returns
returns c = record {
  clients = acting.clients_acts_file c.what_is_filed_flew.ensures.restarts c.owners_lines_go_on.ensures.clients_short c.what_is_filed_flew.ensures.clients;
  cleaner = acting.cleaners_acts_file c.what_is_filed_flew.ensures.restarts c.owners_lines_go_on.ensures.cleaner_short c.what_is_filed_flew.ensures.cleaner;
}
