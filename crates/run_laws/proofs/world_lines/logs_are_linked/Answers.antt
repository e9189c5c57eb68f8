use Rattle.run_laws.proofs.world_lines.Polls as polls
use Rattle.run_laws.proofs.world_lines.logs_are_linked.Goals as goal

pub returns : goal.returns
returns c = record {
  client = polls.clients_polls_are_owed;
  cleaner = polls.cleaners_polls_are_owed;
  present = polls.present_is_linked c.lines_are_filed.ensures.give;
  stay = polls.links_stay;
  files = polls.servers_go_on_by_flights c.what_flew_is_written.ensures.next;
  go_on = polls.links_go_on c.what_flew_is_written.ensures.next;
}
