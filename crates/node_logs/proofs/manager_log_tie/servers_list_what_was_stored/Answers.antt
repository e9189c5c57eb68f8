use Rattle.node_logs.proofs.manager_log_tie.Listing.{servers_bare, servers_list}
use Rattle.node_logs.proofs.manager_log_tie.servers_list_what_was_stored.Goals as goal

pub returns : goal.returns
returns c = record {
  start = servers_bare;
  events = servers_list;
}
