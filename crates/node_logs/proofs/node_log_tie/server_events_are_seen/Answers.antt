use Rattle.node_logs.proofs.node_log_tie.SentMaps.{sent_maps_name}
use Rattle.node_logs.proofs.node_log_tie.Servers.{server_begins, server_goes}
use Rattle.node_logs.proofs.node_log_tie.server_events_are_seen.Goals as goal

pub returns : goal.returns
returns c = record {
  start = server_begins;
  events = λ g owner n v node what some other maps seen owed. server_goes g owner v some other n maps node what seen owed;
  maps = sent_maps_name;
}
