use Rattle.node_logs.proofs.manager_log_tie.Servers.{servers_start, servers_tell}
use Rattle.node_logs.proofs.manager_log_tie.what_servers_tell_is_bytes.Goals as goal

pub returns : goal.returns
returns c = record {
  start = servers_start;
  events = servers_tell;
}
