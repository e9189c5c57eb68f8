use Rattle.node_logs.proofs.client_log_tie.ClientTakes.{client_takes}
use Rattle.node_logs.proofs.client_log_tie.Starts.{client_starts}
use Rattle.node_logs.proofs.client_log_tie.client_log_events_are_seen.Goals as goal

pub returns : goal.returns
returns c = record {
  start = client_starts;
  events = client_takes;
}
