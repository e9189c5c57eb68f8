use Rattle.node_logs.proofs.manager_log_tie.Phases.{manager_takes}
use Rattle.node_logs.proofs.manager_log_tie.Starts.{manager_starts}
use Rattle.node_logs.proofs.manager_log_tie.manager_log_events_are_seen.Goals as goal

pub returns : goal.returns
returns c = record {
  start = manager_starts;
  events = manager_takes;
}
