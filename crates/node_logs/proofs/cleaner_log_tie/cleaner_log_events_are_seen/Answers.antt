use Rattle.node_logs.proofs.cleaner_log_tie.Phases.{owner_takes}
use Rattle.node_logs.proofs.cleaner_log_tie.Starts.{owner_starts}
use Rattle.node_logs.proofs.cleaner_log_tie.cleaner_log_events_are_seen.Goals as goal

pub returns : goal.returns
returns c = record {
  start = owner_starts;
  events = owner_takes;
}
