use Rattle.node_logs.proofs.node_log_tie.Registries.{registry_begins, registry_goes, registry_goes_above}
use Rattle.node_logs.proofs.node_log_tie.registry_events_are_seen.Goals as goal

pub returns : goal.returns
returns c = record {
  start = registry_begins;
  events = registry_goes;
  above = registry_goes_above;
}
