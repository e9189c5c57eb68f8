use Rattle.node_slots.proofs.node_index_tie.Registry.{registry_event_goes, registry_starts}
use Rattle.node_slots.proofs.node_index_tie.registry_events_are_seen.Goals as goal

pub returns : goal.returns
returns c = record {
  start = registry_starts;
  events = registry_event_goes;
}
