use Rattle.node_slots.proofs.node_tie.CleanerEvents.{cleaner_starts, cleaner_takes}
use Rattle.node_slots.proofs.node_tie.RegistryNode.{registry_begins, registry_goes}
use Rattle.node_slots.proofs.node_tie.StoreServer.{server_sends}
use Rattle.node_slots.proofs.node_tie.other_events_are_seen.Goals as goal

pub returns : goal.returns
returns c = record {
  start = registry_begins;
  events = registry_goes;
  servers = server_sends;
  cleaner_start = cleaner_starts;
  cleaner = cleaner_takes;
}
