use Rattle.node_slots.proofs.client_law.Emptying.{packet_empty, tick_empty}
use Rattle.node_slots.proofs.client_law.Standing.{events_keep_well, starts_well}
use Rattle.node_slots.proofs.client_law.clients_stand_well.Goals as goal

pub returns : goal.returns
returns c = record {
  start = starts_well (record { packet = packet_empty; tick = tick_empty });
  events = events_keep_well (record { packet = packet_empty; tick = tick_empty });
}
