use Rattle.node_slots.proofs.client_law.Emptying.{packet_empty, tick_empty}
use Rattle.node_slots.proofs.client_law.UnsettledAlways.{writes_just_what_is_dirty}
use Rattle.node_slots.proofs.client_law.writes_what_is_dirty.Goals as goal

pub returns : goal.returns
returns c = record {
  written = writes_just_what_is_dirty (record { packet = packet_empty; tick = tick_empty });
}
