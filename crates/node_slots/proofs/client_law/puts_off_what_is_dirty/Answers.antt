use Rattle.node_slots.proofs.client_law.Giving.{puts_off_what_is_dirty}
use Rattle.node_slots.proofs.client_law.puts_off_what_is_dirty.Goals as goal

pub returns : goal.returns
returns c = record {
  dirty = puts_off_what_is_dirty;
}
