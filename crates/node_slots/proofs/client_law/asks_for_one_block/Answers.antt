use Rattle.node_slots.proofs.client_law.Asking.{asks_for_one_block}
use Rattle.node_slots.proofs.client_law.asks_for_one_block.Goals as goal

pub returns : goal.returns
returns c = record {
  one = asks_for_one_block;
}
