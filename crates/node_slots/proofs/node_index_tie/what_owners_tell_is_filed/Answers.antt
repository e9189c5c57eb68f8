use Rattle.node_slots.proofs.node_index_tie.Owners.{owners_tell, feeds_stay}
use Rattle.node_slots.proofs.node_index_tie.Feeding.{feeds_grow}
use Rattle.node_slots.proofs.node_index_tie.what_owners_tell_is_filed.Goals as goal

pub returns : goal.returns
returns c = record {
  tell = owners_tell;
  stay = feeds_stay;
  grow = feeds_grow;
}
