use Rattle.node_slots.proofs.client_law.Groups.{stripes_by_present_groups}
use Rattle.node_slots.proofs.client_law.stripes_by_present_groups.Goals as goal

pub returns : goal.returns
returns c = record {
  present = stripes_by_present_groups;
}
