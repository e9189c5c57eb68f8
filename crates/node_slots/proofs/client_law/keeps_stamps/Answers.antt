use Rattle.node_slots.proofs.client_law.Stamps.{stamps_never_fall}
use Rattle.node_slots.proofs.client_law.keeps_stamps.Goals as goal

pub returns : goal.returns
returns c = record {
  stamps = stamps_never_fall;
}
