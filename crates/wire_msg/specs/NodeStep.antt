-- What a step of a node gives.
use Rattle.std.specs.Prelude.{◌≡◌, List, All}
use Rattle.version_model.specs.declared.act.Act.{Act}
use Rattle.wire_msg.specs.declared.packet.Packet.{Packet}

-- the node after the step, the packets that it sends and the acts that it does, each in order
pub record NodeStep (N : Type 0) : Type 0 where
  pub node : N
  pub packets : List Packet
  pub acts : List Act

-- all these packets have clock 0
abbrev pub HaveNoClock : List Packet → Type 0
HaveNoClock packets = All (λ packet. packet.clock ≡ 0) packets
