-- What a node sends has clock 0.
use Rattle.std.specs.Prelude.{◌≡◌, List, [], ◌∷◌, refl}
use Rattle.std.proofs.lemmas.List.Elements.{All-nil, All-cons, All-append}
use Rattle.wire_msg.specs.declared.packet.Packet.{Packet}
use Rattle.wire_msg.specs.NodeStep.{HaveNoClock}
use Rattle.xfs_base.specs.declared.node.NodeId.{NodeId}
use Rattle.node_base.specs.declared.effects.Effect.{Effect}
use Rattle.node_base.specs.declared.effects.Effect.TheVariants.{Send, Answer, Lose, Does}
use Rattle.node_base.specs.Effects.{packets_of, packet_of}

abbrev pub HasClock0 : Packet → Type 0
HasClock0 packet = packet.clock ≡ 0

-- the packet of one effect has
one_clock_0 : (node : NodeId) (effect : Effect) → HaveNoClock (packet_of node effect)
one_clock_0 node (Send to body) = All-cons HasClock0 (record { from = node; to = to; clock = 0; body = body }) [] refl (All-nil HasClock0)
one_clock_0 node (Answer item answer) = All-nil HasClock0
one_clock_0 node (Lose seg) = All-nil HasClock0
one_clock_0 node (Does act) = All-nil HasClock0

-- and so have those of all
pub clock_0 : (node : NodeId) (effects : List Effect) → HaveNoClock (packets_of node effects)
clock_0 node [] = All-nil HasClock0
clock_0 node (e ∷ es) = All-append HasClock0 (packet_of node e) (packets_of node es) (one_clock_0 node e) (clock_0 node es)
