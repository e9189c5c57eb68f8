-- What an event has a node do, and what of it the world sees.
use Rattle.std.specs.Prelude.{List, [], ◌∷◌, map}
use Rattle.std.specs.List.{flat_map}
use Rattle.version_model.specs.declared.act.Act.{Act}
use Rattle.version_model.specs.declared.act.Act.TheVariants.{Answered, Lost}
use Rattle.wire_msg.specs.declared.body.Body.{Body}
use Rattle.wire_msg.specs.declared.packet.Packet.{Packet}
use Rattle.xfs_base.specs.declared.node.NodeId.{NodeId}
use Rattle.node_base.specs.declared.effects.Effect.{Effect}
use Rattle.node_base.specs.declared.effects.Effect.TheVariants.{Send, Answer, Lose, Does}

-- the packet that a node sends, with clock 0
abbrev pub packet_of : NodeId → Effect → List Packet
packet_of node (Send to body) = record { from = node; to = to; clock = 0; body = body } ∷ []
packet_of node (Answer item answer) = []
packet_of node (Lose seg) = []
packet_of node (Does act) = []

-- what a node acts
abbrev pub act_of : NodeId → Effect → List Act
act_of node (Send to body) = []
act_of node (Answer item answer) = Answered node item answer ∷ []
act_of node (Lose seg) = Lost node seg ∷ []
act_of node (Does act) = act ∷ []

abbrev pub packets_of : NodeId → List Effect → List Packet
packets_of node effects = flat_map (packet_of node) effects

abbrev pub acts_of : NodeId → List Effect → List Act
acts_of node effects = flat_map (act_of node) effects

-- the same to each of these nodes
abbrev pub send_each : List NodeId → Body → List Effect
send_each nodes body = map (λ to. Send to body) nodes
