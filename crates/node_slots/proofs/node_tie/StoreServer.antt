-- What a storage server sends.
use Rattle.std.proofs.Common.{◌≡◌, All}
use Rattle.fragment_store.specs.ShelfState.{ShelfState}
use Rattle.node_base.specs.declared.effects.Effect.{Effect}
use Rattle.node_base.specs.declared.effects.Effect.TheVariants.{Answer, Does, Lose, Send}
use Rattle.store_nodes.specs.declared.server.Server.{Server as Node}
use Rattle.store_nodes.specs.ServerEvents.{server_step, takes}
use Rattle.wire_msg.specs.declared.body.Body.{Body}
use Rattle.wire_msg.specs.declared.packet.Do.{Do}
use Rattle.wire_msg.specs.declared.packet.Packet.{Packet}
use Rattle.xfs_base.proofs.Alls.{all_weaker}
use Rattle.xfs_base.specs.declared.node.NodeId.{NodeId}
use Rattle.xfs_base.specs.declared.node.NodeId.TheVariants.{Server}
use Rattle.node_moves.proofs.server_moves.Keeping as moves
use Rattle.node_moves.proofs.server_moves.Moves.{Sent}
use Rattle.node_moves.proofs.server_moves.Moves.Sent.{Greeted}
use Rattle.node_slots.proofs.node_tie.StoreFrames.{all_neutral, packets_from, packets_say}
use Rattle.node_slots.specs.node_tie.Sight.{ServerSends}
use Rattle.node_slots.specs.node_tie.StoreEvents.{AllNeutral, PacketsSay}
use Rattle.node_slots.proofs.node_tie.StoreEvents.{AllSay, Says}

abbrev SendsSo : NodeId → Body → Type 0
SendsSo to said = ServerSends said

sends_so : (node : Node) (what : Do) (s : ShelfState) (to : NodeId) (said : Body) → Sent node.shelf what s to said → ServerSends said
sends_so node what s to said (Greeted ask) = tt
sends_so node what s to said _ = tt

-- each effect is no packet, or one that a server sends
effect_so : (e : Effect) → moves.Says SendsSo e → Says ServerSends e
effect_so (Send to said) so = so
effect_so (Answer item answer) so = tt
effect_so (Lose seg) so = tt
effect_so (Does act) so = absurd so

taken_so : (node : Node) (what : Do) → AllSay ServerSends (takes node what).outs
taken_so node what =
    all_weaker (moves.Says SendsSo) (Says ServerSends) effect_so (takes node what).outs (moves.event_says node what SendsSo (sends_so node what))

-- whatever happens to a server, its packets are such as servers send
pub server_sends : (node : Node) (what : Do) → PacketsSay ServerSends (server_step node what).packets × AllNeutral (server_step node what).acts
server_sends node what = (
  packets_say ServerSends (Server node.number) (takes node what).outs (taken_so node what),
  all_neutral (Says ServerSends) (Server node.number) (λ act fact. fact) (takes node what).outs (taken_so node what),
)

pub server_from : (node : Node) (what : Do) → All (λ (p : Packet). p.from ≡ Server node.number) (server_step node what).packets
server_from node what = packets_from (Server node.number) (takes node what).outs
