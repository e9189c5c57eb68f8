-- A storage server sends nothing that tells of what was filed.
use Rattle.fragment_store.specs.ShelfState.{ShelfState}
use Rattle.store_nodes.specs.declared.server.Server as nodes
use Rattle.wire_msg.specs.declared.body.Body.{Body}
use Rattle.wire_msg.specs.declared.packet.Do.{Do}
use Rattle.xfs_base.specs.declared.node.NodeId.{NodeId}
use Rattle.xfs_base.specs.declared.node.NodeId.TheVariants.{Server}
use Rattle.node_moves.proofs.server_moves.Keeping.{event_sends}
use Rattle.node_moves.proofs.server_moves.Moves.{Sent}
use Rattle.node_moves.proofs.server_moves.Moves.Sent.{Greeted}
use Rattle.node_tellings.proofs.filed_tie.Rising.{do_rises}
use Rattle.node_tellings.specs.filed_tie.Reach.{BodyTells, PacketTells, Reach}
use Rattle.node_tellings.specs.filed_tie.ServerReach.{ServersTellFiled, ServersTellNoMore}

tells_nothing : (reach : Reach) (node : nodes.Server) (what : Do) (s : ShelfState) (to : NodeId) (said : Body) → Sent node.shelf what s to said
    → BodyTells reach (Server node.number) said
tells_nothing reach node what s to said (Greeted ask) = tt
tells_nothing reach node what s to said _ = tt

pub servers_tell_alone : ServersTellNoMore
servers_tell_alone reach node what holds tells = record { node = tt; packets = event_sends node what (PacketTells reach) (tells_nothing reach node what) }

pub servers_tell : ServersTellFiled
servers_tell reach later node what rises holds tells acts = servers_tell_alone later node what tt (do_rises reach later rises what tells)
