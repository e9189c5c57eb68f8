-- A storage server sends nothing that tells where blocks lie.
use Rattle.std.specs.List.{AllByRecursion}
use Rattle.fragment_store.specs.ShelfState.{ShelfState}
use Rattle.store_nodes.specs.declared.server.Server as nodes
use Rattle.store_nodes.specs.ServerEvents.{server_step}
use Rattle.wire_msg.specs.declared.body.Body.{Body}
use Rattle.wire_msg.specs.declared.packet.Do.{Do}
use Rattle.xfs_base.specs.declared.node.NodeId.{NodeId}
use Rattle.node_moves.proofs.server_moves.Keeping.{event_sends}
use Rattle.node_moves.proofs.server_moves.Moves.{Sent}
use Rattle.node_moves.proofs.server_moves.Moves.Sent.{Greeted}
use Rattle.node_tellings.specs.entry_tie.OtherTells.{ServersTellNone}
use Rattle.node_tellings.specs.entry_tie.Told.{BodyTold, PacketTold, Told, told_by_rows}

tells_nothing : (told : Told) (node : nodes.Server) (what : Do) (s : ShelfState) (to : NodeId) (said : Body) → Sent node.shelf what s to said
    → BodyTold told said
tells_nothing told node what s to said (Greeted ask) = tt
tells_nothing told node what s to said _ = tt

-- of any entries that are told
pub any_server_tells : (told : Told) (node : nodes.Server) (what : Do) → AllByRecursion (PacketTold told) (server_step node what).packets
any_server_tells told node what = event_sends node what (PacketTold told) (tells_nothing told node what)

pub servers_tell : ServersTellNone
servers_tell rows node what = any_server_tells (told_by_rows rows) node what
