-- A server of a quiet run is asked for the fragment of a segment that it holds, and tells it.
use Rattle.std.proofs.Common.{◌≡◌, ℕ, true, List, [], ◌∷◌, Some, refl}
use Rattle.fragment_store.specs.ShelfState.{held_at}
use Rattle.node_base.specs.Nodes.{has_node, peers_of}
use Rattle.node_base.specs.Shape.{is_name}
use Rattle.store_nodes.specs.ServerEvents.{on_packet, server_step}
use Rattle.version_model.specs.declared.work.Work.{Work}
use Rattle.wire_msg.specs.declared.body.Body.TheVariants as body
use Rattle.wire_msg.specs.declared.packet.Do.TheVariants.{Deliver}
use Rattle.wire_msg.specs.declared.packet.Packet.{Packet}
use Rattle.xfs_base.specs.declared.fragment.Fragment.{Fragment}
use Rattle.xfs_base.specs.declared.node.NodeId.{NodeId}
use Rattle.xfs_base.specs.declared.node.NodeId.TheVariants.{Client, Server}
use Rattle.xfs_base.specs.declared.segment.SegName.{SegName}
use Rattle.xfs_base.specs.declared.setup.Setup.{Setup}
use Rattle.quiet_nodes.specs.Scene.{server_at}

module _ (setup : Setup) (works : NodeId → List Work) (v c clock ask : ℕ) (name : SegName) (held : List Fragment) (f : Fragment) where
  abbrev pub fetch_packet : Packet
  fetch_packet = record { from = Client c; to = Server v; clock = clock; body = body.Fetch (record { name = name; ask = ask }) }

  abbrev pub found_packet : Packet
  found_packet = record { from = Server v; to = Client c; clock = 0; body = body.Fragment (record { ask = ask; generation = 1; fragment = f }) }

  pub fetch_comes : has_node (peers_of setup) (Client c) ≡ true → is_name name ≡ true → held_at held name ≡ Some f
      → server_step (server_at setup works v held) (Deliver fetch_packet) ≡ record { node = server_at setup works v held; packets = found_packet ∷ []; acts = [] }
  unfolding on_packet
  fetch_comes there named is = rw (there, named, is) refl
