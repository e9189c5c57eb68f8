-- What a server of a quiet run tells of what it holds.
use Rattle.std.specs.Prelude.{◌≡◌, ℕ, true, List, [], ◌∷◌, Some}
use Rattle.fragment_store.specs.ShelfState.{held_at}
use Rattle.node_base.specs.Nodes.{has_node, peers_of}
use Rattle.node_base.specs.Shape.{is_name}
use Rattle.store_nodes.specs.ServerEvents.{server_step}
use Rattle.version_model.specs.declared.work.Work.{Work}
use Rattle.wire_msg.specs.declared.body.Body.TheVariants as body
use Rattle.wire_msg.specs.declared.packet.Do.TheVariants.{Deliver}
use Rattle.xfs_base.specs.declared.fragment.Fragment.{Fragment}
use Rattle.xfs_base.specs.declared.node.NodeId.{NodeId}
use Rattle.xfs_base.specs.declared.node.NodeId.TheVariants.{Client, Server}
use Rattle.xfs_base.specs.declared.segment.SegName.{SegName}
use Rattle.xfs_base.specs.declared.setup.Setup.{Setup}
use Rattle.quiet_nodes.specs.Scene.{server_at}

-- a client that fetches the fragment of a segment from a server that holds it is told it, and the server stays as it is
abbrev pub HeldFragmentsAreTold : Type 0
HeldFragmentsAreTold =
    (setup : Setup) (works : NodeId → List Work) (v c ask : ℕ) (name : SegName) (held : List Fragment) (f : Fragment)
    → has_node (peers_of setup) (Client c) ≡ true → is_name name ≡ true → held_at held name ≡ Some f
    → server_step (server_at setup works v held)
    (Deliver (record { from = Client c; to = Server v; clock = 0; body = body.Fetch (record { name = name; ask = ask }) }))
    ≡ record {
      node = server_at setup works v held;
      packets = record { from = Server v; to = Client c; clock = 0; body = body.Fragment (record { ask = ask; generation = 1; fragment = f }) } ∷ [];
      acts = [];
    }
