-- A server of a quiet run keeps a fragment, and says so.
use Rattle.std.proofs.Common.{◌≡◌, ℕ, true, false, cond, List, [], ◌∷◌, None, refl, ap}
use Rattle.xfs_base.specs.Stamps.{is_greater}
use Rattle.fragment_store.specs.Calls.{shelf_store, refusal, with_fragment}
use Rattle.fragment_store.specs.ShelfState.{ShelfState, is_held}
use Rattle.store_nodes.specs.declared.server.Server.{Server as ServerNode}
use Rattle.wire_msg.specs.NodeStep.{NodeStep}
use Rattle.node_base.specs.Known.{knows_meta}
use Rattle.node_base.specs.Maps.{maps_start}
use Rattle.node_base.specs.Nodes.{has_node, peers_of}
use Rattle.node_base.specs.Shape.{is_meta}
use Rattle.store_nodes.specs.ServerEvents.{on_packet, on_store, server_step}
use Rattle.version_model.specs.declared.work.Work.{Work}
use Rattle.wire_msg.specs.declared.body.Body.TheVariants as body
use Rattle.wire_msg.specs.declared.packet.Do.TheVariants.{Deliver}
use Rattle.wire_msg.specs.declared.packet.Packet.{Packet}
use Rattle.xfs_base.specs.declared.fragment.Fragment.{Fragment}
use Rattle.xfs_base.specs.declared.node.NodeId.{NodeId}
use Rattle.xfs_base.specs.declared.node.NodeId.TheVariants.{Client, Server}
use Rattle.xfs_base.specs.declared.setup.Setup.{Setup}
use Rattle.xfs_base.specs.Segments.{pass_cmp}
use Rattle.quiet_nodes.specs.Scene.{its_groups, server_at, shelf_at}

module _ (setup : Setup) (works : NodeId → List Work) (v c clock : ℕ) (held : List Fragment) (f : Fragment) where
  kept_is : shelf_store (shelf_at setup works held) f ≡ shelf_at setup works (shelf_store (shelf_at setup works held) f).held
  kept_is =
      elim (is_held (shelf_at setup works held) f.meta.name) as
      (λ t. cond t (shelf_at setup works held) (shelf_at setup works (with_fragment f held))
      ≡ shelf_at setup works (cond t (shelf_at setup works held) (shelf_at setup works (with_fragment f held))).held) [
        | true ↦ refl
        | false ↦ refl
      ]

  abbrev pub store_packet : Packet
  store_packet = record { from = Client c; to = Server v; clock = clock; body = body.Store (record { fragment = f; generation = 1 }) }

  module _ (there : has_node (peers_of setup) (Client c) ≡ true) (of_log : is_meta f.meta ≡ true) (known : knows_meta (maps_start (its_groups setup works)) f.meta ≡ true)
      (above : is_greater (pass_cmp (record { inc = 0; att = 0 }) f.meta.name.pass) ≡ false) where
    taken : refusal (shelf_at setup works held) f.meta.name 1 ≡ None
    taken = rw above refl

    abbrev with_shelf : ShelfState → NodeStep ServerNode
    with_shelf shelf = record {
      node = record (server_at setup works v held) { shelf = shelf };
      packets = record {
        from = Server v;
        to = Client c;
        clock = 0;
        body = body.Stored (record { name = f.meta.name; index = f.meta.index; generation = 1 });
      } ∷ [];
      acts = [];
    }

    pub store_comes : server_step (server_at setup works v held) (Deliver store_packet) ≡ record {
      node = server_at setup works v (shelf_store (shelf_at setup works held) f).held;
      packets = record {
        from = Server v;
        to = Client c;
        clock = 0;
        body = body.Stored (record { name = f.meta.name; index = f.meta.index; generation = 1 });
      } ∷ [];
      acts = [];
    }
    unfolding on_packet on_store
    store_comes = rw (there, of_log, known, taken) (ap (λ shelf. with_shelf shelf) kept_is)
