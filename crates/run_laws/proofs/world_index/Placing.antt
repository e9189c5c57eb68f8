-- A node that has had its turn stands at its place, and all others where they stood.
use Rattle.std.proofs.Common.{◌≡◌, ⊎_elim, ℕ, ◌≤◌, ◌<◌, List, Some, slice_get, slice_set, sym, ap, subst, ◌∙◌}
use Rattle.client_node.specs.declared.client.Client.{Client as ClientNode}
use Rattle.cleaner_node.specs.declared.cleaner.Cleaner.{Cleaner as CleanerNode}
use Rattle.core_world.specs.declared.any_node.AnyNode.{AnyNode}
use Rattle.core_world.specs.declared.any_node.AnyNode.TheVariants as any
use Rattle.index_tie.specs.Net.{Net}
use Rattle.manager_node.specs.declared.manager.Manager.{Manager as ManagerNode}
use Rattle.node_slots.specs.node_index_tie.Sight.{Questions}
use Rattle.registry_node.specs.declared.node.RegistryNode.{RegistryNode}
use Rattle.store_nodes.specs.declared.server.Server.{Server as ServerNode}
use Rattle.token_protocol.proofs.Refining.{put_each}
use Rattle.token_protocol.specs.Basics.{put}
use Rattle.world_base.specs.Cluster.{place_of}
use Rattle.world_base.specs.declared.cluster.Cluster.{Cluster}
use Rattle.run_laws.specs.world_index.Standing.{Placed, Scene, members}
use Rattle.run_laws.proofs.world_law.ClientTurns.{number}
use Rattle.run_laws.proofs.world_law.Nodes.{here, there}
use Rattle.run_laws.proofs.world_law.OtherTurns.{equal_or_not}
use Rattle.headline.specs.Moments.{node_in}
use Rattle.xfs_base.specs.declared.node.NodeId.{NodeId}
use Rattle.xfs_base.specs.declared.node.NodeId.TheVariants.{Client, Manager, Server, Cleaner, Registry}

module _ (k : Cluster) (nodes : List AnyNode) (s : Scene) (st : Placed k nodes s) (p : ℕ) where
  abbrev with_node : AnyNode → List AnyNode
  with_node x = slice_set nodes p x

  module _ (name : NodeId) (at : place_of k name ≡ Some p) (x : AnyNode) where
    others : (y : NodeId) → (y ≡ name → ⊥) → node_in (with_node x) (place_of k y) ≡ node_in nodes (place_of k y)
    others y differs = there k nodes name p at x y differs

    -- servers, where another node has had its turn
    other_servers : ((v : ℕ) → Server v ≡ name → ⊥) → (v : ℕ) → 0 < v → v ≤ k.servers
        → (server : ServerNode) × (node_in (with_node x) (place_of k (Server v)) ≡ Some (any.Server server))
    other_servers differs v some limit = let h = st.servers v some limit in (h.0, others (Server v) (differs v) ∙ h.1)

  pub place_client : (c : ℕ) → place_of k (Client c) ≡ Some p → slice_get nodes p ≡ Some (any.Client (s.client c)) → (x : ClientNode) (net : Net)
      → Placed k (with_node (any.Client x)) (record s { net = net; client = put s.client c x })
  place_client c at fact x net = record {
    clients = put_each (λ d (y : ClientNode). 0 < d → d < members k → node_in (with_node (any.Client x)) (place_of k (Client d)) ≡ Some (any.Client y))
        s.client c x
        (λ _ _. here k nodes (Client c) p at (any.Client x) (any.Client (s.client c)) fact)
        (λ d other some less. others (Client c) at (any.Client x) (Client d) (λ same. other (ap number same)) ∙ st.clients d some less);
    managers = λ j some limit. others (Client c) at (any.Client x) (Manager j) (λ same. absurd (cc)) ∙ st.managers j some limit;
    servers = other_servers (Client c) at (any.Client x) (λ v same. absurd (cc));
    cleaner = others (Client c) at (any.Client x) Cleaner (λ same. absurd (cc)) ∙ st.cleaner;
    registry = others (Client c) at (any.Client x) Registry (λ same. absurd (cc)) ∙ st.registry;
  }

  pub place_manager : (j : ℕ) → place_of k (Manager j) ≡ Some p → slice_get nodes p ≡ Some (any.Manager (s.manager j)) → (x : ManagerNode) (net : Net)
      → Placed k (with_node (any.Manager x)) (record s { net = net; manager = put s.manager j x })
  place_manager j at fact x net = record {
    clients = λ c some less. others (Manager j) at (any.Manager x) (Client c) (λ same. absurd (cc)) ∙ st.clients c some less;
    managers = put_each (λ d (y : ManagerNode). 0 < d → d ≤ k.managers → node_in (with_node (any.Manager x)) (place_of k (Manager d)) ≡ Some (any.Manager y))
        s.manager j x
        (λ _ _. here k nodes (Manager j) p at (any.Manager x) (any.Manager (s.manager j)) fact)
        (λ d other some limit. others (Manager j) at (any.Manager x) (Manager d) (λ same. other (ap number same)) ∙ st.managers d some limit);
    servers = other_servers (Manager j) at (any.Manager x) (λ v same. absurd (cc));
    cleaner = others (Manager j) at (any.Manager x) Cleaner (λ same. absurd (cc)) ∙ st.cleaner;
    registry = others (Manager j) at (any.Manager x) Registry (λ same. absurd (cc)) ∙ st.registry;
  }

  pub place_server : (v : ℕ) → place_of k (Server v) ≡ Some p → (server : ServerNode) → slice_get nodes p ≡ Some (any.Server server) → (x : ServerNode)
      → Placed k (with_node (any.Server x)) s
  place_server v at server fact x = record {
    clients = λ c some less. others (Server v) at (any.Server x) (Client c) (λ same. absurd (cc)) ∙ st.clients c some less;
    managers = λ j some limit. others (Server v) at (any.Server x) (Manager j) (λ same. absurd (cc)) ∙ st.managers j some limit;
    servers = λ m some limit. ⊎_elim
        (λ same. (
          x,
          subst (λ (y : ℕ). node_in (with_node (any.Server x)) (place_of k (Server y)) ≡ Some (any.Server x)) (sym same)
              (here k nodes (Server v) p at (any.Server x) (any.Server server) fact),
        ))
        (λ other. (let h = st.servers m some limit in (h.0, others (Server v) at (any.Server x) (Server m) (λ same. other (ap number same)) ∙ h.1)))
        (equal_or_not m v);
    cleaner = others (Server v) at (any.Server x) Cleaner (λ same. absurd (cc)) ∙ st.cleaner;
    registry = others (Server v) at (any.Server x) Registry (λ same. absurd (cc)) ∙ st.registry;
  }

  pub place_cleaner : place_of k Cleaner ≡ Some p → slice_get nodes p ≡ Some (any.Cleaner s.cleaner) → (x : CleanerNode) (net : Net) (asked : Questions)
      → Placed k (with_node (any.Cleaner x)) (record s { net = net; asked = asked; cleaner = x })
  place_cleaner at fact x net asked = record {
    clients = λ c some less. others Cleaner at (any.Cleaner x) (Client c) (λ same. absurd (cc)) ∙ st.clients c some less;
    managers = λ j some limit. others Cleaner at (any.Cleaner x) (Manager j) (λ same. absurd (cc)) ∙ st.managers j some limit;
    servers = other_servers Cleaner at (any.Cleaner x) (λ v same. absurd (cc));
    cleaner = here k nodes Cleaner p at (any.Cleaner x) (any.Cleaner s.cleaner) fact;
    registry = others Cleaner at (any.Cleaner x) Registry (λ same. absurd (cc)) ∙ st.registry;
  }

  pub place_registry : place_of k Registry ≡ Some p → slice_get nodes p ≡ Some (any.Registry s.registry) → (x : RegistryNode) (net : Net)
      → Placed k (with_node (any.Registry x)) (record s { net = net; registry = x })
  place_registry at fact x net = record {
    clients = λ c some less. others Registry at (any.Registry x) (Client c) (λ same. absurd (cc)) ∙ st.clients c some less;
    managers = λ j some limit. others Registry at (any.Registry x) (Manager j) (λ same. absurd (cc)) ∙ st.managers j some limit;
    servers = other_servers Registry at (any.Registry x) (λ v same. absurd (cc));
    cleaner = others Registry at (any.Registry x) Cleaner (λ same. absurd (cc)) ∙ st.cleaner;
    registry = here k nodes Registry p at (any.Registry x) (any.Registry s.registry) fact;
  }
