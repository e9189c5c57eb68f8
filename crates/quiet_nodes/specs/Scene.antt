-- The nodes of a quiet run, by what of them may change there; all else is as at the start: every node is up in its first incarnation, the maps are the setup's,
-- and no slot ever has another manager.
use Rattle.std.specs.Prelude.{ℕ, ◌==◌, List, map, replicate, Option, if◌then◌else◌}
use Rattle.cleaner_node.specs.CleanerEvents.{cleaner_start}
use Rattle.client_log.specs.LogState.{LogState}
use Rattle.client_node.specs.declared.client.Client.{Client as ClientNode}
use Rattle.client_node.specs.declared.phase.Phase.TheVariants as clients
use Rattle.client_call.specs.declared.call.Call.{Call}
use Rattle.client_node.specs.Serving.{cached_upto}
use Rattle.client_serving.specs.declared.serving.Serving.{Serving}
use Rattle.core_world.specs.declared.any_node.AnyNode.{AnyNode}
use Rattle.core_world.specs.declared.any_node.AnyNode.TheVariants as any
use Rattle.delta_feed.specs.declared.feed.FiledDeltas.{FiledDeltas}
use Rattle.fragment_store.specs.ShelfState.{ShelfState, new_shelf}
use Rattle.group_map.specs.GroupMapState.{GroupMapState}
use Rattle.group_map.specs.Groups.{group_map_start as groups_started}
use Rattle.log_flight.specs.declared.dirty.Change.{Change}
use Rattle.log_flight.specs.Flights.{FlightState}
use Rattle.log_owner.specs.Promised.{managers_start, first_number}
use Rattle.manager_node.specs.declared.manager.Manager.{Manager as ManagerNode}
use Rattle.manager_node.specs.declared.phase.Phase.TheVariants as managers
use Rattle.manager_node.specs.Events.{first_life}
use Rattle.manager_slots.specs.declared.slot_phase.SlotPhase.{SlotPhase}
use Rattle.manager_slots.specs.declared.slot_phase.SlotPhase.TheVariants as phase
use Rattle.manager_slots.specs.Slots.{managed}
use Rattle.manager_serving.specs.declared.serving.Serving.{Serving as ManagerServing}
use Rattle.manager_serving.specs.Serving.{serving_begin as manager_begun}
use Rattle.node_base.specs.Maps.{maps_start}
use Rattle.node_base.specs.Nodes.{peers_of}
use Rattle.registry_node.specs.Events.{registry_start}
use Rattle.store_nodes.specs.declared.server.Server.{Server as ServerNode}
use Rattle.store_nodes.specs.ServerEvents.{server_start}
use Rattle.token_client.specs.declared.held.Held.{Held}
use Rattle.token_client.specs.State.{TokensState}
use Rattle.token_manager.specs.SlotState.{SlotState}
use Rattle.version_model.specs.declared.work.Work.{Work}
use Rattle.xfs_base.specs.declared.block.BlockId.{BlockId}
use Rattle.xfs_base.specs.declared.fragment.Fragment.{Fragment}
use Rattle.xfs_base.specs.declared.node.NodeId.{NodeId}
use Rattle.xfs_base.specs.declared.node.NodeId.TheVariants.{Client, Manager, Server, Cleaner, Registry}
use Rattle.xfs_base.specs.declared.segment.End.{End}
use Rattle.xfs_base.specs.declared.setup.Setup.{Setup}
use Rattle.xfs_base.specs.Limits.{all_slots}

-- what of a client may change
pub record ClientPart : Type 0 where
  -- the number of its last question
  pub asked : ℕ
  -- how many of its items are begun, and which one is open
  pub begun : ℕ
  pub item : Option ℕ
  -- the number of its last want, and what it knows of blocks
  pub req : ℕ
  pub blocks : List (BlockId × Held)
  -- the end of its log, what waits to be written, and what is in flight
  pub end : End
  pub dirty : List (BlockId × Change)
  pub flight : Option FlightState
  -- its feed: what was filed, up to which number, and what each slot acknowledged
  pub filed : List FiledDeltas
  pub fed : ℕ
  pub acked : List ℕ
  -- the clean blocks, and the open call
  pub cached : List BlockId
  pub call : Option Call

-- what may change in a quiet run: of clients, of slots, and of servers what they hold
pub record Scene : Type 0 where
  pub client : ℕ → ClientPart
  pub slot : ℕ → SlotState
  pub held : ℕ → List Fragment

-- the same with another client, slot or shelf
abbrev pub put_number : {X : Type 0} → (ℕ → X) → ℕ → X → ℕ → X
put_number f n x m = if m == n then x else f m

abbrev pub with_client : Scene → ℕ → ClientPart → Scene
with_client s c p = record s { client = put_number s.client c p }

abbrev pub with_slot : Scene → ℕ → SlotState → Scene
with_slot s i z = record s { slot = put_number s.slot i z }

abbrev pub with_held : Scene → ℕ → List Fragment → Scene
with_held s v held = record s { held = put_number s.held v held }

module _ (setup : Setup) (works : NodeId → List Work) where
  -- the maps of groups of the setup
  abbrev pub its_groups : GroupMapState
  its_groups = groups_started setup.servers setup.groups

  -- ---- clients

  abbrev pub tokens_at : ClientPart → TokensState
  tokens_at p = record { inc = 1; epochs = replicate 8 1; req = p.req; blocks = p.blocks }

  abbrev pub log_at : ℕ → ClientPart → LogState
  log_at c p = record { log = record { 0 = c }; inc = 1; end = p.end; dirty = p.dirty; flight = p.flight; groups = its_groups }

  abbrev pub serving_at : ℕ → ClientPart → Serving
  serving_at c p = record {
    lasting = record {
      number = c;
      inc = 1;
      questions = record { last = p.asked };
      items = record { works = works (Client c); begun = p.begun; unanswered = p.item };
    };
    maps = maps_start its_groups;
    managers = managers_start setup.managers;
    tokens = tokens_at p;
    log = log_at c p;
    feed = record { base = 0; filed = p.filed; end = p.fed; acked = p.acked };
    cache = record { blocks = p.cached; capacity = cached_upto setup.cache };
    call = p.call;
  }

  abbrev pub client_at : ℕ → ClientPart → ClientNode
  client_at c p = record { peers = peers_of setup; cache = setup.cache; phase = clients.Serving (serving_at c p) }

  -- ---- managers

  -- the manager of a slot
  abbrev pub manager_of_slot : ℕ → ℕ
  manager_of_slot i = first_number setup.managers i

  abbrev pub phase_at : (ℕ → SlotState) → ℕ → ℕ → SlotPhase
  phase_at slots j i = if manager_of_slot i == j then managed (slots i) else phase.Away 1

  abbrev pub managing_at : ℕ → (ℕ → SlotState) → ManagerServing
  managing_at j slots = manager_begun (first_life j (works (Manager j))) (maps_start its_groups) (map (phase_at slots j) all_slots) its_groups

  abbrev pub manager_at : ℕ → (ℕ → SlotState) → ManagerNode
  manager_at j slots = record { peers = peers_of setup; phase = managers.Serving (managing_at j slots) }

  -- ---- servers

  abbrev pub shelf_at : List Fragment → ShelfState
  shelf_at held = record new_shelf { held = held }

  abbrev pub server_at : ℕ → List Fragment → ServerNode
  server_at v held = record (server_start v setup (works (Server v))) { shelf = shelf_at held }

  -- ---- all nodes

  -- the node of a name; the cleaner and the registry stay as they began
  abbrev pub node_at : Scene → NodeId → AnyNode
  node_at s (Client c) = any.Client (client_at c (s.client c))
  node_at s (Manager j) = any.Manager (manager_at j s.slot)
  node_at s (Server v) = any.Server (server_at v (s.held v))
  node_at s Cleaner = any.Cleaner (cleaner_start setup (works Cleaner))
  node_at s Registry = any.Registry (registry_start setup (works Registry))
