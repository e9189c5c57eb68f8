-- How a moment of a run stands to a moment of the small world of one slot's index: each node is seen there, and what packets tell of where blocks lie is so.
use Rattle.std.specs.Prelude.{◌≡◌, ℕ, ◌+◌, ◌≤◌, ◌<◌, List, None, Some}
use Rattle.client_node.specs.declared.client.Client.{Client as ClientNode}
use Rattle.cleaner_node.specs.declared.cleaner.Cleaner.{Cleaner as CleanerNode}
use Rattle.core_world.specs.declared.any_node.AnyNode.{AnyNode}
use Rattle.core_world.specs.declared.any_node.AnyNode.TheVariants as any
use Rattle.index_tie.specs.Net.{Net, Runs, opening}
use Rattle.log_protocol.specs.Tables as tables
use Rattle.manager_node.specs.declared.manager.Manager.{Manager as ManagerNode}
use Rattle.manager_slots.specs.declared.slot_phase.SlotPhase.{SlotPhase}
use Rattle.node_slots.specs.node_index_tie.ManagerEvents.{ManagerAgrees}
use Rattle.node_slots.specs.node_index_tie.RegistryEvents.{IsHorizon, RegistryAgrees}
use Rattle.node_slots.specs.node_index_tie.Sight.{Questions, held_in, CheckKnown, DeltasKnown, ManagerSends, ReportKnown}
use Rattle.headline.specs.Filed.{AreTexts, Texts}
use Rattle.headline.specs.Managers.{slot_in}
use Rattle.node_slots.specs.owner_index_tie.CleanerEvents.{CleanerAgrees}
use Rattle.node_slots.specs.owner_index_tie.ClientEvents.{ClientAgrees}
use Rattle.node_slots.specs.owner_index_tie.ServerEvents.{SaysNothing}
use Rattle.segment_format.specs.declared.segment.Segment.{Segment}
use Rattle.registry_node.specs.declared.node.RegistryNode.{RegistryNode}
use Rattle.store_nodes.specs.declared.server.Server.{Server as ServerNode}
use Rattle.token_protocol.specs.Basics.{In}
use Rattle.wire_msg.specs.declared.body.Body.{Body}
use Rattle.wire_msg.specs.declared.body.Body.TheVariants as body
use Rattle.wire_msg.specs.declared.packet.Packet.{Packet}
use Rattle.world_base.specs.Cluster.{place_of}
use Rattle.world_base.specs.declared.cluster.Cluster.{Cluster}
use Rattle.headline.specs.Moments.{node_in}
use Rattle.run_laws.specs.world_index.Asking.{CleanerAsks}
use Rattle.xfs_base.specs.Blocks.{slot_of}
use Rattle.xfs_base.specs.Limits.{u32_end}
use Rattle.xfs_base.specs.declared.news.SlotNews.{SlotNews}
use Rattle.xfs_base.specs.declared.node.NodeId.{NodeId}
use Rattle.xfs_base.specs.declared.node.NodeId.TheVariants.{Client, Manager, Server, Cleaner, Registry}
use Rattle.xfs_base.specs.declared.segment.SegName.{SegName}
use Rattle.xfs_base.specs.Logs.{cleaners_number}

-- what stands at one moment: the small world, the questions that the cleaner asked of blocks of the slot, and the nodes by number
pub record Scene : Type 0 where
  pub net : Net
  pub asked : Questions
  pub client : ℕ → ClientNode
  pub manager : ℕ → ManagerNode
  pub cleaner : CleanerNode
  pub registry : RegistryNode

-- ---- packets

module _ (part : ℕ) (n : Net) where
  -- What the owner of a log tells: Deltas of the slot, and ends of its log, which are filed; those that it reports to the slot's manager are known at its
  -- epoch.
  abbrev pub OwnerTells : ℕ → NodeId → Body → Type 0
  OwnerTells l from (body.Deltas m) = m.slot ≡ part → DeltasKnown part n l m
  OwnerTells l from (body.Report m) = (m.slot ≡ part → ReportKnown part n m.epoch from m.end) × (m.end.seq ≤ n.filed.head l)
  OwnerTells l from (body.Want m) = m.end ≤ n.filed.head l
  OwnerTells l from (body.Gave m) = m.end ≤ n.filed.head l
  OwnerTells l from _ = Unit {0}

  -- The cleaner tells this of its own log; a Check of a block of the slot was sent there, and what it has servers delete was to be deleted there.
  abbrev pub CleanerTells : Questions → Body → Type 0
  CleanerTells asked (body.Check m) = slot_of m.block.ino.0 ≡ part → CheckKnown part asked n m
  CleanerTells asked (body.Delete m) = tables.In m.name n.deleted
  CleanerTells asked m = OwnerTells cleaners_number Cleaner m

  -- News of the slot are of an epoch that the registry had; while that has no manager, they have its horizon and its parts.
  pub record NewsKept (news : SlotNews) : Type 0 where
    pub some : 0 < news.epoch
    pub begun : news.epoch ≤ n.epoch
    pub horizon : n.slots news.epoch ≡ None → news.horizon ≡ n.horizon news.epoch
    pub parts : n.slots news.epoch ≡ None → news.parts ≡ n.parts news.epoch
    pub is_horizon : IsHorizon news.horizon

  abbrev pub AllKept : List SlotNews → Type 0
  AllKept slots = (news : SlotNews) → In news slots → news.slot ≡ part → NewsKept news

  abbrev pub RegistryTells : Body → Type 0
  RegistryTells (body.MapNews m) = AllKept m.slots
  RegistryTells (body.Welcome m) = AllKept m.news.slots
  RegistryTells _ = Unit {0}

  -- what holds of each packet that was sent
  abbrev pub SentBy : Questions → NodeId → Body → Type 0
  SentBy asked (Client c) m = OwnerTells c (Client c) m
  SentBy asked (Manager j) m = ManagerSends part asked n m
  SentBy asked (Server v) m = SaysNothing m
  SentBy asked Cleaner m = CleanerTells asked m
  SentBy asked Registry m = RegistryTells m

abbrev pub Fact : ℕ → Scene → Packet → Type 0
Fact part s p = SentBy part s.net s.asked p.from p.body

-- ---- the moment

-- the slot, as each manager has it
abbrev pub holder : ℕ → Scene → ℕ → SlotPhase
holder part s d = slot_in part (s.manager d).phase

-- these questions were asked of a segment of this name
pub record WasAsked (asked : Questions) (ask : ℕ) (name : SegName) : Type 0 where
  pub number : ℕ
  pub among : tables.In (ask, number, name) asked

module _ (k : Cluster) where
  abbrev pub members : ℕ
  members = k.clients + 1

  -- the nodes stand at their places
  pub record Placed (nodes : List AnyNode) (s : Scene) : Type 0 where
    pub clients : (c : ℕ) → 0 < c → c < members → node_in nodes (place_of k (Client c)) ≡ Some (any.Client (s.client c))
    pub managers : (j : ℕ) → 0 < j → j ≤ k.managers → node_in nodes (place_of k (Manager j)) ≡ Some (any.Manager (s.manager j))
    pub servers : (v : ℕ) → 0 < v → v ≤ k.servers → (server : ServerNode) × (node_in nodes (place_of k (Server v)) ≡ Some (any.Server server))
    pub cleaner : node_in nodes (place_of k Cleaner) ≡ Some (any.Cleaner s.cleaner)
    pub registry : node_in nodes (place_of k Registry) ≡ Some (any.Registry s.registry)

-- Of a moment of a run: of these texts of names, where the small world began with any segments.
module _ (k : Cluster) (part : ℕ) (texts : Texts) (first : ℕ → ℕ → Segment) (nodes : List AnyNode) (sent : List Packet) where
  pub record Stands (RegistrySound : RegistryNode → Type 0) (s : Scene) : Type 0 where
    pub runs : Runs part (held_in part texts) (opening first) s.net
    pub placed : Placed k nodes s
    pub sound : RegistrySound s.registry
    pub registry : RegistryAgrees part s.net s.registry
    pub clients : (c : ℕ) → 0 < c → c < members k → ClientAgrees part texts s.net c (s.client c).phase
    pub managers : (j : ℕ) → 0 < j → j ≤ k.managers → ManagerAgrees part texts s.net (s.manager j).phase
    pub cleaner : CleanerAgrees part s.net texts s.cleaner.phase
    -- the cleaner's questions: what it awaits of the segment in hand it asked of that
    pub asks : CleanerAsks (WasAsked s.asked) s.cleaner.phase
    -- no client has the number of the cleaner's log
    pub few : members k ≤ cleaners_number
    -- what is filed are the texts of their names, and no log is at its last number
    pub texts_of : AreTexts texts s.net.filed
    pub heads : (l : ℕ) → s.net.filed.head l < u32_end
    pub facts : (p : Packet) → In p sent → Fact part s p
