-- How a moment of a run stands to a moment of the small world of one log, a client's, the cleaner's or a manager's: each node is seen there, and what was sent,
-- filed and deleted is so there.
use Rattle.std.specs.Prelude.{◌≡◌, ◌⊎◌, ◌≤◌, ℕ, true, List, Some}
use Rattle.node_logs.specs.cleaner_log_tie.Owner.{CleanerAgrees}
use Rattle.cleaner_node.specs.declared.cleaner.Phase.{Phase as CleanerPhase}
use Rattle.client_log.specs.Transition.{has_next}
use Rattle.node_logs.specs.client_log_tie.ClientEvents.{PhaseWritten}
use Rattle.node_logs.specs.client_log_tie.Owner.{Scene, ClientAgrees}
use Rattle.client_node.specs.declared.phase.Phase.{Phase}
use Rattle.core_world.specs.declared.any_node.AnyNode.{AnyNode}
use Rattle.core_world.specs.declared.any_node.AnyNode.TheVariants as any
use Rattle.log_law.specs.Laws.{Moment}
use Rattle.log_law.specs.Net.{Net}
use Rattle.log_law.specs.Openings.{next_number}
use Rattle.log_protocol.specs.Tables as tables
use Rattle.log_tie.specs.Setting.{Setting}
use Rattle.node_logs.specs.manager_log_tie.Owner.{ManagerAgrees}
use Rattle.manager_node.specs.declared.phase.Phase.{Phase as ManagerPhase}
use Rattle.node_logs.specs.node_log_tie.CleanerEvents.{CleanerSeen}
use Rattle.node_logs.specs.node_log_tie.RegistryEvents.{RegistrySeen}
use Rattle.node_logs.specs.node_log_tie.ServerEvents.{ServerSeen}
use Rattle.node_logs.specs.node_log_tie.Sight.{PacketSeen}
use Rattle.segment_format.specs.declared.segment.Segment.{Segment}
use Rattle.token_protocol.specs.Basics.{In}
use Rattle.version_model.specs.declared.act.Act.{Act}
use Rattle.version_model.specs.declared.act.Act.TheVariants as act
use Rattle.wire_msg.specs.declared.packet.Packet.{Packet}
use Rattle.world_base.specs.Cluster.{place_of}
use Rattle.world_base.specs.declared.cluster.Cluster.{Cluster}
use Rattle.headline.specs.Moments.{node_in}
use Rattle.run_laws.specs.world_logs.Roles.{asker_by}
use Rattle.headline.specs.Logs.{Role}
use Rattle.headline.specs.Logs.Role.{OfClient, OfCleaner, OfManager}
use Rattle.xfs_base.specs.declared.node.NodeId.{NodeId}
use Rattle.xfs_base.specs.declared.node.NodeId.TheVariants.{Client, Manager, Server, Cleaner, Registry}
use Rattle.xfs_base.specs.declared.segment.SegName.{SegName}
use Rattle.headline.specs.Deletions.{Deletes}

-- the number of each segment that was in flight has one after it, or is no further than the one after the end
abbrev pub IsRoomy : Net → Type 0
IsRoomy n = (s : Segment) → tables.In s n.flown → (has_next s.name.seq ≡ true) ⊎ (s.name.seq ≤ next_number n.owner)

module _ (g : Setting) (w : Scene) where
  -- the log's owner that opens it again, a client or the cleaner; of what was in flight no number is at its end, but that after the end of the log
  pub record OwnerSeen (c : ℕ) (p : Phase) : Type 0 where
    pub agrees : ClientAgrees g c w p
    pub written : PhaseWritten p
    pub room : IsRoomy w.net

  pub record CleanerOwns (p : CleanerPhase) : Type 0 where
    pub agrees : CleanerAgrees g w p
    pub room : IsRoomy w.net

  -- a client, the cleaner, and a manager, in the small world of the log of this owner
  abbrev pub ClientAs : Role → ℕ → Phase → Type 0
  ClientAs (OfClient c) d p = d ≡ c → OwnerSeen c p
  ClientAs OfCleaner d p = Unit {0}
  ClientAs (OfManager i) d p = Unit {0}

  abbrev pub CleanerAs : Role → CleanerPhase → Type 0
  CleanerAs (OfClient c) p = CleanerSeen g w.net p
  CleanerAs OfCleaner p = CleanerOwns p
  CleanerAs (OfManager i) p = CleanerSeen g w.net p

  abbrev pub ManagerAs : Role → ℕ → ManagerPhase → Type 0
  ManagerAs (OfClient c) j p = Unit {0}
  ManagerAs OfCleaner j p = Unit {0}
  ManagerAs (OfManager i) j p = j ≡ i → ManagerAgrees g i w p

module _ (g : Setting) (r : Role) (w : Scene) where
  -- ---- a node of this name

  abbrev pub ClientThere : ℕ → AnyNode → Type 0
  ClientThere d (any.Client node) = ClientAs g w r d node.phase
  ClientThere d (any.Manager node) = ⊥
  ClientThere d (any.Server node) = ⊥
  ClientThere d (any.Cleaner node) = ⊥
  ClientThere d (any.Registry node) = ⊥

  abbrev pub ManagerThere : ℕ → AnyNode → Type 0
  ManagerThere j (any.Client node) = ⊥
  ManagerThere j (any.Manager node) = ManagerAs g w r j node.phase
  ManagerThere j (any.Server node) = ⊥
  ManagerThere j (any.Cleaner node) = ⊥
  ManagerThere j (any.Registry node) = ⊥

  abbrev pub ServerThere : ℕ → AnyNode → Type 0
  ServerThere v (any.Client node) = ⊥
  ServerThere v (any.Manager node) = ⊥
  ServerThere v (any.Server node) = ServerSeen g w.net v node
  ServerThere v (any.Cleaner node) = ⊥
  ServerThere v (any.Registry node) = ⊥

  abbrev pub CleanerThere : AnyNode → Type 0
  CleanerThere (any.Client node) = ⊥
  CleanerThere (any.Manager node) = ⊥
  CleanerThere (any.Server node) = ⊥
  CleanerThere (any.Cleaner node) = CleanerAs g w r node.phase
  CleanerThere (any.Registry node) = ⊥

  abbrev pub RegistryThere : AnyNode → Type 0
  RegistryThere (any.Client node) = ⊥
  RegistryThere (any.Manager node) = ⊥
  RegistryThere (any.Server node) = ⊥
  RegistryThere (any.Cleaner node) = ⊥
  RegistryThere (any.Registry node) = RegistrySeen g w.net node.board

  abbrev pub Seen : NodeId → AnyNode → Type 0
  Seen (Client d) x = ClientThere d x
  Seen (Manager j) x = ManagerThere j x
  Seen (Server v) x = ServerThere v x
  Seen Cleaner x = CleanerThere x
  Seen Registry x = RegistryThere x

  -- ---- the moment; `told` is what the owner did

  module _ (k : Cluster) (nodes : List AnyNode) (sent : List Packet) (told : List Act) where
    pub record Stands : Type 0 where
      pub moment : Moment g w.net
      pub seen : (name : NodeId) (x : AnyNode) → node_in nodes (place_of k name) ≡ Some x → Seen name x
      pub facts : (p : Packet) → In p sent → PacketSeen g (asker_by r w) w.net p
      pub filed : (name : SegName) → In (act.Filed name) told → tables.In name w.net.filed
      pub deleted : (name : SegName) → tables.In name w.net.dropped → Deletes name sent
