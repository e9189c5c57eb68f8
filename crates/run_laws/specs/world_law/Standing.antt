-- How a moment of a run stands to a moment of the small world of one slot: each client and manager is seen there, and the promise of the cleaner, each packet
-- about tokens was sent there, and who was given which epoch, in which incarnation, is told beside it.
use Rattle.std.specs.Prelude.{◌≡◌, ◌⊎◌, ◌≤◌, ◌<◌, ◌+◌, ℕ, Bool, true, List, Some}
use Rattle.client_node.specs.declared.client.Client.{Client as ClientNode}
use Rattle.client_node.specs.Phases as clients
use Rattle.core_world.specs.declared.any_node.AnyNode.{AnyNode}
use Rattle.core_world.specs.declared.any_node.AnyNode.TheVariants as any
use Rattle.manager_node.specs.declared.manager.Manager.{Manager as ManagerNode}
use Rattle.manager_node.specs.declared.phase.Phase.{Phase as ManagerPhase}
use Rattle.manager_node.specs.declared.phase.Phase.TheVariants as managing
use Rattle.manager_node.specs.Phases as managers
use Rattle.node_slots.specs.node_tie.CleanerEvents.{CleanerStands, CleanerWelcomed}
use Rattle.node_slots.specs.node_tie.CleanerLogs.{CleanerCopies, its_log}
use Rattle.node_slots.specs.node_tie.ClientEvents.{ClientAgrees, ClientStands, WelcomeRises}
use Rattle.node_slots.specs.node_tie.ManagerEvents.{ManagerAgrees, HeldAt, epoch_in, is_serving}
use Rattle.headline.specs.Managers.{slot_in}
use Rattle.node_slots.specs.node_tie.Sight.{ClientSends, CleanerSends, ManagerSends, ServerSends}
use Rattle.registry.specs.Board.{inc_of}
use Rattle.registry.specs.Slots.{entry_of}
use Rattle.cleaner_node.specs.CleanerEvents as cleaners
use Rattle.cleaner_node.specs.declared.cleaner.Cleaner.{Cleaner as CleanerNode}
use Rattle.registry_node.specs.declared.node.RegistryNode.{RegistryNode}
use Rattle.store_nodes.specs.declared.server.Server.{Server as ServerNode}
use Rattle.node_slots.specs.node_tie.Promised.{with_promise}
use Rattle.token_law.specs.Net.{Net, Runs, opening}
use Rattle.token_manager.specs.SlotState.{SlotState}
use Rattle.token_protocol.specs.Basics.{In}
use Rattle.token_protocol.specs.Premises.{Premise}
use Rattle.version_model.specs.declared.act.Act.{Act}
use Rattle.wire_msg.specs.declared.body.Body.{Body}
use Rattle.wire_msg.specs.declared.body.Body.TheVariants as body
use Rattle.wire_msg.specs.declared.packet.Packet.{Packet}
use Rattle.wire_msg.specs.declared.registry.Welcome.{Welcome}
use Rattle.world_base.specs.Cluster.{place_of}
use Rattle.world_base.specs.declared.cluster.Cluster.{Cluster}
use Rattle.headline.specs.Moments.{node_in}
use Rattle.xfs_base.specs.declared.news.SlotNews.{SlotNews}
use Rattle.xfs_base.specs.declared.node.NodeId.{NodeId}
use Rattle.xfs_base.specs.declared.node.NodeId.TheVariants.{Client, Manager, Server, Cleaner, Registry}

-- what stands at one moment: the small world, the nodes by number, and to whom each epoch of the slot was given, in which incarnation of the manager
pub record Scene : Type 0 where
  pub net : Net
  pub client : ℕ → ClientNode
  pub manager : ℕ → ManagerNode
  pub cleaner : CleanerNode
  pub registry : RegistryNode
  pub lord : ℕ → ℕ
  pub since : ℕ → ℕ

abbrev pub life_of_client : Scene → ℕ → ℕ
life_of_client s c = (clients.lasting_of (s.client c).phase).inc

abbrev pub life_of_manager : Scene → ℕ → ℕ
life_of_manager s j = (managers.lasting_of (s.manager j).phase).inc

abbrev pub life_of_cleaner : Scene → ℕ
life_of_cleaner s = (cleaners.lasting_of s.cleaner.phase).inc

-- the incarnation of a manager that the registry knows of
abbrev pub life_told : Scene → ℕ → ℕ
life_told s j = inc_of s.registry.board.incs j

module _ (k : Cluster) (part : ℕ) where
  abbrev pub members : ℕ
  members = k.clients + 1

  -- the epoch of the slot, and its manager
  abbrev pub epoch_now : Scene → ℕ
  epoch_now s = (entry_of s.registry.board.entries part).epoch

  abbrev pub manager_now : Scene → ℕ
  manager_now s = (entry_of s.registry.board.entries part).manager

  -- ---- packets

  -- news of the slot tell of an epoch that was given to this manager
  pub record NewsTold (s : Scene) (news : SlotNews) : Type 0 where
    pub within : news.epoch ≤ epoch_now s
    pub some : 0 < news.epoch
    pub given : s.lord news.epoch ≡ news.manager

  pub record AllTold (s : Scene) (slots : List SlotNews) : Type 0 where
    pub each : (news : SlotNews) → In news slots → news.slot ≡ part → NewsTold s news
    pub here : (news : SlotNews) × In news slots × (news.slot ≡ part)

  -- a Welcome to a client is of an incarnation that it had, and no epoch in it is below what it promised before
  pub record ClientWelcomed (s : Scene) (c : ℕ) (m : Welcome) : Type 0 where
    pub life : m.inc ≤ life_of_client s c
    pub rises : WelcomeRises part (epoch_now s) c s.net (s.client c).phase m

  -- a Welcome to a manager is of an incarnation that the registry knew: what is given to it from that epoch on is given to it in that incarnation or a
  -- later one
  pub record ManagerWelcomed (s : Scene) (j : ℕ) (m : Welcome) : Type 0 where
    pub life : m.inc ≤ life_told s j
    pub version : 1 ≤ m.news.version
    pub later : (news : SlotNews) → In news m.news.slots → news.slot ≡ part → (e : ℕ) → news.epoch < e → e ≤ epoch_now s → s.lord e ≡ j → m.inc ≤ s.since e
    pub own : (news : SlotNews) → In news m.news.slots → news.slot ≡ part → news.manager ≡ j → m.inc ≤ s.since news.epoch

  -- a Welcome to the cleaner is of an incarnation that it had, and names no earlier epoch than it promised before
  pub record CleanerTold (s : Scene) (m : Welcome) : Type 0 where
    pub life : m.inc ≤ life_of_cleaner s
    pub rises : CleanerWelcomed part s.net.promised (epoch_now s) s.cleaner.phase m

  abbrev pub Welcomed : Scene → NodeId → Welcome → Type 0
  Welcomed s (Client c) m = ClientWelcomed s c m
  Welcomed s (Manager j) m = ManagerWelcomed s j m
  Welcomed s (Server n) m = Unit {0}
  Welcomed s Cleaner m = CleanerTold s m
  Welcomed s Registry m = Unit {0}

  -- the registry sends maps, and what it keeps of checkpoints
  abbrev pub RegistrySends : Scene → NodeId → Body → Type 0
  RegistrySends s to (body.MapNews m) = AllTold s m.slots
  RegistrySends s to (body.Welcome m) = AllTold s m.news.slots × Welcomed s to m
  RegistrySends s to (body.CkptAck m) = Unit {0}
  RegistrySends s to _ = ⊥

  -- what holds of each packet that was sent
  abbrev pub SentBy : Scene → NodeId → NodeId → Body → Type 0
  SentBy s (Client c) to m = (0 < c) × (c < members) × ClientSends part s.net.sent c (life_of_client s c) to m
  SentBy s (Manager j) to m = (0 < j) × (j ≤ k.managers) × ManagerSends part s.net.sent (epoch_now s) (life_of_manager s j) to m
  SentBy s (Server n) to m = ServerSends m
  SentBy s Cleaner to m = CleanerSends part s.net.promised (life_of_cleaner s) m
  SentBy s Registry to m = RegistrySends s to m

  abbrev pub Fact : Scene → Packet → Type 0
  Fact s p = SentBy s p.from p.to p.body

  -- ---- managers

  -- in its present life it was at this epoch: it is down, or knows of no earlier one
  abbrev pub Been : ManagerPhase → ℕ → Type 0
  Been (managing.Down kept) e = Unit {0}
  Been (managing.Waiting kept hello) e = ⊥
  Been (managing.Serving s) e = e ≤ epoch_in part (managing.Serving s)

  -- a manager that is active at an epoch, or was, was so in the incarnation in which the epoch was given to it
  abbrev pub PastAt : ManagerPhase → ℕ → ℕ → Type 0
  PastAt p life e = (life < (managers.lasting_of p).inc) ⊎ ((life ≡ (managers.lasting_of p).inc) × Been p e)

  pub record ManagerSees (s : Scene) (j : ℕ) (p : ManagerPhase) : Type 0 where
    pub agrees : ManagerAgrees members part s.net j p
    pub within : epoch_in part p ≤ epoch_now s
    -- what it takes over or manages was given to it in this incarnation
    pub owns : (e : ℕ) → HeldAt (slot_in part p) e → (s.lord e ≡ j) × (s.since e ≡ (managers.lasting_of p).inc)
    -- what is given to it above the epoch that it knows is given to it in this incarnation
    pub fresh : is_serving p ≡ true → (e : ℕ) → epoch_in part p < e → e ≤ epoch_now s → s.lord e ≡ j → (managers.lasting_of p).inc ≤ s.since e
    pub known : is_serving p ≡ true → (managers.lasting_of p).inc ≤ life_told s j
    pub told : life_told s j ≤ (managers.lasting_of p).inc

  -- ---- the moment

  module _ (nodes : List AnyNode) (sent : List Packet) where
    -- the nodes stand at their places
    pub record Placed (s : Scene) : Type 0 where
      pub clients : (c : ℕ) → 0 < c → c < members → node_in nodes (place_of k (Client c)) ≡ Some (any.Client (s.client c))
      pub managers : (j : ℕ) → 0 < j → j ≤ k.managers → node_in nodes (place_of k (Manager j)) ≡ Some (any.Manager (s.manager j))
      pub servers : (n : ℕ) → 0 < n → n ≤ k.servers → (server : ServerNode) × (node_in nodes (place_of k (Server n)) ≡ Some (any.Server server))
      pub cleaner : node_in nodes (place_of k Cleaner) ≡ Some (any.Cleaner s.cleaner)
      pub registry : node_in nodes (place_of k Registry) ≡ Some (any.Registry s.registry)

-- Of a moment of a run at which these acts were done. Where logs keep their word (true), the small world knows them, too.
module _ (logs : Bool) (k : Cluster) (part : ℕ) (nodes : List AnyNode) (sent : List Packet) (done : List Act) where
  pub record Stands (RegistrySound : RegistryNode → Type 0) (s : Scene) : Type 0 where
    pub runs : Runs logs (members k part) part opening (with_promise 1 s.net)
    -- all that was acted is acted there
    pub acts : s.net.acts ≡ done
    pub placed : Placed k part nodes sent s
    pub sound : RegistrySound s.registry
    pub clients : (c : ℕ) → 0 < c → c < members k part
        → ClientAgrees logs part c s.net (s.client c).phase × ClientStands part (epoch_now k part s) c s.net (s.client c).phase
    pub managers : (j : ℕ) → 0 < j → j ≤ k.managers → ManagerSees k part s j (s.manager j).phase
    -- the cleaner has promised an epoch that the slot had
    pub cleaner : (s.net.promised ≤ epoch_now k part s) × CleanerStands part s.net.promised (epoch_now k part s) s.cleaner.phase
    -- where logs keep their word, its log is seen, too, whose number no client has
    pub copies : Premise logs (CleanerCopies s.net.books s.cleaner.phase)
    pub few : members k part ≤ its_log
    pub peers : (j : ℕ) → 0 < j → j ≤ k.managers → (s.manager j).peers.clients + 1 ≡ members k part
    -- the newest epoch was given to the slot's manager, in the incarnation that the registry knows
    pub current : (s.lord (epoch_now k part s) ≡ manager_now k part s) × (s.since (epoch_now k part s) ≡ life_told s (manager_now k part s))
    pub some : 0 < epoch_now k part s
    -- no epoch was given in an incarnation that the registry didn't know
    pub before : (e : ℕ) → 0 < e → e ≤ epoch_now k part s → s.since e ≤ life_told s (s.lord e)
    pub entered : (e : ℕ) (z : SlotState) → s.net.slots e ≡ Some z
        → (e ≤ epoch_now k part s) × (0 < s.lord e) × (s.lord e ≤ k.managers) × PastAt k part (s.manager (s.lord e)).phase (s.since e) e × (e ≤ s.net.promised)
    pub facts : (p : Packet) → In p sent → Fact k part s p
