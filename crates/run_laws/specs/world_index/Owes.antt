-- What logs owe an event of a node, as the small world of one slot's index sees it, what tokens give it, and what the event makes of that world.
use Rattle.std.specs.Prelude.{◌≡◌, ◌<◌, ◌≤◌, ℕ, List, None, Some}
use Rattle.std.specs.List.{AllByRecursion}
use Rattle.cleaner_serving.specs.declared.emptying.Emptying.{Emptying}
use Rattle.cleaner_node.specs.CleanerEvents as cleaners
use Rattle.cleaner_node.specs.declared.cleaner.Cleaner.{Cleaner as CleanerNode}
use Rattle.cleaner_node.specs.declared.cleaner.Phase.{Phase as CleanerPhase}
use Rattle.cleaner_node.specs.declared.cleaner.Phase.TheVariants as cleaning
use Rattle.client_node.specs.Phases as clients
use Rattle.core_world.specs.declared.any_node.AnyNode.{AnyNode}
use Rattle.core_world.specs.declared.any_node.AnyNode.TheVariants as any
use Rattle.index_tie.specs.Net.{Net}
use Rattle.log_owner.specs.Sending.{server_in}
use Rattle.log_protocol.specs.Tables as tables
use Rattle.manager_node.specs.declared.manager.Manager.{Manager as ManagerNode}
use Rattle.manager_node.specs.declared.phase.Phase.{Phase as ManagerPhase}
use Rattle.manager_node.specs.declared.phase.Phase.TheVariants as managing
use Rattle.manager_node.specs.Events.{happens}
use Rattle.manager_node.specs.Phases as managers
use Rattle.manager_slots.specs.declared.slot_phase.SlotPhase.{SlotPhase}
use Rattle.node_slots.specs.node_index_tie.ManagerEvents.{FoundGets, AbsentGets, rest}
use Rattle.node_slots.specs.node_index_tie.ManagerEvents as managed
use Rattle.node_slots.specs.node_index_tie.Sight.{Questions}
use Rattle.headline.specs.Filed.{Texts}
use Rattle.node_slots.specs.node_tie.ManagerEvents.{HeldAt, ManagedAt, Names, epoch_in}
use Rattle.headline.specs.Managers.{phase_at, slot_in}
use Rattle.node_slots.specs.owner_index_tie.CleanerEvents.{EffectOwed, IsAway, NewFor, PollGets, ReadGets, ReopensOn, WritesTexts}
use Rattle.node_slots.specs.owner_index_tie.ClientEvents.{ClientOwed}
use Rattle.node_slots.specs.owner_index_tie.Filing.{FilesOwed, filed_after, filing}
use Rattle.stripe_code.specs.declared.round.Told.TheVariants.{Held, Missing as Lacks}
use Rattle.token_manager.specs.SlotState.{SlotState}
use Rattle.token_protocol.specs.Basics.{In}
use Rattle.wire_msg.specs.declared.body.Body.{Body}
use Rattle.wire_msg.specs.declared.body.Body.TheVariants as body
use Rattle.wire_msg.specs.declared.packet.Do.{Do}
use Rattle.wire_msg.specs.declared.packet.Do.TheVariants.{Begin, Deliver, Tick}
use Rattle.wire_msg.specs.declared.packet.Packet.{Packet}
use Rattle.xfs_base.specs.declared.news.SlotNews.{SlotNews}
use Rattle.xfs_base.specs.declared.node.NodeId.{NodeId}
use Rattle.xfs_base.specs.declared.node.NodeId.TheVariants.{Client, Manager, Cleaner, Registry}
use Rattle.xfs_base.specs.declared.segment.SegName.{SegName}
use Rattle.xfs_base.specs.Logs.{cleaners_number}

-- ---- what is owed

module _ (part : ℕ) (texts : Texts) (n : Net) where
  -- the cleaner: that its log is linked from the horizon of a polled epoch on, unless it has promised a later one, and that a segment that it reads is the
  -- filed one, where that bears its name
  abbrev pub CleanerBodyOwed : Emptying → NodeId → Body → Type 0
  CleanerBodyOwed e from (body.Poll m) = PollGets part n e m
  CleanerBodyOwed e from (body.Fragment m) = ReadGets part n e (server_in from) m.ask (Held m.fragment)
  CleanerBodyOwed e from (body.Missing m) = ReadGets part n e (server_in from) m.ask (Lacks m.generation)
  CleanerBodyOwed e from _ = Unit {0}

  abbrev pub CleanerPacketOwed : CleanerPhase → Packet → Type 0
  CleanerPacketOwed (cleaning.Serving e) packet = CleanerBodyOwed e packet.from packet.body
  CleanerPacketOwed (cleaning.Opening l o) packet = Unit {0}
  CleanerPacketOwed (cleaning.Down l) packet = Unit {0}

  abbrev pub CleanerDoOwed : CleanerPhase → Do → Type 0
  CleanerDoOwed p (Deliver packet) = CleanerPacketOwed p packet
  CleanerDoOwed p Begin = Unit {0}
  CleanerDoOwed p Tick = Unit {0}

  -- and that it may ask what it asks, that what a reopening of its log read back is what was filed and adopted, and that it writes texts of their names
  pub record CleanerTold (p : CleanerPhase) (what : Do) (w : cleaners.Went_to) : Type 0 where
    pub files : FilesOwed (NewFor part texts n p) texts cleaners_number n.filed w.outs
    pub asks : AllByRecursion (EffectOwed part n) w.outs
    pub reopens : ReopensOn part texts n p w.state
    pub gets : CleanerDoOwed p what
    pub writes : WritesTexts part texts n w.state

module _ (part : ℕ) (texts : Texts) (asked : Questions) (j : ℕ) (n : Net) where
  -- a manager: that what an answer to a question of the slot's takeover completes is the text of its name
  abbrev pub BodyReads : SlotPhase → NodeId → Body → Type 0
  BodyReads p from (body.Fragment m) = FoundGets part texts asked j n p from m
  BodyReads p from (body.Missing m) = AbsentGets part texts asked j n p from m
  BodyReads p from _ = Unit {0}

  abbrev pub PacketReads : ManagerPhase → Packet → Type 0
  PacketReads (managing.Serving s) packet = BodyReads (phase_at s.slots part) packet.from packet.body
  PacketReads (managing.Waiting kept hello) packet = Unit {0}
  PacketReads (managing.Down kept) packet = Unit {0}

  abbrev pub DoReads : ManagerPhase → Do → Type 0
  DoReads p (Deliver packet) = PacketReads p packet
  DoReads p Begin = Unit {0}
  DoReads p Tick = Unit {0}

  -- and that what it writes are texts of their names
  pub record ManagerTold (p : ManagerPhase) (what : Do) (q : ManagerPhase) : Type 0 where
    pub reads : DoReads p what
    pub writes : managed.WritesTexts part texts asked j n q

-- Of the node of this name. A client is owed what `ClientOwed` says; servers and the registry are owed nothing. Of a Dead and a Live that come to the cleaner,
-- and of Deltas, Reports, Checks, news and checkpoints, nothing is owed: what they tell is so.
abbrev pub IndexOwes : (part : ℕ) → Texts → Questions → Net → NodeId → AnyNode → Do → Type 0
IndexOwes part texts asked n (Client c) (any.Client node) what = ClientOwed part texts n c node.phase what (clients.takes node what)
IndexOwes part texts asked n (Manager j) (any.Manager node) what = ManagerTold part texts asked j n node.phase what (happens node what).state
IndexOwes part texts asked n Cleaner (any.Cleaner node) what = CleanerTold part texts n node.phase what (cleaners.takes node.peers node.phase what)
IndexOwes part texts asked n name node what = Unit {0}

-- ---- what the small world of tokens gives

module _ (part j : ℕ) (n : Net) where
  -- where news give a manager an epoch that is new to it, nobody was active at that
  abbrev pub NewsFree : ℕ → List SlotNews → Type 0
  NewsFree known slots = (news : SlotNews) → In news slots → news.slot ≡ part → news.manager ≡ j → known < news.epoch → n.slots news.epoch ≡ None

  abbrev pub ServingFree : ℕ → ℕ → Body → Type 0
  ServingFree life known (body.MapNews m) = NewsFree known m.slots
  ServingFree life known (body.Welcome m) = m.inc ≡ life → NewsFree known m.news.slots
  ServingFree life known _ = Unit {0}

  abbrev pub WaitingFree : ℕ → Body → Type 0
  WaitingFree life (body.Welcome m) = m.inc ≡ life → NewsFree 0 m.news.slots
  WaitingFree life _ = Unit {0}

  abbrev pub PacketFree : ManagerPhase → Packet → Type 0
  PacketFree (managing.Serving s) packet = ServingFree s.lasting.inc (epoch_in part (managing.Serving s)) packet.body
  PacketFree (managing.Waiting kept hello) packet = WaitingFree kept.inc packet.body
  PacketFree (managing.Down kept) packet = Unit {0}

  abbrev pub DoFree : ManagerPhase → Do → Type 0
  DoFree p (Deliver packet) = PacketFree p packet
  DoFree p Begin = Unit {0}
  DoFree p Tick = Unit {0}

  -- no other of so many managers holds an epoch that this one holds, or that news give to it. `holders` has of each manager the slot.
  abbrev pub HeldApart : (limit : ℕ) → (ℕ → SlotPhase) → ManagerPhase → Do → Type 0
  HeldApart limit holders p what =
      (d e : ℕ) → 0 < d → d ≤ limit → (d ≡ j → ⊥) → HeldAt (holders d) e → (HeldAt (slot_in part p) e → ⊥) × (Names part j e what → ⊥)

  pub record ManagerGiven (limit : ℕ) (holders : ℕ → SlotPhase) (p : ManagerPhase) (what : Do) : Type 0 where
    pub number : (managers.lasting_of p).number ≡ j
    pub free : DoFree p what
    pub apart : HeldApart limit holders p what

-- of the node of this name; other nodes are given nothing
abbrev pub TokensGive : (part limit : ℕ) → (ℕ → SlotPhase) → Net → NodeId → AnyNode → Do → Type 0
TokensGive part limit holders n (Manager j) (any.Manager node) what = ManagerGiven part j n limit holders node.phase what
TokensGive part limit holders n name node what = Unit {0}

-- ---- what an event makes of the small world

module _ (part : ℕ) (texts : Texts) (n next : Net) where
  -- the cleaner's log files what it acts to be filed, and what it promises, has to delete and says goes on
  pub record CleanerMakes (node : CleanerNode) (what : Do) : Type 0 where
    pub filed : next.filed ≡ filed_after texts cleaners_number n.filed (cleaners.takes node.peers node.phase what).outs
    pub slots : next.slots ≡ n.slots
    pub epoch : next.epoch ≡ n.epoch
    pub horizon : next.horizon ≡ n.horizon
    pub parts : next.parts ≡ n.parts
    pub promised : n.promised ≤ next.promised
    pub away : IsAway (cleaners.takes node.peers node.phase what).state → next.promised ≡ n.promised
    pub deleted : (name : SegName) → tables.In name n.deleted → tables.In name next.deleted

  -- of a manager only slots and packets: of the slots those of the epochs that it held or is given; one that enters is managed by it then
  pub record ManagerMakes (j : ℕ) (node : ManagerNode) (what : Do) : Type 0 where
    pub rest : rest next ≡ rest n
    pub slots : (e : ℕ) → (HeldAt (slot_in part node.phase) e → ⊥) → (Names part j e what → ⊥) → next.slots e ≡ n.slots e
    pub stay : (e : ℕ) → next.slots e ≡ None → n.slots e ≡ None
    pub entered : (e : ℕ) (z : SlotState) → next.slots e ≡ Some z → n.slots e ≡ None → ManagedAt (slot_in part (happens node what).state) e

  -- of the registry only its epoch, horizons and parts: those of an epoch that has no manager yet stay
  pub record RegistryMakes : Type 0 where
    pub slots : next.slots ≡ n.slots
    pub filed : next.filed ≡ n.filed
    pub promised : next.promised ≡ n.promised
    pub deleted : next.deleted ≡ n.deleted
    pub epoch : n.epoch ≤ next.epoch
    pub horizon : (e : ℕ) → n.slots e ≡ None → e ≤ n.epoch → next.horizon e ≡ n.horizon e
    pub parts : (e : ℕ) → n.slots e ≡ None → e ≤ n.epoch → next.parts e ≡ n.parts e

  -- a client's log files what it acts to be filed, and nothing else changes; a server changes nothing
  abbrev pub Makes : NodeId → AnyNode → Do → Type 0
  Makes (Client c) (any.Client node) what = next ≡ filing n (filed_after texts c n.filed (clients.takes node what).outs)
  Makes (Manager j) (any.Manager node) what = ManagerMakes j node what
  Makes Cleaner (any.Cleaner node) what = CleanerMakes node what
  Makes Registry (any.Registry node) what = RegistryMakes
  Makes name node what = next ≡ n
