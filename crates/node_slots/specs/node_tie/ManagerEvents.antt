-- How a manager is seen in the small world of one slot of the map, and what one event of it is there.
use Rattle.std.specs.Prelude.{◌≡◌, ◌≤◌, ◌<◌, ◌+◌, ℕ, List, [], ◌++◌, Some, None, length, false, true, Bool, ◌⊎◌}
use Rattle.std.specs.List.{All}
use Rattle.manager_map.specs.Slots.{manager_map_start}
use Rattle.manager_node.specs.Events.{manager_start, happens}
use Rattle.manager_node.specs.Phases.{Went_to, lasting_of}
use Rattle.manager_node.specs.declared.manager.Manager.{Manager as AManager}
use Rattle.manager_slots.specs.SlotTable.{Table, first_phase}
use Rattle.version_model.specs.declared.work.Work.{Work}
use Rattle.xfs_base.specs.declared.setup.Setup.{Setup}
use Rattle.manager_node.specs.declared.phase.Phase.{Phase}
use Rattle.manager_node.specs.declared.phase.Phase.TheVariants.{Down, Waiting, Serving as Serves}
use Rattle.manager_slots.specs.Slots.{epoch_of, fetch_of}
use Rattle.manager_slots.specs.Takeovers.{report_input}
use Rattle.manager_slots.specs.declared.lasting.Lasting.{Lasting as Kept}
use Rattle.manager_slots.specs.declared.slot_phase.Active.{Active}
use Rattle.manager_slots.specs.declared.slot_phase.SlotPhase.{SlotPhase}
use Rattle.manager_slots.specs.declared.slot_phase.SlotPhase.TheVariants as phase
use Rattle.manager_slots.specs.declared.slot_phase.Taking.{Taking}
use Rattle.manager_serving.specs.declared.serving.Serving.{Serving}
use Rattle.slot_beliefs.specs.declared.job.Job.{Job}
use Rattle.slot_beliefs.specs.Recalls.{applied_of}
use Rattle.takeover.specs.Reports.{applied_of as applied_by, end_from}
use Rattle.takeover.specs.TakeState.{TakeState}
use Rattle.takeover.specs.Transition.{active, awaited, transition}
use Rattle.takeover.specs.declared.input.In.{In as Input}
use Rattle.takeover.specs.declared.input.In.TheVariants.{Got, Missing}
use Rattle.takeover.specs.declared.report.Report.{Report as Heard}
use Rattle.takeover.specs.declared.source.Present.{Present}
use Rattle.token_law.specs.Net.{Net, Packet, Runs, IsLatest, opening}
use Rattle.token_law.specs.Net.Packet.{ReportSent}
use Rattle.token_law.specs.Owed.{DeltasCover, Gathered}
use Rattle.token_manager.specs.SlotState.{SlotState}
use Rattle.token_manager.specs.Transition.{joins_on}
use Rattle.token_protocol.specs.Basics.{In}
use Rattle.token_protocol.specs.Premises.{Premise}
use Rattle.node_base.specs.Effects.{acts_of}
use Rattle.wire_msg.specs.declared.body.Body.{Body}
use Rattle.wire_msg.specs.declared.body.Body.TheVariants as body
use Rattle.wire_msg.specs.declared.packet.Do.{Do}
use Rattle.wire_msg.specs.declared.packet.Do.TheVariants.{Begin, Deliver, Tick}
use Rattle.wire_msg.specs.declared.packet.Packet.{Packet as Sent}
use Rattle.wire_msg.specs.declared.registry.News.{News}
use Rattle.wire_msg.specs.declared.registry.Welcome.{Welcome}
use Rattle.wire_msg.specs.declared.tokens.Gave.{Gave}
use Rattle.wire_msg.specs.declared.tokens.Want.{Want}
use Rattle.wire_msg.specs.declared.deltas.Deltas.{Deltas}
use Rattle.wire_msg.specs.declared.deltas.Report.{Report}
use Rattle.wire_msg.specs.declared.storage.Found.{Found}
use Rattle.wire_msg.specs.declared.storage.Missing.{Missing as Absent}
use Rattle.xfs_base.specs.Blocks.{slot_of}
use Rattle.xfs_base.specs.declared.block.BlockId.{BlockId}
use Rattle.xfs_base.specs.declared.entry.Entry.{Entry}
use Rattle.xfs_base.specs.declared.news.SlotNews.{SlotNews}
use Rattle.xfs_base.specs.declared.node.NodeId.{NodeId}
use Rattle.xfs_base.specs.declared.node.NodeId.TheVariants.{Client, Manager, Server, Cleaner, Registry}
use Rattle.xfs_base.specs.declared.segment.End.{End}
use Rattle.xfs_base.specs.declared.segment.LogId.{LogId}
use Rattle.xfs_base.specs.declared.token.Mode.{Mode}
use Rattle.xfs_base.specs.Limits.{slot_count, block_logs}
use Rattle.xfs_base.specs.Logs.{cleaner_log}
use Rattle.node_slots.specs.node_tie.Sight.{WantSeen, GaveSeen, ReportSeen, ManagerDoes}
use Rattle.headline.specs.Managers.{phase_at, slot_in}

-- ---- one slot

-- what a slot has, but for the pages of its index
abbrev pub without_pages : SlotState → SlotState
without_pages s = record s { index = record { rows = s.index.rows; usage = s.index.usage; numbers = []; pages = [] } }

-- two slots that differ in the pages of their indexes at most
abbrev pub SameButPages : SlotState → SlotState → Type 0
SameButPages z s = without_pages z ≡ without_pages s

-- the slot is being taken over at this epoch
abbrev pub TakingAt : SlotPhase → ℕ → Type 0
TakingAt (phase.Taking t) e = t.epoch ≡ e
TakingAt _ e = ⊥

-- the slot is being taken over, or is managed, at this epoch
abbrev pub HeldAt : SlotPhase → ℕ → Type 0
HeldAt (phase.Taking t) e = t.epoch ≡ e
HeldAt (phase.Active a) e = a.slot.epoch ≡ e
HeldAt (phase.Away epoch) e = ⊥
HeldAt (phase.Broken epoch seg) e = ⊥

-- the slot is managed at this epoch
abbrev pub ManagedAt : SlotPhase → ℕ → Type 0
ManagedAt (phase.Active a) e = a.slot.epoch ≡ e
ManagedAt _ e = ⊥

module _ (members part : ℕ) (n : Net) where
  -- a report of a client was sent, in the epoch of the takeover; the cleaner has promised that epoch where it reports
  abbrev pub ReportKnown : ℕ → NodeId → List (BlockId × Mode) → End → Type 0
  ReportKnown epoch (Client c) held end = (0 < c) × (c < members) × In (ReportSent c epoch held end.seq) n.sent
  ReportKnown epoch Cleaner held end = epoch ≤ n.promised
  ReportKnown epoch _ held end = Unit {0}

  -- a takeover of the slot
  pub record TakingAgrees (t : Taking) : Type 0 where
    -- the small world has no manager at its epoch yet
    pub free : n.slots t.epoch ≡ None
    pub slot : t.take.news.slot ≡ part
    pub epoch : t.take.news.epoch ≡ t.epoch
    pub clients : t.take.clients + 1 ≡ members
    -- the reports that it keeps were sent, one from each node
    pub reported : (r : Heard) → In r t.take.reports → ReportKnown t.epoch r.from r.held r.end
    pub once : (r q : Heard) → In r t.take.reports → In q t.take.reports → r.from ≡ q.from → r.held ≡ q.held
    -- it reads once all have reported
    pub ready : (p : Present) → t.take.present ≡ Some p → awaited t.take ≡ []

  -- a slot that is managed
  pub record ActiveAgrees (a : Active) : Type 0 where
    pub slot : SlotState
    pub there : n.slots a.slot.epoch ≡ Some slot
    pub same : SameButPages slot a.slot
    pub nine : length a.slot.applied ≡ block_logs

  abbrev pub PhaseAgrees : SlotPhase → Type 0
  PhaseAgrees (phase.Taking t) = TakingAgrees t
  PhaseAgrees (phase.Active a) = ActiveAgrees a
  PhaseAgrees (phase.Away epoch) = Unit {0}
  PhaseAgrees (phase.Broken epoch seg) = Unit {0}

-- ---- the other slots

-- wants wait for blocks of the slot alone
abbrev pub JobsOf : ℕ → List (BlockId × Job) → Type 0
JobsOf k jobs = All (λ e. (slot_of e.0.ino.0 ≡ k) × (slot_of e.1.want.block.ino.0 ≡ k)) jobs

abbrev pub OtherAgrees : ℕ → SlotPhase → Type 0
OtherAgrees k (phase.Active a) = JobsOf k a.slot.jobs
OtherAgrees k _ = Unit {0}

-- ---- the manager

module _ (members part : ℕ) (n : Net) where
  pub record TableAgrees (table : Table) : Type 0 where
    pub eight : length table ≡ slot_count
    pub here : PhaseAgrees members part n (phase_at table part)
    pub there : (k : ℕ) → (k ≡ part → ⊥) → OtherAgrees k (phase_at table k)

  -- manager j that serves
  pub record ServingAgrees (j : ℕ) (s : Serving) : Type 0 where
    pub number : s.lasting.number ≡ j
    pub table : TableAgrees s.slots

  abbrev pub ManagerAgrees : ℕ → Phase → Type 0
  ManagerAgrees j (Serves s) = ServingAgrees j s
  ManagerAgrees j (Down kept) = kept.number ≡ j
  ManagerAgrees j (Waiting kept hello) = kept.number ≡ j

-- the epoch of the slot that it knows of
abbrev pub epoch_in : ℕ → Phase → ℕ
epoch_in part p = epoch_of (slot_in part p)

-- ---- what the world owes a packet

-- this of the client that a packet is from, or of the server, and nothing where it is from another node
abbrev pub OfClient : NodeId → (ℕ → Type 0) → Type 0
OfClient (Client c) So = So c
OfClient (Manager c) So = Unit {0}
OfClient (Server c) So = Unit {0}
OfClient Cleaner So = Unit {0}
OfClient Registry So = Unit {0}

abbrev pub OfServer : NodeId → (ℕ → Type 0) → Type 0
OfServer (Server v) So = So v
OfServer (Client c) So = Unit {0}
OfServer (Manager c) So = Unit {0}
OfServer Cleaner So = Unit {0}
OfServer Registry So = Unit {0}

module _ (part : ℕ) (n : Net) where
  abbrev pub WantGets : NodeId → Want → Type 0
  WantGets from m = OfClient from (λ c. WantSeen part n.sent c m)

  abbrev pub GaveGets : NodeId → Gave → Type 0
  GaveGets from m = OfClient from (λ c. GaveSeen part n.sent c m)

  -- a report is of one of the clients, or the cleaner has promised its epoch
  abbrev pub ReportGets : ℕ → NodeId → Report → Type 0
  ReportGets members (Client c) m = (0 < c) × (c < members) × ReportSeen part n.sent c m
  ReportGets members Cleaner m = m.slot ≡ part → m.epoch ≤ n.promised
  ReportGets members _ m = Unit {0}

-- the end that the first report of a client names, by client
abbrev pub ends_of : List Heard → ℕ → ℕ
ends_of reports c = (end_from (Client c) reports).seq

module _ (members part : ℕ) (n : Net) where
  -- where Deltas join on to what this slot has applied, and it reigns, they cover its index
  abbrev pub DeltasJoin : SlotPhase → LogId → Deltas → Type 0
  DeltasJoin p log m =
      (e : ℕ) (z : SlotState) → HeldAt p e → n.slots e ≡ Some z → IsLatest n e → joins_on (applied_of z.applied log.0) m.first m.upto ≡ true
      → DeltasCover part n.books z log m.upto m.rows

  -- what a takeover gathered is so, where its slot reigns from then on
  abbrev pub HasGathered : TakeState → List (BlockId × Entry) → Type 0
  HasGathered take index =
      IsLatest n take.news.epoch → Gathered members part n.books index (applied_by take.news.horizon take.reports) (ends_of take.reports)

  -- where this input completes the takeover
  abbrev pub Completes : TakeState → Input → Type 0
  Completes take given =
      (index : List (BlockId × Entry)) → In (active (transition take given).state index) (transition take given).outs
      → HasGathered (transition take given).state index

module _ (logs : Bool) (members part : ℕ) (n : Net) where
  -- where logs keep their word: Deltas of a client's log, or the cleaner's, to a slot
  abbrev pub DeltasGets : SlotPhase → NodeId → Deltas → Type 0
  DeltasGets p (Client c) m = m.slot ≡ part → Premise logs (DeltasJoin members part n p (record { 0 = c }) m)
  DeltasGets p Cleaner m = m.slot ≡ part → Premise logs (DeltasJoin members part n p cleaner_log m)
  DeltasGets p _ m = Unit {0}

  -- what comes to a slot that is taken over
  abbrev pub TakeoverGets : SlotPhase → Input → Type 0
  TakeoverGets (phase.Taking t) given = Premise logs (Completes members part n t.take given)
  TakeoverGets _ given = Unit {0}

  -- a report, in the epoch of the slot
  abbrev pub LastReportGets : SlotPhase → NodeId → Report → Type 0
  LastReportGets p from m = m.slot ≡ part → m.epoch ≡ epoch_of p → TakeoverGets p (report_input from m)

  -- an answer to a question of the slot's takeover
  abbrev pub AnswerGets : SlotPhase → ℕ → (ℕ → Input) → Type 0
  AnswerGets p ask given = (own : ℕ) → fetch_of p ask ≡ Some own → TakeoverGets p (given own)

  abbrev pub FoundGets : SlotPhase → NodeId → Found → Type 0
  FoundGets p from m = OfServer from (λ v. AnswerGets p m.ask (λ own. Got own v m.generation m.fragment))

  abbrev pub AbsentGets : SlotPhase → NodeId → Absent → Type 0
  AbsentGets p from m = OfServer from (λ v. AnswerGets p m.ask (λ own. Missing own v m.generation))

module _ (part last_epoch j : ℕ) (n : Net) where
  -- news of a slot: an epoch that is new to the manager that gets it is new to the small world
  pub record NewsGets (known : ℕ) (news : SlotNews) : Type 0 where
    pub within : news.epoch ≤ last_epoch
    pub new : news.manager ≡ j → known < news.epoch → n.slots news.epoch ≡ None

  abbrev pub AllNewsGets : ℕ → List SlotNews → Type 0
  AllNewsGets known slots = (news : SlotNews) → In news slots → news.slot ≡ part → NewsGets known news

  -- the news of the Welcome that is awaited
  pub record OpeningGets (news : News) : Type 0 where
    -- the maps are newer than none: the registry's are at version 1 at the start, and rise
    pub newer : 0 < news.version
    pub slots : AllNewsGets 0 news.slots

  -- to one that awaits its Welcome in this incarnation
  abbrev pub WaitingGets : ℕ → Body → Type 0
  WaitingGets life (body.Welcome welcome) = welcome.inc ≡ life → OpeningGets welcome.news
  WaitingGets life _ = Unit {0}

module _ (logs : Bool) (part last_epoch j : ℕ) (n : Net) where
  -- to one that serves, in this incarnation, and has this of the slot
  abbrev pub ServingGets : ℕ → ℕ → SlotPhase → NodeId → Body → Type 0
  ServingGets members life p from (body.Want m) = WantGets part n from m
  ServingGets members life p from (body.Gave m) = GaveGets part n from m
  ServingGets members life p from (body.Deltas m) = DeltasGets logs members part n p from m
  ServingGets members life p from (body.Report m) = ReportGets part n members from m × LastReportGets logs members part n p from m
  ServingGets members life p from (body.Fragment m) = FoundGets logs members part n p from m
  ServingGets members life p from (body.Missing m) = AbsentGets logs members part n p from m
  ServingGets members life p from (body.MapNews news) = AllNewsGets part last_epoch j n (epoch_of p) news.slots
  ServingGets members life p from (body.Welcome welcome) = welcome.inc ≡ life → AllNewsGets part last_epoch j n (epoch_of p) welcome.news.slots
  ServingGets members life p from _ = Unit {0}

  abbrev pub ManagerGets : ℕ → Phase → Sent → Type 0
  ManagerGets members (Serves s) packet = ServingGets members s.lasting.inc (slot_in part (Serves s)) packet.from packet.body
  ManagerGets members (Waiting kept hello) packet = WaitingGets part last_epoch j n kept.inc packet.body
  ManagerGets members (Down kept) packet = Unit {0}

  abbrev pub EventGets : ℕ → Phase → Do → Type 0
  EventGets members p (Deliver packet) = ManagerGets members p packet
  EventGets members p Begin = Unit {0}
  EventGets members p Tick = Unit {0}

-- ---- what an event is

-- these slots' news name the slot at this epoch, given to this manager
abbrev pub NamedIn : ℕ → ℕ → ℕ → List SlotNews → Type 0
NamedIn part j e slots = (news : SlotNews) × In news slots × (news.slot ≡ part) × (news.epoch ≡ e) × (news.manager ≡ j)

abbrev pub NamedBy : ℕ → ℕ → ℕ → Body → Type 0
NamedBy part j e (body.MapNews news) = NamedIn part j e news.slots
NamedBy part j e (body.Welcome welcome) = NamedIn part j e welcome.news.slots
NamedBy part j e _ = ⊥

-- the event is such a packet
abbrev pub Names : ℕ → ℕ → ℕ → Do → Type 0
Names part j e (Deliver packet) = NamedBy part j e packet.body
Names part j e Begin = ⊥
Names part j e Tick = ⊥

abbrev pub is_serving : Phase → Bool
is_serving (Serves s) = true
is_serving (Down kept) = false
is_serving (Waiting kept hello) = false

abbrev pub is_waiting : Phase → Bool
is_waiting (Serves s) = false
is_waiting (Down kept) = false
is_waiting (Waiting kept hello) = true

-- a manager that awaited its Welcome gets it, and serves
pub record Opens (part : ℕ) (p : Phase) (what : Do) (q : Phase) : Type 0 where
  pub kept : Kept
  pub hello : ℕ
  pub packet : Sent
  pub welcome : Welcome
  pub was : p ≡ Waiting kept hello
  pub gets : what ≡ Deliver packet
  pub bears : packet.body ≡ body.Welcome welcome
  pub inc : welcome.inc ≡ kept.inc
  pub ask : welcome.ask ≡ hello
  pub life : (lasting_of q).inc ≡ kept.inc
  -- it knows of no older epoch of the slot than the Welcome names
  pub above : (news : SlotNews) → In news welcome.news.slots → news.slot ≡ part → news.epoch ≤ epoch_in part q

-- An event of manager j is a list of things that happen in the small world.
pub record ManagerGoes (logs : Bool) (members part last_epoch j : ℕ) (n : Net) (p : Phase) (what : Do) (w : Went_to) : Type 0 where
  pub next : Net
  pub runs : Runs logs members part n next
  pub agrees : ManagerAgrees members part next j w.state
  pub tokens : next.tokens ≡ n.tokens
  pub up : next.up ≡ n.up
  -- logs stand as they did, and its acts are done
  pub books : next.books ≡ n.books
  pub acts : next.acts ≡ n.acts ++ acts_of (Manager j) w.outs
  -- only the slot that the manager takes over or manages changes: where it is away at an epoch, another one manages the slot at it
  pub slots : (e : ℕ) → (HeldAt (slot_in part p) e → ⊥) → next.slots e ≡ n.slots e
  -- and only one that it manages after the event: one that it manages no longer stays as it was
  pub changed : (e : ℕ) → (next.slots e ≡ n.slots e) ⊎ ManagedAt (slot_in part w.state) e
  -- a manager that becomes active in the small world had the slot under takeover, and the cleaner has promised its epoch
  pub entered : (e : ℕ) (z : SlotState) → next.slots e ≡ Some z → n.slots e ≡ None
      → TakingAt (slot_in part p) e × (is_serving w.state ≡ true) × (e ≤ epoch_in part w.state) × (e ≤ n.promised)
  -- what it takes over or manages it did before in this life, or is given now, at a later epoch
  pub taken : (e : ℕ) → HeldAt (slot_in part w.state) e
      → (HeldAt (slot_in part p) e × ((lasting_of w.state).inc ≡ (lasting_of p).inc)) ⊎ (Names part j e what × (epoch_in part p < e))
  pub rises : is_serving p ≡ true → is_serving w.state ≡ true → epoch_in part p ≤ epoch_in part w.state
  pub within : epoch_in part w.state ≤ last_epoch
  -- what was sent stays sent
  pub grows : (x : Packet) → In x n.sent → In x next.sent
  pub does : All (ManagerDoes part next.sent last_epoch (lasting_of w.state).inc) w.outs
  -- incarnations don't fall; a restart begins a later one
  pub later : (lasting_of p).inc ≤ (lasting_of w.state).inc
  pub restarts : is_waiting w.state ≡ true → is_waiting p ≡ false → (lasting_of p).inc < (lasting_of w.state).inc
  pub opens : is_serving w.state ≡ true → is_serving p ≡ false → Opens part p what w.state
  -- another life begins with a restart alone
  pub lives : ((lasting_of w.state).inc ≡ (lasting_of p).inc) ⊎ (is_waiting w.state ≡ true)

-- Each event of a manager, if the world owes it what its packet says.
abbrev pub ManagerEventGoes : Type 0
ManagerEventGoes =
    (logs : Bool) (members part last_epoch j : ℕ) (n : Net) (m : AManager) (what : Do) → part < slot_count → members ≡ m.peers.clients + 1
    → ManagerAgrees members part n j m.phase
    → epoch_in part m.phase ≤ last_epoch → EventGets logs part last_epoch j n members m.phase what
    → ManagerGoes logs members part last_epoch j n m.phase what (happens m what)

-- At the start of a run a manager is seen in the opening of the small world: it manages the slot at epoch 1, or isn't its manager then.
pub record FirstAgrees (members part number : ℕ) (setup : Setup) (works : List Work) : Type 0 where
  pub agrees : ManagerAgrees members part opening number (manager_start number setup works).phase
  pub slot : slot_in part (manager_start number setup works).phase ≡ first_phase number (manager_map_start setup.managers) part
  pub epoch : epoch_in part (manager_start number setup works).phase ≡ 1

abbrev pub FirstManagerAgrees : Type 0
FirstManagerAgrees = (members part number : ℕ) (setup : Setup) (works : List Work) → part < slot_count → FirstAgrees members part number setup works
