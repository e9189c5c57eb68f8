-- How a manager is seen in the small world of one slot's index, what the world owes each event of it, and what the event is there.
use Rattle.std.specs.Prelude.{◌≡◌, ◌≤◌, ◌<◌, ◌⊎◌, ℕ, true, List, [], Option, Some, None, length}
use Rattle.std.specs.List.{All, AllByRecursion}
use Rattle.checkpoint.specs.WriterState.{Rows}
use Rattle.group_map.specs.GroupMapState.{GroupMapState}
use Rattle.index_tie.specs.Growth.{IsMore}
use Rattle.index_tie.specs.Net.{Net, Packet, Runs, opening}
use Rattle.log_protocol.specs.Tables.{In}
use Rattle.manager_node.specs.Events.{manager_start, happens}
use Rattle.manager_node.specs.Phases.{Went_to, lasting_of}
use Rattle.manager_node.specs.declared.manager.Manager.{Manager as AManager}
use Rattle.manager_node.specs.declared.phase.Phase.{Phase}
use Rattle.manager_node.specs.declared.phase.Phase.TheVariants.{Down, Waiting, Serving as Serves}
use Rattle.manager_slots.specs.declared.slot_phase.Active.{Active}
use Rattle.manager_slots.specs.declared.slot_phase.SlotPhase.{SlotPhase}
use Rattle.manager_slots.specs.declared.slot_phase.SlotPhase.TheVariants as phase
use Rattle.manager_slots.specs.declared.slot_phase.Taking.{Taking}
use Rattle.manager_slots.specs.Slots.{fetch_of}
use Rattle.manager_serving.specs.declared.serving.Serving.{Serving}
use Rattle.node_slots.specs.node_tie.ManagerEvents.{HeldAt, ManagedAt, OfServer, Names, epoch_in, is_serving}
use Rattle.headline.specs.Managers.{phase_at, slot_in}
use Rattle.segment_format.specs.declared.segment.Segment.{Segment}
use Rattle.segment_reading.specs.Reading.{ReadingState, reading_take}
use Rattle.slot_beliefs.specs.Index.{pages_of}
use Rattle.slot_beliefs.specs.Recalls.{applied_of}
use Rattle.stripe_code.specs.declared.round.Told.{Told}
use Rattle.stripe_code.specs.declared.round.Told.TheVariants.{Held, Missing as Lacks}
use Rattle.takeover.specs.Course.{course_of, segment_of}
use Rattle.takeover.specs.Transition.{awaited}
use Rattle.takeover.specs.TakeState.{TakeState}
use Rattle.takeover.specs.declared.input.In.{In as TakeoverIn}
use Rattle.takeover.specs.declared.input.In.TheVariants.{Got, Missing}
use Rattle.takeover.specs.declared.report.Report.{Report as Heard}
use Rattle.takeover.specs.declared.source.Present.{Present}
use Rattle.token_manager.specs.SlotState.{SlotState}
use Rattle.token_protocol.specs.Basics.{In as Among}
use Rattle.version_model.specs.declared.work.Work.{Work}
use Rattle.wire_msg.specs.declared.body.Body.{Body}
use Rattle.wire_msg.specs.declared.body.Body.TheVariants as body
use Rattle.wire_msg.specs.declared.cleaning.Check.{Check}
use Rattle.wire_msg.specs.declared.deltas.Deltas.{Deltas}
use Rattle.wire_msg.specs.declared.deltas.Report.{Report}
use Rattle.wire_msg.specs.declared.packet.Do.{Do}
use Rattle.wire_msg.specs.declared.packet.Do.TheVariants.{Begin, Deliver, Tick}
use Rattle.wire_msg.specs.declared.packet.Packet.{Packet as Sent}
use Rattle.wire_msg.specs.declared.storage.Found.{Found}
use Rattle.wire_msg.specs.declared.storage.Missing.{Missing as Absent}
use Rattle.xfs_base.specs.Blocks.{slot_of}
use Rattle.xfs_base.specs.Limits.{u32_end, slot_count, block_logs}
use Rattle.xfs_base.specs.declared.news.SlotNews.{SlotNews}
use Rattle.xfs_base.specs.declared.node.NodeId.{NodeId}
use Rattle.xfs_base.specs.declared.node.NodeId.TheVariants.{Client, Cleaner}
use Rattle.xfs_base.specs.declared.setup.Setup.{Setup}
use Rattle.xfs_base.specs.Logs.{cleaners_number}
use Rattle.node_slots.specs.node_index_tie.Pages.{Desk, desk_of, Paged, WriterAgrees, DoneSeen, FlightIsText}
use Rattle.node_slots.specs.node_index_tie.Sight.{Questions, held_in, IsRead, DeltasKnown, ReportKnown, NewsKnown, CheckKnown, ManagerDoes}
use Rattle.headline.specs.Filed.{AreTexts, Texts}

-- ---- one slot

module _ (part : ℕ) (texts : Texts) (n : Net) where
  -- A takeover of the slot at this epoch: it began with the registry's news of that epoch, and took these inputs. What it read are the texts of their
  -- names, and what reports told it is so.
  pub record TakingAgrees (epoch : ℕ) (take : TakeState) : Type 0 where
    pub news : SlotNews
    pub groups : GroupMapState
    pub clients : ℕ
    pub inputs : List TakeoverIn
    pub take_is : take ≡ (course_of news groups clients inputs).state
    pub slot : news.slot ≡ part
    pub of_epoch : news.epoch ≡ epoch
    pub known : NewsKnown part n news
    pub whole : AllByRecursion (AllByRecursion (IsRead part texts)) (course_of news groups clients inputs).read.whole
    pub present : AllByRecursion (IsRead part texts) (course_of news groups clients inputs).read.present
    pub reports : (r : Heard) → Among r take.reports → ReportKnown part n epoch r.from r.end
    -- of each node one report is kept, and it reads once all have reported
    pub once : (r q : Heard) → Among r take.reports → Among q take.reports → r.from ≡ q.from → r.held ≡ q.held
    pub ready : (p : Present) → take.present ≡ Some p → awaited take ≡ []

  -- A slot that is managed is the small world's slot of its epoch; no log that it applied is at its last number.
  pub record ActiveAgrees (desk : Desk) (a : Active) : Type 0 where
    pub there : n.slots a.slot.epoch ≡ Some a.slot
    pub nine : length a.slot.applied ≡ block_logs
    pub short : (l : ℕ) → 0 < l → l ≤ block_logs → applied_of a.slot.applied l < u32_end
    pub pages : Paged part texts n desk a.slot.epoch (pages_of a.slot.index) a.parts

  abbrev pub PhaseAgrees : Desk → SlotPhase → Type 0
  PhaseAgrees desk (phase.Taking t) = TakingAgrees t.epoch t.take
  PhaseAgrees desk (phase.Active a) = ActiveAgrees desk a
  PhaseAgrees desk (phase.Away epoch) = Unit {0}
  PhaseAgrees desk (phase.Broken epoch seg) = Unit {0}

  -- ---- the manager

  -- one that serves
  pub record ServingAgrees (s : Serving) : Type 0 where
    pub eight : length s.slots ≡ slot_count
    -- the pages that were given out last
    pub given : List Rows
    pub here : PhaseAgrees (desk_of s given) (phase_at s.slots part)
    pub writer : WriterAgrees part texts n (desk_of s given)
    -- while no item is open no checkpoint is
    pub closed : s.lasting.items.unanswered ≡ None → (s.writer.work ≡ None) × (s.writer.asked ≡ None)
    pub done : DoneSeen part n s.checkpoint

  abbrev pub ManagerAgrees : Phase → Type 0
  ManagerAgrees (Serves s) = ServingAgrees s × FlightIsText texts s.log
  ManagerAgrees (Down kept) = Unit {0}
  ManagerAgrees (Waiting kept hello) = Unit {0}

-- ---- what the world owes an event

-- the segment that an answer completes, where it completes one
abbrev pub completes_in : TakeState → Option ReadingState → ℕ → ℕ → Told → Option Segment
completes_in s None ask server told = None
completes_in s (Some reading) ask server told = segment_of (reading_take reading s.groups ask server told).next

abbrev pub completes_at : TakeState → Option Present → ℕ → ℕ → Told → Option Segment
completes_at s None ask server told = None
completes_at s (Some p) ask server told = completes_in s p.reading ask server told

abbrev pub completes : TakeState → TakeoverIn → Option Segment
completes s (Got ask server generation fragment) = completes_at s s.present ask server (Held fragment)
completes s (Missing ask server generation) = completes_at s s.present ask server (Lacks generation)
completes s _ = None

module _ (part : ℕ) (texts : Texts) (asked : Questions) (j : ℕ) (n : Net) where
  -- Deltas are of a client's log, or the cleaner's
  abbrev pub DeltasGets : NodeId → Deltas → Type 0
  DeltasGets (Client c) m = m.slot ≡ part → DeltasKnown part n c m
  DeltasGets Cleaner m = m.slot ≡ part → DeltasKnown part n cleaners_number m
  DeltasGets _ m = Unit {0}

  abbrev pub ReportGets : NodeId → Report → Type 0
  ReportGets from m = m.slot ≡ part → ReportKnown part n m.epoch from m.end

  abbrev pub CheckGets : Check → Type 0
  CheckGets m = slot_of m.block.ino.0 ≡ part → CheckKnown part asked n m

  -- an epoch that is new to this manager, to whom it is given, is new to the small world
  abbrev pub AllNewsGets : ℕ → List SlotNews → Type 0
  AllNewsGets known slots = (news : SlotNews) → Among news slots → news.slot ≡ part → news.manager ≡ j → known < news.epoch → NewsKnown part n news

  -- what an answer to a question of the slot's takeover completes is the text of its name
  abbrev pub AnswerGets : SlotPhase → ℕ → (ℕ → TakeoverIn) → Type 0
  AnswerGets p ask given = (t : Taking) (own : ℕ) (s : Segment) → p ≡ phase.Taking t → fetch_of p ask ≡ Some own → completes t.take (given own) ≡ Some s
      → IsRead part texts s

  abbrev pub FoundGets : SlotPhase → NodeId → Found → Type 0
  FoundGets p from m = OfServer from (λ v. AnswerGets p m.ask (λ own. Got own v m.generation m.fragment))

  abbrev pub AbsentGets : SlotPhase → NodeId → Absent → Type 0
  AbsentGets p from m = OfServer from (λ v. AnswerGets p m.ask (λ own. Missing own v m.generation))

  abbrev pub ServingGets : ℕ → ℕ → SlotPhase → NodeId → Body → Type 0
  ServingGets life known p from (body.Deltas m) = DeltasGets from m
  ServingGets life known p from (body.Report m) = ReportGets from m
  ServingGets life known p from (body.Check m) = CheckGets m
  ServingGets life known p from (body.Fragment m) = FoundGets p from m
  ServingGets life known p from (body.Missing m) = AbsentGets p from m
  ServingGets life known p from (body.MapNews m) = AllNewsGets known m.slots
  ServingGets life known p from (body.Welcome m) = m.inc ≡ life → AllNewsGets known m.news.slots
  ServingGets life known p from _ = Unit {0}

  abbrev pub WaitingGets : ℕ → Body → Type 0
  WaitingGets life (body.Welcome m) = m.inc ≡ life → AllNewsGets 0 m.news.slots
  WaitingGets life _ = Unit {0}

  abbrev pub PacketGets : Phase → Sent → Type 0
  PacketGets (Serves s) packet = ServingGets s.lasting.inc (epoch_in part (Serves s)) (phase_at s.slots part) packet.from packet.body
  PacketGets (Waiting kept hello) packet = WaitingGets kept.inc packet.body
  PacketGets (Down kept) packet = Unit {0}

  abbrev pub EventGets : Phase → Do → Type 0
  EventGets p (Deliver packet) = PacketGets p packet
  EventGets p Begin = Unit {0}
  EventGets p Tick = Unit {0}

  -- what this phase's log has in flight is the text of its name
  abbrev pub WritesTexts : Phase → Type 0
  WritesTexts (Serves s) = FlightIsText texts s.log
  WritesTexts (Down kept) = Unit {0}
  WritesTexts (Waiting kept hello) = Unit {0}

  -- The world owes a manager that the packet that comes was sent there and what it tells is so, that what is filed are the texts of their names, and that
  -- what the manager writes is one.
  pub record ManagerOwed (p : Phase) (what : Do) (q : Phase) : Type 0 where
    pub gets : EventGets p what
    pub filed : AreTexts texts n.filed
    pub writes : WritesTexts q

-- ---- what an event is

-- the small world, but for slots and packets
abbrev pub rest : Net → Net
rest n = record n { slots = λ e. None; sent = [] }

-- An event of manager j is a list of things that happen in the small world: only slots and packets change, of the slots those of the epochs that the
-- manager held or is given, and what it sends of the slot was sent there. An epoch at which nobody was active yet gets a manager only where this one
-- serves and knows it, and a slot that enters the small world is managed from then on.
pub record ManagerGoes (part : ℕ) (texts : Texts) (asked : Questions) (j : ℕ) (n : Net) (p : Phase) (what : Do) (w : Went_to) : Type 0 where
  pub next : Net
  pub runs : Runs part (held_in part texts) n next
  pub agrees : ManagerAgrees part texts next w.state
  pub rest : rest next ≡ rest n
  pub slots : (e : ℕ) → (HeldAt (slot_in part p) e → ⊥) → (Names part j e what → ⊥) → next.slots e ≡ n.slots e
  pub came : (e : ℕ) → n.slots e ≡ None → (next.slots e ≡ None) ⊎ ((is_serving w.state ≡ true) × (e ≤ epoch_in part w.state))
  pub stay : (e : ℕ) → next.slots e ≡ None → n.slots e ≡ None
  pub entered : (e : ℕ) (z : SlotState) → next.slots e ≡ Some z → n.slots e ≡ None → ManagedAt (slot_in part w.state) e
  pub grows : (x : Packet) → In x n.sent → In x next.sent
  pub does : All (ManagerDoes part asked next) w.outs

-- Each event of manager j, where the world owes it what it needs.
abbrev pub ManagerEventGoes : Type 0
ManagerEventGoes =
    (part : ℕ) (texts : Texts) (asked : Questions) (j : ℕ) (n : Net) (m : AManager) (what : Do) → part < slot_count → (lasting_of m.phase).number ≡ j → ManagerAgrees
    part texts n m.phase
    → ManagerOwed part texts asked j n m.phase what (happens m what).state → ManagerGoes part texts asked j n m.phase what (happens m what)

-- At the start of a run a manager is seen in the opening of the small world.
abbrev pub FirstManagerAgrees : Type 0
FirstManagerAgrees =
    (part : ℕ) (texts : Texts) (any : ℕ → ℕ → Segment) (number : ℕ) (setup : Setup) (works : List Work) → part < slot_count → ManagerAgrees part texts (opening any)
    (manager_start number setup works).phase

-- The small world has gone on, and of the slots those that a manager holds have stayed, as has what the registry keeps of epochs that it takes over.
pub record Passes (n m : Net) (p : SlotPhase) : Type 0 where
  pub slots : (e : ℕ) → HeldAt p e → m.slots e ≡ n.slots e
  pub stay : (e : ℕ) → m.slots e ≡ None → n.slots e ≡ None
  pub sent : (x : Packet) → In x n.sent → In x m.sent
  pub filed : IsMore n.filed m.filed
  pub epoch : n.epoch ≤ m.epoch
  pub horizon : (e : ℕ) → HeldAt p e → n.slots e ≡ None → m.horizon e ≡ n.horizon e
  pub parts : (e : ℕ) → HeldAt p e → n.slots e ≡ None → m.parts e ≡ n.parts e

-- What others do leaves a manager seen.
abbrev pub ManagersStay : Type 0
ManagersStay = (part : ℕ) (texts : Texts) (n m : Net) (p : Phase) → Passes n m (slot_in part p) → ManagerAgrees part texts n p → ManagerAgrees part texts m p
