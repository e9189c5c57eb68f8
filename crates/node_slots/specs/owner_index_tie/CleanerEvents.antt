-- How the cleaner and its job are seen in the small world of one slot's index, what the world owes each event of it, and what the event is there.
use Rattle.std.specs.Prelude.{◌≡◌, ◌<◌, ◌≤◌, ℕ, true, List, Option, Some, None, length}
use Rattle.std.specs.List.{All, AllByRecursion}
use Rattle.cleaner_serving.specs.declared.emptying.Emptying.{Emptying}
use Rattle.cleaner_serving.specs.Jobs.{emptying_hear}
use Rattle.cleaner_node.specs.CleanerEvents.{Went_to, cleaner_start, takes}
use Rattle.cleaner_node.specs.declared.cleaner.Cleaner.{Cleaner as ACleaner}
use Rattle.cleaner_node.specs.declared.cleaner.Phase.{Phase}
use Rattle.cleaner_node.specs.declared.cleaner.Phase.TheVariants.{Down, Opening, Serving}
use Rattle.cleaner_job.specs.declared.job.Job.{Job}
use Rattle.cleaner_job.specs.Jobs.{check_of, hand_of, is_out}
use Rattle.client_log.specs.LogState.{LogState}
use Rattle.delta_feed.specs.FeedState.{FeedState}
use Rattle.index_tie.specs.Cleaning.{IsWithin, ReadFor}
use Rattle.headline.specs.Filed.{AreTexts, Filed, Texts, is_filed_name, row_at}
use Rattle.index_tie.specs.Net.{Net, Packet, Runs, IsMove, IsInHand, opening}
use Rattle.index_tie.specs.Net.Packet.{CleanerReported, AnsweredDead}
use Rattle.index_tie.specs.Takeovers.{Linked}
use Rattle.headline.specs.Indexes.{of_log}
use Rattle.log_owner.specs.declared.promised.Promised.{Promised}
use Rattle.log_owner.specs.Promised.{epoch_of}
use Rattle.log_owner.specs.Sending.{server_in}
use Rattle.log_protocol.specs.Tables.{In}
use Rattle.node_base.specs.declared.effects.Effect.{Effect}
use Rattle.node_base.specs.declared.effects.Effect.TheVariants.{Send, Answer, Lose, Does}
use Rattle.node_slots.specs.node_index_tie.Pages.{FlightIsText}
use Rattle.node_slots.specs.node_index_tie.Sight.{Questions, held_in, CheckKnown}
use Rattle.segment_format.specs.declared.segment.Segment.{Segment}
use Rattle.index_tie.specs.Growth.{IsMore, said_of}
use Rattle.segment_reading.specs.declared.reading.Next.TheVariants as next
use Rattle.stripe_cleaner.specs.CleaningState.{CleaningState}
use Rattle.stripe_cleaner.specs.Promises.{promised_at}
use Rattle.stripe_code.specs.declared.round.Told.{Told}
use Rattle.stripe_code.specs.declared.round.Told.TheVariants.{Held, Missing as Lacks}
use Rattle.version_model.specs.declared.act.Act.{Act}
use Rattle.version_model.specs.declared.act.Act.TheVariants.{Dropped}
use Rattle.version_model.specs.declared.work.Work.{Work}
use Rattle.wire_msg.specs.declared.body.Body.{Body}
use Rattle.wire_msg.specs.declared.body.Body.TheVariants as body
use Rattle.wire_msg.specs.declared.cleaning.Check.{Check}
use Rattle.wire_msg.specs.declared.cleaning.Dead.{Dead}
use Rattle.wire_msg.specs.declared.deltas.Poll.{Poll}
use Rattle.wire_msg.specs.declared.packet.Do.{Do}
use Rattle.wire_msg.specs.declared.packet.Do.TheVariants.{Begin, Deliver, Tick}
use Rattle.wire_msg.specs.declared.packet.Packet.{Packet as Sent}
use Rattle.xfs_base.specs.Blocks.{slot_of}
use Rattle.xfs_base.specs.declared.block.BlockId.{BlockId}
use Rattle.xfs_base.specs.declared.node.NodeId.{NodeId}
use Rattle.xfs_base.specs.declared.segment.SegName.{SegName}
use Rattle.xfs_base.specs.declared.setup.Setup.{Setup}
use Rattle.xfs_base.specs.Limits.{slot_count}
use Rattle.xfs_base.specs.Logs.{cleaners_number}
use Rattle.node_slots.specs.owner_index_tie.CleanerMoves.{CleanerMoves, BodyAnswers}
use Rattle.node_slots.specs.owner_index_tie.Filing.{filed_after, FilesOwed, IsSameLog}
use Rattle.node_slots.specs.owner_index_tie.Owners.{LogFits, OwnerSeen, OpeningSeen, StageWrites, EndOwed, OwnerSays}

-- ---- the cleaner

module _ (part : ℕ) (n : Net) where
  -- a job is the small world's, and was told the epoch that is promised
  pub record JobSeen (epoch : ℕ) (cleaning : CleaningState) : Type 0 where
    pub same_job : n.job ≡ cleaning
    pub eight : length cleaning.promised ≡ slot_count
    pub told : promised_at cleaning.promised part ≡ epoch

  -- where there is none, the small world's is one that has just begun
  abbrev pub JobAgrees : ℕ → Option Job → Type 0
  JobAgrees epoch None = promised_at n.job.promised part ≡ 0
  JobAgrees epoch (Some job) = JobSeen epoch job.cleaning

  -- The cleaner that serves is the owner of log 9, has promised what the small world's has, and its job is seen.
  pub record EmptyingSeen (state : LogState) (its : FeedState) (p : Promised) (o : Option Job) : Type 0 where
    pub owner : OwnerSeen part n cleaners_number cleaners_number state its
    pub eight : length p.epochs ≡ slot_count
    pub promised : n.promised ≡ epoch_of p part
    pub job : JobAgrees (epoch_of p part) o

  -- one that is down, or opens its log
  pub record CleanerRests : Type 0 where
    pub fits : LogFits part n cleaners_number
    pub job : promised_at n.job.promised part ≡ 0

  abbrev pub PhaseAgrees : Texts → Phase → Type 0
  PhaseAgrees texts (Down l) = CleanerRests
  PhaseAgrees texts (Opening l o) = CleanerRests × (OpeningSeen cleaners_number o × StageWrites texts o.stage)
  PhaseAgrees texts (Serving e) = EmptyingSeen e.log e.feed e.promised e.job × FlightIsText texts e.log

  -- and what it has in its log, and is to move, was answered Live there
  pub record CleanerAgrees (texts : Texts) (p : Phase) : Type 0 where
    pub phase : PhaseAgrees texts p
    pub moves : CleanerMoves part n.sent p

-- ---- what the world owes an event

-- what the cleaner's segment says of the slot's blocks was answered Live, and is moved once
abbrev pub IsMoved : ℕ → List Packet → Filed → Segment → Type 0
IsMoved part sent f s = (b : BlockId) → slot_of b.ino.0 ≡ part → 0 < (said_of s b).ver → IsMove b sent s

module _ (part : ℕ) (n : Net) where
  -- A Check may be asked: its segment is below a horizon of a promised epoch, and is the place of the block's row where it is the filed one.
  pub record MayAsk (m : Check) : Type 0 where
    pub epoch : ℕ
    pub promised : epoch ≤ n.promised
    pub within : IsWithin n.filed m.place.seg.name
    pub below : m.place.seg.name.seq < of_log (n.horizon epoch) m.place.seg.name.log.0
    pub lies : is_filed_name n.filed m.place.seg.name ≡ true → (row_at n.filed m.block m.place.seg.name.log.0 m.place.seg.name.seq).place ≡ Some m.place

  abbrev pub SaysOwed : Body → Type 0
  SaysOwed (body.Check m) = slot_of m.block.ino.0 ≡ part → MayAsk m
  SaysOwed _ = Unit {0}

  abbrev pub EffectOwed : Effect → Type 0
  EffectOwed (Send to m) = SaysOwed m
  EffectOwed _ = Unit {0}

  -- from the horizon of an epoch on that is polled, and that is none before the promised one, the log is linked
  abbrev pub PollGets : Emptying → Poll → Type 0
  PollGets e m = m.slot ≡ part → epoch_of e.promised part ≤ m.epoch → 0 < of_log (n.horizon m.epoch) cleaners_number
      → Linked n.filed cleaners_number (of_log (n.horizon m.epoch) cleaners_number) (n.filed.head cleaners_number)

  -- a Dead that is awaited was told of the segment in hand
  pub record DeadGiven (m : Dead) : Type 0 where
    pub number : ℕ
    pub name : SegName
    pub below : ℕ
    pub sent : In (AnsweredDead number m.block name below m.epoch) n.sent
    pub hand : IsInHand name n.job.phase

  abbrev pub DeadGets : Emptying → Dead → Type 0
  DeadGets e m = slot_of m.block.ino.0 ≡ part → is_out (check_of (hand_of e.job) m.block) m.ask ≡ true → DeadGiven m

  -- a segment that is read is the filed one, where that bears its name
  abbrev pub ReadGets : Emptying → Option ℕ → ℕ → Told → Type 0
  ReadGets e None ask told = Unit {0}
  ReadGets e (Some server) ask told = (s : Segment) → (emptying_hear e ask server told).next ≡ next.Read s → ReadFor n.filed (Some s) n.job.phase

  abbrev pub BodyGets : Emptying → NodeId → Body → Type 0
  BodyGets e from (body.Poll m) = PollGets e m
  BodyGets e from (body.Dead m) = DeadGets e m
  BodyGets e from (body.Fragment m) = ReadGets e (server_in from) m.ask (Held m.fragment)
  BodyGets e from (body.Missing m) = ReadGets e (server_in from) m.ask (Lacks m.generation)
  BodyGets e from _ = Unit {0}

  abbrev pub PacketGets : Phase → Sent → Type 0
  PacketGets (Serving e) packet = BodyGets e packet.from packet.body
  PacketGets (Opening l o) packet = Unit {0}
  PacketGets (Down l) packet = Unit {0}

  abbrev pub EventGets : Phase → Do → Type 0
  EventGets p (Deliver packet) = PacketGets p packet × BodyAnswers part n.sent packet.body
  EventGets p Begin = Unit {0}
  EventGets p Tick = Unit {0}

module _ (part : ℕ) (texts : Texts) (n : Net) where
  -- where an opening ends in this event: what it read back is what was filed and adopted, and its maps are no older than what was promised
  abbrev pub ReopensOn : Phase → Phase → Type 0
  ReopensOn (Opening l o) (Serving e) = EndOwed texts cleaners_number n.filed o.stage × ((length e.promised.epochs ≡ slot_count) × (n.promised ≤ epoch_of e.promised part))
  ReopensOn p q = Unit {0}

  abbrev pub WritesTexts : Phase → Type 0
  WritesTexts (Down l) = Unit {0}
  WritesTexts (Opening l o) = StageWrites texts o.stage
  WritesTexts (Serving e) = FlightIsText texts e.log

  -- what is new of what it files: what a reopening adopts was answered Live, and moved once; what one that serves files is shown to be
  abbrev pub NewFor : Phase → Filed → Segment → Type 0
  NewFor (Opening l o) f s = IsMoved part n.sent f s
  NewFor (Down l) f s = Unit {0}
  NewFor (Serving e) f s = Unit {0}

  -- The world owes the cleaner that what a reopening adopts was answered Live, and moved once; that it may ask what it asks; that answers are to its
  -- questions, and what is read is what was filed; and the rest as it owes a client.
  pub record CleanerOwed (p : Phase) (what : Do) (w : Went_to) : Type 0 where
    pub files : FilesOwed (NewFor p) texts cleaners_number n.filed w.outs
    pub asks : AllByRecursion (EffectOwed part n) w.outs
    pub reopens : ReopensOn p w.state
    pub gets : EventGets part n p what
    pub writes : WritesTexts w.state

-- ---- what an event is

module _ (part : ℕ) (questions : Questions) (n : Net) (since : ℕ) where
  -- What the cleaner tells of its log is so; a Report of it, and a Check, were sent there; and what it has deleted was to be deleted there.
  abbrev pub CleanerSays : Body → Type 0
  CleanerSays (body.Report m) = OwnerSays part n cleaners_number since (body.Report m) × (m.slot ≡ part → In (CleanerReported m.epoch m.end.seq) n.sent)
  CleanerSays (body.Check m) = slot_of m.block.ino.0 ≡ part → CheckKnown part questions n m
  CleanerSays (body.Delete m) = In m.name n.deleted
  CleanerSays m = OwnerSays part n cleaners_number since m

  abbrev pub CleanerActs : Act → Type 0
  CleanerActs (Dropped name) = In name n.deleted
  CleanerActs _ = Unit {0}

  abbrev pub CleanerDoes : Effect → Type 0
  CleanerDoes (Send to m) = CleanerSays m
  CleanerDoes (Answer item answer) = Unit {0}
  CleanerDoes (Lose seg) = Unit {0}
  CleanerDoes (Does act) = CleanerActs act

-- it doesn't serve
abbrev pub IsAway : Phase → Type 0
IsAway (Serving e) = ⊥
IsAway _ = Unit {0}

-- An event of the cleaner is a list of things that happen in the small world: its log files what it acts to be filed, and what it has promised, its job,
-- what was to be deleted and packets go on; where it doesn't serve after it, it has promised nothing more.
pub record CleanerGoes (part : ℕ) (texts : Texts) (asked : Questions) (n : Net) (w : Went_to) : Type 0 where
  pub next : Net
  pub runs : Runs part (held_in part texts) n next
  pub agrees : CleanerAgrees part next texts w.state
  pub filed : next.filed ≡ filed_after texts cleaners_number n.filed w.outs
  pub more : IsMore n.filed next.filed
  pub others : (l : ℕ) → (l ≡ cleaners_number → ⊥) → IsSameLog l n.filed next.filed
  pub named : AreTexts texts n.filed → AreTexts texts next.filed
  pub slots : next.slots ≡ n.slots
  pub epoch : next.epoch ≡ n.epoch
  pub horizon : next.horizon ≡ n.horizon
  pub parts : next.parts ≡ n.parts
  pub promised : n.promised ≤ next.promised
  pub away : IsAway w.state → next.promised ≡ n.promised
  pub sent : (x : Packet) → In x n.sent → In x next.sent
  pub deleted : (name : SegName) → In name n.deleted → In name next.deleted
  pub questions : Questions
  pub kept : (x : ℕ × ℕ × SegName) → In x asked → In x questions
  pub does : All (CleanerDoes part questions next (n.filed.head cleaners_number)) w.outs

-- Each event of the cleaner, where the world owes it what it needs.
abbrev pub CleanerEventGoes : Type 0
CleanerEventGoes =
    (part : ℕ) (texts : Texts) (asked : Questions) (n : Net) (cleaner : ACleaner) (what : Do) → part < slot_count → CleanerAgrees part n texts cleaner.phase
    → CleanerOwed part texts n cleaner.phase what (takes cleaner.peers cleaner.phase what)
    → CleanerGoes part texts asked n (takes cleaner.peers cleaner.phase what)

-- At the start of a run the cleaner is seen in the opening of the small world.
abbrev pub CleanerStartAgrees : Type 0
CleanerStartAgrees =
    (part : ℕ) (texts : Texts) (any : ℕ → ℕ → Segment) (setup : Setup) (works : List Work) → part < slot_count
    → CleanerAgrees part (opening any) texts (cleaner_start setup works).phase

-- What others do leaves the cleaner seen, where what is filed of its log and what it has there stay as they are.
pub record LeavesCleaner (n m : Net) : Type 0 where
  pub log : IsSameLog cleaners_number n.filed m.filed
  pub promised : m.promised ≡ n.promised
  pub job : m.job ≡ n.job
  pub sent : (x : Packet) → In x n.sent → In x m.sent

abbrev pub CleanerStays : Type 0
CleanerStays = (part : ℕ) (texts : Texts) (n m : Net) (p : Phase) → LeavesCleaner n m → CleanerAgrees part n texts p → CleanerAgrees part m texts p
