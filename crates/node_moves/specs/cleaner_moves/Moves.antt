-- The moves of the cleaner: what it does in an event, one thing at a time, and what for.
use Rattle.std.specs.List.{range_with_len}
use Rattle.std.specs.Prelude.{◌≡◌, ◌≤◌, ℕ, true, List, [], ◌∷◌, Option, Some, None, Contains, fold}
use Rattle.cleaner_job.specs.declared.job.Job.{Job}
use Rattle.cleaner_job.specs.declared.lasting.Lasting.{Lasting}
use Rattle.cleaner_job.specs.Jobs.{check_of, note_greeted, hand_of, is_out, note_read, job_start}
use Rattle.cleaner_job.specs.Hands.{fetches}
use Rattle.cleaner_node.specs.CleanerEvents.{Went_to, cleaner_answer, lasting_of, phase_has_room, restart, serves_on, takes}
use Rattle.cleaner_node.specs.declared.cleaner.Cleaner.{Cleaner}
use Rattle.cleaner_node.specs.declared.cleaner.Phase.{Phase}
use Rattle.cleaner_node.specs.declared.cleaner.Phase.TheVariants.{Down, Opening, Serving}
use Rattle.cleaner_serving.specs.declared.emptying.Emptying.{Emptying}
use Rattle.cleaner_serving.specs.EmptyingEvents.{ask_for_maps, emptying_promise, emptying_back, emptying_write}
use Rattle.cleaner_serving.specs.Jobs.{emptying_clean, confirmed, emptying_hear, with_questions}
use Rattle.client_log.specs.declared.input.In.{In as LogIn}
use Rattle.client_log.specs.declared.input.In.TheVariants as log_in
use Rattle.delta_feed.specs.Transition.{acknowledged}
use Rattle.group_map.specs.GroupMapState.{GroupMapState}
use Rattle.log_owner.specs.declared.opened.Progress.{Progress}
use Rattle.log_owner.specs.declared.opened.Progress.TheVariants as progress
use Rattle.log_owner.specs.declared.opening.Opening as openings
use Rattle.log_owner.specs.declared.promised.Promised.{Promised}
use Rattle.log_owner.specs.Opening as opening
use Rattle.log_owner.specs.Opening.{Went}
use Rattle.log_owner.specs.Promised.{epoch_of}
use Rattle.log_owner.specs.Sending.{push_all, server_in}
use Rattle.node_base.specs.Asking.{draw, next_ask}
use Rattle.node_base.specs.Beginning.{items_answer, items_begin, next_item, items_wait}
use Rattle.node_base.specs.declared.effects.Effect.TheVariants.{Send}
use Rattle.node_base.specs.declared.items.Items.{Items}
use Rattle.node_base.specs.Maps.{maps_take}
use Rattle.node_base.specs.Shape.{is_well_formed}
use Rattle.segment_format.specs.declared.segment.Segment.{Segment}
use Rattle.segment_reading.specs.declared.reading.Next.TheVariants as next
use Rattle.stripe_cleaner.specs.CleaningState.{cleaning_start}
use Rattle.stripe_cleaner.specs.declared.input.In.{In}
use Rattle.stripe_cleaner.specs.declared.input.In.TheVariants as input
use Rattle.stripe_cleaner.specs.Promises.{none_promised, promised_with}
use Rattle.stripe_code.specs.declared.round.Told.{Told}
use Rattle.stripe_code.specs.declared.round.Told.TheVariants as told
use Rattle.version_model.specs.declared.answer.Answer.{Answer}
use Rattle.version_model.specs.declared.answer.Answer.TheVariants as answer
use Rattle.wire_msg.specs.declared.body.Body.TheVariants as body
use Rattle.wire_msg.specs.declared.cleaning.Dead.{Dead}
use Rattle.wire_msg.specs.declared.cleaning.Live.{Live}
use Rattle.wire_msg.specs.declared.cleaning.Usage.{Usage}
use Rattle.wire_msg.specs.declared.deltas.DeltaAck.{DeltaAck}
use Rattle.wire_msg.specs.declared.deltas.Poll.{Poll}
use Rattle.wire_msg.specs.declared.packet.Do.{Do}
use Rattle.wire_msg.specs.declared.packet.Do.TheVariants.{Begin, Deliver, Tick}
use Rattle.wire_msg.specs.declared.packet.Packet.{Packet}
use Rattle.wire_msg.specs.declared.registry.News.{News}
use Rattle.wire_msg.specs.declared.registry.Welcome.{Welcome}
use Rattle.wire_msg.specs.declared.storage.Deleted.{Deleted}
use Rattle.wire_msg.specs.declared.storage.Found.{Found}
use Rattle.wire_msg.specs.declared.storage.Listed.{Listed}
use Rattle.wire_msg.specs.declared.storage.Missing.{Missing}
use Rattle.wire_msg.specs.declared.storage.Stored.{Stored}
use Rattle.xfs_base.specs.declared.news.SlotNews.{SlotNews}
use Rattle.xfs_base.specs.declared.node.NodeId.TheVariants.{Manager}
use Rattle.xfs_base.specs.declared.segment.SegName.{SegName}
use Rattle.xfs_base.specs.Steps.{saying, still}
use Rattle.node_moves.specs.server_moves.Moves.{Brought, Came}

-- The event is taken: no counter of the cleaner is near its end, and a packet that comes is well formed.
pub record IsTaken (first : Cleaner) (what : Do) : Type 0 where
  pub room : phase_has_room first.phase ≡ true
  pub formed : (packet : Packet) → what ≡ Deliver packet → is_well_formed first.peers packet ≡ true

-- ---- what it has

abbrev pub items_in : Phase → Items
items_in phase = (lasting_of phase).items

-- the same with these items
abbrev pub noted : Phase → Items → Phase
noted (Down l) items = Down (record l { items = items })
noted (Opening l o) items = Opening (record l { items = items }) o
noted (Serving e) items = Serving (record e { lasting = record e.lasting { items = items } })

-- where it stands once its opening has come so far
abbrev pub came_to : Lasting → Progress → Phase
came_to l (progress.Opening o) = Opening l o
came_to l (progress.Opened o) = Serving (emptying_back l o)
came_to l (progress.Lost seg) = Down l

-- what a job is told when it begins: what each slot is promised to
abbrev pub told_all : Promised → List ℕ
told_all p = fold (λ known slot. promised_with known slot (epoch_of p slot)) none_promised (range_with_len 0 8)

-- a job that was told so, and has asked nothing
abbrev pub begun_job : Promised → ℕ → Job
begun_job p count = record (job_start count) { cleaning = record (cleaning_start count) { promised = told_all p } }

-- the segment in hand is read no more
abbrev pub left_reading : Emptying → Emptying
left_reading e = record e { job = note_read e.job }

-- the segment that an answer says is lost
abbrev pub loss_in : Answer → Option SegName
loss_in (answer.Lost seg) = Some seg
loss_in _ = None

-- ---- because of what it notes items, and answers them

pub data Noted (first : Cleaner) (what : Do) : Items → Items → Type 0 where
  ItemBegun : what ≡ Begin → Noted first what (items_in first.phase) (items_begin (items_in first.phase))
  ItemWaits : {items : Items} (number : ℕ) → what ≡ Begin → next_item (items_in first.phase) ≡ Some number → Noted first what items (items_wait items number)
  ItemAnswered : {items : Items} → Noted first what items (items_answer items)

-- because of what an opening goes on
pub data OpenedBy (what : Do) (l : Lasting) (o : openings.Opening) : Went → Type 0 where
  PacketCame : (packet : Packet) → what ≡ Deliver packet → OpenedBy what l o (opening.opening_take o l.questions packet)
  TimeWent : what ≡ Tick → OpenedBy what l o (opening.on_tick o l.questions)

pub data Due (first : Cleaner) (what : Do) : ℕ → Answer → Type 0 where
  -- the opening of its log ends as this segment is lost
  LossDue : (l : Lasting) (o : openings.Opening) (w : Went) (number : ℕ) (seg : SegName) → first.phase ≡ Opening l o → OpenedBy what l o w
      → w.progress ≡ progress.Lost seg → l.items.unanswered ≡ Some number → Due first what number (answer.Lost seg)
  OtherDue : {number : ℕ} {a : Answer} → loss_in a ≡ None → Due first what number a

-- ---- because of what its job and its log take an input

-- a server tells of its fragment of the segment in hand, while the cleaner is as it was before the event
pub data Tells (first : Cleaner) (what : Do) : Emptying → ℕ → ℕ → Told → Type 0 where
  FragmentCame : {e : Emptying} (packet : Packet) (server : ℕ) (m : Found) → first.phase ≡ Serving e → Came what packet (body.Fragment m)
      → server_in packet.from ≡ Some server → Tells first what e m.ask server (told.Held m.fragment)
  AbsenceCame : {e : Emptying} (packet : Packet) (server : ℕ) (m : Missing) → first.phase ≡ Serving e → Came what packet (body.Missing m)
      → server_in packet.from ≡ Some server → Tells first what e m.ask server (told.Missing m.generation)

pub data Given (first : Cleaner) (what : Do) : Emptying → In → Type 0 where
  WelcomeCame : {e : Emptying} (packet : Packet) (m : Welcome) (groups : GroupMapState) → Came what packet (body.Welcome m) → e.maps.groups ≡ Some groups
      → Given first what e (input.Welcome m.news.slots groups)
  SlotPromised : {e : Emptying} (slot epoch : ℕ) → Given first what e (input.Promise slot epoch)
  MapsCame : {e : Emptying} (packet : Packet) (news : News) → Brought what packet news → Given first what e (input.Maps news.groups)
  ListCame : {e : Emptying} (packet : Packet) (server : ℕ) (m : Listed) → first.phase ≡ Serving e → Came what packet (body.Listed m)
      → server_in packet.from ≡ Some server → Given first what e (input.Listed server m.held)
  UsageCame : {e : Emptying} (packet : Packet) (m : Usage) → first.phase ≡ Serving e → Came what packet (body.Usage m)
      → Given first what e (input.Usage m.slot m.epoch m.counts)
  SegmentRead : {before : Emptying} (ask server : ℕ) (t : Told) (segment : Segment) → Tells first what before ask server t
      → (emptying_hear before ask server t).next ≡ next.Read segment
      → Given first what (left_reading (emptying_hear before ask server t).state) (input.Read (Some segment))
  SegmentLost : {e : Emptying} → Given first what e (input.Read None)
  LiveCame : {e : Emptying} (packet : Packet) (m : Live) → first.phase ≡ Serving e → Came what packet (body.Live m)
      → is_out (check_of (hand_of e.job) m.block) m.ask ≡ true → Given first what e (input.Live m.block m.epoch m.entry)
  DeadCame : {e : Emptying} (packet : Packet) (m : Dead) → first.phase ≡ Serving e → Came what packet (body.Dead m)
      → is_out (check_of (hand_of e.job) m.block) m.ask ≡ true → Given first what e (input.Dead m.block m.epoch)
  MovesSettled : {e : Emptying} → Given first what e input.Moved
  DeletedCame : {e : Emptying} (packet : Packet) (server : ℕ) (m : Deleted) → first.phase ≡ Serving e → Came what packet (body.Deleted m)
      → server_in packet.from ≡ Some server → Given first what e (input.Deleted server m.name)
  TimePassed : {e : Emptying} → Given first what e input.Tick

-- but for a Tick the log is as it was before the event
pub data Written (first : Cleaner) (what : Do) : Emptying → LogIn → Type 0 where
  AckCame : {e : Emptying} (packet : Packet) (m : Stored) → first.phase ≡ Serving e → Came what packet (body.Stored m)
      → Written first what e (log_in.Acked m.name m.index m.generation)
  GroupsCame : {e : Emptying} (before : Emptying) (packet : Packet) (news : News) → first.phase ≡ Serving before → e.log ≡ before.log
      → Brought what packet news → Written first what e (log_in.Maps news.groups)
  LogTicks : {e : Emptying} → Written first what e log_in.Tick

-- because of what a slot is promised to an epoch of a manager
pub data PromisedBy (what : Do) : ℕ → ℕ → ℕ → Type 0 where
  PollCame : (packet : Packet) (manager : ℕ) (m : Poll) → Came what packet (body.Poll m) → packet.from ≡ Manager manager
      → PromisedBy what m.slot m.epoch manager
  NewsCame : (packet : Packet) (news : News) (s : SlotNews) → Brought what packet news → Contains news.slots s
      → PromisedBy what s.slot s.epoch s.manager

-- ---- the moves

pub data Move (first : Cleaner) (what : Do) : Phase → Went_to → Type 0 where
  -- It notes which items are begun, open and answered, and answers one.
  NotesItems : {phase : Phase} (items : Items) → Noted first what (items_in phase) items → Move first what phase (still (noted phase items))
  AnswersItem : {phase : Phase} (number : ℕ) (a : Answer) → Due first what number a → Move first what phase (cleaner_answer phase number a)
  -- It falls.
  Falls : {phase : Phase} → Move first what phase (still (Down (lasting_of phase)))
  -- It starts again, as an item says, and its log is opened.
  Restarts : {l : Lasting} (number : ℕ) → IsTaken first what → what ≡ Begin → next_item (items_in first.phase) ≡ Some number
      → Move first what (Down l) (restart first.peers.servers l number)
  -- The opening of its log goes on.
  Opens : {l : Lasting} {o : openings.Opening} (w : Went) → IsTaken first what → first.phase ≡ Opening l o → OpenedBy what l o w
      → Move first what (Opening l o) (record { state = came_to (record l { questions = w.questions }) w.progress; outs = w.effects })
  -- A job begins.
  BeginsJob : {e : Emptying} (count : ℕ) → what ≡ Begin
      → Move first what (Serving e) (serves_on (still (record e { job = Some (begun_job e.promised count) })))
  -- The job takes an input, and what it says is done; the log takes one, and what it says is done.
  Cleans : {e : Emptying} (given : In) → Given first what e given → Move first what (Serving e) (serves_on (emptying_clean e given))
  LogTakes : {e : Emptying} (i : LogIn) → Written first what e i → Move first what (Serving e) (serves_on (emptying_write e i))
  -- It takes the maps that came.
  TakesMaps : {e : Emptying} (packet : Packet) (news : News) → Brought what packet news
      → Move first what (Serving e) (serves_on (still (record e { maps = maps_take e.maps news })))
  -- A slot is promised to an epoch of a manager, and the end of the log is reported to one that asked for it.
  Promises : {e : Emptying} (slot epoch manager : ℕ) → PromisedBy what slot epoch manager → epoch_of e.promised slot ≤ epoch
      → Move first what (Serving e) (serves_on (still (emptying_promise e slot epoch manager)))
  Reports : {before : Emptying} (packet : Packet) (manager : ℕ) (m : Poll) → first.phase ≡ Serving before → Came what packet (body.Poll m)
      → packet.from ≡ Manager manager → epoch_of before.promised m.slot ≤ m.epoch
      → Move first what (Serving (emptying_promise before m.slot m.epoch manager))
      (record {
        state = Serving (emptying_promise before m.slot m.epoch manager);
        outs = Send (Manager manager)
            (body.Report (record { slot = m.slot; epoch = m.epoch; held = []; end = (emptying_promise before m.slot m.epoch manager).log.end })) ∷ [];
      })
  -- A manager has applied its log so far.
  Acknowledges : {e : Emptying} (packet : Packet) (m : DeltaAck) → Came what packet (body.DeltaAck m)
      → Move first what (Serving e) (serves_on (still (record e { feed = acknowledged e.feed m.slot m.applied })))
  -- The question for the maps is answered, or a new one is asked.
  IsGreeted : {e : Emptying} → Move first what (Serving e) (serves_on (still (record e { job = note_greeted e.job })))
  AsksForMaps : {e : Emptying} → IsTaken first what → first.phase ≡ Serving e → Move first what (Serving e) (serves_on (ask_for_maps e))
  -- It tells managers what its log says.
  TellsDeltas : {e : Emptying} → Move first what (Serving e) (record { state = Serving e; outs = push_all e.promised.managers e.feed })
  -- The reading of the segment in hand hears a server, or ends, or begins a further round.
  HearsServer : {e : Emptying} (ask server : ℕ) (t : Told) → Tells first what e ask server t
      → Move first what (Serving e) (serves_on (still (emptying_hear e ask server t).state))
  LeavesReading : {e : Emptying} → Move first what (Serving e) (serves_on (still (left_reading e)))
  ReadsOn : {e : Emptying}
      → Move first what (Serving e) (serves_on (still (confirmed (with_questions e (draw e.lasting.questions)) (next_ask e.lasting.questions)).state))
  Fetches : {e : Emptying} → Move first what (Serving e) (record { state = Serving e; outs = fetches (hand_of e.job) })

-- Any list of moves, oldest first.
pub data Moves (first : Cleaner) (what : Do) : Phase → Went_to → Type 0 where
  Rests : {phase : Phase} → Moves first what phase (still phase)
  Last : {phase : Phase} {d : Went_to} → Move first what phase d → Moves first what phase d
  Then : {phase : Phase} (d e : Went_to) → Move first what phase d → Moves first what d.state e → Moves first what phase (saying d.outs e)

-- Each event of the cleaner is a list of moves.
abbrev pub CleanerEventsAreMoves : Type 0
CleanerEventsAreMoves = (cleaner : Cleaner) (what : Do) → Moves cleaner what cleaner.phase (takes cleaner.peers cleaner.phase what)
