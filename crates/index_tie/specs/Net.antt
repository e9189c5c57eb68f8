-- A small world of the machines of one slot of the map: what logs filed, the slots of all managers that the slot had, each under its epoch (deposed ones go
-- on), what the registry keeps of it, the cleaner's job, and the packets that were sent, of which any may come any number of times, in any order, or never.
-- What the laws of tokens, logs and epochs say is asked of what happens: that clients file newer versions, that Deltas tell what was filed, that logs are
-- read as they were written, and that epochs begin and are promised in their order.
use Rattle.std.specs.Prelude.{◌≡◌, ℕ, suc, ◌-◌, ◌<◌, ◌≤◌, true, nat_lt, List, [], ◌∷◌, ◌++◌, length, take, Option, Some, None, Contains, if◌then◌else◌}
use Rattle.std.specs.List.{AllByRecursion}
use Rattle.group_map.specs.GroupMapState.{GroupMapState}
use Rattle.segment_format.specs.declared.segment.Segment.{Segment}
use Rattle.xfs_base.specs.declared.block.BlockId.{BlockId}
use Rattle.xfs_base.specs.declared.entry.Entry.{Entry}
use Rattle.xfs_base.specs.declared.entry.Place.{Place}
use Rattle.xfs_base.specs.declared.news.SlotNews.{SlotNews}
use Rattle.xfs_base.specs.declared.segment.LogId.{LogId}
use Rattle.xfs_base.specs.declared.segment.SegName.{SegName}
use Rattle.xfs_base.specs.declared.segment.SegRef.{SegRef}
use Rattle.xfs_base.specs.declared.token.Mode.{Mode}
use Rattle.xfs_base.specs.Blocks.{slot_of}
use Rattle.xfs_base.specs.Limits.{block_logs}
use Rattle.xfs_base.specs.Logs.{cleaners_number}
use Rattle.checkpoint.specs.Laws.{Event, nothing_checkpointed, after_event, slot_after, MayCome, AllMayCome}
use Rattle.checkpoint.specs.Laws.Event.{Written}
use Rattle.checkpoint.specs.WriterState.{Rows}
use Rattle.slot_beliefs.specs.Index.{pages_of}
use Rattle.stripe_cleaner.specs.declared.input.In as job_inputs
use Rattle.stripe_cleaner.specs.declared.input.In.TheVariants as job_input
use Rattle.stripe_cleaner.specs.declared.output.Out as job_outputs
use Rattle.stripe_cleaner.specs.declared.output.Out.TheVariants as job_output
use Rattle.stripe_cleaner.specs.declared.phase.Phase.{Phase}
use Rattle.stripe_cleaner.specs.declared.phase.Phase.TheVariants.{Checking}
use Rattle.stripe_cleaner.specs.Checks.{moved_once}
use Rattle.stripe_cleaner.specs.CleaningState.{CleaningState}
use Rattle.stripe_cleaner.specs.CleaningState as job_state
use Rattle.stripe_cleaner.specs.Promises.{promised_at}
use Rattle.stripe_cleaner.specs.Transition as job
use Rattle.takeover.specs.declared.input.In.{In as TakeoverIn}
use Rattle.takeover.specs.declared.output.Out.TheVariants.{Active}
use Rattle.takeover.specs.Course.{Course, course_of, after_input}
use Rattle.takeover.specs.Reports.{end_of}
use Rattle.takeover.specs.Transition as takeover
use Rattle.token_manager.specs.declared.input.In as slot_inputs
use Rattle.token_manager.specs.declared.input.In.TheVariants.{Want, Gave, Deltas, Check, Tick}
use Rattle.token_manager.specs.declared.output.Out as slot_outputs
use Rattle.token_manager.specs.declared.output.Out.TheVariants as slot_output
use Rattle.token_manager.specs.SlotState.{SlotState}
use Rattle.token_manager.specs.Transition as slot
use Rattle.log_protocol.specs.Tables.{In, put}
use Rattle.index_tie.specs.Checkpoints.{IsNext, TellsPart}
use Rattle.index_tie.specs.Cleaning.{IsWithin, ReadFor}
use Rattle.headline.specs.Filed.{Filed, IsSegment, is_filed_name, row_at}
use Rattle.index_tie.specs.Growth.{with_segment, said_of}
use Rattle.index_tie.specs.Slots.{DeltasTell}
use Rattle.index_tie.specs.Takeovers.{IsEnd, Linked, IsItsText}
use Rattle.headline.specs.Indexes.{of_log}

-- A checkpoint that an epoch's manager plans, with what happened to the slot's pages before and with its horizon; a checkpoint of an epoch, with its
-- horizon and its parts; a Report of the cleaner, with the epoch that it has promised and the end of its log; a Check of a job, by the job's number,
-- of a block at a place, below a horizon of this epoch; and the answers to it, a Dead with the epoch of who answered last.
pub data Packet : Type 0 where
  CheckpointPlanned : ℕ → List Event → List ℕ → Packet
  CheckpointDone : ℕ → List ℕ → List SegRef → Packet
  CleanerReported : ℕ → ℕ → Packet
  Checked : ℕ → BlockId → Place → ℕ → Packet
  AnsweredLive : BlockId → Entry → Packet
  AnsweredDead : ℕ → BlockId → SegName → ℕ → ℕ → Packet

pub record Net : Type 0 where
  pub filed : Filed
  -- the slot of the manager of each epoch
  pub slots : ℕ → Option SlotState
  -- the registry's epoch; and, by epoch, the horizon and the parts that it had last kept while it was at that epoch, for later epochs those of now
  pub epoch : ℕ
  pub horizon : ℕ → List ℕ
  pub parts : ℕ → List SegRef
  -- the epoch that the cleaner has promised, its job and the job's number, and what its jobs were to delete
  pub promised : ℕ
  pub job : CleaningState
  pub number : ℕ
  pub deleted : List SegName
  pub sent : List Packet

-- ---- what is done to it

abbrev pub with_slot : Net → ℕ → SlotState → Net
with_slot n e s = record n { slots = put n.slots e (Some s) }

abbrev pub with_packet : Net → Packet → Net
with_packet n p = record n { sent = p ∷ n.sent }

-- what a slot answers a Check
abbrev pub answer_packets : ℕ → BlockId → SegName → ℕ → ℕ → List slot_outputs.Out → List Packet
answer_packets number b name d e [] = []
answer_packets number b name d e (slot_output.Grant client block stamp inc req mode entry ∷ os) = answer_packets number b name d e os
answer_packets number b name d e (slot_output.Forward passer block stamp client inc req ver ∷ os) = answer_packets number b name d e os
answer_packets number b name d e (slot_output.Recall client block stamp keep ∷ os) = answer_packets number b name d e os
answer_packets number b name d e (slot_output.Applied log upto ∷ os) = answer_packets number b name d e os
answer_packets number b name d e (slot_output.Live entry ∷ os) = AnsweredLive b entry ∷ answer_packets number b name d e os
answer_packets number b name d e (slot_output.Dead ∷ os) = AnsweredDead number b name d e ∷ answer_packets number b name d e os

-- the names of what is to be deleted
abbrev pub deletes_of : List job_outputs.Out → List SegName
deletes_of [] = []
deletes_of (job_output.Delete server name ∷ os) = name ∷ deletes_of os
deletes_of (o ∷ os) = deletes_of os

abbrev pub with_job : Net → job.Done → Net
with_job n d = record n { job = d.state; deleted = deletes_of d.outs ++ n.deleted }

-- ---- what is asked of what happens

-- a client's segment has just newer versions of the blocks that it names, at first hand
pub record IsNewer (b : BlockId) (f : Filed) (s : Segment) : Type 0 where
  pub newer : 0 < (said_of s b).ver → (l q : ℕ) → (row_at f b l q).ver < (said_of s b).ver
  pub first_hand : 0 < (said_of s b).ver → (said_of s b).hop ≡ 0

-- the cleaner's segment has just what was answered Live, moved once
pub record IsMove (b : BlockId) (sent : List Packet) (s : Segment) : Type 0 where
  pub entry : Entry
  pub answered : In (AnsweredLive b entry) sent
  pub version : (said_of s b).ver ≡ (moved_once entry).ver
  pub hop : (said_of s b).hop ≡ (moved_once entry).hop

-- what a slot takes that says nothing of blocks' places
abbrev pub IsOfTokens : slot_inputs.In → Type 0
IsOfTokens (Want want end) = Unit {0}
IsOfTokens (Gave client block stamp end) = Unit {0}
IsOfTokens (Deltas log first upto rows) = ⊥
IsOfTokens (Check block place) = ⊥
IsOfTokens Tick = Unit {0}

-- what a job takes that is neither read, nor answered Dead, nor a promise of this slot
abbrev pub IsOther : ℕ → job_inputs.In → Type 0
IsOther part (job_input.Welcome slots groups) = ⊥
IsOther part (job_input.Promise slot epoch) = slot ≡ part → ⊥
IsOther part (job_input.Read read) = ⊥
IsOther part (job_input.Dead block epoch) = slot_of block.ino.0 ≡ part → ⊥
IsOther part input = Unit {0}

-- the segment in hand is the one that was asked about
abbrev pub IsInHand : SegName → Phase → Type 0
IsInHand name (Checking j segment checks) = segment.name ≡ name
IsInHand name phase = Unit {0}

-- A takeover of this epoch has read what there is to read: its news is the registry's, the parts are read as they were written, ends that are reported are
-- filed, logs are linked from the horizon to their end, and what was read is what was written; and a Report of the cleaner came, of that epoch.
pub record HasRead (part : ℕ) (holds : SegRef → Rows) (n : Net) (e : ℕ) (news : SlotNews) (c : Course) : Type 0 where
  pub slot : news.slot ≡ part
  pub epoch : news.epoch ≡ e
  pub horizon : news.horizon ≡ n.horizon e
  pub parts : news.parts ≡ n.parts e
  pub written : AllByRecursion (AllByRecursion (TellsPart part holds news.parts)) (take (length news.parts) c.read.whole)
  pub ends : (l : ℕ) → 0 < l → l ≤ block_logs → of_log news.horizon l ≤ (end_of c.state.reports l).seq → IsEnd n.filed l (end_of c.state.reports l)
  pub linked : (l : ℕ) → 0 < l → l ≤ block_logs → Linked n.filed l (of_log news.horizon l) (end_of c.state.reports l).seq
  pub texts : AllByRecursion (AllByRecursion (IsItsText n.filed)) c.read.whole
  pub reported : In (CleanerReported e (end_of c.state.reports cleaners_number).seq) n.sent

-- ---- what can happen

pub data Happens (part : ℕ) (holds : SegRef → Rows) : Net → Net → Type 0 where
  -- a client's log files a segment
  ClientFiles : {n : Net} (l : ℕ) (s : Segment) → 0 < l → l < cleaners_number → IsSegment l (suc (n.filed.head l)) s
      → ((b : BlockId) → slot_of b.ino.0 ≡ part → IsNewer b n.filed s) → Happens part holds n (record n { filed = with_segment n.filed l s })
  -- the cleaner's log files one
  CleanerFiles : {n : Net} (s : Segment) → IsSegment cleaners_number (suc (n.filed.head cleaners_number)) s
      → ((b : BlockId) → slot_of b.ino.0 ≡ part → 0 < (said_of s b).ver → IsMove b n.sent s)
      → Happens part holds n (record n { filed = with_segment n.filed cleaners_number s })
  -- a slot gets Deltas, which tell what their log filed
  GetsDeltas : {n : Net} (e : ℕ) (s : SlotState) (log : LogId) (first upto : ℕ) (rows : List (BlockId × Entry)) → n.slots e ≡ Some s
      → log.0 - 1 < length s.applied
      → ((b : BlockId) → slot_of b.ino.0 ≡ part → DeltasTell b n.filed log.0 first upto rows)
      → Happens part holds n (with_slot n e (slot.transition s (Deltas log first upto rows)).state)
  -- a slot gets what is of tokens
  GetsOther : {n : Net} (e : ℕ) (s : SlotState) (i : slot_inputs.In) → n.slots e ≡ Some s → IsOfTokens i
      → Happens part holds n (with_slot n e (slot.transition s i).state)
  -- a slot answers a Check
  Answers : {n : Net} (e : ℕ) (s : SlotState) (number : ℕ) (b : BlockId) (place : Place) (d : ℕ) → n.slots e ≡ Some s → In (Checked number b place d) n.sent
      → Happens part holds n (record n { sent = answer_packets number b place.seg.name d e (slot.transition s (Check b place)).outs ++ n.sent })
  -- a manager plans a checkpoint, of the slot's pages and its horizon at this moment
  Plans : {n : Net} (e : ℕ) (s : SlotState) (events : List Event) (horizon : List ℕ) → n.slots e ≡ Some s → (slot_after events).pages ≡ pages_of s.index
      → AllMayCome holds nothing_checkpointed events → IsNext s horizon
      → Happens part holds n (with_packet n (CheckpointPlanned e events horizon))
  -- from here on no page of the slot's index has changed
  Cleans : {n : Net} (e : ℕ) (s : SlotState) → n.slots e ≡ Some s → Happens part holds n (with_slot n e (slot.slot_clean s))
  -- a manager has written what it had planned, into these segments
  Checkpoints : {n : Net} (e : ℕ) (events : List Event) (horizon : List ℕ) (segments : List SegRef) → In (CheckpointPlanned e events horizon) n.sent
      → MayCome holds (slot_after events) (Written segments)
      → Happens part holds n (with_packet n (CheckpointDone e horizon (after_event (slot_after events) (Written segments)).parts))
  -- the registry keeps a checkpoint of its epoch
  Keeps : {n : Net} (horizon : List ℕ) (parts : List SegRef) → In (CheckpointDone n.epoch horizon parts) n.sent
      → ((l : ℕ) → 0 < l → l ≤ block_logs → of_log (n.horizon n.epoch) l ≤ of_log horizon l)
      → Happens part holds n
      (record n { horizon = λ e. if nat_lt e n.epoch then n.horizon e else horizon; parts = λ e. if nat_lt e n.epoch then n.parts e else parts })
  -- the registry gives the slot to another manager, or to another stay of it
  Moves : {n : Net} → Happens part holds n (record n { epoch = suc n.epoch })
  -- a manager becomes active at an epoch
  Activates : {n : Net} (e : ℕ) (news : SlotNews) (groups : GroupMapState) (clients : ℕ) (inputs : List TakeoverIn) (input : TakeoverIn)
      (index : List (BlockId × Entry)) (beliefs : List (BlockId × ℕ × Mode)) (applied : List ℕ) → n.slots e ≡ None
      → 0 < e → e ≤ n.epoch → Contains (takeover.transition (course_of news groups clients inputs).state input).outs (Active e index beliefs applied)
      → HasRead part holds n e news (after_input (course_of news groups clients inputs) input)
      → Happens part holds n (with_slot n e (slot.slot_start e index beliefs applied))
  -- the cleaner promises an epoch while no job of it has promised one
  Promises : {n : Net} (e : ℕ) → n.promised ≤ e → promised_at n.job.promised part ≡ 0 → Happens part holds n (record n { promised = e })
  -- and by its job, from a Poll or news, or from the job's Welcome
  JobPromises : {n : Net} (e : ℕ) → n.promised ≤ promised_at (job.transition n.job (job_input.Promise part e)).state.promised part
      → Happens part holds n
      (record (with_job n (job.transition n.job (job_input.Promise part e)))
      { promised = promised_at (job.transition n.job (job_input.Promise part e)).state.promised part })
  JobWelcomed : {n : Net} (slots : List SlotNews) (groups : GroupMapState)
      → n.promised ≤ promised_at (job.transition n.job (job_input.Welcome slots groups)).state.promised part
      → Happens part holds n
      (record (with_job n (job.transition n.job (job_input.Welcome slots groups)))
      { promised = promised_at (job.transition n.job (job_input.Welcome slots groups)).state.promised part })
  -- the cleaner reports what it has promised, and the end of its log
  Reports : {n : Net} → Happens part holds n (with_packet n (CleanerReported n.promised (n.filed.head cleaners_number)))
  -- the cleaner begins a job
  JobBegins : {n : Net} (count : ℕ) → Happens part holds n (record n { job = job_state.cleaning_start count; number = suc n.number })
  -- its job reads a segment
  JobReads : {n : Net} (read : Option Segment) → ReadFor n.filed read n.job.phase
      → Happens part holds n (with_job n (job.transition n.job (job_input.Read read)))
  -- it sends a Check of a Block, whose place is that of its row, below a horizon of an epoch that is promised
  Asks : {n : Net} (b : BlockId) (place : Place) (d : ℕ) → d ≤ promised_at n.job.promised part → IsWithin n.filed place.seg.name
      → place.seg.name.seq < of_log (n.horizon d) place.seg.name.log.0
      → (is_filed_name n.filed place.seg.name ≡ true → (row_at n.filed b place.seg.name.log.0 place.seg.name.seq).place ≡ Some place)
      → Happens part holds n (with_packet n (Checked n.number b place d))
  -- it hears a Dead of the segment in hand, whichever job asked
  JobHearsDead : {n : Net} (number : ℕ) (b : BlockId) (epoch : ℕ) (name : SegName) (d : ℕ) → In (AnsweredDead number b name d epoch) n.sent
      → IsInHand name n.job.phase
      → Happens part holds n (with_job n (job.transition n.job (job_input.Dead b epoch)))
  -- it takes anything else
  JobTakes : {n : Net} (i : job_inputs.In) → IsOther part i → Happens part holds n (with_job n (job.transition n.job i))

-- any list of such things, oldest first
pub data Runs (part : ℕ) (holds : SegRef → Rows) : Net → Net → Type 0 where
  Begun : {n : Net} → Runs part holds n n
  On : {n m o : Net} → Runs part holds n m → Happens part holds m o → Runs part holds n o

abbrev pub ones : List ℕ
ones = 1 ∷ 1 ∷ 1 ∷ 1 ∷ 1 ∷ 1 ∷ 1 ∷ 1 ∷ 1 ∷ []

abbrev pub zeros : List ℕ
zeros = 0 ∷ 0 ∷ 0 ∷ 0 ∷ 0 ∷ 0 ∷ 0 ∷ 0 ∷ 0 ∷ []

-- At the start nothing is filed, one manager is active at epoch 1, which the cleaner has promised, and the cleaner has no job. What is said of the segment at a
-- seq that isn't filed says nothing.
abbrev pub opening : (ℕ → ℕ → Segment) → Net
opening any = record {
  filed = record { head = λ l. 0; segment = any };
  slots = put (λ e. None) 1 (Some (slot.slot_start 1 [] [] zeros));
  epoch = 1;
  horizon = λ e. ones;
  parts = λ e. [];
  promised = 1;
  job = job_state.cleaning_start 0;
  number = 0;
  deleted = [];
  sent = [];
}
