-- How the pages of a slot's index stand to its last checkpoint, and how the writing of a checkpoint is seen.
use Rattle.std.specs.Prelude.{◌≡◌, ℕ, List, [], ◌∷◌, ◌++◌, Option, Some, None}
use Rattle.checkpoint.specs.Laws.{Event, rows_of, rows_in, Checkpointed, nothing_checkpointed, slot_after, AllMayCome}
use Rattle.checkpoint.specs.Plan.{plan_of}
use Rattle.checkpoint.specs.WriterState.{Rows, WorkState, WriterState, items_of}
use Rattle.client_log.specs.LogState.{LogState}
use Rattle.index_pages.specs.Pages.{PagesState, pages_merge, pages_clean}
use Rattle.index_tie.specs.Net.{Net}
use Rattle.index_tie.specs.Net.Packet.{CheckpointPlanned}
use Rattle.log_flight.specs.Flights.{FlightState}
use Rattle.log_protocol.specs.Tables.{In}
use Rattle.wire_msg.specs.declared.registry.CkptDone.{CkptDone}
use Rattle.xfs_base.specs.Limits.{u32_end}
use Rattle.xfs_base.specs.declared.segment.SegRef.{SegRef}
use Rattle.manager_serving.specs.declared.checkpointing.Checkpointing.{Checkpointing}
use Rattle.manager_serving.specs.declared.serving.Serving.{Serving}
use Rattle.node_slots.specs.node_index_tie.Sight.{held_in, RowsFit, CkptSeen}
use Rattle.headline.specs.Filed.{Texts}

-- pages, once these rows are put
abbrev pub put_all : PagesState → Rows → PagesState
put_all s [] = s
put_all s (row ∷ rows) = put_all (pages_merge s row.0 row.1) rows

-- the pages and the parts of what was checkpointed
abbrev pub checkpointed : PagesState → List SegRef → Checkpointed
checkpointed pages parts = record { pages = pages; parts = parts }

-- what a manager writes checkpoints with: its log, the pages that were given out last, and the writer
pub record Desk : Type 0 where
  pub log : LogState
  pub given : List Rows
  pub writer : WriterState

abbrev pub desk_of : Serving → List Rows → Desk
desk_of s given = record { log = s.log; given = given; writer = s.writer }

module _ (part : ℕ) (texts : Texts) (n : Net) (desk : Desk) where
  -- A checkpoint of the slot is being written as it was planned after these events: the segments that are settled hold the first of the planned pages, the
  -- segment that was given out has the next ones, and the rest is left.
  pub record IsWork (events : List Event) (w : WorkState) : Type 0 where
    pub planned : In (CheckpointPlanned w.epoch events w.horizon) n.sent
    pub begun : n.slots w.epoch ≡ None → ⊥
    pub may : AllMayCome (held_in part texts) nothing_checkpointed events
    pub segments : List SegRef
    pub parts : w.parts ≡ (plan_of (slot_after events).pages (slot_after events).parts).parts ++ segments
    pub rows : rows_in (held_in part texts) segments
        ++ (rows_of desk.given ++ rows_of w.left) ≡ rows_of (plan_of (slot_after events).pages (slot_after events).parts).pages
    pub flies : (f : FlightState) → desk.log.flight ≡ Some f → f.segment.items ≡ items_of part desk.given

  -- The pages of a slot that is managed at this epoch, and the parts that its last checkpoint names: these cover what has not changed since; or its
  -- checkpoint is being written, and rows were put since that was begun; or the writer has come to the end of its numbers, and begins no more.
  pub data Paged (epoch : ℕ) (pages : PagesState) (parts : List SegRef) : Type 0 where
    Covered : (events : List Event) → AllMayCome (held_in part texts) nothing_checkpointed events → slot_after events ≡ checkpointed pages parts
        → ((w : WorkState) → desk.writer.work ≡ Some w → w.slot ≡ part → w.epoch ≡ epoch → ⊥) → Paged epoch pages parts
    Written : (events : List Event) (w : WorkState) (rows : Rows) → desk.writer.work ≡ Some w → w.slot ≡ part → w.epoch ≡ epoch → IsWork events w
        → RowsFit rows
        → pages ≡ put_all (pages_clean (slot_after events).pages) rows → Paged epoch pages parts
    Ended : desk.writer.number ≡ u32_end → desk.writer.work ≡ None → Paged epoch pages parts

  -- what is written of a checkpoint of the slot was planned
  pub record WorkSeen (w : WorkState) : Type 0 where
    pub events : List Event
    pub as_planned : IsWork events w

  -- the writer, and the log that it alone writes
  pub record WriterAgrees : Type 0 where
    pub same_log : desk.log.log ≡ desk.writer.log
    pub named : (f : FlightState) → desk.log.flight ≡ Some f → f.segment.name.log ≡ desk.log.log
    pub nothing_waits : desk.log.dirty ≡ []
    pub idle : desk.writer.work ≡ None → desk.log.flight ≡ None
    pub answered : (epoch : ℕ) → desk.writer.asked ≡ Some epoch → desk.writer.work ≡ None
    pub work : (w : WorkState) → desk.writer.work ≡ Some w → w.slot ≡ part → WorkSeen w

module _ (part : ℕ) (n : Net) where
  -- a checkpoint whose answer is awaited was sent
  abbrev pub DoneIn : Option CkptDone → Type 0
  DoneIn None = Unit {0}
  DoneIn (Some done) = CkptSeen part n done

  abbrev pub DoneSeen : Option Checkpointing → Type 0
  DoneSeen None = Unit {0}
  DoneSeen (Some job) = DoneIn job.done

-- what the log has in flight is the text of its name
abbrev pub FlightIsText : Texts → LogState → Type 0
FlightIsText texts log = (f : FlightState) → log.flight ≡ Some f → texts f.segment.name ≡ f.segment
