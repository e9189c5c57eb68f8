-- What the laws of checkpoints say.
use Rattle.std.specs.Prelude.{◌≡◌, ℕ, ◌^◌, ◌<◌, true, is_some, List, [], ◌∷◌, ◌++◌, if◌then◌else◌}
use Rattle.xfs_base.specs.declared.block.BlockId.{BlockId}
use Rattle.xfs_base.specs.declared.entry.Entry.{Entry}
use Rattle.xfs_base.specs.declared.segment.LogId.{LogId}
use Rattle.xfs_base.specs.declared.segment.SegRef.{SegRef}
use Rattle.segment_format.specs.declared.segment.Item.{Item}
use Rattle.segment_format.specs.declared.segment.Item.TheVariants.{Block, Delta, Part}
use Rattle.index_pages.specs.Pages.{PagesState, pages_new, pages_merge, pages_clean}
use Rattle.checkpoint.specs.declared.input.In.{In}
use Rattle.checkpoint.specs.declared.input.In.TheVariants.{Begin, Settled, Ack}
use Rattle.checkpoint.specs.declared.output.Out.{Out}
use Rattle.checkpoint.specs.declared.output.Out.TheVariants.{Parts, Done, Kept, Stale}
use Rattle.checkpoint.specs.Plan.{plan_of}
use Rattle.checkpoint.specs.WriterState.{Rows, WriterState}
use Rattle.checkpoint.specs.Transition.{writer_start, part_at, is_idle, transition}

-- the rows of these pages, one page after the other
abbrev pub rows_of : List Rows → Rows
rows_of [] = []
rows_of (page ∷ pages) = page ++ rows_of pages

-- what these segments hold, one after the other, where it is known of each what it holds
abbrev pub rows_in : (SegRef → Rows) → List SegRef → Rows
rows_in holds [] = []
rows_in holds (part ∷ parts) = holds part ++ rows_in holds parts

-- ---- a writer that takes any inputs

abbrev pub item_rows : Item → Rows
item_rows (Block block value) = []
item_rows (Delta block ver hop item) = []
item_rows (Part slot rows) = rows

-- the rows of these items, in their order
abbrev pub rows_of_items : List Item → Rows
rows_of_items [] = []
rows_of_items (item ∷ items) = item_rows item ++ rows_of_items items

-- what a checkpoint has to name
pub record Asked : Type 0 where
  pub slot : ℕ
  pub epoch : ℕ
  pub horizon : List ℕ
  -- what its parts have to hold: what the parts held that it names again, and then the pages
  pub rows : Rows

pub record Run : Type 0 where
  pub state : WriterState
  -- the rows that were given out last, for one segment
  pub given : Rows
  -- the checkpoint that was begun last
  pub asked : Asked

-- a writer that was started
abbrev pub fresh : LogId → Run
fresh log = record { state = writer_start log; given = []; asked = record { slot = 0; epoch = 0; horizon = []; rows = [] } }

abbrev pub given_after : Rows → List Out → Rows
given_after given [] = given
given_after given (Parts items ∷ outs) = given_after (rows_of_items items) outs
given_after given (Done slot epoch parts horizon ∷ outs) = given_after given outs
given_after given (Kept ∷ outs) = given_after given outs
given_after given (Stale epoch ∷ outs) = given_after given outs

abbrev pub asked_after : (SegRef → Rows) → Run → In → Asked
asked_after holds r (Begin slot epoch pages parts horizon) =
    if is_idle r.state then record { slot = slot; epoch = epoch; horizon = horizon; rows = rows_in holds parts ++ rows_of pages } else r.asked
asked_after holds r (Settled end) = r.asked
asked_after holds r (Ack epoch number) = r.asked

abbrev pub after_input : (SegRef → Rows) → Run → In → Run
after_input holds r input = record {
  state = (transition r.state input).state;
  given = given_after r.given (transition r.state input).outs;
  asked = asked_after holds r input;
}

abbrev pub after_inputs : (SegRef → Rows) → Run → List In → Run
after_inputs holds r [] = r
after_inputs holds r (input ∷ inputs) = after_inputs holds (after_input holds r input) inputs

-- a writer that was started and then took these inputs
abbrev pub run_of : (SegRef → Rows) → LogId → List In → Run
run_of holds log inputs = after_inputs holds (fresh log) inputs

-- a segment that settles while a checkpoint is written holds the rows that were given out for it
abbrev pub SettlesAsGiven : (SegRef → Rows) → Run → In → Type 0
SettlesAsGiven holds r (Begin slot epoch pages parts horizon) = Unit {0}
SettlesAsGiven holds r (Settled end) = is_some r.state.work ≡ true → holds (part_at r.state.log end) ≡ r.given
SettlesAsGiven holds r (Ack epoch number) = Unit {0}

-- each segment that settles does
abbrev pub AllSettleAsGiven : (SegRef → Rows) → Run → List In → Type 0
AllSettleAsGiven holds r [] = Unit {0}
AllSettleAsGiven holds r (input ∷ inputs) = SettlesAsGiven holds r input × AllSettleAsGiven holds (after_input holds r input) inputs

-- each checkpoint that is done here is the one that was begun last, and its parts hold what they have to
abbrev pub DoneAsAsked : (SegRef → Rows) → Asked → List Out → Type 0
DoneAsAsked holds a [] = Unit {0}
DoneAsAsked holds a (Parts items ∷ outs) = DoneAsAsked holds a outs
DoneAsAsked holds a (Done slot epoch parts horizon ∷ outs) =
    (slot ≡ a.slot) × (epoch ≡ a.epoch) × (horizon ≡ a.horizon) × (rows_in holds parts ≡ a.rows) × DoneAsAsked holds a outs
DoneAsAsked holds a (Kept ∷ outs) = DoneAsAsked holds a outs
DoneAsAsked holds a (Stale epoch ∷ outs) = DoneAsAsked holds a outs

-- ---- a slot whose checkpoints are written by the plan

pub record Checkpointed : Type 0 where
  pub pages : PagesState
  -- the parts that its last checkpoint names
  pub parts : List SegRef

-- a slot of which nothing is known
abbrev pub nothing_checkpointed : Checkpointed
nothing_checkpointed = record { pages = pages_new; parts = [] }

-- an entry is merged, or a checkpoint is planned, whose pages are written into these segments
pub data Event : Type 0 where
  Merged : BlockId → Entry → Event
  Written : List SegRef → Event

abbrev pub after_event : Checkpointed → Event → Checkpointed
after_event k (Merged block entry) = record k { pages = pages_merge k.pages block entry }
after_event k (Written segments) = record { pages = pages_clean k.pages; parts = (plan_of k.pages k.parts).parts ++ segments }

abbrev pub after_events : Checkpointed → List Event → Checkpointed
after_events k [] = k
after_events k (event ∷ events) = after_events (after_event k event) events

-- a slot of which nothing was known, after these events
abbrev pub slot_after : List Event → Checkpointed
slot_after events = after_events nothing_checkpointed events

-- a block's number is within its type, and segments hold the pages that are planned, in their order
abbrev pub MayCome : (SegRef → Rows) → Checkpointed → Event → Type 0
MayCome holds k (Merged block entry) = block.blk < 2 ^ 32
MayCome holds k (Written segments) = rows_in holds segments ≡ rows_of (plan_of k.pages k.parts).pages

abbrev pub AllMayCome : (SegRef → Rows) → Checkpointed → List Event → Type 0
AllMayCome holds k [] = Unit {0}
AllMayCome holds k (event ∷ events) = MayCome holds k event × AllMayCome holds (after_event k event) events
