-- What a job took, oldest first, and what is claimed of it whatever it took.
use Rattle.std.specs.Prelude.{◌≡◌, ◌<◌, Bool, false, IsTrue, List, [], ◌∷◌, ◌++◌, Option, Some, None, ◌&&◌, if◌then◌else◌}
use Rattle.std.specs.List.{AllByRecursion, filter_map}
use Rattle.group_map.specs.GroupMapState.{GroupMapState}
use Rattle.segment_format.specs.declared.segment.Item.{Item}
use Rattle.segment_format.specs.declared.segment.Item.TheVariants.{Block}
use Rattle.segment_format.specs.declared.segment.Segment.{Segment}
use Rattle.xfs_base.specs.declared.block.BlockId.{BlockId}
use Rattle.xfs_base.specs.declared.news.SlotNews.{SlotNews}
use Rattle.xfs_base.specs.declared.segment.SegName.{SegName}
use Rattle.xfs_base.specs.Blocks.{same_block}
use Rattle.xfs_base.specs.Steps.{steps}
use Rattle.stripe_cleaner.specs.declared.checks.Check.{Check}
use Rattle.stripe_cleaner.specs.declared.input.In.{In}
use Rattle.stripe_cleaner.specs.declared.input.In.TheVariants as input
use Rattle.stripe_cleaner.specs.declared.output.Out.{Out}
use Rattle.stripe_cleaner.specs.declared.output.Out.TheVariants as out
use Rattle.stripe_cleaner.specs.declared.phase.Phase.{Phase}
use Rattle.stripe_cleaner.specs.declared.phase.Phase.TheVariants as phase
use Rattle.stripe_cleaner.specs.Candidates.{least_horizon}
use Rattle.stripe_cleaner.specs.CleaningState.{CleaningState}
use Rattle.stripe_cleaner.specs.Job.{is_moving}
use Rattle.stripe_cleaner.specs.Transition.{is_greeting, cleaning_hears, may_move, transition}

-- a job that began so and took these inputs
abbrev pub state_after : CleaningState → List In → CleaningState
state_after start inputs = (steps transition start inputs).state

-- ---- horizons

-- the job took a Welcome of these slots while it awaited one
pub record IsWelcomed (start : CleaningState) (history : List In) (slots : List SlotNews) : Type 0 where
  pub groups : GroupMapState
  pub before : List In
  pub later : List In
  pub split : history ≡ before ++ input.Welcome slots groups ∷ later
  pub awaited : IsTrue (is_greeting (state_after start before).phase)

-- the segment is below the least horizon of its log in the Welcome of the job
pub record IsBelow (start : CleaningState) (history : List In) (name : SegName) : Type 0 where
  pub slots : List SlotNews
  pub welcomed : IsWelcomed start history slots
  pub below : name.seq < least_horizon slots name.log.0

-- what is read and what is deleted is below it
abbrev pub EmptiesBelow : CleaningState → List In → Out → Type 0
EmptiesBelow start history (out.Fetch segment) = IsBelow start history segment.name
EmptiesBelow start history (out.Delete server name) = IsBelow start history name
EmptiesBelow start history out = Unit {0}

-- ---- what is deleted

-- how far a block of the segment is: it is asked for; it was live; it was live and is moved; it was answered Dead after it was
-- moved, or was never live
pub data Stage : Type 0 where
  Asked : Stage
  Live : Stage
  Moved : Stage
  Dead : Stage

abbrev pub stage_at_live : Stage → Stage
stage_at_live Asked = Live
stage_at_live stage = stage

abbrev pub stage_at_dead : Stage → Stage
stage_at_dead Asked = Dead
stage_at_dead Moved = Dead
stage_at_dead stage = stage

abbrev pub stage_at_moved : Stage → Stage
stage_at_moved Live = Moved
stage_at_moved stage = stage

-- whether the job awaits that its move is settled
abbrev pub awaits_moved : Phase → Bool
awaits_moved (phase.Checking j segment checks) = is_moving checks
awaits_moved phase = false

-- how far the block is after an input in this state: a Live or Dead of it counts in the promised epoch alone
abbrev pub stage_with : CleaningState → In → BlockId → Stage → Stage
stage_with s (input.Live b epoch entry) block stage =
    if cleaning_hears s.promised b epoch && may_move entry then (if same_block block b then stage_at_live stage else stage) else stage
stage_with s (input.Dead b epoch) block stage = if cleaning_hears s.promised b epoch then (if same_block block b then stage_at_dead stage else stage) else stage
stage_with s input.Moved block stage = if awaits_moved s.phase then stage_at_moved stage else stage
stage_with s input block stage = stage

-- how far the block is after these inputs, where it was this far in this state
abbrev pub stage_from : CleaningState → Stage → List In → BlockId → Stage
stage_from s stage [] block = stage
stage_from s stage (input ∷ later) block = stage_from (transition s input).state (stage_with s input block stage) later block

-- how far the block is after these inputs, where it was asked for in this state
abbrev pub stage_after : CleaningState → List In → BlockId → Stage
stage_after s inputs block = stage_from s Asked inputs block

abbrev pub block_of : Item → Option BlockId
block_of (Block block value) = Some block
block_of item = None

-- the blocks of the Block items, in order
abbrev pub blocks_of : List Item → List BlockId
blocks_of items = filter_map block_of items

-- whether the job reads this segment
abbrev pub reads : SegName → Phase → Type 0
reads name (phase.Reading j segment) = segment.name ≡ name
reads name phase = ⊥

-- The segment was read, and since then each of its Block items was answered Dead in the promised epoch, after it was moved or
-- where it was never live.
pub record IsEmptied (start : CleaningState) (history : List In) (name : SegName) : Type 0 where
  pub segment : Segment
  pub before : List In
  pub later : List In
  pub split : history ≡ before ++ input.Read (Some segment) ∷ later
  pub awaited : reads name (state_after start before).phase
  pub named : segment.name ≡ name
  pub dead : AllByRecursion (λ b. stage_after (transition (state_after start before) (input.Read (Some segment))).state later b ≡ Dead)
      (blocks_of segment.items)

-- what is known of the segment in hand: something where it is checked, and something where it is deleted
abbrev pub KnownOf : (SegName → List Check → Type 0) → (SegName → Type 0) → Phase → Type 0
KnownOf Checked Gone (phase.Checking j segment checks) = Checked segment.name checks
KnownOf Checked Gone (phase.Deleting j segment servers) = Gone segment.name
KnownOf Checked Gone phase = Unit {0}

-- what is deleted is such
abbrev pub DeletesOf : (SegName → Type 0) → Out → Type 0
DeletesOf Gone (out.Delete server name) = Gone name
DeletesOf Gone out = Unit {0}

-- what is deleted is emptied
abbrev pub DeletesEmptied : CleaningState → List In → Out → Type 0
DeletesEmptied start history out = DeletesOf (IsEmptied start history) out
