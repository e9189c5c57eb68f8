-- How a job of the cleaner is seen in the index of one block, what it needs of the world, and the laws: what is live is copied, what is dead is beaten and
-- counted, and what is deleted was dropped.
use Rattle.std.specs.Prelude.{◌≡◌, ℕ, ◌<◌, ◌≤◌, ◌⊎◌, true, List, [], ◌∷◌, map, Option, Some}
use Rattle.std.specs.List.{AllByRecursion}
use Rattle.segment_format.specs.declared.segment.Segment.{Segment}
use Rattle.xfs_base.specs.declared.block.BlockId.{BlockId}
use Rattle.xfs_base.specs.declared.entry.Entry.{Entry}
use Rattle.xfs_base.specs.declared.entry.Place.{Place}
use Rattle.xfs_base.specs.declared.segment.SegName.{SegName}
use Rattle.xfs_base.specs.Blocks.{slot_of}
use Rattle.stripe_cleaner.specs.declared.checks.Check.{Check}
use Rattle.stripe_cleaner.specs.declared.input.In as inputs
use Rattle.stripe_cleaner.specs.declared.input.In.TheVariants as input
use Rattle.stripe_cleaner.specs.declared.output.Out as outputs
use Rattle.stripe_cleaner.specs.declared.phase.Phase.{Phase}
use Rattle.stripe_cleaner.specs.declared.phase.Phase.TheVariants.{Reading, Checking}
use Rattle.stripe_cleaner.specs.Checks.{moved_once, is_dead}
use Rattle.stripe_cleaner.specs.CleaningState.{CleaningState, cleaning_start}
use Rattle.stripe_cleaner.specs.Histories.{KnownOf, DeletesOf, blocks_of}
use Rattle.stripe_cleaner.specs.Promises.{promised_at}
use Rattle.stripe_cleaner.specs.Transition as job
use Rattle.token_manager.specs.declared.input.In.TheVariants as told
use Rattle.token_manager.specs.declared.output.Out.TheVariants as telling
use Rattle.token_manager.specs.SlotState.{SlotState}
use Rattle.token_manager.specs.Transition as slot
use Rattle.log_protocol.specs.IndexState.{IndexState}
use Rattle.log_protocol.specs.IndexLaws.{IndexReached}
use Rattle.log_protocol.specs.IndexSteps.{CanBeat, IndexSteps}
use Rattle.index_tie.specs.Filed.{IsFiled, Tells}
use Rattle.headline.specs.Filed.{Filed, has_block, is_filed_name, row_at}
use Rattle.index_tie.specs.Growth.{IsCopy, IsMore}
use Rattle.index_tie.specs.Slots.{Manages}

-- ---- what a manager answers

-- an entry is a filed row of the block
pub record IsRow (b : BlockId) (f : Filed) (entry : Entry) : Type 0 where
  pub log : ℕ
  pub seq : ℕ
  pub is_row : entry ≡ row_at f b log seq
  pub some : 0 < entry.ver

-- What is answered Live is a filed row.
abbrev pub LiveIsFiled : Type 0
LiveIsFiled =
    (b : BlockId) (f : Filed) (w : IndexState) (s : SlotState) (place : Place) (entry : Entry) → Manages b f w s
    → (slot.transition s (told.Check b place)).outs ≡ telling.Live entry ∷ [] → IsRow b f entry

-- A move is a copy: what was live, moved once, is a row at the same version and one hop further.
abbrev pub MovesAreCopies : Type 0
MovesAreCopies =
    (b : BlockId) (f : Filed) (entry said : Entry) → IsRow b f entry → said.ver ≡ (moved_once entry).ver → said.hop ≡ (moved_once entry).hop → IsCopy b f said

-- A Dead is a beat: where an active manager answers Dead for the place of a filed row, below a horizon that an epoch up to its own had kept, its entry is
-- elsewhere.
abbrev pub DeadsAreBeats : Type 0
DeadsAreBeats =
    (b : BlockId) (f : Filed) (w : IndexState) (s : SlotState) (place : Place) (d l q : ℕ) → IndexReached w → IsFiled f → Tells b f w → Manages b f w s
    → (row_at f b l q).place ≡ Some place → d ≤ s.epoch → q < w.floor d l
    → (slot.transition s (told.Check b place)).outs ≡ telling.Dead ∷ [] → CanBeat w d s.epoch l q

-- ---- the job

-- the log had filed this seq
pub record IsWithin (f : Filed) (name : SegName) : Type 0 where
  pub some : 0 < name.seq
  pub filed : name.seq ≤ f.head name.log.0

-- Each Block of a filed segment is asked for, and where the block's was answered Dead, a Dead was counted.
pub record IsChecked (b : BlockId) (f : Filed) (dead_at : ℕ → ℕ → ℕ) (name : SegName) (checks : List Check) : Type 0 where
  pub within : IsWithin f name
  pub blocks : is_filed_name f name ≡ true → map (λ c. c.block) checks ≡ blocks_of (f.segment name.log.0 name.seq).items
  pub counted : is_filed_name f name ≡ true → has_block b f name ≡ true
      → AllByRecursion (λ c. c.block ≡ b → is_dead c.fate ≡ true → 0 < dead_at name.log.0 name.seq) checks

-- where a filed segment has a Block of the block, its row was dropped
pub record IsDropped (b : BlockId) (f : Filed) (dropped : ℕ → ℕ → ℕ) (name : SegName) : Type 0 where
  pub within : IsWithin f name
  pub row_dropped : is_filed_name f name ≡ true → has_block b f name ≡ true → dropped name.log.0 name.seq ≡ 1

abbrev pub Known : BlockId → Filed → (ℕ → ℕ → ℕ) → (ℕ → ℕ → ℕ) → Phase → Type 0
Known b f dead_at dropped phase = KnownOf (IsChecked b f dead_at) (IsDropped b f dropped) phase

abbrev pub promise_of : BlockId → CleaningState → ℕ
promise_of b s = promised_at s.promised (slot_of b.ino.0)

-- The job is seen as the cleaner, at this block: it has promised what the cleaner has, or nothing yet.
pub record Cleans (b : BlockId) (f : Filed) (w : IndexState) (s : CleaningState) : Type 0 where
  pub promised : (promise_of b s ≡ 0) ⊎ (w.promised ≡ promise_of b s)
  pub known : Known b f w.dead_at w.dropped s.phase

-- a promise is no lower than the cleaner's last
abbrev pub NoLower : BlockId → IndexState → CleaningState → CleaningState → Type 0
NoLower b w s later = (promise_of b later ≡ promise_of b s) ⊎ (w.promised ≤ promise_of b later)

-- a segment that is read has a seq that was filed, and where its name is that of the filed segment, it is that
abbrev pub ReadFor : Filed → Option Segment → Phase → Type 0
ReadFor f (Some read) (Reading j segment) =
    IsWithin f segment.name × (is_filed_name f segment.name ≡ true → read.name ≡ segment.name → read ≡ f.segment segment.name.log.0 segment.name.seq)
ReadFor f read phase = Unit {0}

-- a Dead of a Block of the segment in hand was told of that row, at an epoch that is one
abbrev pub ToldFor : BlockId → Filed → IndexState → ℕ → Phase → Type 0
ToldFor b f w epoch (Checking j segment checks) =
    is_filed_name f segment.name ≡ true → has_block b f segment.name ≡ true → (0 < epoch) × (w.told epoch segment.name.log.0 segment.name.seq ≡ 1)
ToldFor b f w epoch phase = Unit {0}

-- what the world owes each input
abbrev pub Owes : BlockId → Filed → IndexState → CleaningState → inputs.In → Type 0
Owes b f w s (input.Welcome slots groups) = NoLower b w s (job.transition s (input.Welcome slots groups)).state
Owes b f w s (input.Promise slot epoch) = NoLower b w s (job.transition s (input.Promise slot epoch)).state
Owes b f w s (input.Read read) = ReadFor f read s.phase
Owes b f w s (input.Dead block epoch) = block ≡ b → job.cleaning_hears s.promised block epoch ≡ true → ToldFor b f w epoch s.phase
Owes b f w s input = Unit {0}

-- what is deleted was dropped
abbrev pub DeletesDropped : BlockId → Filed → (ℕ → ℕ → ℕ) → outputs.Out → Type 0
DeletesDropped b f dropped out = DeletesOf (IsDropped b f dropped) out

-- the index, but for what the cleaner knows
abbrev pub uncleaned : IndexState → IndexState
uncleaned w = record w { promised = 0; polled = λ e. 0; dead_at = λ l q. 0; beater = λ l q. 0; dropped = λ l q. 0 }

-- by steps of the cleaner the index becomes one in which the job is seen, and what is to be deleted was dropped
pub record Cleaned (b : BlockId) (f : Filed) (w : IndexState) (d : job.Done) : Type 0 where
  pub state : IndexState
  pub steps : IndexSteps w state
  pub frame : uncleaned state ≡ uncleaned w
  pub shows : Cleans b f state d.state
  pub deletes : AllByRecursion (DeletesDropped b f state.dropped) d.outs

-- Moves and drops: each input of a job is taken by steps of the cleaner.
abbrev pub MovesAndDrops : Type 0
MovesAndDrops =
    (b : BlockId) (f : Filed) (w : IndexState) (s : CleaningState) (input : inputs.In) → Cleans b f w s → Owes b f w s input
    → Cleaned b f w (job.transition s input)

-- A job is seen as before while more is filed, and more is counted and dropped.
abbrev pub JobsStay : Type 0
JobsStay =
    (b : BlockId) (f g : Filed) (w v : IndexState) (s : CleaningState) → IsMore f g → v.promised ≡ w.promised → ((l q : ℕ) → w.dead_at l q ≤ v.dead_at l q)
    → ((l q : ℕ) → w.dropped l q ≡ 1 → v.dropped l q ≡ 1)
    → Cleans b f w s → Cleans b g v s

-- A job that begins, before it is welcomed, is seen as the cleaner.
abbrev pub JobsBegin : Type 0
JobsBegin = (b : BlockId) (f : Filed) (w : IndexState) (count : ℕ) → Cleans b f w (cleaning_start count)
