-- How a slot is seen as the manager of its epoch in the index of one block, what it needs of the world when it takes an input, and the law.
use Rattle.std.specs.Prelude.{◌≡◌, ℕ, ◌-◌, ◌<◌, ◌≤◌, List, length}
use Rattle.xfs_base.specs.declared.block.BlockId.{BlockId}
use Rattle.xfs_base.specs.declared.entry.Entry.{Entry}
use Rattle.xfs_base.specs.Limits.{block_logs}
use Rattle.delta_index.specs.Join.{join}
use Rattle.slot_beliefs.specs.Recalls.{applied_of}
use Rattle.token_manager.specs.declared.input.In as inputs
use Rattle.token_manager.specs.declared.input.In.TheVariants.{Want, Gave, Deltas, Check, Tick}
use Rattle.token_manager.specs.SlotState.{SlotState}
use Rattle.token_manager.specs.Transition.{entry_at, transition}
use Rattle.log_protocol.specs.IndexState.{IndexState}
use Rattle.log_protocol.specs.IndexLaws.{IndexReached}
use Rattle.log_protocol.specs.IndexSteps.{IndexSteps}
use Rattle.index_tie.specs.Filed.{IsFiled, Tells, Names}
use Rattle.headline.specs.Filed.{Filed, rows_between}

-- The slot is seen as the manager of its epoch, at this block.
pub record Manages (b : BlockId) (f : Filed) (w : IndexState) (s : SlotState) : Type 0 where
  pub active : w.active s.epoch ≡ 1
  pub applied : (l : ℕ) → 0 < l → w.applied s.epoch l ≡ applied_of s.applied l
  pub index : Names b f (entry_at s b) (w.index s.epoch)

-- the index, but for what a manager knows
abbrev pub rest : IndexState → IndexState
rest w = record w { active = λ e. 0; applied = λ e l. 0; index = λ e. record { version = 0; hop = 0; log = 0; seq = 0 }; reigning = 0 }

-- only the manager of this epoch stepped
pub record ByManager (e : ℕ) (w v : IndexState) : Type 0 where
  pub rest : rest v ≡ rest w
  pub active : (d : ℕ) → (d ≡ e → ⊥) → v.active d ≡ w.active d
  pub applied : (d l : ℕ) → (d ≡ e → ⊥) → v.applied d l ≡ w.applied d l
  pub index : (d : ℕ) → (d ≡ e → ⊥) → v.index d ≡ w.index d

-- by steps of the manager of this epoch the index becomes one in which the slot is seen as it
pub record Runs (b : BlockId) (f : Filed) (w : IndexState) (e : ℕ) (s : SlotState) : Type 0 where
  pub state : IndexState
  pub steps : IndexSteps w state
  pub frame : ByManager e w state
  pub shows : Manages b f state s

-- Deltas tell of the block what a client's or the cleaner's log filed from one seq up to another.
pub record DeltasTell (b : BlockId) (f : Filed) (l first upto : ℕ) (rows : List (BlockId × Entry)) : Type 0 where
  pub some : 0 < l
  pub known : l ≤ block_logs
  pub filed : upto ≤ f.head l
  pub joined : join rows b ≡ join (rows_between f l first upto) b

-- what the world owes each input: that Deltas tell what their log filed
abbrev pub Brings : BlockId → Filed → SlotState → inputs.In → Type 0
Brings b f s (Want want end) = Unit {0}
Brings b f s (Gave client block stamp end) = Unit {0}
Brings b f s (Deltas log first upto rows) = (log.0 - 1 < length s.applied) × DeltasTell b f log.0 first upto rows
Brings b f s (Check block place) = Unit {0}
Brings b f s Tick = Unit {0}

-- Applied Deltas are merges: each input of a slot is taken by steps of its manager.
abbrev pub AppliesAreMerges : Type 0
AppliesAreMerges =
    (b : BlockId) (f : Filed) (w : IndexState) (s : SlotState) (input : inputs.In) → IndexReached w → IsFiled f → Tells b f w → Manages b f w s
    → Brings b f s input → Runs b f w s.epoch (transition s input).state
