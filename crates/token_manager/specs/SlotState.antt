-- The state of a slot.
use Rattle.std.specs.Prelude.{ℕ, Bool, List}
use Rattle.xfs_base.specs.declared.block.BlockId.{BlockId}
use Rattle.slot_beliefs.specs.declared.job.Holder.{Holder}
use Rattle.slot_beliefs.specs.declared.job.Job.{Job}
use Rattle.slot_beliefs.specs.Index.{Indexed}

pub record SlotState : Type 0 where
  -- the epoch of the slot, which all its stamps bear
  pub epoch : ℕ
  -- where the blocks lie, and the live blocks of each segment
  pub index : Indexed
  -- who may hold a block, by block and client, with whether it may write
  pub beliefs : List (Holder × Bool)
  -- the wants that wait, by block
  pub jobs : List (BlockId × Job)
  -- the last turn that was given out
  pub turn : ℕ
  -- of each log, from log 1, the last segment number whose deltas are applied
  pub applied : List ℕ
