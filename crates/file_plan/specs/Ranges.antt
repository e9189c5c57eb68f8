-- The ranges of what a state keeps.
use Rattle.std.specs.Prelude.{ℕ, ◌+◌, ◌*◌, ◌<◌, ◌≤◌, length}
use Rattle.xfs_base.specs.Value.{IsValue}
use Rattle.file_plan.specs.declared.state.PlanState.{PlanState}
use Rattle.file_plan.specs.declared.state.PlanState.TheVariants.{Ends, Walks, Looks, Enters, Syncs, Measures, Fetches, Fills, Takes, Patches, Grows, Empties, Closes, Gathers}
use Rattle.file_plan.specs.declared.block_call.BlockAnswer.{BlockAnswer}
use Rattle.file_plan.specs.declared.block_call.BlockAnswer.TheVariants.{Got, Changed, Synced}
use Rattle.file_plan.specs.declared.block_call.BlockAnswer.TheVariants.{Put as Written}
use Rattle.file_plan.specs.Calls.{block_size}
use Rattle.file_plan.specs.Format.{value_of, bucket_bytes, file_end}

-- so many bytes from a byte of a block on end within a file
pub record IsInFile (blk low count : ℕ) : Type 0 where
  pub first : low < block_size
  pub last : block_size * blk + low + count ≤ file_end

-- they are some
pub record IsPiece (blk low count : ℕ) : Type 0 where
  pub some : 0 < count
  pub within : IsInFile blk low count

-- A bucket that is written fits a block, what is read or written of a file ends within it, and a file and a directory have no more blocks and buckets
-- than they may.
abbrev pub IsInRange : PlanState → Type 0
IsInRange (Ends answer) = Unit {0}
IsInRange (Walks dir name onto rest job) = Unit {0}
IsInRange (Looks dir name job) = Unit {0}
IsInRange (Enters dir name ver rows ino job) = IsValue (value_of (bucket_bytes rows))
IsInRange (Syncs dir name node) = Unit {0}
IsInRange (Measures ino task) = Unit {0}
IsInRange (Fetches ino blk low left got) = IsInFile blk low left × (length got + left ≤ file_end)
IsInRange (Fills ino blk bytes end) = IsPiece blk 0 (length bytes)
IsInRange (Takes ino blk low bytes end) = IsPiece blk low (length bytes)
IsInRange (Patches ino blk low bytes end ver old) = IsPiece blk low (length bytes)
IsInRange (Grows ino end ver) = Unit {0}
IsInRange (Empties ino blk left ver) = blk + left < 256
IsInRange (Closes ino ver) = Unit {0}
IsInRange (Gathers dir blk left rows) = blk + left < 8

-- a block that was read has a value
abbrev pub IsAnswer : BlockAnswer → Type 0
IsAnswer (Got ver value) = IsValue value
IsAnswer (Written ver) = Unit {0}
IsAnswer Changed = Unit {0}
IsAnswer Synced = Unit {0}
