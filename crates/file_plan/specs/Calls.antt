-- Where names and sizes stand.
use Rattle.std.specs.Prelude.{ℕ}
use Rattle.xfs_base.specs.declared.block.BlockId.{BlockId}
use Rattle.xfs_base.specs.declared.block.Ino.{Ino}
use Rattle.xfs_base.specs.Limits.{file_block, u32_end}

abbrev pub block_at : Ino → ℕ → BlockId
block_at ino blk = record { ino = ino; blk = blk }

-- the index number of the root directory
abbrev pub root : Ino
root = record { 0 = 0 }

-- the block of a file in which its size stands
abbrev pub size_block : ℕ
size_block = u32_end

-- a file's blocks have this many bytes, and so has the longest bucket
abbrev pub block_size : ℕ
block_size = file_block
