-- Which blocks share a page of an index.
use Rattle.std.specs.Prelude.{ℕ, ◌+◌, ◌-◌, ◌*◌, ◌/◌, Bool, List, [], ◌∷◌, ◌++◌, ◌==◌, ◌||◌, nat_lt, min, map, if◌then◌else◌}
use Rattle.std.specs.List.{range_with_len}
use Rattle.xfs_base.specs.declared.block.BlockId.{BlockId}
use Rattle.xfs_base.specs.Limits.{u32_end}

-- blocks 0 to 15 and the last block that a file may have stand in its direct page
abbrev pub is_direct : ℕ → Bool
is_direct blk = nat_lt blk 16 || (blk == u32_end)

-- a page is known by its first block: block 0 for the direct page, and 16, 80, 144 and so on for the indirect ones
abbrev pub first_block : BlockId → BlockId
first_block b = if is_direct b.blk then record { ino = b.ino; blk = 0 } else record { ino = b.ino; blk = 16 + (b.blk - 16) / 64 * 64 }

-- so many blocks of a file from this one on
abbrev pub blocks_run : BlockId → ℕ → List BlockId
blocks_run b count = map (λ k. record { ino = b.ino; blk = b.blk + k }) (range_with_len 0 count)

-- the blocks that share the page of this first block, in order
abbrev pub blocks_on : BlockId → List BlockId
blocks_on b = if b.blk == 0 then blocks_run b 16 ++ record { ino = b.ino; blk = u32_end } ∷ [] else blocks_run b (min 64 (u32_end - b.blk))
