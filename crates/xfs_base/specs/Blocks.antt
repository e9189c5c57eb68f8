-- Index numbers and blocks: what the bits of a number say, and the order of blocks.
use Rattle.std.specs.Prelude.{◌≡◌, ℕ, Bool, ◌<◌, ◌/◌, ◌%◌, ◌&&◌, ◌==◌}
use Rattle.std.specs.Ordering.{nat_cmp, ordering_then}
use Rattle.std.specs.declared.cmp.Ordering.{Ordering}
use Rattle.xfs_base.specs.declared.block.BlockId.{BlockId}

-- the low 3 bits of an index number
abbrev pub slot_of : ℕ → ℕ
slot_of ino = ino % 8

-- the 4 bits above the slot: the client that created the file, 0 for none
abbrev pub creator_of : ℕ → ℕ
creator_of ino = ino / 8 % 16

-- an index number of no client's making that is not the root's
abbrev pub IsRaw : ℕ → Type 0
IsRaw ino = (0 < ino) × (creator_of ino ≡ 0)

-- by index number, then by block number
abbrev pub block_cmp : BlockId → BlockId → Ordering
block_cmp a b = ordering_then (nat_cmp a.ino.0 b.ino.0) (nat_cmp a.blk b.blk)

-- whether two names are of one block
abbrev pub same_block : BlockId → BlockId → Bool
same_block a b = (a.ino.0 == b.ino.0) && (a.blk == b.blk)
