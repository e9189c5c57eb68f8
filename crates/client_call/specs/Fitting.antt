-- Whether a segment can hold what is put: the numbers of the block, the version that it has then, and the bytes of its value.
use Rattle.std.specs.Prelude.{ℕ, ◌^◌, Bool, true, ◌&&◌, List, length, Option, Some, None, nat_lt}
use Rattle.std.specs.List.{list_all}
use Rattle.segment_format.specs.Format.{second_version, is_length}
use Rattle.xfs_base.specs.declared.block.BlockId.{BlockId}

abbrev pub block_fits : BlockId → Bool
block_fits block = nat_lt block.ino.0 (2 ^ 32) && nat_lt block.blk (2 ^ 32)

abbrev pub is_byte : ℕ → Bool
is_byte n = nat_lt n 256

-- an absent value takes no room; another has at most as many bytes as the longer format allows
abbrev pub value_fits : Option (List ℕ) → Bool
value_fits None = true
value_fits (Some bytes) = is_length second_version (length bytes) && list_all is_byte bytes

-- this version of the block, of this value, can be written to a segment
unfoldable pub put_fits : BlockId → ℕ → Option (List ℕ) → Bool
put_fits block ver value = block_fits block && (nat_lt ver (2 ^ 64) && value_fits value)
