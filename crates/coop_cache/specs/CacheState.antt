-- What a cache keeps.
use Rattle.std.specs.Prelude.{ℕ, List, []}
use Rattle.xfs_base.specs.declared.block.BlockId.{BlockId}

pub record CacheState : Type 0 where
  -- the clean blocks, from the least to the most recently used
  pub blocks : List BlockId
  -- how many there may be
  pub capacity : ℕ

-- no block
abbrev pub cache_start : ℕ → CacheState
cache_start capacity = record { blocks = []; capacity = capacity }
