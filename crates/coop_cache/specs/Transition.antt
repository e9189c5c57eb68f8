-- What a cache does at each input.
use Rattle.std.specs.Prelude.{ℕ, ◌-◌, Bool, not, List, [], ◌∷◌, ◌++◌, length, take, drop, map, if◌then◌else◌}
use Rattle.std.specs.List.{list_any, filter}
use Rattle.xfs_base.specs.declared.block.BlockId.{BlockId}
use Rattle.xfs_base.specs.Blocks.{same_block}
use Rattle.xfs_base.specs.Steps.{Stepped, still}
use Rattle.coop_cache.specs.declared.input.In.{In}
use Rattle.coop_cache.specs.declared.input.In.TheVariants.{Clean, Touch, Dirty, Gone}
use Rattle.coop_cache.specs.declared.output.Out.{Out}
use Rattle.coop_cache.specs.declared.output.Out.TheVariants.{Victim}
use Rattle.coop_cache.specs.CacheState.{CacheState}

-- the blocks but this one
abbrev pub without : BlockId → List BlockId → List BlockId
without block blocks = filter (λ b. not (same_block block b)) blocks

-- the same order, with this block as the most recently used
abbrev pub used_last : BlockId → List BlockId → List BlockId
used_last block blocks = without block blocks ++ block ∷ []

-- how many blocks are too many
abbrev pub excess : ℕ → List BlockId → ℕ
excess capacity blocks = length blocks - capacity

-- the block becomes the most recently used; what is too many leaves, the least recently used first
abbrev pub cache_clean : CacheState → BlockId → Stepped CacheState Out
cache_clean s block =
    let blocks : List BlockId = used_last block s.blocks in
    record {
      state = record { blocks = drop (excess s.capacity blocks) blocks; capacity = s.capacity };
      outs = map Victim (take (excess s.capacity blocks) blocks);
    }

abbrev pub is_clean : CacheState → BlockId → Bool
is_clean s block = list_any (same_block block) s.blocks

-- a block that is there becomes the most recently used
abbrev pub touch : CacheState → BlockId → CacheState
touch s block = if is_clean s block then record { blocks = used_last block s.blocks; capacity = s.capacity } else s

-- a block that is changed, or no longer cached, doesn't count
abbrev pub cache_leave : CacheState → BlockId → CacheState
cache_leave s block = record { blocks = without block s.blocks; capacity = s.capacity }

-- what each input makes of a cache
abbrev pub transition : CacheState → In → Stepped CacheState Out
transition s (Clean block) = cache_clean s block
transition s (Touch block) = still (touch s block)
transition s (Dirty block) = still (cache_leave s block)
transition s (Gone block) = still (cache_leave s block)
