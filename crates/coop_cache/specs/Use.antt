-- What a cache was told, oldest first, and when each block was used last.
use Rattle.std.specs.Prelude.{ℕ, ◌+◌, ◌<◌, Bool, false, List, [], ◌∷◌, All, if◌then◌else◌}
use Rattle.std.specs.List.{list_any, AllPairs}
use Rattle.xfs_base.specs.declared.block.BlockId.{BlockId}
use Rattle.xfs_base.specs.Blocks.{same_block}
use Rattle.xfs_base.specs.Steps.{steps}
use Rattle.coop_cache.specs.declared.input.In.{In}
use Rattle.coop_cache.specs.declared.input.In.TheVariants.{Clean, Touch, Dirty, Gone}
use Rattle.coop_cache.specs.declared.output.Out.{Out}
use Rattle.coop_cache.specs.declared.output.Out.TheVariants.{Victim}
use Rattle.coop_cache.specs.CacheState.{CacheState, cache_start}
use Rattle.coop_cache.specs.Transition.{transition}

-- a cache that began with this capacity and took these inputs
abbrev pub state_after : ℕ → List In → CacheState
state_after capacity inputs = (steps transition (cache_start capacity) inputs).state

-- whether an input uses the block
abbrev pub uses : In → BlockId → Bool
uses (Clean used) block = same_block used block
uses (Touch used) block = same_block used block
uses (Dirty changed) block = false
uses (Gone gone) block = false

-- whether any of these inputs uses the block
abbrev pub is_used : List In → BlockId → Bool
is_used inputs block = list_any (λ input. uses input block) inputs

-- the number of the last input that used the block, counted from 1; 0 where none did
abbrev pub last_use : List In → BlockId → ℕ
last_use [] block = 0
last_use (input ∷ later) block = if is_used (input ∷ later) block then last_use later block + 1 else 0

-- what the cache keeps stands in the order of the last uses
abbrev pub IsByUse : List In → List BlockId → Type 0
IsByUse history blocks = AllPairs (λ a b. last_use history a < last_use history b) blocks

-- a victim was used before every block that stays
abbrev pub IsLeastUsed : List In → List BlockId → Out → Type 0
IsLeastUsed history stay (Victim block) = All (λ b. last_use history block < last_use history b) stay
