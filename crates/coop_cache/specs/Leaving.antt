-- When a block leaves a cache, and when a victim is told.
use Rattle.std.specs.Prelude.{◌≡◌, ◌⊎◌, Bool, true, false, List, [], length}
use Rattle.std.specs.List.{list_any}
use Rattle.xfs_base.specs.declared.block.BlockId.{BlockId}
use Rattle.xfs_base.specs.Blocks.{same_block}
use Rattle.coop_cache.specs.declared.input.In.{In}
use Rattle.coop_cache.specs.declared.input.In.TheVariants.{Clean, Touch, Dirty, Gone}
use Rattle.coop_cache.specs.declared.output.Out.{Out}
use Rattle.coop_cache.specs.declared.output.Out.TheVariants.{Victim}
use Rattle.coop_cache.specs.CacheState.{CacheState}
use Rattle.coop_cache.specs.Transition.{is_clean, transition}

-- whether an input takes the block out: it is changed, or no longer cached
abbrev pub takes_out : In → BlockId → Bool
takes_out (Clean cached) block = false
takes_out (Touch used) block = false
takes_out (Dirty changed) block = same_block changed block
takes_out (Gone gone) block = same_block gone block

abbrev pub is_victim : BlockId → Out → Bool
is_victim block (Victim victim) = same_block block victim

-- a block is still clean after an input, or the input takes it out, or it is told as a victim
abbrev pub StaysOrIsTold : CacheState → In → BlockId → Type 0
StaysOrIsTold s input block =
    (is_clean (transition s input).state block ≡ true)
    ⊎ ((takes_out input block ≡ true) ⊎ (list_any (is_victim block) (transition s input).outs ≡ true))

-- no victim is told, or one, and as many blocks were kept as may be
abbrev pub TellsWhereFull : CacheState → List Out → Type 0
TellsWhereFull s outs = (outs ≡ []) ⊎ ((length outs ≡ 1) × (length s.blocks ≡ s.capacity))
