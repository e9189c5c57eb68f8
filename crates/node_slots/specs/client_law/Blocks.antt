-- Lists of blocks.
use Rattle.std.specs.Prelude.{◌≡◌, false, List, [], ◌∷◌}
use Rattle.std.specs.List.{list_any}
use Rattle.xfs_base.specs.Blocks.{same_block}
use Rattle.xfs_base.specs.declared.block.BlockId.{BlockId}

-- no block stands in it twice
abbrev pub Once : List BlockId → Type 0
Once [] = Unit {0}
Once (block ∷ blocks) = (list_any (same_block block) blocks ≡ false) × Once blocks
