-- The items that are written of changes.
use Rattle.std.specs.Prelude.{ℕ, ◌+◌, List, [], ◌∷◌, ◌++◌, length, Some, None}
use Rattle.xfs_base.specs.declared.block.BlockId.{BlockId}
use Rattle.segment_format.specs.declared.segment.Item.{Item}
use Rattle.segment_format.specs.declared.segment.Item.TheVariants.{Block, Delta}
use Rattle.segment_format.specs.Rule.{no_item}
use Rattle.log_flight.specs.declared.dirty.Change.{Change}

-- The items of a change, where so many stand before them: a Block and its Delta, or a Delta alone where the version is absent.
abbrev pub change_items : ℕ → BlockId → Change → List Item
change_items before block change = elim change.value [
  | None ↦ Delta block change.entry.ver change.entry.hop no_item ∷ []
  | Some bytes ↦ Block block (Some bytes) ∷ Delta block change.entry.ver change.entry.hop before ∷ []
]

-- the items of changes, in their order
abbrev pub items_of : ℕ → List (BlockId × Change) → List Item
items_of before [] = []
items_of before (c ∷ cs) = change_items before c.0 c.1 ++ items_of (before + length (change_items before c.0 c.1)) cs
