-- An index of blocks as its rows, in the order of blocks.
use Rattle.std.specs.Prelude.{◌≡◌, ◌↔◌, IsTrue, List, [], ◌∷◌, All, Contains, if◌then◌else◌, unwrap_or}
use Rattle.std.specs.Map.{lookup, values_of}
use Rattle.std.specs.BTreeMap.{is_at, insert_entry}
use Rattle.xfs_base.specs.declared.block.BlockId.{BlockId}
use Rattle.xfs_base.specs.declared.entry.Entry.{Entry}
use Rattle.xfs_base.specs.Blocks.{block_cmp}
use Rattle.delta_index.specs.Entries.{no_entry, is_newer}

-- what is held of a block
abbrev pub entry_of : List (BlockId × Entry) → BlockId → Entry
entry_of rows block = unwrap_or (lookup (is_at (block_cmp block)) rows) no_entry

-- the rows, with the entry where it is above what is held
unfoldable pub merged : List (BlockId × Entry) → BlockId → Entry → List (BlockId × Entry)
merged rows block entry = if is_newer entry (entry_of rows block) then insert_entry block_cmp rows block entry else rows

-- the rows after all of these merges, in their order
abbrev pub merged_all : List (BlockId × Entry) → List (BlockId × Entry) → List (BlockId × Entry)
merged_all rows [] = rows
merged_all rows (m ∷ ms) = merged_all (merged rows m.0 m.1) ms

-- each row has an entry above version 0 and hop 0
abbrev pub AllHeld : List (BlockId × Entry) → Type 0
AllHeld rows = All (λ e. IsTrue (is_newer e no_entry)) (values_of rows)

-- the rows are just the blocks whose entry is above version 0 and hop 0, each with it
abbrev pub HoldsJust : (BlockId → Entry) → List (BlockId × Entry) → Type 0
HoldsJust entry_at rows = (block : BlockId) (entry : Entry) → Contains rows (block, entry) ↔ ((entry ≡ entry_at block) × IsTrue (is_newer entry no_entry))
