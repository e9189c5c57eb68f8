-- The join of merges: what is known of a block, stated over all that was ever merged and by no table.
use Rattle.std.specs.Prelude.{◌≡◌, ◌⊎◌, IsTrue, IsFalse, List, ◌∷◌, ◌++◌, All, filter, fold, map}
use Rattle.xfs_base.specs.declared.block.BlockId.{BlockId}
use Rattle.xfs_base.specs.declared.entry.Entry.{Entry}
use Rattle.xfs_base.specs.Blocks.{same_block}
use Rattle.delta_index.specs.Entries.{no_entry, is_newer, first_greatest, DiffersInRank}

-- the entries of a block among these merges, in their order
abbrev pub entries_of : BlockId → List (BlockId × Entry) → List Entry
entries_of block merges = map (λ m. m.1) (filter (λ m. same_block block m.0) merges)

-- the first greatest of the merges of a block; where none is above version 0 and hop 0, no entry
abbrev pub join : List (BlockId × Entry) → BlockId → Entry
join merges block = fold first_greatest no_entry (entries_of block merges)

-- an entry of the list that is above version 0 and hop 0, above all before it, and below none after it
pub record IsFirstGreatest (entries : List Entry) (found : Entry) : Type 0 where
  pub before : List Entry
  pub later : List Entry
  pub stands : entries ≡ before ++ found ∷ later
  pub held : IsTrue (is_newer found no_entry)
  pub above : All (λ e. IsTrue (is_newer found e)) before
  pub unbeaten : All (λ e. IsFalse (is_newer e found)) later

-- the join of a list of entries: its first greatest, or no entry where none is above version 0 and hop 0
abbrev pub IsJoin : List Entry → Entry → Type 0
IsJoin entries found = IsFirstGreatest entries found ⊎ ((found ≡ no_entry) × All (λ e. IsFalse (is_newer e no_entry)) entries)

-- two merges that one may take in either order: of two blocks, or of entries that differ in version or hop
abbrev pub MayChangePlaces : BlockId × Entry → BlockId × Entry → Type 0
MayChangePlaces m n = m.0 ≡ n.0 → DiffersInRank m.1 n.1
