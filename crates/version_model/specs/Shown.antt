-- Histories as two tables show them: one row for each block that was written, one for each client that fell.
use Rattle.std.specs.Prelude.{ℕ, Bool, List, [], ◌∷◌, unwrap_or, if◌then◌else◌}
use Rattle.std.specs.Ordering.{nat_cmp}
use Rattle.std.specs.Map.{lookup, remove_entry}
use Rattle.std.specs.BTreeMap.{is_at, insert_entry}
use Rattle.xfs_base.specs.declared.block.BlockId.{BlockId}
use Rattle.xfs_base.specs.Blocks.{block_cmp}
use Rattle.version_model.specs.declared.histories.Histories.{Histories}
use Rattle.xfs_base.specs.declared.segment.SegName.{SegName}
use Rattle.version_model.specs.declared.act.Fall.{Fall}
use Rattle.version_model.specs.Effects.{cut_to, holds_flight}
use Rattle.version_model.specs.History.{BlockHistory, FallTold, History, unwritten}

-- the history of a block among these rows; a block with no row was never written
abbrev pub block_in : List (BlockId × BlockHistory) → BlockId → BlockHistory
block_in blocks b = unwrap_or (lookup (is_at (block_cmp b)) blocks) unwritten

-- the rows with this history of a block
abbrev pub put_block : List (BlockId × BlockHistory) → BlockId → BlockHistory → List (BlockId × BlockHistory)
put_block blocks b history = insert_entry block_cmp (remove_entry (is_at (block_cmp b)) blocks) b history

-- the falls of a client that wait
abbrev pub told_in : List (ℕ × List FallTold) → ℕ → List FallTold
told_in told c = unwrap_or (lookup (is_at (nat_cmp c)) told) []

-- the rows with these falls of a client
abbrev pub put_told : List (ℕ × List FallTold) → ℕ → List FallTold → List (ℕ × List FallTold)
put_told told c falls = insert_entry nat_cmp (remove_entry (is_at (nat_cmp c)) told) c falls

-- the rows once these blocks have fallen: to their high versions where the flight was adopted, else to their low ones
abbrev pub falls_in : Bool → List Fall → List (BlockId × BlockHistory) → List (BlockId × BlockHistory)
falls_in adopted [] blocks = blocks
falls_in adopted (f ∷ fs) blocks =
    falls_in adopted fs (put_block blocks f.block (cut_to (if adopted then f.high else f.low) (block_in blocks f.block)))

-- the rows once each fall that waits is settled by this chain
abbrev pub settled_in : List SegName → List FallTold → List (BlockId × BlockHistory) → List (BlockId × BlockHistory)
settled_in chain [] blocks = blocks
settled_in chain (t ∷ ts) blocks = settled_in chain ts (falls_in (holds_flight chain t.flight) t.falls blocks)

-- the history that the tables show
abbrev pub shown : Histories → History
shown h = record { of_block = block_in h.blocks.entries; told = told_in h.told.entries }
