-- What is claimed of the ranges that a feed gives, whatever it was told before.
use Rattle.std.specs.Prelude.{◌≡◌, ℕ, ◌+◌, ◌<◌, ◌≤◌, List, All}
use Rattle.xfs_base.specs.declared.block.BlockId.{BlockId}
use Rattle.xfs_base.specs.declared.entry.Entry.{Entry}
use Rattle.xfs_base.specs.Blocks.{slot_of}
use Rattle.xfs_base.specs.Limits.{slot_count}
use Rattle.delta_index.specs.Join.{join}
use Rattle.delta_feed.specs.declared.input.In.{In}
use Rattle.delta_feed.specs.declared.output.Out.{Out}
use Rattle.delta_feed.specs.declared.output.Out.TheVariants.{Range}
use Rattle.delta_feed.specs.History.{end_of, filed_by, acknowledged_by, deltas_between}

-- a range of a slot, from the first number that it has not acknowledged to the last that is filed: its
-- rows are of the slot's blocks alone, and join to what the filed segments in it join to
pub record TellsRange (base : ℕ) (inputs : List In) (slot first upto : ℕ) (rows : List (BlockId × Entry)) : Type 0 where
  pub is_slot : slot < slot_count
  pub begins : first ≡ acknowledged_by base slot inputs + 1
  pub ends : upto ≡ end_of base inputs
  pub has_some : first ≤ upto
  pub joins : (block : BlockId) → slot_of block.ino.0 ≡ slot → join rows block ≡ join (deltas_between first upto (filed_by base inputs)) block
  pub own : All (λ row. slot_of row.0.ino.0 ≡ slot) rows

-- the same of what a feed gives
abbrev pub IsTrueRange : ℕ → List In → Out → Type 0
IsTrueRange base inputs (Range slot first upto rows) = TellsRange base inputs slot first upto rows
