-- What a log's feed has, and the law: what it tells of a range is what the log filed there.
use Rattle.std.specs.Prelude.{◌≡◌, ℕ, suc, ◌-◌, ◌<◌, ◌≤◌, List, map, Contains}
use Rattle.std.specs.List.{range_with_len}
use Rattle.xfs_base.specs.declared.block.BlockId.{BlockId}
use Rattle.xfs_base.specs.declared.entry.Entry.{Entry}
use Rattle.xfs_base.specs.Blocks.{slot_of}
use Rattle.xfs_base.specs.Limits.{block_logs}
use Rattle.delta_feed.specs.declared.feed.FiledDeltas.{FiledDeltas}
use Rattle.delta_feed.specs.declared.input.In.{In}
use Rattle.delta_feed.specs.declared.output.Out.TheVariants.{Range}
use Rattle.delta_feed.specs.History.{state_after, end_of, filed_by}
use Rattle.delta_feed.specs.Transition.{transition}
use Rattle.headline.specs.Filed.{Filed, rows_at}
use Rattle.index_tie.specs.Slots.{DeltasTell}

-- a filed segment, as a feed has it
abbrev pub fed_at : Filed → ℕ → ℕ → FiledDeltas
fed_at f l q = record { seq = q; rows = rows_at f l q }

-- A feed that began at a base was told of each filed segment of the log above it, and of no other.
pub record IsFed (f : Filed) (l base : ℕ) (inputs : List In) : Type 0 where
  pub known : base ≤ f.head l
  pub end : end_of base inputs ≡ f.head l
  pub each : filed_by base inputs ≡ map (fed_at f l) (range_with_len (suc base) (f.head l - base))

-- What is told of a range is the join of its rows: a feed's ranges, sent as Deltas, tell of each block of the slot what the log filed in them.
abbrev pub RangesTellWhatIsFiled : Type 0
RangesTellWhatIsFiled =
    (b : BlockId) (f : Filed) (l base : ℕ) (inputs : List In) (input : In) (slot first upto : ℕ) (rows : List (BlockId × Entry)) → 0 < l → l ≤ block_logs
    → IsFed f l base inputs → slot_of b.ino.0 ≡ slot
    → Contains (transition (state_after base inputs) input).outs (Range slot first upto rows) → DeltasTell b f l first upto rows
