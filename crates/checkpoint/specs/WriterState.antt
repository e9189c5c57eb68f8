-- What the writer of checkpoints keeps.
use Rattle.std.specs.Prelude.{ℕ, List, Option, map}
use Rattle.xfs_base.specs.declared.block.BlockId.{BlockId}
use Rattle.xfs_base.specs.declared.entry.Entry.{Entry}
use Rattle.xfs_base.specs.declared.segment.LogId.{LogId}
use Rattle.xfs_base.specs.declared.segment.SegRef.{SegRef}
use Rattle.segment_format.specs.declared.segment.Item.{Item}
use Rattle.segment_format.specs.declared.segment.Item.TheVariants.{Part}

abbrev pub Rows : Type 0
Rows = List (BlockId × Entry)

-- a checkpoint that is being written
pub record WorkState : Type 0 where
  pub slot : ℕ
  -- the epoch of the slot when the checkpoint was begun
  pub epoch : ℕ
  -- the rows of each page that no segment has yet
  pub left : List Rows
  -- the segments that will be named, as far as they are known
  pub parts : List SegRef
  -- of each log 1 to 9 the first segment number that the checkpoint doesn't cover
  pub horizon : List ℕ

pub record WriterState : Type 0 where
  -- the log that is written
  pub log : LogId
  -- how many checkpoints were begun
  pub number : ℕ
  -- the checkpoint that is being written
  pub work : Option WorkState
  -- the epoch of the checkpoint that was done last, while its answer is awaited
  pub asked : Option ℕ

-- a Part of a slot for each of these pages
abbrev pub items_of : ℕ → List Rows → List Item
items_of slot pages = map (Part slot) pages
