-- What the logs of the clients and of the cleaner filed, and how that is seen as the rows of one block's index.
use Rattle.std.specs.Prelude.{◌≡◌, ℕ, ◌<◌, ◌≤◌, ◌⊎◌}
use Rattle.xfs_base.specs.declared.block.BlockId.{BlockId}
use Rattle.xfs_base.specs.declared.entry.Entry.{Entry}
use Rattle.xfs_base.specs.Limits.{block_logs}
use Rattle.xfs_base.specs.Logs.{cleaners_number}
use Rattle.delta_index.specs.Entries.{no_entry}
use Rattle.log_protocol.specs.IndexState.{IndexState}
use Rattle.log_protocol.specs.IndexState as index
use Rattle.headline.specs.Filed.{Filed, IsSegment, row_at}

-- just logs 1 to 9 file what is said of blocks
pub record IsFiled (f : Filed) : Type 0 where
  pub others : (l : ℕ) → (l ≡ 0) ⊎ (block_logs < l) → f.head l ≡ 0
  pub each : (l q : ℕ) → 0 < q → q ≤ f.head l → IsSegment l q (f.segment l q)

-- The rows of the block's index are what the logs filed of the block.
pub record Tells (b : BlockId) (f : Filed) (w : IndexState) : Type 0 where
  pub cleaner : w.cleaner ≡ cleaners_number
  pub head : (l : ℕ) → w.head l ≡ f.head l
  pub version : (l q : ℕ) → w.version l q ≡ (row_at f b l q).ver
  pub hop : (l q : ℕ) → w.hop l q ≡ (row_at f b l q).hop

-- The abstract entry names the row that this entry is, by its log and seq; one of version 0 is no entry.
pub record Names (b : BlockId) (f : Filed) (entry : Entry) (named : index.Entry) : Type 0 where
  pub version : named.version ≡ entry.ver
  pub hop : named.hop ≡ entry.hop
  pub row : 0 < entry.ver → entry ≡ row_at f b named.log named.seq
  pub none : entry.ver ≡ 0 → entry ≡ no_entry
