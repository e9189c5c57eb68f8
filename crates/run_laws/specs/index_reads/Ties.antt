-- One moment of both small worlds of a slot: that of tokens and that of the index. Each is one of its runs, and both tell of the same logs.
use Rattle.std.specs.Prelude.{◌≡◌, ◌<◌, ◌≤◌, ℕ, true}
use Rattle.checkpoint.specs.WriterState.{Rows}
use Rattle.headline.specs.Filed.{Filed}
use Rattle.index_tie.specs.Net as index
use Rattle.node_slots.specs.node_tie.LogRows.{rows_told}
use Rattle.segment_format.specs.declared.segment.Segment.{Segment}
use Rattle.token_law.specs.Books.{Books}
use Rattle.token_law.specs.Net as tokens
use Rattle.xfs_base.specs.declared.segment.SegRef.{SegRef}
use Rattle.xfs_base.specs.Limits.{slot_count, block_logs}
use Rattle.xfs_base.specs.Logs.{cleaners_number}
use Rattle.run_laws.specs.index_reads.Rows.{IsPlain}

-- Of the logs of clients and of the cleaner the books have what is filed: how far each is filed, and what each filed segment says.
pub record BooksAre (k : Books) (f : Filed) : Type 0 where
  pub end : (l : ℕ) → 0 < l → l ≤ block_logs → k.end l ≡ f.head l
  pub rows : (l q : ℕ) → 0 < l → l ≤ block_logs → 0 < q → q ≤ f.head l → k.rows l q ≡ rows_told (f.segment l q).items

-- what is filed is plain
abbrev pub ArePlain : Filed → Type 0
ArePlain f = (l q : ℕ) → 0 < l → l ≤ block_logs → 0 < q → q ≤ f.head l → IsPlain (f.segment l q)

-- A moment of a run of each of the two, with the same logs, for a slot of the map, and at most eight clients.
pub record Tied (members part : ℕ) (holds : SegRef → Rows) (t : tokens.Net) (i : index.Net) : Type 0 where
  pub some : 0 < members
  pub few : members ≤ cleaners_number
  pub of_map : part < slot_count
  pub tokens_run : tokens.Runs true members part tokens.opening t
  pub any : ℕ → ℕ → Segment
  pub index_run : index.Runs part holds (index.opening any) i
  pub books : BooksAre t.books i.filed
  pub plain : ArePlain i.filed
