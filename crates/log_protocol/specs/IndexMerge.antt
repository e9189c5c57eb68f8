-- Merging the rows of one Deltas into an index: the first greatest of them is taken where it is above the entry, and of equals the entry stays.
use Rattle.std.specs.Prelude.{◌≡◌, ℕ, ◌<◌, ◌≤◌, nat_lt, if◌then◌else◌}
use Rattle.log_protocol.specs.IndexState.{Entry, IndexState}

-- the entry is the first greatest of the rows of log l from `first` to `upto`
pub record FirstGreatest (w : IndexState) (l first upto : ℕ) (entry : Entry) : Type 0 where
  pub newest : (q : ℕ) → first ≤ q → q ≤ upto → w.version l q ≤ entry.version
  pub furthest : (q : ℕ) → first ≤ q → q ≤ upto → w.version l q ≡ entry.version → w.hop l q ≤ entry.hop
  pub earliest : (q : ℕ) → first ≤ q → q ≤ upto → w.version l q ≡ entry.version → w.hop l q ≡ entry.hop → 0 < w.version l q → entry.seq ≤ q
  pub its_log : entry.log ≡ l
  pub from : 0 < entry.version → first ≤ entry.seq
  pub within : 0 < entry.version → entry.seq ≤ upto
  pub its_version : 0 < entry.version → w.version entry.log entry.seq ≡ entry.version
  pub its_hop : 0 < entry.version → w.hop entry.log entry.seq ≡ entry.hop

abbrev pub merged : Entry → Entry → Entry
merged old new = if nat_lt old.version new.version then new else if nat_lt new.version old.version then old else if nat_lt old.hop new.hop then new else old
