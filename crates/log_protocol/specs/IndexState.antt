-- The abstract index of one block: what the filed segments of all logs say of it, the indexes of the managers of its slot, and what the cleaner drops.
-- A row is what a filed segment, named by its log and seq, says of the block: a version (0 where it says nothing) and a hop, how often it was copied.
-- The order of rows: the greater version, of equal versions the greater hop, of equal hops the earlier seq.
use Rattle.std.specs.Prelude.{◌≡◌, ℕ, ◌<◌, ◌≤◌}

-- what an index says of the block: a row and where it is; version 0 says nothing
pub record Entry : Type 0 where
  pub version : ℕ
  pub hop : ℕ
  pub log : ℕ
  pub seq : ℕ

pub record IndexState : Type 0 where
  -- logs from 1 to below this number are clients', the log of this number is the cleaner's; number 0 is nobody's and stays empty
  pub cleaner : ℕ
  -- the rows, by log and seq, and the head of each log's line
  pub version : ℕ → ℕ → ℕ
  pub hop : ℕ → ℕ → ℕ
  pub head : ℕ → ℕ
  -- ghost: the join of all filed rows
  pub joined : Entry
  -- the registry's epoch of the slot: one stay of one manager each
  pub epoch : ℕ
  -- by epoch: whether its manager was active, how far it applied each log, and its index
  pub active : ℕ → ℕ
  pub applied : ℕ → ℕ → ℕ
  pub index : ℕ → Entry
  -- ghost, by epoch and log: the greatest horizon that the registry had kept while it was at this epoch; for epochs to come, the one kept now
  pub floor : ℕ → ℕ → ℕ
  -- ghost: the client's log and the seq at which each version was filed
  pub version_log : ℕ → ℕ
  pub version_seq : ℕ → ℕ
  -- ghost: the greatest epoch at which a manager was ever active
  pub reigning : ℕ
  -- the epoch that the cleaner has promised, and ghost, by epoch: the head of the cleaner's log when it first promised that much
  pub promised : ℕ
  pub polled : ℕ → ℕ
  -- ghost, by epoch, log and seq: 1 where the manager of that epoch has answered that this row is dead; and by log and seq: 1 where any has
  pub told : ℕ → ℕ → ℕ → ℕ
  pub beaten : ℕ → ℕ → ℕ
  -- by log and seq: the epoch at which the cleaner counted a Dead of this row, 0 where it has not; and ghost: the seq of what that manager's index named then
  pub dead_at : ℕ → ℕ → ℕ
  pub beater : ℕ → ℕ → ℕ
  pub dropped : ℕ → ℕ → ℕ

-- A block of which nothing is known: no rows, epoch 1, no manager active yet, horizons at 1; the cleaner has promised epoch 1.
abbrev pub new_block : ℕ → IndexState
new_block cleaner = record {
  cleaner = cleaner;
  version = λ l q. 0;
  hop = λ l q. 0;
  head = λ l. 0;
  joined = record { version = 0; hop = 0; log = 0; seq = 0 };
  epoch = 1;
  active = λ e. 0;
  applied = λ e l. 0;
  index = λ e. record { version = 0; hop = 0; log = 0; seq = 0 };
  floor = λ e l. 1;
  version_log = λ v. 0;
  version_seq = λ v. 0;
  reigning = 0;
  promised = 1;
  polled = λ e. 0;
  told = λ e l q. 0;
  beaten = λ l q. 0;
  dead_at = λ l q. 0;
  beater = λ l q. 0;
  dropped = λ l q. 0;
}

-- The entry is the join of the rows up to `upto` of each log: none of them is above it, and it is one of them.
pub record Joins (version hop : ℕ → ℕ → ℕ) (upto : ℕ → ℕ) (entry : Entry) : Type 0 where
  pub newest : (l q : ℕ) → q ≤ upto l → version l q ≤ entry.version
  pub furthest : (l q : ℕ) → q ≤ upto l → version l q ≡ entry.version → hop l q ≤ entry.hop
  pub earliest : (l q : ℕ) → q ≤ upto l → version l q ≡ entry.version → hop l q ≡ entry.hop → 0 < version l q → entry.seq ≤ q
  pub within : 0 < entry.version → entry.seq ≤ upto entry.log
  pub its_version : 0 < entry.version → version entry.log entry.seq ≡ entry.version
  pub its_hop : 0 < entry.version → hop entry.log entry.seq ≡ entry.hop
