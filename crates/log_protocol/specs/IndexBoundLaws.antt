-- What is proved of the index of one block beside its great laws: bounds, the places of rows, and what never changes again.
use Rattle.std.specs.Prelude.{◌≡◌, ℕ, suc, ◌<◌, ◌≤◌}
use Rattle.log_protocol.specs.IndexState.{IndexState}

-- The index is in bounds: how far managers have applied, against heads, horizons, epochs and what the cleaner promised.
pub record IndexInBounds (w : IndexState) : Type 0 where
  -- what is applied is filed, and who was never active has applied nothing
  pub applied_filed : (e l : ℕ) → w.applied e l ≤ w.head l
  pub idle : (e l : ℕ) → w.active e ≡ 0 → w.applied e l ≡ 0
  -- an active manager has applied all that the horizons of its epoch cover, and of the cleaner's log what was filed when the cleaner promised that epoch
  pub active_covered : (e l : ℕ) → w.active e ≡ 1 → w.floor e l ≤ suc (w.applied e l)
  pub active_reported : (e : ℕ) → w.active e ≡ 1 → w.polled e ≤ w.applied e w.cleaner
  -- its epoch has begun, the cleaner has promised it, and it is no later than the reigning one, whose manager is active
  pub active_begun : (e : ℕ) → w.active e ≡ 1 → e ≤ w.epoch
  pub active_promised : (e : ℕ) → w.active e ≡ 1 → e ≤ w.promised
  pub active_reigning : (e : ℕ) → w.active e ≡ 1 → e ≤ w.reigning
  pub reigning_active : 0 < w.reigning → w.active w.reigning ≡ 1
  -- horizons are at least 1, rise with the epochs, and are at most one above what is filed; epochs to come have that of now
  pub floor_some : (e l : ℕ) → 1 ≤ w.floor e l
  pub floor_rises : (d e l : ℕ) → d ≤ e → w.floor d l ≤ w.floor e l
  pub floor_filed : (e l : ℕ) → w.floor e l ≤ suc (w.head l)
  pub floor_ahead : (e l : ℕ) → w.epoch ≤ e → w.floor e l ≡ w.floor w.epoch l

-- Rows are in place: which logs may say something of the block, and where.
pub record RowsInPlace (w : IndexState) : Type 0 where
  -- number 0 is nobody, and beyond the cleaner's there is no log
  pub nobody : w.head 0 ≡ 0
  pub no_other : (l q : ℕ) → w.cleaner < l → w.version l q ≡ 0
  -- seqs begin at 1 and end at the head
  pub seq_some : (l : ℕ) → w.version l 0 ≡ 0
  pub unfiled : (l q : ℕ) → w.head l < q → w.version l q ≡ 0
  -- a client's rows are no copies, the cleaner's are
  pub client_hop : (l q : ℕ) → l < w.cleaner → w.hop l q ≡ 0
  pub copy_hop : (q : ℕ) → 0 < w.version w.cleaner q → 0 < w.hop w.cleaner q
  -- a version stands at one place of the clients' logs
  pub one_place : (a x b y : ℕ) → a < w.cleaner → b < w.cleaner → 0 < w.version a x → w.version a x ≡ w.version b y → (a ≡ b) × (x ≡ y)

-- The index's past stays: from w to a later u what is filed keeps its row, and heads, the join, epochs, promises, what is applied and horizons only
-- rise; what was answered, counted or dropped stays so.
pub record IndexPastStays (w u : IndexState) : Type 0 where
  pub cleaner : u.cleaner ≡ w.cleaner
  pub head : (l : ℕ) → w.head l ≤ u.head l
  pub version : (l q : ℕ) → q ≤ w.head l → u.version l q ≡ w.version l q
  pub hop : (l q : ℕ) → q ≤ w.head l → u.hop l q ≡ w.hop l q
  pub joined : w.joined.version ≤ u.joined.version
  pub epoch : w.epoch ≤ u.epoch
  pub reigning : w.reigning ≤ u.reigning
  pub promised : w.promised ≤ u.promised
  pub active : (e : ℕ) → w.active e ≡ 1 → u.active e ≡ 1
  pub applied : (e l : ℕ) → w.applied e l ≤ u.applied e l
  pub floor : (e l : ℕ) → w.floor e l ≤ u.floor e l
  -- the horizon of an epoch that has ended is that at its end
  pub floor_ended : (e l : ℕ) → e < w.epoch → u.floor e l ≡ w.floor e l
  pub told : (e l q : ℕ) → w.told e l q ≡ 1 → u.told e l q ≡ 1
  pub counted : (l q : ℕ) → w.dead_at l q ≤ u.dead_at l q
  pub dropped : (l q : ℕ) → w.dropped l q ≡ 1 → u.dropped l q ≡ 1
