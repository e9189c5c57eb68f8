-- What the steps assume of logs and of the ends that packets name: each premise has a name here, and is discharged on its own.
use Rattle.std.specs.Prelude.{◌≡◌, ℕ, ◌<◌, ◌≤◌, Bool, true, false, ◌⊎◌}
use Rattle.token_protocol.specs.Entry.{Entry}
use Rattle.token_protocol.specs.Packets.{Want, Offer, Report}
use Rattle.token_protocol.specs.World.{World, Filed}

-- A premise is asked of a run whose logs keep their word (true). A run whose logs lose what they held (false) asks none:
-- the laws of tokens hold there too.
abbrev pub Premise : Bool → Type 0 → Type 0
Premise true p = p
Premise false p = Unit {0}

-- A settled end: the end that a Want, Gave or Report names is the last filed segment of its sender's log.
-- Discharged by the log law: at a serving client `end` is the greatest filed segment of its own log.
pub record SettledEnd (w : World) (c : ℕ) (end : ℕ) : Type 0 where
  pub last_filed : end ≡ w.end c

-- A segment that is filed was in flight.
-- Discharged by the client's transition for the last fragment's Stored, which is about the segment that its log has in flight.
pub record SegmentFlying (w : World) (c : ℕ) : Type 0 where
  pub in_flight : w.flight c ≡ 1

-- The value that came with a Supply is the history's value of the offered version.
-- Discharged at the server's transition for a Forward: it held the newest version; and values up to the join never change.
pub record IsSupplied (w : World) (g : Offer) (value : ℕ) : Type 0 where
  pub content : value ≡ w.value_at g.entry.version

-- A place names one content: what a read of the fetched place brings is the value of the row that was filed there.
-- Discharged by the log law (one name, one text) at the client's transition for a read that ends.
pub record PlaceRead (w : World) (c : ℕ) (value : ℕ) : Type 0 where
  pub content : value ≡ (w.rows (w.client c).fetch.log (w.client c).fetch.segment).value

-- A reopened tail is adopted whole: the segment that was in flight is now filed. (Where it is discarded, no row of it is left.)
-- Discharged by the law of reopening at the client's return.
pub record TailAdopted (w : World) (c : ℕ) : Type 0 where
  pub in_flight : w.flight c ≡ 1

-- The ends named are applied: all that the asker had filed when it asked, and all that any giver had filed when it gave, is in the index.
-- Discharged by the manager's transitions for a Want and at the end of a job, which test just that.
pub record EndsApplied (w : World) (p : Want) : Type 0 where
  pub asker : p.end ≤ w.applied p.client
  pub givers : (d : ℕ) → w.owed d ≤ w.applied d

-- An index entry is at least the old one and every row of the log up to `upto`, and is the old one or a filed one.
-- Discharged by the manager's transition for Deltas and the law of the index: Deltas tell just the filed rows, and merging takes the greater.
pub record IndexCovers (w : World) (c : ℕ) (upto : ℕ) (e : Entry) : Type 0 where
  pub filed_end : upto ≤ w.end c
  pub old : w.index.version ≤ e.version
  pub rows : (q : ℕ) → q ≤ upto → (w.rows c q).version ≤ e.version
  pub source : (e ≡ w.index) ⊎ Filed w e

-- A new manager's index is filed, at least every row up to `applied`, and covers each reported end.
-- Discharged by the law of takeover at the manager's activation: it reads a checkpoint and the logs after it up to the reported ends.
pub record IndexGathered (w : World) (report : ℕ → Report) (applied : ℕ → ℕ) (e : Entry) : Type 0 where
  pub reported : (c : ℕ) → c < w.members → (report c).end ≤ applied c
  pub filed_end : (c : ℕ) → applied c ≤ w.end c
  pub source : Filed w e
  pub rows : (c q : ℕ) → q ≤ applied c → (w.rows c q).version ≤ e.version

-- A cleaner's copy has a filed original.
-- Discharged by the law of cleaning at the cleaner's seal: it copies only what a manager's Live answer placed.
pub record OriginalFiled (w : World) (log : ℕ) (segment : ℕ) : Type 0 where
  pub filed : segment ≤ w.end log
