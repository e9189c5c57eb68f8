-- All that there is about one block: its clients, logs, history, reigning manager and packets.
use Rattle.std.specs.Prelude.{◌≡◌, ℕ, suc, ◌<◌, ◌≤◌, nat_lt, if◌then◌else◌, List, [], ◌⊎◌}
use Rattle.token_protocol.specs.Entry.{Row, Entry, no_row, no_entry}
use Rattle.token_protocol.specs.Client.{Client, fresh}
use Rattle.token_protocol.specs.Packets.{Want, Offer, Recall, Gave, Report}

pub record World : Type 0 where
  -- the members are the numbers below `members`: 0 is the cleaner, which promises epochs and has an empty log here, and each other one is a client;
  -- any other number names the log in which the cleaner keeps its copies
  pub members : ℕ
  pub client : ℕ → Client
  -- logs: the last filed segment, 1 where the next one is in flight (or was when its client fell), and this block's row in each sealed segment
  pub end : ℕ → ℕ
  pub flight : ℕ → ℕ
  pub rows : ℕ → ℕ → Row
  -- the history: its length, the value and writer of each version, and the pinned version: the newest that someone else read, or that was synced
  pub newest : ℕ
  pub value_at : ℕ → ℕ
  pub writer : ℕ → ℕ
  pub pinned : ℕ
  -- the join over all filed segments: its version, and the log and segment of a client's row that has it
  pub join_version : ℕ
  pub join_log : ℕ
  pub join_segment : ℕ
  -- who wrote last
  pub last_writer : ℕ
  -- 1 where a client fell with this block dirty and has not returned, and the versions between which its return cuts the history
  pub fallen : ℕ → ℕ
  pub cut_low : ℕ → ℕ
  pub cut_high : ℕ → ℕ
  -- the reigning epoch, the greatest at which a manager was ever active, and what its manager knows or knew when it stopped
  pub epoch : ℕ
  pub belief : ℕ → ℕ
  pub awaited : ℕ → ℕ  -- the stamp of the awaited Recall, 0 where none is
  pub keep : ℕ → ℕ  -- what the awaited Recall lets its client keep
  pub owed : ℕ → ℕ  -- the greatest end that a noted Gave has named
  pub applied : ℕ → ℕ  -- up to which segment each log is in the index
  pub index : Entry
  pub turn : ℕ
  -- packets; offers, recalls and gaves of the reigning epoch alone
  pub wants : List Want
  pub offers : List Offer
  pub recalls : List Recall
  pub gaves : List Gave
  pub reports : List Report

-- The block at the start, with n members that all serve: the cleaner, and the clients from 1 on.
abbrev pub start : ℕ → World
start n = record {
  members = n;
  client = λ c. fresh (if nat_lt c n then 1 else 0);
  end = λ c. 0;
  flight = λ c. 0;
  rows = λ c q. no_row;
  newest = 0;
  value_at = λ v. 0;
  writer = λ v. 0;
  pinned = 0;
  join_version = 0;
  join_log = 0;
  join_segment = 0;
  last_writer = 0;
  fallen = λ c. 0;
  cut_low = λ c. 0;
  cut_high = λ c. 0;
  epoch = 1;
  belief = λ c. 0;
  awaited = λ c. 0;
  keep = λ c. 0;
  owed = λ c. 0;
  applied = λ c. 0;
  index = no_entry;
  turn = 0;
  wants = [];
  offers = [];
  recalls = [];
  gaves = [];
  reports = [];
}

-- The client has changed this block since its last filed version.
abbrev pub Dirty : World → ℕ → Type 0
Dirty w c = (w.client c).settled < (w.client c).version

-- The client has not.
abbrev pub Clean : World → ℕ → Type 0
Clean w c = (w.client c).version ≤ (w.client c).settled

-- The row of this block in the segment after the last filed one: the one in flight.
abbrev pub flying_row : World → ℕ → Row
flying_row w c = w.rows c (suc (w.end c))

-- A client may still take an offer: it listens to the reigning manager, has acted on nothing as new, and this want of this incarnation is open.
pub record Acceptable (x : Client) (epoch : ℕ) (g : Offer) : Type 0 where
  pub heard : x.promised ≡ epoch
  pub newer : x.stamp < g.stamp
  pub wanted : x.want ≡ g.mode
  pub incarnation : x.incarnation ≡ g.incarnation
  pub request : x.request ≡ g.request
  pub some : 0 < g.mode

abbrev pub Live : World → Offer → Type 0
Live w g = Acceptable (w.client g.client) w.epoch g

-- An entry's place is a row of a filed segment, with the entry's version.
pub record FiledPlace (rows : ℕ → ℕ → Row) (end : ℕ → ℕ) (e : Entry) : Type 0 where
  pub row : (rows e.log e.segment).version ≡ e.version
  pub filed : e.segment ≤ end e.log
  pub some : 0 < e.version

abbrev pub Placed : World → Entry → Type 0
Placed w e = FiledPlace w.rows w.end e

-- The row that an index entry was made of.
pub record FiledAt (w : World) (e : Entry) (log : ℕ) (segment : ℕ) : Type 0 where
  pub filed : segment ≤ w.end log
  pub some : 0 < e.version
  pub row : (w.rows log segment).version ≡ e.version
  pub absent : e.placed ≡ 0 → (w.rows log segment).value ≡ 0
  pub place : 0 < e.placed → (e.log ≡ log) × (e.segment ≡ segment)

-- The entry is what some filed segment says, or says that there is none.
abbrev pub Filed : World → Entry → Type 0
Filed w e = ((e.version ≡ 0) × (e.placed ≡ 0)) ⊎ ((log : ℕ) × (segment : ℕ) × FiledAt w e log segment)
