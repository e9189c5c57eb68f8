-- What the owner of a log does while it serves, and its falls and restarts: for each step its guard and, below it, its effect.
-- A guard's lines name the transition that makes them true.
use Rattle.std.specs.Prelude.{◌≡◌, ℕ, suc, ◌-◌, ◌<◌, ◌==◌, nat_lt, if◌then◌else◌, ◌⊎◌}
use Rattle.log_protocol.specs.Phase
use Rattle.log_protocol.specs.Tables.{In, put}
use Rattle.log_protocol.specs.Packets.{StoredPacket}
use Rattle.log_protocol.specs.State.{State}

-- the group of a new segment: at least one member, each on a server of its own
pub record Group (w : State) (count : ℕ) (server : ℕ → ℕ) : Type 0 where
  pub some : 0 < count
  pub known : (j : ℕ) → j < count → server j < w.servers
  pub distinct : (i j : ℕ) → i < count → j < count → server i ≡ server j → i ≡ j

-- A new name is booked with its text, group, prior and content, and is in flight with nothing noted. Members have the generations of the owner's map.
abbrev pub books : State → ℕ → ℕ → ℕ → (ℕ → ℕ) → ℕ → ℕ → State
books w x text count server prior content =
    record w {
      booked = put w.booked x 1;
      text_of = put w.text_of x text;
      member_count = put w.member_count x count;
      member_server = λ y i. if y == x then server i else w.member_server y i;
      member_generation = λ y i. if y == x then w.owner_generation (server i) else w.member_generation y i;
      prior_of = put w.prior_of x prior;
      content_of = put w.content_of x content;
      content_at = λ q c. if q == w.seq_of x then (if c == w.incarnation_of x then content else w.content_at q c) else w.content_at q c;
      low_when_booked = put w.low_when_booked x w.low;
      flight = x;
      noted = λ i. 0;
    }

-- Seal: a serving owner with nothing in flight writes the segment after its end. (The 1996 paper, "LFS": writes are batched into segments of a log.)
pub record CanSeal (w : State) (x count : ℕ) (server : ℕ → ℕ) : Type 0 where
  -- the seal's own tests
  pub serving : w.phase ≡ Phase.serving
  pub no_flight : w.flight ≡ 0
  -- the name that the seal makes: end.seq + 1, this boot, the first attempt
  pub named : 0 < x
  pub next : w.seq_of x ≡ suc (w.seq_of w.end)
  pub own : w.incarnation_of x ≡ w.incarnation
  -- `choose` gives distinct servers of the map
  pub group : Group w count server

abbrev pub seals : State → ℕ → ℕ → ℕ → (ℕ → ℕ) → ℕ → State
seals w x text count server content = books w x text count server w.end content

-- Restripe: more than the spare members of the flight are lost, and it is written again under the next attempt to a new group.
pub record CanRestripe (w : State) (x count : ℕ) (server : ℕ → ℕ) : Type 0 where
  -- settling looks at a flight
  pub flying : 0 < w.flight
  -- the name that settling makes: the flight's with a greater attempt
  pub named : 0 < x
  pub same_seq : w.seq_of x ≡ w.seq_of w.flight
  pub own : w.incarnation_of x ≡ w.incarnation
  pub later : w.attempt_of w.flight < w.attempt_of x
  -- `choose` gives distinct servers of the map
  pub group : Group w count server

abbrev pub restripes : State → ℕ → ℕ → ℕ → (ℕ → ℕ) → State
restripes w x text count server = books w x text count server (w.prior_of w.flight) (w.content_of w.flight)

-- Note: a Stored of the flight counts for its member.
pub record CanNote (w : State) (p : StoredPacket) : Type 0 where
  -- only what was sent is delivered
  pub sent : In p w.storeds
  -- a Stored of another name is passed over
  pub flying : 0 < w.flight
  pub named : p.name ≡ w.flight

abbrev pub notes : State → StoredPacket → State
notes w p = record w { noted = put w.noted p.index 1 }

-- each member of the flight is noted, or lost: of an earlier generation than the owner's map has
abbrev pub Settled : State → Type 0
Settled w = (i : ℕ) → i < w.member_count w.flight → (w.noted i ≡ 1) ⊎ (w.member_generation w.flight i < w.owner_generation (w.member_server w.flight i))

-- ghost: the members of x that lack their fragment, at a later generation
abbrev pub lacking : State → ℕ → ℕ → ℕ
lacking w x i = if nat_lt (w.member_generation x i) (w.generation (w.member_server x i)) then 1 - w.holds (w.member_server x i) x else 0

-- Settle: the flight of a serving owner is filed and is its end; the feed takes it.
pub record CanSettle (w : State) : Type 0 where
  -- settling looks at a flight while the owner serves
  pub serving : w.phase ≡ Phase.serving
  pub flying : 0 < w.flight
  -- and at its members, after each Stored and each map
  pub settled : Settled w

abbrev pub settles : State → State
settles w =
    record w {
      secured = λ x i. if x == w.flight then 1 else w.secured x i;
      filed = put w.filed w.flight 1;
      line = put w.line (w.seq_of w.flight) w.flight;
      head = w.seq_of w.flight;
      end = w.flight;
      flight = 0;
      feed = put w.feed (w.seq_of w.flight) w.flight;
      hurt = lacking w w.flight;
    }

-- Crash: the owner forgets all but its incarnation.
abbrev pub crashes : State → State
crashes w = record w { phase = Phase.down; flight = 0 }

-- Restart of a manager's log: no opening; the new boot begins a chain of its own from seq 1. The line of such a log isn't claimed.
pub record CanRestart (w : State) : Type 0 where
  -- a restart is taken by a node that is down
  pub down : w.phase ≡ Phase.down

abbrev pub restarts : State → State
restarts w = record w {
  phase = Phase.serving;
  incarnation = suc w.incarnation;
  begin_low = w.low;
  served = suc w.incarnation;
  end = 0;
  flight = 0;
  feed_base = 0;
  clean = 0;
}
