-- What a server does to one log, and what happens to it: for each step its guard and, below it, its effect.
-- A guard's lines name the transition that makes them true.
use Rattle.std.specs.Prelude.{◌≡◌, ℕ, suc, ◌<◌, ◌≤◌, ◌==◌, if◌then◌else◌, ◌∷◌}
use Rattle.log_protocol.specs.Tables.{In, put, put_at}
use Rattle.log_protocol.specs.Packets.{StorePacket, FragmentPacket}
use Rattle.log_protocol.specs.State.{State}

-- Lose: a server's disk is gone with fragments and marks, and it goes on in its next generation.
abbrev pub loses : State → ℕ → State
loses w v =
    record w {
      generation = put w.generation v (suc (w.generation v));
      holds = λ u x. if u == v then 0 else w.holds u x;
      marked = λ u x. if u == v then 0 else w.marked u x;
      hurt = λ i. if w.member_server (w.line w.head) i == v then (if w.dropped (w.line w.head) == 0 then 1 else w.hurt i) else w.hurt i;
    }

-- Hear: the registry takes a generation that a server reached from its Hello.
pub record CanHear (w : State) (v g : ℕ) : Type 0 where
  -- the registry keeps the greater of the kept and the told one
  pub rises : w.registry_generation v ≤ g
  -- a server's Hello carries its own generation, which never falls
  pub reached : g ≤ w.generation v

abbrev pub hears : State → ℕ → ℕ → State
hears w v g = record w { registry_generation = put w.registry_generation v g }

-- Learn: the owner takes a newer map, from a MapNews or a Welcome.
pub record CanLearn (w : State) (map : ℕ → ℕ) : Type 0 where
  -- the registry sends its own map of some moment
  pub known : (v : ℕ) → map v ≤ w.registry_generation v

abbrev pub learns : State → (ℕ → ℕ) → State
learns w map = record w { owner_generation = map }

-- Send a Store: the fragment of a booked segment's member goes to its server, when it is sealed and at every Tick until it is noted.
pub record CanSend (w : State) (x i : ℕ) : Type 0 where
  -- the owner sends fragments of its own flight
  pub booked : w.booked x ≡ 1
  -- one for each member of its group
  pub member : i < w.member_count x

abbrev pub sends : State → ℕ → ℕ → State
sends w x i =
    record w { stores = record { to = w.member_server x i; name = x; index = i; generation = w.member_generation x i; text = w.text_of x } ∷ w.stores }

-- Accept: a server keeps the fragment that a Store brings, and answers Stored.
pub record CanAccept (w : State) (p : StorePacket) : Type 0 where
  -- only what was sent is delivered
  pub sent : In p w.stores
  -- the shelf refuses a Store of another generation,
  pub present : p.generation ≡ w.generation p.to
  -- and one of a name that is marked as deleted
  pub unmarked : w.marked p.to p.name ≡ 0
  -- the shelf has no fragment of the name
  pub absent : w.holds p.to p.name ≡ 0

abbrev pub accepts : State → StorePacket → State
accepts w p =
    record w {
      holds = put_at w.holds p.to p.name 1;
      kept_text = put_at w.kept_text p.to p.name p.text;
      kept_index = put_at w.kept_index p.to p.name p.index;
      storeds = record { name = p.name; index = p.index; generation = p.generation } ∷ w.storeds;
      secured = put_at w.secured p.name p.index 1;
    }

-- Accept again: a Store finds its fragment held; the server answers Stored and changes nothing.
pub record CanAcceptAgain (w : State) (p : StorePacket) : Type 0 where
  -- only what was sent is delivered
  pub sent : In p w.stores
  -- the shelf has a fragment of the name
  pub held : w.holds p.to p.name ≡ 1

abbrev pub accepts_again : State → StorePacket → State
accepts_again w p =
    record w { storeds = record { name = p.name; index = p.index; generation = p.generation } ∷ w.storeds; secured = put_at w.secured p.name p.index 1 }

-- Tell a Fragment: a server that holds a fragment answers a Fetch with it.
pub record CanTell (w : State) (v x : ℕ) : Type 0 where
  -- a shelf without the name answers Missing
  pub held : w.holds v x ≡ 1

abbrev pub tells : State → ℕ → ℕ → State
tells w v x = record w { fragments = record { name = x; text = w.kept_text v x } ∷ w.fragments }

-- Fill: a server that rebuilds its shelf cuts its own fragment, of its own index, from the text that Fragments of other members gave.
pub record CanFill (w : State) (v i : ℕ) (p : FragmentPacket) : Type 0 where
  -- what was joined is what some Fragment brought
  pub sent : In p w.fragments
  -- the rebuild takes the index of its server in the name's group
  pub member : i < w.member_count p.name
  pub own : w.member_server p.name i ≡ v
  -- and passes over names that are marked or held
  pub unmarked : w.marked v p.name ≡ 0
  pub absent : w.holds v p.name ≡ 0

abbrev pub fills : State → ℕ → ℕ → FragmentPacket → State
fills w v i p = record w { holds = put_at w.holds v p.name 1; kept_text = put_at w.kept_text v p.name p.text; kept_index = put_at w.kept_index v p.name i }

-- Drop: the cleaner gives up a segment that every checkpoint covers, and says Dropped.
pub record CanDrop (w : State) (x : ℕ) : Type 0 where
  -- its candidates are names that servers listed
  pub booked : w.booked x ≡ 1
  -- below the least horizon of its log, as the Welcome of its job had it
  pub below : w.seq_of x < w.low

abbrev pub drops : State → ℕ → State
drops w x = record w { dropped = put w.dropped x 1 }

-- Delete: a server takes a dropped segment's fragment off its shelf and marks the name.
pub record CanDelete (w : State) (x : ℕ) : Type 0 where
  -- the cleaner sends Delete after it said Dropped
  pub dropped : w.dropped x ≡ 1

abbrev pub deletes : State → ℕ → ℕ → State
deletes w v x = record w { holds = put_at w.holds v x 0; marked = put_at w.marked v x 1 }

-- Raise low: the registry keeps a later horizon of a slot, and the least one of this log rises.
pub record CanRaise (w : State) (low : ℕ) : Type 0 where
  -- the registry refuses a horizon below the kept one
  pub rises : w.low ≤ low
  -- a checkpoint's horizon is one more than what its manager applied, and that is no more than what is filed
  pub filed : w.clean ≡ 1 → low ≤ suc w.head

abbrev pub raises : State → ℕ → State
raises w low = record w { low = low }

-- Fence: a server takes a Fence and answers Fenced with the names that it holds.
pub record CanFence (w : State) (c : ℕ) : Type 0 where
  -- an owner sends Fences for its own boot alone
  pub begun : c ≤ w.incarnation

abbrev pub fences : State → ℕ → ℕ → State
fences w v c = record w { fenceds = record { from = v; incarnation = c; generation = w.generation v; low = w.low; listed = w.holds v } ∷ w.fenceds }
