-- The ends of the rings between applications and clients.
use Rattle.std.specs.Prelude.{◌≡◌, ℕ, zero, suc, List, [], ◌∷◌, ◌++◌, length, slice_get, Some}
use Rattle.rtrb.specs.Ring.{IsPair, SameConsumer, SameProducer, producer_capacity, received, sent}
use Rattle.script_text.specs.declared.script.Script.{Script}
use Rattle.live_links.specs.Facts.{dues_at}
use Rattle.mounts.specs.declared.mount.Mount.{Mount}
use Rattle.mounts.specs.declared.port.Port.{Port}

-- the numbers of the first so many items, in their order, each once
abbrev pub items_to : ℕ → List ℕ
items_to zero = []
items_to (suc k) = items_to k ++ suc k ∷ []

-- the ends of one pair of rings
abbrev pub AreJoined : Mount → Port → Type 0
AreJoined m p = IsPair m.calls p.calls × IsPair p.replies m.replies

-- nothing passed through it yet
abbrev pub IsFreshMount : Mount → Type 0
IsFreshMount m = (sent m.calls ≡ []) × (received m.replies ≡ [])

abbrev pub IsFreshPort : Port → Type 0
IsFreshPort p = (received p.calls ≡ []) × (sent p.replies ≡ [])

-- the same ends, whatever passed through them
abbrev pub SamePort : Port → Port → Type 0
SamePort a b = SameConsumer a.calls b.calls × SameProducer a.replies b.replies

-- it is the port that was made for the client at a place
abbrev pub IsPortAt : List Port → ℕ → Port → Type 0
IsPortAt ports place p = (made : Port) × (slice_get ports place ≡ Some made) × SamePort made p

-- it is joined to the port that was made for the client at a place
abbrev pub IsMountAt : List Port → ℕ → Mount → Type 0
IsMountAt ports place m = (made : Port) × (slice_get ports place ≡ Some made) × AreJoined m made

-- the rings between an application and the client at a place, as they are made
pub record IsPairFor (script : Script) (place : ℕ) (m : Mount) (p : Port) : Type 0 where
  pub joined : AreJoined m p
  pub mount : IsFreshMount m
  pub port : IsFreshPort p
  pub slots : producer_capacity m.calls ≡ length (dues_at script place)

-- those of the first so many nodes
pub record ArePairs (script : Script) (count : ℕ) (mounts : List Mount) (ports : List Port) : Type 0 where
  pub mounts_count : length mounts ≡ count
  pub ports_count : length ports ≡ count
  pub each : (p : ℕ) (m : Mount) (q : Port) → slice_get mounts p ≡ Some m → slice_get ports p ≡ Some q → IsPairFor script p m q
