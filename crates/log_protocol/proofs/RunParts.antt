-- Small parts of runs with one server: the group of server 0 alone, a Store to it and its Stored.
use Rattle.std.proofs.Common.{◌≡◌, ℕ, ◌<◌, ◌≤◌, inl, sym, subst, arith}
use Rattle.log_protocol.specs.Packets.{StorePacket, StoredPacket}
use Rattle.log_protocol.specs.State.{State}
use Rattle.log_protocol.specs.ServerSteps.{CanDrop}
use Rattle.log_protocol.specs.OwnerSteps.{Group, CanRestripe, Settled}

abbrev pub first_server : ℕ → ℕ
first_server j = 0

pub one_server : (w : State) → w.servers ≡ 1 → Group w 1 first_server
one_server w e = record { some = omega arith; known = λ j k. omega arith; distinct = λ i j a b c. omega arith }

abbrev pub store_to_first : ℕ → ℕ → StorePacket
store_to_first name text = record { to = 0; name = name; index = 0; generation = 1; text = text }

abbrev pub stored_by_first : ℕ → StoredPacket
stored_by_first name = record { name = name; index = 0; generation = 1 }

-- small numbers, apart from the states so that they are proved at once
pub le11 : 1 ≤ 1
le11 = omega arith

pub le12 : 1 ≤ 2
le12 = omega arith

pub le22 : 2 ≤ 2
le22 = omega arith

pub lt01 : 0 < 1
lt01 = omega arith

pub lt02 : 0 < 2
lt02 = omega arith

pub lt03 : 0 < 3
lt03 = omega arith

pub lt04 : 0 < 4
lt04 = omega arith

pub lt05 : 0 < 5
lt05 = omega arith

pub lt06 : 0 < 6
lt06 = omega arith

pub lt12 : 1 < 2
lt12 = omega arith

pub lt13 : 1 < 3
lt13 = omega arith

pub lt56 : 5 < 6
lt56 = omega arith

-- what holds of member 0 holds of each member of a group of one
pub at_zero : (P : ℕ → Type 0) (j : ℕ) → j < 1 → P 0 → P j
at_zero P j k p = subst P (sym (zero_of j k)) p
  where
    zero_of : (j : ℕ) → j < 1 → j ≡ 0
    zero_of j k = omega arith

-- a flight of one member that is noted has settled
pub settled_alone : (w : State) → w.member_count w.flight ≡ 1 → w.noted 0 ≡ 1 → Settled w
settled_alone w one noted j member = inl (subst (λ k. w.noted k ≡ 1) (sym (zero_of j (let m = member in omega arith))) noted)
  where
    zero_of : (k : ℕ) → k < w.member_count w.flight → k ≡ 0
    zero_of k less = omega arith

-- the second attempt of a flight, on server 0
pub second_attempt : (w : State) (x : ℕ) → w.servers ≡ 1 → 0 < w.flight → 0 < x → w.seq_of x ≡ w.seq_of w.flight → w.incarnation_of x ≡ w.incarnation
    → w.attempt_of w.flight ≡ 1 → w.attempt_of x ≡ 2 → CanRestripe w x 1 first_server
second_attempt w x alone flying named same_seq own was fact =
    record { flying = flying; named = named; same_seq = same_seq; own = own; later = omega arith; group = one_server w alone }

-- the first segment, below a horizon of 2
pub first_dropped : (w : State) (x : ℕ) → w.booked x ≡ 1 → w.seq_of x ≡ 1 → w.low ≡ 2 → CanDrop w x
first_dropped w x booked seq low = record { booked = booked; below = omega arith }
