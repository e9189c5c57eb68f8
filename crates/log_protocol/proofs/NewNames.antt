-- A name that is booked is new: the guards of a seal, a restripe and an opening segment, against what the present boot has named.
use Rattle.std.proofs.Common.{◌≡◌, ℕ, arith}
use Rattle.log_protocol.specs.State.{State}
use Rattle.log_protocol.specs.OwnerSteps.{CanSeal, CanRestripe}
use Rattle.log_protocol.specs.OpeningSteps.{CanOpen}
use Rattle.log_protocol.proofs.Boots.{Boots}

pub new_seal : (w : State) (x count : ℕ) (server : ℕ → ℕ) → CanSeal w x count server → Boots w → w.booked x ≡ 1 → ⊥
new_seal w x count server can boots b = let a = boots.written_up_to_end x can.serving can.no_flight b can.own in let e = can.next in omega arith

pub new_restripe : (w : State) (x count : ℕ) (server : ℕ → ℕ) → CanRestripe w x count server → Boots w → w.booked x ≡ 1 → ⊥
new_restripe w x count server can boots b =
    grind (
      arith,
      can.same_seq,
      can.own,
      can.later,
      boots.written_attempt x,
      boots.opening_attempt x,
      boots.flight_phase can.flying,
      boots.flight_seq can.flying,
      boots.phase_rank,
    )

pub new_opening : (w : State) (x count : ℕ) (server : ℕ → ℕ) → CanOpen w x count server → Boots w → w.booked x ≡ 1 → ⊥
new_opening w x count server can boots b =
    let h = can.reading in
    let e = can.own in
    let a = boots.no_name_yet x (omega arith) (omega arith) b in
    omega arith
