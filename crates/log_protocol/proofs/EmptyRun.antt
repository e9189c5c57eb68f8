-- A run, as a term: the owner of an empty log falls, finds nothing listed, writes its opening segment and serves.
-- One server. Name 1 is the opening segment of the second boot.
use Rattle.std.proofs.Common.{◌≡◌, ℕ, suc, ◌<◌, ◌≤◌, inl, refl, arith}
use Rattle.log_protocol.specs.Packets.{FencedPacket}
use Rattle.log_protocol.specs.State.{State, Names, new_log}
use Rattle.log_protocol.specs.ServerSteps.{sends, accepts, fences}
use Rattle.log_protocol.specs.OwnerSteps.{notes, crashes}
use Rattle.log_protocol.specs.OpeningSteps.{begins, Gathered, picks_none, opens, serves}
use Rattle.log_protocol.specs.Step.{Steps}
use Rattle.log_protocol.specs.Step.Step.{Sends, Accepts, Fences, Notes, Crashes, Begins, Picks_none, Opens, Serves}
use Rattle.log_protocol.specs.Step.Steps.{Done, More}
use Rattle.log_protocol.specs.StepKinds.{kinds}
use Rattle.log_protocol.specs.LogRuns.{empty_steps, EmptyOpened}
use Rattle.log_protocol.proofs.RunParts.{first_server, one_server, at_zero, store_to_first, stored_by_first, settled_alone, le11, le22, lt01}

names : Names (λ x. x) (λ x. 2) (λ x. 1)
names = record { apart = λ x y s c a. s; none = refl }

nothing : 0 < 0 → ⊥
nothing a = omega arith

below : (q : ℕ) → 1 ≤ q → suc q < 1 → ⊥
below q a less = omega arith

abbrev w0 : State
w0 = new_log 1 (λ x. x) (λ x. 2) (λ x. 1)

abbrev w1 : State
w1 = crashes w0

s1 : Steps w0 w1
s1 = More Done Crashes

abbrev w2 : State
w2 = begins w1

s2 : Steps w0 w2
s2 = More s1 (Begins (record { down = refl }))

abbrev list_of : ℕ → FencedPacket
list_of v = record { from = 0; incarnation = 2; generation = 1; low = 1; listed = w2.holds 0 }

abbrev w3 : State
w3 = fences w2 0 2

s3 : Steps w0 w3
s3 = More s2 (Fences 0 2 (record { begun = le22 }))

gathered : Gathered w3 list_of 1
gathered = record {
  sent = λ v k. inl refl;
  from = λ v k. at_zero (λ z. 0 ≡ z) v k refl;
  boot = λ v k. refl;
  no_older = λ v k. le11;
  begun = le11;
  known = le11;
}

abbrev w4 : State
w4 = picks_none w3 1

s4 : Steps w0 w4
s4 = More s3 (Picks_none list_of 1 (record { gathering = refl; gathered = gathered; nothing = λ v y k e. absurd (omega arith) }))

abbrev w5 : State
w5 = opens w4 1 7 1 first_server

s5 : Steps w0 w5
s5 = More s4 (Opens 1 7 1 first_server (record { reading = refl; named = lt01; next = refl; own = refl; group = one_server w4 refl }))

abbrev w6 : State
w6 = sends w5 1 0

s6 : Steps w0 w6
s6 = More s5 (Sends 1 0 (record { booked = refl; member = lt01 }))

abbrev w7 : State
w7 = accepts w6 (store_to_first 1 7)

s7 : Steps w0 w7
s7 = More s6 (Accepts (store_to_first 1 7) (record { sent = inl refl; present = refl; unmarked = refl; absent = refl }))

abbrev w8 : State
w8 = notes w7 (stored_by_first 1)

s8 : Steps w0 w8
s8 = More s7 (Notes (stored_by_first 1) (record { sent = inl refl; flying = lt01; named = refl }))

abbrev w9 : State
w9 = serves w8 (λ q. 0) 1 1

s9 : Steps w0 w9
s9 = More s8 (Serves (λ q. 0) 1 1
    (record {
      writing = refl;
      settled = settled_alone w8 refl refl;
      undoubted = λ e p a b. absurd (nothing a);
      read = record { picked = le11; cut = le11; last = λ q a e. refl; back = λ q a less. absurd (below q a less) };
    }))

steps : kinds s9 ≡ empty_steps
unfolding s1 s2 s3 s4 s5 s6 s7 s8 s9
steps = refl

pub empty_opened : EmptyOpened
empty_opened = record { state = w9; reached = record { names = names; run = s9 }; steps = steps; clean = refl; serving = refl; boot = refl; head = refl }
