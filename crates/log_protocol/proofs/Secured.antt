-- Secured: a member that was once seen to hold its fragment, or to be of a later generation, does or is so for ever, until the segment is dropped.
-- Stands on Generations, Boots, Texts and Lists.
use Rattle.std.proofs.Common.{◌≡◌, ℕ, ◌<◌, arith}
use Rattle.std.proofs.lemmas.Bool.Decides.{nat_tests}
use Rattle.log_protocol.specs.Tables.{In}
use Rattle.log_protocol.specs.Packets.{StoredPacket, FencedPacket}
use Rattle.log_protocol.specs.State.{State, new_log}
use Rattle.log_protocol.specs.OpeningSteps.{CanPickKept, picks_kept}
use Rattle.log_protocol.specs.Step.{Step}
use Rattle.log_protocol.specs.Step.Step.{Accepts, Accepts_again, Deletes, Seals, Restripes, Notes, Settles, Picks_kept, Opens, Serves}
use Rattle.log_protocol.proofs.Generations.{Generations}
use Rattle.log_protocol.proofs.Boots.{Boots}
use Rattle.log_protocol.proofs.Texts.{Texts}
use Rattle.log_protocol.proofs.Lists.{Lists}
use Rattle.log_protocol.proofs.PickedWhole.{picked_whole, picked_booked}

pub record Secured (w : State) : Type 0 where
  -- only what was dropped is marked as deleted
  pub marked_dropped : (v x : ℕ) → w.marked v x ≡ 1 → w.dropped x ≡ 1
  -- what is secured is booked
  pub secured_booked : (x j : ℕ) → w.secured x j ≡ 1 → w.booked x ≡ 1
  -- a secured member that lacks its fragment is of a later generation
  pub secured_held : (x j : ℕ) → w.secured x j ≡ 1 → w.dropped x ≡ 0 → j < w.member_count x → w.holds (w.member_server x j) x ≡ 0
      → w.member_generation x j < w.generation (w.member_server x j)
  -- a Stored secures its member
  pub stored_secured : (p : StoredPacket) → In p w.storeds → w.secured p.name p.index ≡ 1
  -- a noted member of the flight is secured
  pub noted_secured : (j : ℕ) → w.noted j ≡ 1 → 0 < w.flight → w.secured w.flight j ≡ 1

picks_kept_keeps_secured : (w : State) (list_of : ℕ → FencedPacket) (low x : ℕ) → CanPickKept w list_of low x → Generations w → Boots w → Texts w → Lists w
    → Secured w → Secured (picks_kept w low x)
picks_kept_keeps_secured w list_of low x can generations boots texts lists secured =
    let booked : w.booked x ≡ 1 = picked_booked w list_of low x can.gathered can.picked lists in
    record {
      marked_dropped = λ v y k0. grind (arith, nat_tests, secured.marked_dropped v y);
      secured_booked = λ y j k0. grind (arith, nat_tests, secured.secured_booked y j);
      secured_held = λ y j k0 k1 k2 k3. grind (arith, nat_tests, secured.secured_held y j, picked_whole w list_of low x can generations boots texts lists j);
      stored_secured = λ p k0. grind (arith, nat_tests, secured.stored_secured p);
      noted_secured = λ j k0 k1. grind (arith, nat_tests, secured.noted_secured j);
    }

pub step_keeps_secured : (w u : State) → Step w u → Generations w → Boots w → Texts w → Lists w → Secured w → Secured u
step_keeps_secured w u (Accepts p can) generations boots texts lists secured = grind (arith, nat_tests)
step_keeps_secured w u (Accepts_again p can) generations boots texts lists secured = grind (arith, nat_tests)
step_keeps_secured w u (Deletes v x can) generations boots texts lists secured = grind (arith, nat_tests)
step_keeps_secured w u (Seals x text count server content can) generations boots texts lists secured = grind (arith, nat_tests)
step_keeps_secured w u (Restripes x text count server can) generations boots texts lists secured = grind (arith, nat_tests)
step_keeps_secured w u (Notes p can) generations boots texts lists secured = grind (arith, nat_tests)
step_keeps_secured w u (Settles can) generations boots texts lists secured = grind (arith, nat_tests)
step_keeps_secured w u (Picks_kept list_of low x can) generations boots texts lists secured =
    picks_kept_keeps_secured w list_of low x can generations boots texts lists secured
step_keeps_secured w u (Opens x text count server can) generations boots texts lists secured = grind (arith, nat_tests)
step_keeps_secured w u (Serves path lowest sure can) generations boots texts lists secured = grind (arith, nat_tests)
step_keeps_secured w u step generations boots texts lists secured = grind (arith, nat_tests)

pub new_log_secured : (servers : ℕ) (seq_of incarnation_of attempt_of : ℕ → ℕ) → Secured (new_log servers seq_of incarnation_of attempt_of)
new_log_secured servers seq_of incarnation_of attempt_of = grind (arith, nat_tests)
