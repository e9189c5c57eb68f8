-- Contents: all attempts of one segment tell the same.
-- Stands on Boots.
use Rattle.std.proofs.Common.{◌≡◌, ℕ, arith}
use Rattle.std.proofs.lemmas.Bool.Decides.{nat_tests}
use Rattle.log_protocol.specs.Phase
use Rattle.log_protocol.specs.State.{State, new_log}
use Rattle.log_protocol.specs.OwnerSteps.{CanSeal, seals, CanRestripe, restripes}
use Rattle.log_protocol.specs.OpeningSteps.{CanOpen, opens}
use Rattle.log_protocol.specs.Step.{Step}
use Rattle.log_protocol.specs.Step.Step.{Seals, Restripes, Settles, Opens}
use Rattle.log_protocol.proofs.Boots.{Boots}
use Rattle.log_protocol.proofs.NewNames.{new_seal, new_restripe, new_opening}

pub record Contents (w : State) : Type 0 where
  -- names of one seq and one boot have one content
  pub one_content : (x : ℕ) → w.booked x ≡ 1 → w.content_of x ≡ w.content_at (w.seq_of x) (w.incarnation_of x)
  -- an opening segment tells nothing
  pub opening_empty : w.phase ≡ Phase.writing → w.content_of w.flight ≡ 0

seals_keeps_contents : (w : State) (x text count : ℕ) (server : ℕ → ℕ) (content : ℕ) → CanSeal w x count server → Boots w → Contents w
    → Contents (seals w x text count server content)
seals_keeps_contents w x text count server content can boots contents =
    let new : w.booked x ≡ 1 → ⊥ = new_seal w x count server can boots in
    grind (arith, nat_tests)

restripes_keeps_contents : (w : State) (x text count : ℕ) (server : ℕ → ℕ) → CanRestripe w x count server → Boots w → Contents w
    → Contents (restripes w x text count server)
restripes_keeps_contents w x text count server can boots contents =
    let new : w.booked x ≡ 1 → ⊥ = new_restripe w x count server can boots in
    grind (arith, nat_tests)

opens_keeps_contents : (w : State) (x text count : ℕ) (server : ℕ → ℕ) → CanOpen w x count server → Boots w → Contents w
    → Contents (opens w x text count server)
opens_keeps_contents w x text count server can boots contents =
    let new : w.booked x ≡ 1 → ⊥ = new_opening w x count server can boots in
    grind (arith, nat_tests)

pub step_keeps_contents : (w u : State) → Step w u → Boots w → Contents w → Contents u
step_keeps_contents w u (Seals x text count server content can) boots contents = seals_keeps_contents w x text count server content can boots contents
step_keeps_contents w u (Restripes x text count server can) boots contents = restripes_keeps_contents w x text count server can boots contents
step_keeps_contents w u (Settles can) boots contents = grind (arith, nat_tests)
step_keeps_contents w u (Opens x text count server can) boots contents = opens_keeps_contents w x text count server can boots contents
step_keeps_contents w u step boots contents = grind (arith, nat_tests)

pub new_log_contents : (servers : ℕ) (seq_of incarnation_of attempt_of : ℕ → ℕ) → Contents (new_log servers seq_of incarnation_of attempt_of)
new_log_contents servers seq_of incarnation_of attempt_of = grind (arith, nat_tests)
