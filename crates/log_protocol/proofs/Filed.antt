-- Filed: each filed segment is booked and secured whole. This is what "logs stay whole" rests on.
-- Stands on Boots, Horizons, Secured and Priors.
use Rattle.std.proofs.Common.{◌≡◌, ℕ, arith}
use Rattle.std.proofs.lemmas.Bool.Decides.{nat_tests}
use Rattle.log_protocol.specs.State.{State, new_log}
use Rattle.log_protocol.specs.OpeningSteps.{CanServe, serves}
use Rattle.log_protocol.specs.Step.{Step}
use Rattle.log_protocol.specs.Step.Step.{Settles, Serves}
use Rattle.log_protocol.proofs.Boots.{Boots}
use Rattle.log_protocol.proofs.Horizons.{Horizons}
use Rattle.log_protocol.proofs.Secured.{Secured}
use Rattle.log_protocol.proofs.Priors.{Priors}
use Rattle.log_protocol.proofs.ReadChain.{Chain, chain_read}

pub record Filed (w : State) : Type 0 where
  -- a filed segment is booked
  pub filed_booked : (x : ℕ) → w.filed x ≡ 1 → w.booked x ≡ 1
  -- and each of its members is secured
  pub filed_secured : (x j : ℕ) → w.filed x ≡ 1 → w.secured x j ≡ 1

serves_keeps_filed : (w : State) (path : ℕ → ℕ) (lowest sure : ℕ) → CanServe w path lowest sure → Boots w → Horizons w → Secured w → Priors w → Filed w
    → Filed (serves w path lowest sure)
serves_keeps_filed w path lowest sure can boots horizons secured priors filed =
    let chain : Chain w path lowest = chain_read w path lowest can.writing horizons priors can.read in
    record {
      filed_booked = λ x k0. grind (arith, nat_tests, filed.filed_booked x, chain.booked (w.seq_of x), boots.flight_booked);
      filed_secured = λ x j k0. grind (arith, nat_tests, filed.filed_secured x j);
    }

pub step_keeps_filed : (w u : State) → Step w u → Boots w → Horizons w → Secured w → Priors w → Filed w → Filed u
step_keeps_filed w u (Settles can) boots horizons secured priors filed = grind (arith, nat_tests)
step_keeps_filed w u (Serves path lowest sure can) boots horizons secured priors filed =
    serves_keeps_filed w path lowest sure can boots horizons secured priors filed
step_keeps_filed w u step boots horizons secured priors filed = grind (arith, nat_tests)

pub new_log_filed : (servers : ℕ) (seq_of incarnation_of attempt_of : ℕ → ℕ) → Filed (new_log servers seq_of incarnation_of attempt_of)
new_log_filed servers seq_of incarnation_of attempt_of = grind (arith, nat_tests)
