-- Counting the members that a flag names: fewer than all of them leave one that it doesn't. So the premise on losses follows where no more than the
-- spare members were hurt.
use Rattle.std.proofs.Common.{◌≡◌, ℕ, zero, suc, ◌<◌, refl, arith}
use Rattle.log_protocol.specs.Counting.{count, NotAllHurt}
use Rattle.log_protocol.specs.State.{State}
use Rattle.log_protocol.specs.OpeningSteps.{Undoubted}

pub some_unflagged : (f : ℕ → ℕ) (n : ℕ) → count f n < n → (i : ℕ) × (i < n) × (f i ≡ 0)
some_unflagged f zero less = absurd (omega arith)
some_unflagged f (suc n) less = go (f n) refl (λ k. some_unflagged f n k)
  where
    go : (k : ℕ) → f n ≡ k → (count f n < n → (i : ℕ) × (i < n) × (f i ≡ 0)) → (i : ℕ) × (i < suc n) × (f i ≡ 0)
    go zero e below = (n, omega arith, e)
    go (suc k) e below = let r = below (omega arith) in (r.0, (let h = r.1 in omega arith), r.2)

pub not_all_hurt : (w : State) → NotAllHurt w → Undoubted w
not_all_hurt w few some above = some_unflagged w.hurt (w.member_count (w.line w.head)) (few some above)
