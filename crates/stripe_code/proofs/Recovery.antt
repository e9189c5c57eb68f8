-- Where joining refuses nothing, no more is missing than the parity makes good.
use Rattle.std.proofs.Common.{◌≡◌, ℕ, ◌≤◌, zero, suc, List, [], ◌∷◌, None, length, arith}
use Rattle.stripe_code.specs.Joined.{too_many}

pub few_missing : (parity : ℕ) → 1 ≤ parity → parity ≤ 2 → (gone : List ℕ) → too_many parity gone ≡ None → length gone ≤ parity
few_missing zero some limit gone none = absurd (omega arith)
few_missing (suc zero) some limit [] none = omega arith
few_missing (suc zero) some limit (a ∷ []) none = omega arith
few_missing (suc zero) some limit (a ∷ b ∷ []) none = cc
few_missing (suc zero) some limit (a ∷ b ∷ c ∷ rest) none = cc
few_missing (suc (suc zero)) some limit [] none = omega arith
few_missing (suc (suc zero)) some limit (a ∷ []) none = omega arith
few_missing (suc (suc zero)) some limit (a ∷ b ∷ []) none = omega arith
few_missing (suc (suc zero)) some limit (a ∷ b ∷ c ∷ rest) none = cc
few_missing (suc (suc (suc n))) some limit gone none = absurd (omega arith)
