-- Two values that have one number are one value.
use Rattle.std.proofs.Common.{◌≡◌, ◌+◌, ◌<◌, ℕ, zero, suc, List, [], ◌∷◌, Some, None, refl, ap, arith}
use Rattle.version_model.specs.History.{Content}
use Rattle.act_tie.specs.Number.{paired, code, number}

-- A pair is a number above 0.
paired-some : (n m : ℕ) → 0 < paired n m
unfolding paired
paired-some zero m = omega arith
paired-some (suc n) m = let some = paired-some n m in omega arith

-- An odd number is not the double of one.
odd : (m n : ℕ) → suc (m + m) ≡ n + n → ⊥
odd m n e = absurd (omega arith)

-- A number is one pair.
paired-same : (n m k l : ℕ) → paired n m ≡ paired k l → (n ≡ k) × (m ≡ l)
unfolding paired
paired-same zero m zero l e = (refl, omega arith)
paired-same zero m (suc k) l e = absurd (odd m (paired k l) e)
paired-same (suc n) m zero l e = absurd (omega arith)
paired-same (suc n) m (suc k) l e = let rest = paired-same n m k l (omega arith) in (ap suc rest.0, rest.1)

pub code-same : (xs ys : List ℕ) → code xs ≡ code ys → xs ≡ ys
code-same [] [] e = refl
code-same [] (y ∷ ys) e = let some = paired-some y (code ys) in absurd (omega arith)
code-same (x ∷ xs) [] e = let some = paired-some x (code xs) in absurd (omega arith)
code-same (x ∷ xs) (y ∷ ys) e = let parts = paired-same x (code xs) y (code ys) e in λ i. parts.0 i ∷ code-same xs ys parts.1 i

pub number-same : (x y : Content) → number x ≡ number y → x ≡ y
number-same None None e = refl
number-same None (Some ys) e = absurd (omega arith)
number-same (Some xs) None e = absurd (omega arith)
number-same (Some xs) (Some ys) e = ap Some (code-same xs ys (omega arith))
