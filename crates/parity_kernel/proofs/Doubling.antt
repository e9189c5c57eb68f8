-- What the vector's operations give at each byte, where it is doubled.
use Rattle.std.proofs.Common.{◌≡◌, ℕ, ◌+◌, ◌*◌, ◌/◌, ◌%◌, cond, eqb, List, [], ◌∷◌, ◌⊎◌, inl, inr, length, map, bit_and, refl, ◌∙◌, ap, ap₂, arith}
use Rattle.std.proofs.lemmas.Nat.Bits.{and_pow}
use Rattle.std.specs.Int.Bits.{bit_xor}
use Rattle.std.specs.Prelude.{replicate}
use lib.Lanes.{zip2, sel_l, top}
use Rattle.parity_kernel.specs.Field.{doubled}

-- 255 where the top bit is set, and else 0
abbrev pub flag_of : ℕ → ℕ
flag_of x = cond (eqb (bit_and x 128) 128) 255 0

at_byte : (x : ℕ) → bit_xor ((x + x) % 256) (cond (top 7 (flag_of x)) 29 0) ≡ doubled x
at_byte x =
    let twice : x + x ≡ 2 * x = omega arith in
    let at : (p : ℕ) → (p ≡ 0) ⊎ (p ≡ 1) → cond (top 7 (cond (eqb (p * 128) 128) 255 0)) 29 0 ≡ 29 * p = λ p a. elim a [ inl e ↦ rw e | inr e ↦ rw e ] in
    ap₂ bit_xor (ap (λ (z : ℕ). z % 256) twice) (ap (λ (z : ℕ). cond (top 7 (cond (eqb z 128) 255 0)) 29 0) (and_pow x 7) ∙ at (x / 128 % 2) (grind arith))

-- the vector's operations on so many lanes
abbrev pub by_lanes : List ℕ → ℕ → List ℕ
by_lanes v n =
    zip2 bit_xor (zip2 (λ a b. (a + b) % 256) v v)
    (sel_l (map (top 7) (zip2 (λ a b. cond (eqb a b) 255 0) (zip2 bit_and v (replicate n 128)) (replicate n 128))) (replicate n 29) (replicate n 0))

pub lanes_doubled : (v : List ℕ) → by_lanes v (length v) ≡ map doubled v
lanes_doubled [] = refl
lanes_doubled (x ∷ v) = ap₂ (λ (y : ℕ) (ys : List ℕ). y ∷ ys) (at_byte x) (lanes_doubled v)
