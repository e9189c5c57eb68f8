-- Exclusive or of two numbers undoes itself: it does, digit by digit.
use Rattle.std.proofs.Common.{◌≡◌, ℕ, arith}
use Rattle.std.proofs.lemmas.Nat.Bits.{bit_at_xor, bit_at-lt, same_from_bits}
use Rattle.std.specs.Int.Bits.{bit_xor}

pub xor_undone : (a b : ℕ) → bit_xor (bit_xor a b) b ≡ a
xor_undone a b =
    same_from_bits (bit_xor (bit_xor a b) b) a
    (λ i. omega (arith, bit_at_xor (bit_xor a b) b i, bit_at_xor a b i, bit_at-lt a i, bit_at-lt b i))
