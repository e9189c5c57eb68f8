-- Tests of numbers, by what they decide.
use Rattle.std.proofs.Common.{◌≡◌, ℕ, ◌<◌, ◌≤◌, ◌==◌, ◌&&◌, Bool, true, false, nat_lt, nat_le, refl, arith}
use Rattle.std.proofs.lemmas.Bool.{false≢true}
use Rattle.std.proofs.lemmas.Bool.Decides.{nat_tests}

pub le_test : (n m : ℕ) → n ≤ m → nat_le n m ≡ true
le_test n m h = grind (arith, nat_tests)

pub lt_test : (n m : ℕ) → n < m → nat_lt n m ≡ true
lt_test n m h = grind (arith, nat_tests)

pub not_lt_test : (n m : ℕ) → m ≤ n → nat_lt n m ≡ false
not_lt_test n m h = grind (arith, nat_tests)

pub same_test : (n : ℕ) → (n == n) ≡ true
same_test n = grind (arith, nat_tests)

pub other_test : (n m : ℕ) → (n ≡ m → ⊥) → (n == m) ≡ false
other_test n m differs =
    elim (n == m) as (λ b. (n == m) ≡ b → b ≡ false) [
      | true ↦ λ same. absurd (differs (equal n m same))
      | false ↦ λ h. refl
    ] refl
  where
    equal : (a c : ℕ) → (a == c) ≡ true → a ≡ c
    equal a c h = grind (arith, nat_tests)

pub zero_test : (n : ℕ) → 1 ≤ n → (n == 0) ≡ false
zero_test n h = grind (arith, nat_tests)

pub and_none : (t : Bool) → (t && false) ≡ false
and_none true = refl
and_none false = refl

pub both : (x w : Bool) → x ≡ true → w ≡ true → (x && true && w) ≡ true
both true w p q = q
both false w p q = absurd (false≢true p)
