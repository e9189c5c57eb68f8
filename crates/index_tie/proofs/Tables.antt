-- Tables changed at one place.
use Rattle.std.proofs.Common.{◌≡◌, ℕ, ◌==◌, Bool, true, false, cond, sym, refl, subst, arith}
use Rattle.std.proofs.lemmas.Bool.Decides.{nat_tests}
use Rattle.log_protocol.specs.Tables.{put}

pub at_same : {X : Type 0} (e : ℕ) (x y : X) → cond (e == e) x y ≡ x
at_same e x y = by (e == e) (grind (arith, nat_tests))
  where
    by : (t : Bool) → t ≡ true → cond t x y ≡ x
    by true fact = refl
    by false fact = absurd (cc)

pub at_other : {X : Type 0} (d e : ℕ) (x y : X) → (d ≡ e → ⊥) → cond (d == e) x y ≡ y
at_other d e x y other = by (d == e) (λ fact. grind (arith, nat_tests))
  where
    by : (t : Bool) → (t ≡ true → d ≡ e) → cond t x y ≡ y
    by true fact = absurd (other (fact refl))
    by false fact = refl

-- what holds of the new value at its place, and of the old ones elsewhere, holds of each
pub put_each : {X : Type 0} (P : ℕ → X → Type 0) (f : ℕ → X) (c : ℕ) (x : X) → P c x → ((d : ℕ) → (d ≡ c → ⊥) → P d (f d)) → (d : ℕ) → P d (put f c x d)
put_each P f c x here there d = by (d == c) (λ e. grind (arith, nat_tests, e)) (λ e. grind (arith, nat_tests, e))
  where
    by : (t : Bool) → (t ≡ true → d ≡ c) → (t ≡ false → d ≡ c → ⊥) → P d (cond t x (f d))
    by true same other = subst (λ e. P e x) (sym (same refl)) here
    by false same other = there d (other refl)

-- the two outcomes of a test
pub first_of : {X : Type 0} (t : Bool) (x y : X) → t ≡ true → cond t x y ≡ x
first_of true x y fact = refl
first_of false x y fact = absurd (cc)

pub second_of : {X : Type 0} (t : Bool) (x y : X) → t ≡ false → cond t x y ≡ y
second_of true x y fact = absurd (cc)
second_of false x y fact = refl
