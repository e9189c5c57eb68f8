-- What a test says of its parts, and proofs by the two outcomes of a test.
use Rattle.std.proofs.Common.{◌≡◌, ◌==◌, ℕ, Bool, T, true, false, cond, ◌&&◌, ◌||◌, not, refl, sym, subst}
use Rattle.std.proofs.lemmas.Bool.{eq-eqb}

-- a test has one outcome
pub contrary : {A : Type 0} → false ≡ true → A
contrary h = absurd (subst T (sym h) tt)

-- what holds of both outcomes of a test holds of what it chooses
pub by_test : {A : Type 0} (P : A → Type 0) (t : Bool) (x y : A) → (t ≡ true → P x) → (t ≡ false → P y) → P (cond t x y)
by_test P true x y f g = f refl
by_test P false x y f g = g refl

pub and_first : (a b : Bool) → (a && b) ≡ true → a ≡ true
and_first true b h = refl
and_first false b h = h

pub and_second : (a b : Bool) → (a && b) ≡ true → b ≡ true
and_second true b h = h
and_second false b h = contrary h

pub not_true : (a : Bool) → not a ≡ true → a ≡ false
not_true true h = contrary h
not_true false h = refl

pub or_first : (a b : Bool) → a ≡ true → (a || b) ≡ true
or_first true b h = refl
or_first false b h = contrary h

pub or_second : (a b : Bool) → b ≡ true → (a || b) ≡ true
or_second true b h = refl
or_second false b h = h

pub equal_itself : (n : ℕ) → (n == n) ≡ true
equal_itself n = eq-eqb n n refl
