-- What stands in a list, and at which place.
use Rattle.std.proofs.Common.{◌≡◌, refl, sym, ap, subst, ◌∙◌, ℕ, zero, suc, ◌<◌, ◌≢◌, Bool, true, false, ◌==◌, List, [], ◌∷◌, ◌++◌, length, Some, ◌⊎◌, inl, inr, arith}
use Rattle.std.specs.Prelude.{slice_get, slice_set}
use Rattle.std.proofs.lemmas.Bool.Decides.{nat_tests}
use Rattle.std.proofs.lemmas.Option.{same_Some}

-- two numbers are equal or not
decided : (a b : ℕ) (t : Bool) → (a == b) ≡ t → (a ≡ b) ⊎ (a ≢ b)
decided a b true e = inl (grind (arith, nat_tests))
decided a b false e = inr (λ same. grind (arith, nat_tests))

module _ {X : Type 0} where
  has : (xs : List X) (k : ℕ) → k < length xs → (x : X) × (slice_get xs k ≡ Some x)
  has [] k below = absurd (omega arith)
  has (x ∷ xs) zero below = (x, refl)
  has (x ∷ xs) (suc k) below = has xs k (omega arith)

  set_same : (xs : List X) (k : ℕ) (x y : X) → slice_get xs k ≡ Some x → slice_get (slice_set xs k y) k ≡ Some y
  set_same [] k x y got = cc
  set_same (z ∷ xs) zero x y got = refl
  set_same (z ∷ xs) (suc k) x y got = set_same xs k x y got

  set_other : (xs : List X) (i k : ℕ) (y : X) → i ≢ k → slice_get (slice_set xs i y) k ≡ slice_get xs k
  set_other [] i k y apart = refl
  set_other (z ∷ xs) zero zero y apart = absurd (apart refl)
  set_other (z ∷ xs) zero (suc k) y apart = refl
  set_other (z ∷ xs) (suc i) zero y apart = refl
  set_other (z ∷ xs) (suc i) (suc k) y apart = set_other xs i k y (λ e. apart (ap suc e))

  -- another item was put at a place
  pub set_there : (xs : List X) (i : ℕ) (x y : X) → slice_get xs i ≡ Some x → slice_get (slice_set xs i y) i ≡ Some y
  set_there xs i x y got = set_same xs i x y got

  pub set_elsewhere : (xs : List X) (i k : ℕ) (x y : X) → i ≢ k → slice_get xs k ≡ Some x → slice_get (slice_set xs i y) k ≡ Some x
  set_elsewhere xs i k x y apart got = set_other xs i k y apart ∙ got

  -- what stands at a place then
  pub set_cases : (xs : List X) (i k : ℕ) (x y z : X) → slice_get xs i ≡ Some x → slice_get (slice_set xs i y) k ≡ Some z
      → ((i ≡ k) × (y ≡ z)) ⊎ ((i ≢ k) × (slice_get xs k ≡ Some z))
  set_cases xs i k x y z there got =
      elim (decided i k (i == k) refl) [
        | inl same ↦ inl (same, same_Some y z (sym (subst (λ j. slice_get (slice_set xs i y) j ≡ Some y) same (set_same xs i x y there)) ∙ got))
        | inr apart ↦ inr (apart, sym (set_other xs i k y apart) ∙ got)
      ]

  -- ---- it stands somewhere

  abbrev pub Stands : List X → X → Type 0
  Stands xs x = (k : ℕ) × (slice_get xs k ≡ Some x)

  -- in the empty list nothing does
  pub nowhere : {A : Type 0} (x : X) → Stands [] x → A
  nowhere x at = let got = at.1 in absurd (cc)

  get_left : (xs ys : List X) (k : ℕ) (x : X) → slice_get xs k ≡ Some x → slice_get (xs ++ ys) k ≡ Some x
  get_left [] ys k x got = cc
  get_left (z ∷ xs) ys zero x got = got
  get_left (z ∷ xs) ys (suc k) x got = get_left xs ys k x got

  pub stands_left : (xs ys : List X) (x : X) → Stands xs x → Stands (xs ++ ys) x
  stands_left xs ys x at = (at.0, get_left xs ys at.0 x at.1)

  later : (z : X) (xs : List X) (x : X) → Stands xs x → Stands (z ∷ xs) x
  later z xs x at = (suc at.0, at.1)

  pub stands_right : (xs ys : List X) (x : X) → Stands ys x → Stands (xs ++ ys) x
  stands_right [] ys x at = at
  stands_right (z ∷ xs) ys x at = later z (xs ++ ys) x (stands_right xs ys x at)

  either : (xs ys : List X) (k : ℕ) (x : X) → slice_get (xs ++ ys) k ≡ Some x → Stands xs x ⊎ Stands ys x
  either [] ys k x got = inr (k, got)
  either (z ∷ xs) ys zero x got = inl (zero, got)
  either (z ∷ xs) ys (suc k) x got =
      elim (either xs ys k x got) [
        | inl there ↦ inl (later z xs x there)
        | inr there ↦ inr there
      ]

  pub stands_either : (xs ys : List X) (x : X) → Stands (xs ++ ys) x → Stands xs x ⊎ Stands ys x
  stands_either xs ys x at = either xs ys at.0 x at.1
