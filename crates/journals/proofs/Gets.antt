-- What stands at a place of a list.
use Rattle.std.proofs.Common.{◌≡◌, refl, sym, ap, subst, ◌∙◌, ℕ, zero, suc, ◌+◌, ◌<◌, ◌≢◌, Bool, true, false, ◌==◌, ◌||◌, List, [], ◌∷◌, ◌++◌, length, Some, ◌⊎◌, inl, inr, arith}
use Rattle.std.specs.Prelude.{slice_get, slice_set}
use Rattle.std.specs.List.{Contains, list_any}
use Rattle.std.proofs.lemmas.Bool.Decides.{nat_tests}
use Rattle.std.proofs.lemmas.Option.{get_or_from_slice_get, slice_get_within, slice_get-get_or, same_Some}
use Rattle.std.proofs.lemmas.List.Elements.{Contains-append_right}
use Rattle.std.proofs.lemmas.List.Folds.{list_any_at}

-- two numbers are equal or not
decided : (a b : ℕ) (t : Bool) → (a == b) ≡ t → (a ≡ b) ⊎ (a ≢ b)
decided a b true e = inl (grind (arith, nat_tests))
decided a b false e = inr (λ same. grind (arith, nat_tests))

pub same_or_not : (a b : ℕ) → (a ≡ b) ⊎ (a ≢ b)
same_or_not a b = decided a b (a == b) refl

module _ {X : Type 0} where
  -- what is within has an item
  pub has : (xs : List X) (k : ℕ) → k < length xs → (x : X) × (slice_get xs k ≡ Some x)
  has [] k below = absurd (omega arith)
  has (x ∷ xs) zero below = (x, refl)
  has (x ∷ xs) (suc k) below = has xs k (omega arith)

  pub one_there : (xs : List X) (k : ℕ) (x y : X) → slice_get xs k ≡ Some x → slice_get xs k ≡ Some y → x ≡ y
  one_there xs k x y a b = same_Some x y (sym a ∙ b)

  pub set_same : (xs : List X) (k : ℕ) (x y : X) → slice_get xs k ≡ Some x → slice_get (slice_set xs k y) k ≡ Some y
  set_same [] k x y got = cc
  set_same (z ∷ xs) zero x y got = refl
  set_same (z ∷ xs) (suc k) x y got = set_same xs k x y got

  pub set_other : (xs : List X) (i k : ℕ) (y : X) → i ≢ k → slice_get (slice_set xs i y) k ≡ slice_get xs k
  set_other [] i k y apart = refl
  set_other (z ∷ xs) zero zero y apart = absurd (apart refl)
  set_other (z ∷ xs) zero (suc k) y apart = refl
  set_other (z ∷ xs) (suc i) zero y apart = refl
  set_other (z ∷ xs) (suc i) (suc k) y apart = set_other xs i k y (λ e. apart (ap suc e))

  pub set_length : (xs : List X) (i : ℕ) (y : X) → length (slice_set xs i y) ≡ length xs
  set_length [] i y = refl
  set_length (z ∷ xs) zero y = refl
  set_length (z ∷ xs) (suc i) y = ap suc (set_length xs i y)

  -- what stands at a place after another was put in somewhere
  pub set_cases : (xs : List X) (i k : ℕ) (y z : X) → slice_get (slice_set xs i y) k ≡ Some z
      → ((k ≡ i) × (z ≡ y)) ⊎ ((i ≢ k) × (slice_get xs k ≡ Some z))
  set_cases xs i k y z got =
      elim (same_or_not i k) [
        | inl same ↦
            let within : k < length (slice_set xs i y) = slice_get_within (slice_set xs i y) k z got in
            let old = has xs k (omega (arith, set_length xs i y)) in
            inl (sym same, one_there (slice_set xs k y) k z y (subst (λ j. slice_get (slice_set xs j y) k ≡ Some z) same got) (set_same xs k old.0 y old.1))
        | inr apart ↦ inr (apart, sym (set_other xs i k y apart) ∙ got)
      ]

  -- what is contained stands at a place
  pub place_of : (xs : List X) (x : X) → Contains xs x → (k : ℕ) × (slice_get xs k ≡ Some x)
  place_of xs x found = (found.0, slice_get-get_or xs found.0 x found.1 ∙ ap Some found.2)

  -- in front of more it stands there too, and behind
  pub get_left : (xs ys : List X) (k : ℕ) (x : X) → slice_get xs k ≡ Some x → slice_get (xs ++ ys) k ≡ Some x
  get_left [] ys k x got = cc
  get_left (z ∷ xs) ys zero x got = got
  get_left (z ∷ xs) ys (suc k) x got = get_left xs ys k x got

  pub get_right : (xs ys : List X) (k : ℕ) (x : X) → slice_get ys k ≡ Some x → slice_get (xs ++ ys) (length xs + k) ≡ Some x
  get_right [] ys k x got = let e : k ≡ 0 + k = omega arith in subst (λ j. slice_get ys j ≡ Some x) e got
  get_right (z ∷ xs) ys k x got =
      let e : suc (length xs + k) ≡ suc (length xs) + k = omega arith in
      subst (λ j. slice_get (z ∷ (xs ++ ys)) j ≡ Some x) e (get_right xs ys k x got)

  -- where one more stands at the end
  pub get_snoc : (xs : List X) (y z : X) (k : ℕ) → slice_get (xs ++ y ∷ []) k ≡ Some z → (slice_get xs k ≡ Some z) ⊎ ((k ≡ length xs) × (y ≡ z))
  get_snoc [] y z zero got = inr (refl, same_Some y z got)
  get_snoc [] y z (suc k) got = absurd (cc)
  get_snoc (x ∷ xs) y z zero got = inl got
  get_snoc (x ∷ xs) y z (suc k) got =
      elim (get_snoc xs y z k got) [
        | inl there ↦ inl there
        | inr end ↦ let e = end.0 in inr (omega arith, end.1)
      ]

  pub get_front : (xs : List X) (y x : X) (k : ℕ) → slice_get xs k ≡ Some x → slice_get (xs ++ y ∷ []) k ≡ Some x
  get_front xs y x k got = get_left xs (y ∷ []) k x got

  pub get_end : (xs : List X) (y : X) (k : ℕ) → k ≡ length xs → slice_get (xs ++ y ∷ []) k ≡ Some y
  get_end [] y zero is = refl
  get_end [] y (suc k) is = absurd (omega arith)
  get_end (z ∷ xs) y zero is = absurd (omega arith)
  get_end (z ∷ xs) y (suc k) is = get_end xs y k (omega arith)

  -- what stands at a place is contained
  pub contains_at : (xs : List X) (k : ℕ) (x : X) → slice_get xs k ≡ Some x → Contains xs x
  contains_at xs k x at = (k, slice_get_within xs k x at, get_or_from_slice_get xs k x x at)

  -- a list of no items contains none
  pub none_in : (xs : List X) (x : X) → length xs ≡ 0 → Contains xs x → ⊥
  none_in xs x none found = let h = found.1 in omega arith

-- a number below the next one
pub below_or_at : (k n : ℕ) → k < n + 1 → (k < n) ⊎ (k ≡ n)
below_or_at k n lt =
    elim (same_or_not k n) [
      | inl same ↦ inr same
      | inr apart ↦ inl (omega arith)
    ]

first_has : {X : Type 0} (test : X → Bool) (x : X) (xs : List X) (t : Bool) → test x ≡ t → (list_any test xs ≡ true → (y : X) × Contains xs y × (test y ≡ true))
    → (t || list_any test xs) ≡ true → (y : X) × Contains (x ∷ xs) y × (test y ≡ true)
first_has test x xs true is later e = (x, (0, omega arith, refl), is)
first_has test x xs false is later e = let rest = later e in (rest.0, Contains-append_right (x ∷ []) xs rest.0 rest.1, rest.2)

-- what passes a test is found, and what is found passes it
pub any_has : {X : Type 0} (test : X → Bool) (xs : List X) → list_any test xs ≡ true → (x : X) × Contains xs x × (test x ≡ true)
any_has test [] e = absurd (cc)
any_has test (x ∷ xs) e = first_has test x xs (test x) refl (any_has test xs) e

pub has_any : {X : Type 0} (test : X → Bool) (xs : List X) (x : X) → Contains xs x → test x ≡ true → list_any test xs ≡ true
has_any test xs x found is = list_any_at test xs found.0 x found.1 (ap test found.2 ∙ is)
