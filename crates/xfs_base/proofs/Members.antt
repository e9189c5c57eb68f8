-- What a list contains, item by item.
use Rattle.std.proofs.Common.{◌≡◌, zero, suc, List, [], ◌∷◌, ◌⊎◌, inl, inr, refl, arith}
use Rattle.std.specs.Prelude.{Contains}

module _ {X : Type 0} where
  pub contains_nothing : (x : X) → Contains [] x → ⊥
  contains_nothing x (k, below, fact) = absurd (omega arith)

  pub contains_first : (x : X) (xs : List X) → Contains (x ∷ xs) x
  contains_first x xs = (0, omega arith, refl)

  pub contains_rest : (y x : X) (xs : List X) → Contains xs x → Contains (y ∷ xs) x
  contains_rest y x xs (k, below, fact) = (suc k, omega arith, fact)

  pub contains_cases : (y x : X) (xs : List X) → Contains (y ∷ xs) x → (y ≡ x) ⊎ Contains xs x
  contains_cases y x xs (zero, below, fact) = inl fact
  contains_cases y x xs (suc k, below, fact) = inr (k, omega arith, fact)
