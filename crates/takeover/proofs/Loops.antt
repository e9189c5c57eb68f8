-- One step of a loop that counts up.
use Rattle.std.proofs.Common.{◌≡◌, ℕ, suc, ◌+◌, ◌-◌, ◌<◌, List, [], ◌∷◌, ◌++◌, map, sym, ap, ◌∙◌, append_assoc, arith}
use Rattle.std.specs.List.{flat_map, range_with_len}

module _ {X : Type 0} where
  -- the number that comes, and those after it
  pub map_step : (f : ℕ → X) (front more : List X) (i n : ℕ) → i < n → more ≡ front ++ f i ∷ []
      → more ++ map f (range_with_len (i + 1) (n - (i + 1))) ≡ front ++ map f (range_with_len i (n - i))
  map_step f front more i n lt e =
      let k : n - i ≡ suc (n - (i + 1)) = omega arith in
      let rest = map f (range_with_len (i + 1) (n - (i + 1))) in
      ap (λ xs. xs ++ rest) e ∙ append_assoc front (f i ∷ []) rest ∙ sym (ap (λ m. front ++ map f (range_with_len i m)) k)

  pub flat_step : (f : ℕ → List X) (front more : List X) (i n : ℕ) → i < n → more ≡ front ++ f i
      → more ++ flat_map f (range_with_len (i + 1) (n - (i + 1))) ≡ front ++ flat_map f (range_with_len i (n - i))
  flat_step f front more i n lt e =
      let k : n - i ≡ suc (n - (i + 1)) = omega arith in
      let rest = flat_map f (range_with_len (i + 1) (n - (i + 1))) in
      ap (λ xs. xs ++ rest) e ∙ append_assoc front (f i) rest ∙ sym (ap (λ m. front ++ flat_map f (range_with_len i m)) k)
