-- The rule of picking as a fold over the listed names: it finds one of them that no other beats.
use Rattle.std.proofs.Common.{◌≡◌, ℕ, ◌≤◌, List, [], ◌∷◌, ◌⊎◌, inl, inr, refl, sym, ap, subst, arith}
use Rattle.std.proofs.lemmas.Bool.Decides.{nat_tests}
use Rattle.log_protocol.specs.Tables.{In}
use Rattle.log_protocol.specs.PickRule.{better, best}

module _ (seq_of incarnation_of attempt_of : ℕ → ℕ) where
  -- y isn't above x
  pub record NotAbove (y x : ℕ) : Type 0 where
    pub boot : incarnation_of y ≤ incarnation_of x
    pub seq : incarnation_of y ≡ incarnation_of x → seq_of y ≤ seq_of x
    pub attempt : incarnation_of y ≡ incarnation_of x → seq_of y ≡ seq_of x → attempt_of y ≤ attempt_of x

  not_above_left : (x y : ℕ) → NotAbove x (better seq_of incarnation_of attempt_of x y)
  not_above_left x y = grind (arith, nat_tests)

  not_above_right : (x y : ℕ) → NotAbove y (better seq_of incarnation_of attempt_of x y)
  not_above_right x y = grind (arith, nat_tests)

  pub better_one_of : (x y : ℕ) → (better seq_of incarnation_of attempt_of x y ≡ x) ⊎ (better seq_of incarnation_of attempt_of x y ≡ y)
  better_one_of x y = grind (arith, nat_tests)

  not_above_on : (x y z : ℕ) → NotAbove x y → NotAbove y z → NotAbove x z
  not_above_on x y z p q = grind (arith, nat_tests)

  pub best_of_all : (x : ℕ) (ys : List ℕ) (y : ℕ) → (y ≡ x) ⊎ In y ys → NotAbove y (best seq_of incarnation_of attempt_of x ys)
  best_of_all x [] y (inl e) =
      record {
        boot = (let f = ap incarnation_of e in omega arith);
        seq = λ k. (let f = ap seq_of e in omega arith);
        attempt = λ k k1. (let f = ap attempt_of e in omega arith);
      }
  best_of_all x [] y (inr e) = absurd e
  best_of_all x (z ∷ zs) y (inl e) =
      not_above_on y (better seq_of incarnation_of attempt_of x z) (best seq_of incarnation_of attempt_of (better seq_of incarnation_of attempt_of x z) zs)
      (subst (λ u. NotAbove u (better seq_of incarnation_of attempt_of x z)) (sym e) (not_above_left x z))
      (best_of_all (better seq_of incarnation_of attempt_of x z) zs (better seq_of incarnation_of attempt_of x z) (inl refl))
  best_of_all x (z ∷ zs) y (inr (inl e)) =
      not_above_on y (better seq_of incarnation_of attempt_of x z) (best seq_of incarnation_of attempt_of (better seq_of incarnation_of attempt_of x z) zs)
      (subst (λ u. NotAbove u (better seq_of incarnation_of attempt_of x z)) (sym e) (not_above_right x z))
      (best_of_all (better seq_of incarnation_of attempt_of x z) zs (better seq_of incarnation_of attempt_of x z) (inl refl))
  best_of_all x (z ∷ zs) y (inr (inr e)) = best_of_all (better seq_of incarnation_of attempt_of x z) zs y (inr e)
