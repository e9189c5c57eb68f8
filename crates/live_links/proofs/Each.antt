-- Lists that change place by place, and ends of rings that stay those of their ring.
use Rattle.std.proofs.Common.{◌≡◌, refl, sym, ap, subst, ◌∙◌, ℕ, List, length, Some, inl, inr, arith}
use Rattle.std.specs.Prelude.{slice_get, slice_set}
use Rattle.std.proofs.lemmas.Option.{slice_get_within}
use Rattle.rtrb.specs.Ring.{IsPair, SameConsumer, SameProducer}
use Rattle.journals.proofs.Gets.{has, one_there, set_cases, set_length}
use Rattle.live_links.specs.Ends.{AtEach, In, Out}

module _ {X : Type 0} where
  -- what is true of each item and itself, where it stands
  pub each_alone : (R : ℕ → X → X → Type 0) (xs : List X) → ((k : ℕ) (x : X) → slice_get xs k ≡ Some x → R k x x) → AtEach R xs xs
  each_alone R xs same = (refl, λ k x y a b. subst (λ z. R k x z) (one_there xs k x y a b) (same k x a))

  pub each_same : (R : ℕ → X → X → Type 0) → ((k : ℕ) (x : X) → R k x x) → (xs : List X) → AtEach R xs xs
  each_same R same xs = each_alone R xs (λ k x at. same k x)

  pub each_then : (R S T : ℕ → X → X → Type 0) → ((k : ℕ) (x y z : X) → R k x y → S k y z → T k x z) → (xs ys zs : List X) → AtEach R xs ys → AtEach S ys zs
      → AtEach T xs zs
  each_then R S T trans xs ys zs a b = (
    b.0 ∙ a.0,
    λ k x z at_x at_z.
        let within = slice_get_within xs k x at_x in
        let first = a.0 in
        let y = has ys k (omega arith) in
        trans k x y.0 z (a.1 k x y.0 at_x y.1) (b.1 k y.0 z y.1 at_z),
  )

  -- one place changed
  pub each_set : (R : ℕ → X → X → Type 0) (xs ys : List X) (i : ℕ) (x y : X) → ((k : ℕ) (z : X) → slice_get xs k ≡ Some z → (i ≡ k → ⊥) → R k z z)
      → slice_get xs i ≡ Some x → ys ≡ slice_set xs i y → R i x y → AtEach R xs ys
  each_set R xs ys i x y same at is r = (
    ap length is ∙ set_length xs i y,
    λ k u v at_u at_v.
        elim (set_cases xs i k y v (sym (ap (λ l. slice_get l k) is) ∙ at_v)) [
          | inl here ↦
              let e : u ≡ x = one_there xs i u x (subst (λ j. slice_get xs j ≡ Some u) here.0 at_u) at in
              subst (λ w. R k u w) (sym here.1) (subst (λ w. R k w y) (sym e) (subst (λ j. R j x y) (sym here.0) r))
          | inr there ↦ subst (λ w. R k u w) (one_there xs k u v at_u there.1) (same k u at_u there.0)
        ],
  )

pub same_out : (o : Out) → SameProducer o o
same_out o = ((refl, refl, refl, refl), refl)

pub out_then : (a b c : Out) → SameProducer a b → SameProducer b c → SameProducer a c
out_then a b c f g = ((g.0.0 ∙ f.0.0, g.0.1 ∙ f.0.1, g.0.2 ∙ f.0.2, g.0.3 ∙ f.0.3), g.1 ∙ f.1)

pub same_in : (c : In) → SameConsumer c c
same_in c = ((refl, refl, refl, refl), refl)

pub in_then : (a b c : In) → SameConsumer a b → SameConsumer b c → SameConsumer a c
in_then a b c f g = ((g.0.0 ∙ f.0.0, g.0.1 ∙ f.0.1, g.0.2 ∙ f.0.2, g.0.3 ∙ f.0.3), g.1 ∙ f.1)

-- the two ends of one ring stay so
pub pair_then : (o p : Out) (c : In) → SameProducer o p → IsPair o c → IsPair p c
pair_then o p c f g = (g.0 ∙ sym f.0.0, g.1 ∙ sym f.0.1, g.2 ∙ sym f.0.2, g.3 ∙ sym f.0.3)

pub pair_after : (o : Out) (c d : In) → IsPair o c → SameConsumer c d → IsPair o d
pair_after o c d g f = (f.0.0 ∙ g.0, f.0.1 ∙ g.1, f.0.2 ∙ g.2, f.0.3 ∙ g.3)
