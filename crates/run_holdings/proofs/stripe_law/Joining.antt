-- Of a stripe of which no more is missing than its parity makes good the text is joined back, and it decodes to the segment.
use Rattle.std.proofs.Common.{◌≡◌, ℕ, zero, suc, ◌+◌, ◌-◌, ◌≤◌, ◌==◌, List, [], ◌∷◌, Option, None, Some, length, refl, ap, ◌∙◌, arith}
use Rattle.std.specs.Prelude.{All, IfSome}
use Rattle.std.proofs.lemmas.List.{length-append, length-replicate}
use Rattle.std.proofs.lemmas.List.Elements.{All-append, All-cons, All-head, All-nil, All-tail}
use Rattle.fragment_sums.proofs.Gone.{length-sum_onto, plain_keeps, weighted_keeps}
use Rattle.fragment_sums.specs.Sums.{parities, plain, sum_onto, weighted, zeros}
use Rattle.stripe_code.proofs.Pieces.{length-cut_pieces, pieces_long}
use Rattle.stripe_code.specs.Joined.{AreOf, HasLengths, too_many}
use Rattle.stripe_code.specs.Stripe.{IsCut, part_len, cut_pieces, stripe_of}
use Rattle.xfs_base.proofs.Booleans.{by_test}

-- ---- the stripe of a text

module _ (text : List ℕ) (n parity : ℕ) where
  abbrev part : ℕ
  part = part_len (length text) (n - parity)

  abbrev its : List (List ℕ)
  its = cut_pieces (n - parity) part text

  abbrev Long : List ℕ → Type 0
  Long f = length f ≡ part

  -- it has as many fragments as there are members
  pub length_stripe : IsCut n parity → length (stripe_of text n parity) ≡ n
  unfolding stripe_of
  length_stripe cut = length-append its (parities parity part its) ∙ by parity cut refl
    where
      count : length its ≡ n - parity
      count = length-cut_pieces (n - parity) part text

      by : (p : ℕ) → IsCut n p → parity ≡ p → length its + length (parities p part its) ≡ n
      by zero c same = absurd (let a = c.some in omega arith)
      by (suc zero) c same = (let a = count in let b = c.least in omega arith)
      by (suc (suc zero)) c same = (let a = count in let b = c.least in omega arith)
      by (suc (suc (suc p))) c same = absurd (let a = c.few in omega arith)

  -- each of which is as long as any
  pub stripe_long : All Long (stripe_of text n parity)
  unfolding stripe_of
  stripe_long =
      All-append Long its (parities parity part its) all
      (by_test (All Long) (parity == 2) (first ∷ second ∷ []) (first ∷ [])
      (λ t. All-cons Long first (second ∷ []) first_long (All-cons Long second [] second_long (All-nil Long)))
      (λ t. All-cons Long first [] first_long (All-nil Long)))
    where
      first : List ℕ
      first = sum_onto plain 0 (zeros part) its

      second : List ℕ
      second = sum_onto weighted 0 (zeros part) its

      all : All Long its
      all = pieces_long (n - parity) part text

      first_long : Long first
      first_long = length-sum_onto plain plain_keeps part 0 (zeros part) its (length-replicate part 0) all

      second_long : Long second
      second_long = length-sum_onto weighted weighted_keeps part 0 (zeros part) its (length-replicate part 0) all

-- ---- what is there of it

-- what is there of a stripe is as long as its fragments are
pub long_at : (size : ℕ) (ps : List (Option (List ℕ))) (ds : List (List ℕ)) → AreOf ps ds → All (λ f. length f ≡ size) ds → HasLengths size ps
long_at size [] ds are long = All-nil (λ (p : Option (List ℕ)). IfSome p (λ f. length f ≡ size))
long_at size (p ∷ ps) [] are long = absurd are
long_at size (p ∷ ps) (d ∷ ds) are long =
    All-cons (λ (p : Option (List ℕ)). IfSome p (λ f. length f ≡ size)) p ps (here p are.0)
    (long_at size ps ds are.1 (All-tail (λ (f : List ℕ). length f ≡ size) d ds long))
  where
    here : (o : Option (List ℕ)) → IfSome o (λ g. g ≡ d) → IfSome o (λ f. length f ≡ size)
    here None fact = tt
    here (Some g) fact = ap length fact ∙ All-head (λ (f : List ℕ). length f ≡ size) d ds long

-- where no more are missing than the parity makes good, nothing is refused
pub none_in_excess : (parity : ℕ) → 1 ≤ parity → parity ≤ 2 → (gone : List ℕ) → length gone ≤ parity → too_many parity gone ≡ None
none_in_excess zero some limit gone few = absurd (omega arith)
none_in_excess (suc zero) some limit [] few = refl
none_in_excess (suc zero) some limit (a ∷ []) few = refl
none_in_excess (suc zero) some limit (a ∷ b ∷ rest) few = absurd (omega arith)
none_in_excess (suc (suc zero)) some limit [] few = refl
none_in_excess (suc (suc zero)) some limit (a ∷ []) few = refl
none_in_excess (suc (suc zero)) some limit (a ∷ b ∷ []) few = refl
none_in_excess (suc (suc zero)) some limit (a ∷ b ∷ c ∷ rest) few = absurd (omega arith)
none_in_excess (suc (suc (suc n))) some limit gone few = absurd (omega arith)
