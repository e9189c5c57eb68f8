-- What a round has of a stripe: as many fragments as there are members, each at its place, or none.
use Rattle.std.proofs.Common.{◌≡◌, ℕ, zero, suc, ◌+◌, ◌-◌, is_some, List, [], ◌∷◌, map, Option, None, length, refl, ap, ◌∙◌, arith}
use Rattle.std.specs.Prelude.{IfSome, count_by}
use Rattle.std.specs.List.{range_with_len}
use Rattle.std.proofs.lemmas.List.{length-append}
use Rattle.stripe_code.specs.Fragments.{fragment_at}
use Rattle.stripe_code.specs.Joined.{AreOf}
use Rattle.stripe_code.specs.Stripe.{IsCut, part_len, cut_pieces, stripe_of}
use Rattle.stripe_code.proofs.Pieces.{length-cut_pieces}

-- a stripe has as many fragments as there are members
pub length_stripe : (text : List ℕ) (n parity : ℕ) → IsCut n parity → length (stripe_of text n parity) ≡ n
unfolding stripe_of
length_stripe text n zero cut = absurd (let a = cut.some in omega arith)
length_stripe text n (suc zero) cut =
    length-append (cut_pieces (n - 1) (part_len (length text) (n - 1)) text) _
    ∙ (let a = length-cut_pieces (n - 1) (part_len (length text) (n - 1)) text in let b = cut.least in omega arith)
length_stripe text n (suc (suc zero)) cut =
    length-append (cut_pieces (n - 2) (part_len (length text) (n - 2)) text) _
    ∙ (let a = length-cut_pieces (n - 2) (part_len (length text) (n - 2)) text in let b = cut.least in omega arith)
length_stripe text n (suc (suc (suc p))) cut = absurd (let a = cut.few in omega arith)

-- each that is there is the stripe's at its place
pub are_of : (ds : List (List ℕ)) (from : ℕ) (f : ℕ → Option (List ℕ)) → ((i k : ℕ) → k ≡ from + i → IfSome (f k) (λ bs. bs ≡ fragment_at ds i))
    → AreOf (map f (range_with_len from (length ds))) ds
are_of [] from f all = tt
are_of (d ∷ ds) from f all = (all 0 from (omega arith), are_of ds (from + 1) f (λ i k e. all (suc i) k (omega arith)))

-- where there are none, none are counted
pub none_counted : (f : ℕ → Option (List ℕ)) → ((i : ℕ) → f i ≡ None) → (from n : ℕ) → count_by is_some (map f (range_with_len from n)) ≡ 0
none_counted f none from zero = refl
none_counted f none from (suc n) = ap (λ o. count_by is_some (o ∷ map f (range_with_len (from + 1) n))) (none from) ∙ none_counted f none (from + 1) n
