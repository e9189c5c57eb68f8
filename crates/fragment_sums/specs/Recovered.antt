-- The pieces that are missing of a stripe, from its parity and those that are there.
use Rattle.std.specs.Prelude.{◌≡◌, ℕ, zero, suc, ◌+◌, ◌^◌, ◌<◌, ◌≤◌, List, [], ◌∷◌, length, take, Option, Some, None, All, IfSome, bit_xor}
use Rattle.parity_kernel.specs.Bytewise.{xor_of, times}
use Rattle.parity_kernel.specs.Field.{inverse_of}
use Rattle.fragment_sums.specs.Sums.{IsBytes, plain, weighted, with_parity}

-- each that is there has this length
abbrev pub HasLengths : ℕ → List (Option (List ℕ)) → Type 0
HasLengths part parts = All (λ p. IfSome p (λ f. length f ≡ part)) parts

-- each that is there is the stripe's at its place
abbrev pub AreOf : List (Option (List ℕ)) → List (List ℕ) → Type 0
AreOf [] [] = Unit {0}
AreOf [] (f ∷ fs) = ⊥
AreOf (p ∷ ps) [] = ⊥
AreOf (p ∷ ps) (f ∷ fs) = IfSome p (λ g. g ≡ f) × AreOf ps fs

-- the places at which nothing is, the first of the list at this place
abbrev pub missing_from : ℕ → List (Option (List ℕ)) → List ℕ
missing_from place [] = []
missing_from place (None ∷ ps) = place ∷ missing_from (place + 1) ps
missing_from place (Some f ∷ ps) = missing_from (place + 1) ps

-- each of them is a place below a limit, and above the one before it
abbrev pub AreRising : ℕ → ℕ → List ℕ → Type 0
AreRising low high [] = Unit {0}
AreRising low high (a ∷ rest) = (low ≤ a) × (a < high) × AreRising (a + 1) high rest

-- the fragment at a place, where it is there
abbrev pub part_at : List (Option (List ℕ)) → ℕ → Option (List ℕ)
part_at [] place = None
part_at (p ∷ ps) zero = p
part_at (p ∷ ps) (suc place) = part_at ps place

-- the exclusive or of a start and of what those add that are there: of a parity fragment, what the missing ones added to it
abbrev pub rest_onto : (ℕ → List ℕ → List ℕ) → ℕ → List ℕ → List (Option (List ℕ)) → List ℕ
rest_onto adds place start [] = start
rest_onto adds place start (None ∷ ps) = rest_onto adds (place + 1) start ps
rest_onto adds place start (Some f ∷ ps) = rest_onto adds (place + 1) (xor_of start (adds place f)) ps

-- The piece at a place that alone is missing, from the first parity fragment, or else from the second.
abbrev pub one_gone : List (Option (List ℕ)) → ℕ → Option (List ℕ) → Option (List ℕ) → List ℕ
one_gone known a (Some p) q = rest_onto plain 0 p known
one_gone known a None (Some q) = times (inverse_of (2 ^ a)) (rest_onto weighted 0 q known)
one_gone known a None None = []

-- Of the two pieces x and y that are missing at the places a and b: where x + y and 2^a x + 2^b y are known, x.
abbrev pub lower_of : ℕ → ℕ → List ℕ → List ℕ → List ℕ
lower_of a b sum weighted_sum = times (inverse_of (bit_xor (2 ^ a) (2 ^ b))) (xor_of weighted_sum (times (2 ^ b) sum))

-- both of them: the upper is what the sum leaves beside the lower
abbrev pub both_of : ℕ → ℕ → List ℕ → List ℕ → List (List ℕ)
both_of a b sum weighted_sum = lower_of a b sum weighted_sum ∷ xor_of sum (lower_of a b sum weighted_sum) ∷ []

-- the two pieces that are missing at the places a and b, where both parity fragments are there
abbrev pub two_gone : List (Option (List ℕ)) → ℕ → ℕ → Option (List ℕ) → Option (List ℕ) → List (List ℕ)
two_gone known a b (Some p) (Some q) = both_of a b (rest_onto plain 0 p known) (rest_onto weighted 0 q known)
two_gone known a b (Some p) None = [] ∷ [] ∷ []
two_gone known a b None q = [] ∷ [] ∷ []

-- the pieces at these places, which are missing, where the parity fragments are these
abbrev pub recovered_at : List ℕ → List (Option (List ℕ)) → Option (List ℕ) → Option (List ℕ) → List (List ℕ)
recovered_at [] known p q = []
recovered_at (a ∷ []) known p q = one_gone known a p q ∷ []
recovered_at (a ∷ b ∷ []) known p q = two_gone known a b p q
recovered_at (a ∷ b ∷ c ∷ rest) known p q = []

-- the pieces that are missing of the first so many, behind which the parity fragments stand
abbrev pub recovered : List (Option (List ℕ)) → ℕ → List (List ℕ)
recovered parts count = recovered_at (missing_from 0 (take count parts)) (take count parts) (part_at parts count) (part_at parts (count + 1))

-- the pieces, those that are missing taken from another list in order
abbrev pub filled : List (Option (List ℕ)) → List (List ℕ) → List (List ℕ)
filled [] found = []
filled (Some f ∷ ps) found = f ∷ filled ps found
filled (None ∷ ps) [] = filled ps []
filled (None ∷ ps) (f ∷ found) = f ∷ filled ps found

-- Of a stripe the fragments of which these are, so many pieces and then one or two parity fragments: where no more are missing than these make good, the
-- pieces that are found are those that are missing.
abbrev pub GivesBack : ℕ → List (Option (List ℕ)) → ℕ → List (List ℕ) → Type 0
GivesBack part parts count found =
    (parity : ℕ) (pieces : List (List ℕ)) → 1 ≤ parity → parity ≤ 2 → length pieces ≡ count → All (λ f. length f ≡ part) pieces → All IsBytes pieces
    → AreOf parts (with_parity parity part pieces) → length (missing_from 0 parts) ≤ parity → filled (take count parts) found ≡ pieces
