-- The sums over the fragments of a stripe, and its parity.
use Rattle.std.specs.Prelude.{ℕ, ◌+◌, ◌^◌, ◌<◌, List, [], ◌∷◌, ◌++◌, replicate, All, ◌==◌, if◌then◌else◌}
use Rattle.parity_kernel.specs.Bytewise.{xor_of, times}

-- each number is one that a byte holds
abbrev pub IsBytes : List ℕ → Type 0
IsBytes text = All (λ byte. byte < 256) text

-- so many bytes that are 0
abbrev pub zeros : ℕ → List ℕ
zeros part = replicate part 0

-- what a fragment adds to a parity fragment: itself to the first, and its product by 2 to the power of its place to the second
abbrev pub plain : ℕ → List ℕ → List ℕ
plain place fragment = fragment

abbrev pub weighted : ℕ → List ℕ → List ℕ
weighted place fragment = times (2 ^ place) fragment

-- the exclusive or of a start and of what fragments add, the first of them at this place
abbrev pub sum_onto : (ℕ → List ℕ → List ℕ) → ℕ → List ℕ → List (List ℕ) → List ℕ
sum_onto adds place start [] = start
sum_onto adds place start (f ∷ fs) = sum_onto adds (place + 1) (xor_of start (adds place f)) fs

-- the parity fragments of pieces
abbrev pub parities : ℕ → ℕ → List (List ℕ) → List (List ℕ)
parities parity part fs =
    if parity == 2 then sum_onto plain 0 (zeros part) fs ∷ sum_onto weighted 0 (zeros part) fs ∷ []
    else sum_onto plain 0 (zeros part) fs ∷ []

-- pieces, then their parity
abbrev pub with_parity : ℕ → ℕ → List (List ℕ) → List (List ℕ)
with_parity parity part fs = fs ++ parities parity part fs
