-- Exclusive or and products of whole fragments, from those of bytes.
use Rattle.std.proofs.Common.{◌≡◌, ℕ, ◌<◌, zero, suc, List, [], ◌∷◌, length, refl, sym, ◌∙◌, ap, ap₂, arith}
use Rattle.std.proofs.lemmas.List.{length-map}
use Rattle.std.proofs.lemmas.Simd.{length-zip2}
use Rattle.std.proofs.lemmas.Nat.{xor_comm}
use Rattle.std.specs.Int.Bits.{bit_xor, xor_assoc}
use Rattle.std.proofs.lemmas.List.Elements.{All-head, All-tail}
use Rattle.parity_kernel.specs.Bytewise.{xor_of, times}
use Rattle.parity_kernel.specs.Field.{product, inverse_of}
use Rattle.parity_kernel.proofs.Bytes.{xor_undone}
use Rattle.parity_kernel.proofs.Chunks.{zip2_undone}
use Rattle.parity_kernel.proofs.FieldLaws.{linear, additive, undone}
use Rattle.fragment_sums.specs.Sums.{IsBytes, zeros}

pub comm : (xs ys : List ℕ) → xor_of xs ys ≡ xor_of ys xs
comm [] [] = refl
comm [] (y ∷ ys) = refl
comm (x ∷ xs) [] = refl
comm (x ∷ xs) (y ∷ ys) = ap₂ (λ (z : ℕ) (zs : List ℕ). z ∷ zs) (xor_comm x y) (comm xs ys)

pub assoc : (xs ys zs : List ℕ) → xor_of (xor_of xs ys) zs ≡ xor_of xs (xor_of ys zs)
assoc [] ys zs = refl
assoc (x ∷ xs) [] zs = refl
assoc (x ∷ xs) (y ∷ ys) [] = refl
assoc (x ∷ xs) (y ∷ ys) (z ∷ zs) = ap₂ (λ (v : ℕ) (vs : List ℕ). v ∷ vs) (xor_assoc x y z) (assoc xs ys zs)

-- the order in which two are folded in is free
pub swap : (xs ys zs : List ℕ) → xor_of (xor_of xs ys) zs ≡ xor_of (xor_of xs zs) ys
swap xs ys zs = assoc xs ys zs ∙ ap (xor_of xs) (comm ys zs) ∙ sym (assoc xs zs ys)

-- folding the same in again undoes it
pub cancel : (xs ys : List ℕ) → length xs ≡ length ys → xor_of (xor_of xs ys) ys ≡ xs
cancel xs ys long = zip2_undone bit_xor xor_undone xs ys long

pub onto_zeros : (n : ℕ) (xs : List ℕ) → length xs ≡ n → xor_of (zeros n) xs ≡ xs
onto_zeros zero [] long = refl
onto_zeros zero (x ∷ xs) long = absurd (omega arith)
onto_zeros (suc n) [] long = absurd (omega arith)
onto_zeros (suc n) (x ∷ xs) long = ap (λ (zs : List ℕ). x ∷ zs) (onto_zeros n xs (omega arith))

pub length-xor : (xs ys : List ℕ) → length xs ≡ length ys → length (xor_of xs ys) ≡ length xs
length-xor xs ys long = length-zip2 bit_xor xs ys long

pub length-times : (by : ℕ) (xs : List ℕ) → length (times by xs) ≡ length xs
length-times by xs = length-map xs (product by)

-- a product goes through exclusive or
pub times_sum : (by : ℕ) (xs ys : List ℕ) → times by (xor_of xs ys) ≡ xor_of (times by xs) (times by ys)
times_sum by [] ys = refl
times_sum by (x ∷ xs) [] = refl
times_sum by (x ∷ xs) (y ∷ ys) = ap₂ (λ (z : ℕ) (zs : List ℕ). z ∷ zs) (linear by x y) (times_sum by xs ys)

pub times_by_sum : (a b : ℕ) (xs : List ℕ) → times (bit_xor a b) xs ≡ xor_of (times a xs) (times b xs)
times_by_sum a b [] = refl
times_by_sum a b (x ∷ xs) = ap₂ (λ (z : ℕ) (zs : List ℕ). z ∷ zs) (additive a b x) (times_by_sum a b xs)

-- and is undone
pub times_back : (by : ℕ) (xs : List ℕ) → 0 < by → by < 256 → IsBytes xs → times (inverse_of by) (times by xs) ≡ xs
times_back by [] some fits bytes = refl
times_back by (x ∷ xs) some fits bytes =
    ap₂ (λ (z : ℕ) (zs : List ℕ). z ∷ zs) (undone by x some fits (All-head (λ byte. byte < 256) x xs bytes))
    (times_back by xs some fits (All-tail (λ byte. byte < 256) x xs bytes))
