-- The laws of the field. That a product is linear follows from the bits; what is said of inverses is
-- computed at each byte and each of the eight powers of two, whose sums all bytes are.
use Rattle.std.proofs.Common.{◌≡◌, ℕ, ◌+◌, ◌*◌, ◌/◌, ◌%◌, ◌<◌, ◌≤◌, zero, suc, Bool, true, false, ◌&&◌, eqb, ◌⊎◌, inl, inr, refl, sym, ◌∙◌, ap, ap₂, subst, arith}
use Rattle.std.proofs.lemmas.Bool.{cases_lt, eqb-true}
use Rattle.std.proofs.lemmas.Nat.{xor_comm, xor_mod, xor_shr, xor_block}
use Rattle.std.specs.Int.Bits.{bit_xor, xor_assoc, xor_self, xor_zero_r}
use Rattle.std.specs.List.{list_all, range_with_len}
use Rattle.parity_kernel.specs.Field.{doubled, product, product_of, inverse_of, times_squares, IsLinear, IsAdditive, HasInverses}

-- ---- sums

pub swapped : (a b c d : ℕ) → bit_xor (bit_xor a b) (bit_xor c d) ≡ bit_xor (bit_xor a c) (bit_xor b d)
swapped a b c d =
    xor_assoc a b (bit_xor c d) ∙ ap (λ (x : ℕ). bit_xor a x) (sym (xor_assoc b c d) ∙ ap (λ (x : ℕ). bit_xor x d) (xor_comm b c) ∙ xor_assoc c b d)
    ∙ sym (xor_assoc a c (bit_xor b d))

a_bit : (n : ℕ) → (n % 2 ≡ 0) ⊎ (n % 2 ≡ 1)
a_bit n = grind arith

-- ---- products are linear

twice_of_sum : (x y : ℕ) → 2 * bit_xor x y % 256 ≡ bit_xor (2 * x % 256) (2 * y % 256)
twice_of_sum x y =
    let e : bit_xor (x * 2 + 0) (y * 2 + 0) ≡ bit_xor x y * 2 + 0 = xor_block 1 x y 0 0 (omega arith) (omega arith) in
    let two : (z : ℕ) → z * 2 + 0 ≡ 2 * z = λ z. omega arith in
    ap (λ (z : ℕ). z % 256) (sym (two (bit_xor x y)) ∙ sym e ∙ ap₂ bit_xor (two x) (two y)) ∙ xor_mod (2 * x) (2 * y) 8

top_of_sum : (x y : ℕ) → bit_xor x y / 128 % 2 ≡ bit_xor (x / 128 % 2) (y / 128 % 2)
top_of_sum x y = ap (λ (z : ℕ). z % 2) (xor_shr x y 7) ∙ xor_mod (x / 128) (y / 128) 1

rest_of_sum : (m n : ℕ) → 0x1D * bit_xor (m % 2) (n % 2) ≡ bit_xor (0x1D * (m % 2)) (0x1D * (n % 2))
rest_of_sum m n =
    let at : (p q : ℕ) → (p ≡ 0) ⊎ (p ≡ 1) → (q ≡ 0) ⊎ (q ≡ 1) → 0x1D * bit_xor p q ≡ bit_xor (0x1D * p) (0x1D * q) =
    λ p q a b. elim a [
      | inl e ↦ elim b [ inl f ↦ rw (e, f) | inr f ↦ rw (e, f) ]
      | inr e ↦ elim b [ inl f ↦ rw (e, f) | inr f ↦ rw (e, f) ]
    ] in
    at (m % 2) (n % 2) (a_bit m) (a_bit n)

doubled_sum : (x y : ℕ) → doubled (bit_xor x y) ≡ bit_xor (doubled x) (doubled y)
doubled_sum x y =
    ap₂ bit_xor (twice_of_sum x y) (ap (λ (z : ℕ). 0x1D * z) (top_of_sum x y) ∙ rest_of_sum (x / 128) (y / 128))
    ∙ swapped (2 * x % 256) (2 * y % 256) (0x1D * (x / 128 % 2)) (0x1D * (y / 128 % 2))

bit_of_sum : (n x y : ℕ) → n % 2 * bit_xor x y ≡ bit_xor (n % 2 * x) (n % 2 * y)
bit_of_sum n x y =
    let none : (z : ℕ) → 0 * z ≡ 0 = λ z. omega arith in
    let once : (z : ℕ) → 1 * z ≡ z = λ z. omega arith in
    let at : (p : ℕ) → (p ≡ 0) ⊎ (p ≡ 1) → p * bit_xor x y ≡ bit_xor (p * x) (p * y) = λ p a. elim a [
      | inl e ↦ rw e (none (bit_xor x y) ∙ sym (ap₂ bit_xor (none x) (none y)))
      | inr e ↦ rw e (once (bit_xor x y) ∙ sym (ap₂ bit_xor (once x) (once y)))
    ] in
    at (n % 2) (a_bit n)

product_of_sum : (bits by x y : ℕ) → product_of bits by (bit_xor x y) ≡ bit_xor (product_of bits by x) (product_of bits by y)
unfolding product_of
product_of_sum zero by x y = refl
product_of_sum (suc bits) by x y =
    ap₂ bit_xor (bit_of_sum by x y) (ap (product_of bits (by / 2)) (doubled_sum x y) ∙ product_of_sum bits (by / 2) (doubled x) (doubled y))
    ∙ swapped (by % 2 * x) (by % 2 * y) (product_of bits (by / 2) (doubled x)) (product_of bits (by / 2) (doubled y))

pub linear : IsLinear
unfolding product
linear by x y = product_of_sum 8 by x y

sum_of_bits : (a b x : ℕ) → bit_xor a b % 2 * x ≡ bit_xor (a % 2 * x) (b % 2 * x)
sum_of_bits a b x =
    let none : (z : ℕ) → 0 * z ≡ 0 = λ z. omega arith in
    let once : (z : ℕ) → 1 * z ≡ z = λ z. omega arith in
    let at : (p q : ℕ) → (p ≡ 0) ⊎ (p ≡ 1) → (q ≡ 0) ⊎ (q ≡ 1) → bit_xor p q * x ≡ bit_xor (p * x) (q * x) = λ p q c d. elim c [
      | inl e ↦ elim d [
        | inl f ↦ rw (e, f) (none x ∙ sym (ap₂ bit_xor (none x) (none x)))
        | inr f ↦ rw (e, f) (sym (ap (λ (z : ℕ). bit_xor z (1 * x)) (none x)))
      ]
      | inr e ↦ elim d [
        | inl f ↦ rw (e, f) (sym (ap (λ (z : ℕ). bit_xor (1 * x) z) (none x) ∙ xor_zero_r (1 * x)))
        | inr f ↦ rw (e, f) (none x ∙ sym (xor_self (1 * x)))
      ]
    ] in
    ap (λ (z : ℕ). z * x) (xor_mod a b 1) ∙ at (a % 2) (b % 2) (a_bit a) (a_bit b)

product_by_sum : (bits a b x : ℕ) → product_of bits (bit_xor a b) x ≡ bit_xor (product_of bits a x) (product_of bits b x)
unfolding product_of
product_by_sum zero a b x = refl
product_by_sum (suc bits) a b x =
    ap₂ bit_xor (sum_of_bits a b x) (ap (λ (z : ℕ). product_of bits z (doubled x)) (xor_shr a b 1) ∙ product_by_sum bits (a / 2) (b / 2) (doubled x))
    ∙ swapped (a % 2 * x) (b % 2 * x) (product_of bits (a / 2) (doubled x)) (product_of bits (b / 2) (doubled x))

pub additive : IsAdditive
unfolding product
additive a b x = product_by_sum 8 a b x

-- ---- inverses

both_left : (a b : Bool) → (a && b) ≡ true → a ≡ true
both_left true b h = refl
both_left false b h = h

both_right : (a b : Bool) → (a && b) ≡ true → b ≡ true
both_right true b h = h
both_right false b h = cc

-- a test that holds of n numbers from a on holds of each of them
pub at_each : (p : ℕ → Bool) (a n : ℕ) → list_all p (range_with_len a n) ≡ true → (i : ℕ) → a ≤ i → i < a + n → p i ≡ true
at_each p a zero h i low high = absurd (omega arith)
at_each p a (suc n) h i low high = elim (cases_lt a i) [
  | inl above ↦ at_each p (a + 1) n (both_right (p a) _ h) i (omega arith) (omega arith)
  | inr here ↦ let e : a ≡ i = omega arith in subst (λ (k : ℕ). p k ≡ true) e (both_left (p a) _ h)
]

-- what a function leaves as it is: y, 2y, 4y and so on, so many
Fixes : (ℕ → ℕ) → ℕ → ℕ → Type 0
Fixes f zero y = Unit {0}
Fixes f (suc n) y = (f y ≡ y) × Fixes f n (doubled y)

fixes : (ℕ → ℕ) → ℕ → ℕ → Bool
fixes f zero y = true
fixes f (suc n) y = eqb (f y) y && fixes f n (doubled y)

Fixes-from_test : (f : ℕ → ℕ) (n y : ℕ) → fixes f n y ≡ true → Fixes f n y
unfolding Fixes fixes
Fixes-from_test f zero y h = tt
Fixes-from_test f (suc n) y h = (eqb-true (f y) y (both_left (eqb (f y) y) _ h), Fixes-from_test f n (doubled y) (both_right (eqb (f y) y) _ h))

-- a linear function leaves each product of y as it is where it leaves y, 2y, 4y and so on
module _ (f : ℕ → ℕ) (sums : (x y : ℕ) → f (bit_xor x y) ≡ bit_xor (f x) (f y)) where
  at_zero : f 0 ≡ 0
  at_zero = sums 0 0 ∙ xor_self (f 0)

  fixes_product : (n by y : ℕ) → Fixes f n y → f (product_of n by y) ≡ product_of n by y
  unfolding product_of Fixes
  fixes_product zero by y h = at_zero
  fixes_product (suc n) by y h =
      let none : (z : ℕ) → 0 * z ≡ 0 = λ z. omega arith in
      let once : (z : ℕ) → 1 * z ≡ z = λ z. omega arith in
      let at : (p : ℕ) → (p ≡ 0) ⊎ (p ≡ 1) → f (p * y) ≡ p * y = λ p a. elim a [
        | inl e ↦ rw e (ap f (none y) ∙ at_zero ∙ sym (none y))
        | inr e ↦ rw e (ap f (once y) ∙ h.0 ∙ sym (once y))
      ] in
      sums (by % 2 * y) (product_of n (by / 2) (doubled y)) ∙ ap₂ bit_xor (at (by % 2) (a_bit by)) (fixes_product n (by / 2) (doubled y) h.1)

there_and_back : ℕ → ℕ → ℕ
there_and_back by x = product (inverse_of by) (product by x)

is_undone : ℕ → Bool
is_undone by = fixes (there_and_back by) 8 1

-- computed: at each byte but 0, undoing a product leaves the powers of two as they are
each_undone : list_all is_undone (range_with_len 1 255) ≡ true
unfolding is_undone there_and_back fixes inverse_of times_squares product product_of
each_undone = refl

is_sum : ℕ → Bool
is_sum x = eqb (product_of 8 x 1) x

-- computed: a byte is the sum of its powers of two
each_sum : list_all is_sum (range_with_len 0 256) ≡ true
unfolding is_sum product_of
each_sum = refl

pub undone : HasInverses
unfolding is_undone is_sum there_and_back
undone by x some byte fits =
    let sums : (y z : ℕ) → there_and_back by (bit_xor y z) ≡ bit_xor (there_and_back by y) (there_and_back by z) =
    λ y z. ap (product (inverse_of by)) (linear by y z) ∙ linear (inverse_of by) (product by y) (product by z) in
    let powers : Fixes (there_and_back by) 8 1 = Fixes-from_test (there_and_back by) 8 1 (at_each is_undone 1 255 each_undone by (omega arith) (omega arith)) in
    let sum : product_of 8 x 1 ≡ x = eqb-true (product_of 8 x 1) x (at_each is_sum 0 256 each_sum x (omega arith) fits) in
    ap (there_and_back by) (sym sum) ∙ fixes_product (there_and_back by) sums 8 x 1 powers ∙ sum
