-- A product by a byte is the sum of the products by its halves, as the vector's look-ups give them.
use Rattle.std.proofs.Common.{◌≡◌, ℕ, ◌+◌, ◌*◌, ◌/◌, ◌%◌, ◌^◌, ◌<◌, Bool, true, eqb, List, map, length, get_or, replicate, bit_and, refl, sym, ap, ap₂, ◌∙◌, arith, w8, Fits}
use Rattle.std.proofs.lemmas.Bool.{eqb-true}
use Rattle.std.proofs.lemmas.List.{get_or-map, length-map, ext_get_or}
use Rattle.std.proofs.lemmas.Nat.{and_le_r, and_mask, xor_block}
use Rattle.std.proofs.lemmas.Simd.{Each1-all, Each1-get_or, Each1-weaker, Each1-zip2, Each2-splat, below_from_Fits, length-zip2, swz_l, SwzOk, SwzOk-from_below, length-swz_l, get_or-swz_l_below, zip2_of_maps, zip2_splat}
use Rattle.std.specs.Int.Bits.{bit_xor, xor_zero_r}
use Rattle.std.specs.List.{list_all, range_with_len}
use lib.Lanes.{zip2, Each1}
use Rattle.parity_kernel.specs.Field.{product}
use Rattle.parity_kernel.specs.Halves.{lows, highs}
use Rattle.parity_kernel.proofs.FieldLaws.{at_each, linear}

abbrev pub IsVector : List ℕ → Type 0
IsVector v = (length v ≡ 32) × Each1 (Fits w8) v

abbrev pub down : ℕ → ℕ → ℕ
down a b = a / 2 ^ b

-- ---- each half is a place in a table of sixteen

pub high_ok : (v : List ℕ) → IsVector v → SwzOk w8 16 32 0 (zip2 down v (replicate 32 4))
high_ok v fits =
    let small = Each1-weaker (λ a. a < 256) (λ a. a / 16 < 16) (λ a h. omega arith) v (below_from_Fits w8 v fits.1) in
    SwzOk-from_below w8 16 2 32 0 (zip2 down v (replicate 32 4)) refl (omega (arith, length-zip2 down v (replicate 32 4) fits.0))
    (Each1-zip2 down (λ j. j < 16) v (replicate 32 4) (Each2-splat (λ a b. down a b < 16) v 32 4 small))

pub low_ok : (v : List ℕ) → IsVector v → SwzOk w8 16 32 0 (zip2 bit_and v (replicate 32 15))
low_ok v fits =
    let small = Each1-all (λ a. bit_and a 15 < 16) (λ a. omega (arith, and_le_r a 15)) v in
    SwzOk-from_below w8 16 2 32 0 (zip2 bit_and v (replicate 32 15)) refl (omega (arith, length-zip2 bit_and v (replicate 32 15) fits.0))
    (Each1-zip2 bit_and (λ j. j < 16) v (replicate 32 15) (Each2-splat (λ a b. bit_and a b < 16) v 32 15 small))

-- ---- what a table has there

-- a list of as many numbers as a vector has lanes has this at each place of its blocks of sixteen
Repeats : List ℕ → (ℕ → ℕ) → Type 0
Repeats places half = (n : ℕ) → n < 32 → get_or places n 0 ≡ half (n % 16)

-- a table of the products of what is repeated, read at places below 16
module _ (f half : ℕ → ℕ) (places : List ℕ) (many : length places ≡ 32) (repeats : Repeats places half) (g : ℕ → ℕ) (v js : List ℕ) (fits : IsVector v)
    (e : js ≡ map g v) (small : (x : ℕ) → x < 256 → g x < 16) where
  looked_up : swz_l w8 16 (map f places) 0 js ≡ map (λ x. f (half (g x))) v
  unfolding Repeats
  looked_up =
      let t : List ℕ = map f places in
      let long : length js ≡ 32 = ap length e ∙ length-map v g ∙ fits.0 in
      ext_get_or 0 _ _ (length-swz_l w8 16 t 0 js ∙ long ∙ sym (length-map v (λ x. f (half (g x))) ∙ fits.0)) (λ i h.
      let lt : i < 32 = omega (arith, length-swz_l w8 16 t 0 js) in
      let within : i < length v = omega (arith, fits.0) in
      let here : get_or js i 0 ≡ g (get_or v i 0) = ap (λ l. get_or l i 0) e ∙ get_or-map g v i 0 0 within in
      let below : get_or js i 0 < 16 =
      omega (arith, small (get_or v i 0) (Each1-get_or (λ x. x < 256) v i 0 within (below_from_Fits w8 v fits.1))) in
      let place : ℕ = 16 * ((0 + i) / 16) + get_or js i 0 in
      let inside : place < 32 = omega arith in
      let rest : place % 16 ≡ get_or js i 0 = omega arith in
      get_or-swz_l_below w8 16 t 0 js i (omega arith) below ∙ get_or-map f places place 0 0 (omega arith) ∙ ap f (repeats place inside)
      ∙ ap (λ k. f (half k)) (rest ∙ here)
      ∙ sym (get_or-map (λ x. f (half (g x))) v i 0 0 within))

has_low : ℕ → Bool
has_low n = eqb (get_or lows n 0) (n % 16)

has_high : ℕ → Bool
has_high n = eqb (get_or highs n 0) (16 * (n % 16))

each_low : list_all has_low (range_with_len 0 32) ≡ true
unfolding has_low
each_low = refl

each_high : list_all has_high (range_with_len 0 32) ≡ true
unfolding has_high
each_high = refl

lows_repeat : Repeats lows (λ n. n)
unfolding Repeats has_low
lows_repeat n below = eqb-true (get_or lows n 0) (n % 16) (at_each has_low 0 32 each_low n (omega arith) below)

highs_repeat : Repeats highs (λ n. 16 * n)
unfolding Repeats has_high
highs_repeat n below = eqb-true (get_or highs n 0) (16 * (n % 16)) (at_each has_high 0 32 each_high n (omega arith) below)

-- ---- both

low_half : (x : ℕ) → bit_and x 15 ≡ x % 16
low_half x = and_mask x 4

-- a number is the sum of its halves
halves : (x : ℕ) → bit_xor (bit_and x 15) (16 * (x / 16)) ≡ x
halves x =
    let low : bit_and x 15 ≡ 0 * 2 ^ 4 + x % 16 = low_half x ∙ omega arith in
    let high : 16 * (x / 16) ≡ x / 16 * 2 ^ 4 + 0 = omega arith in
    let none : bit_xor 0 (x / 16) ≡ x / 16 = refl in
    let rest : bit_xor (x % 16) 0 ≡ x % 16 = xor_zero_r (x % 16) in
    ap₂ bit_xor low high ∙ xor_block 4 0 (x / 16) (x % 16) 0 (omega arith) (omega arith) ∙ ap₂ (λ (a b : ℕ). a * 2 ^ 4 + b) none rest ∙ omega arith

pub both_halves : (by : ℕ) (low high v : List ℕ) → IsVector v → low ≡ map (product by) lows → high ≡ map (product by) highs
    → zip2 bit_xor (swz_l w8 16 low 0 (zip2 bit_and v (replicate 32 15))) (swz_l w8 16 high 0 (zip2 down v (replicate 32 4))) ≡ map (product by) v
both_halves by low high v fits low_is high_is =
    let lower : swz_l w8 16 low 0 (zip2 bit_and v (replicate 32 15)) ≡ map (λ x. product by (bit_and x 15)) v =
    ap (λ t. swz_l w8 16 t 0 (zip2 bit_and v (replicate 32 15))) low_is
    ∙ looked_up (product by) (λ n. n) lows refl lows_repeat (λ x. bit_and x 15) v _ fits (zip2_splat bit_and v 32 15 fits.0)
    (λ x h. omega (arith, and_le_r x 15)) in
    let upper : swz_l w8 16 high 0 (zip2 down v (replicate 32 4)) ≡ map (λ x. product by (16 * (x / 16))) v =
    ap (λ t. swz_l w8 16 t 0 (zip2 down v (replicate 32 4))) high_is
    ∙ looked_up (product by) (λ n. 16 * n) highs refl highs_repeat (λ x. x / 16) v _ fits (zip2_splat down v 32 4 fits.0) (λ x h. omega arith) in
    let each : (x : ℕ) → bit_xor (product by (bit_and x 15)) (product by (16 * (x / 16))) ≡ product by x =
    λ x. sym (linear by (bit_and x 15) (16 * (x / 16))) ∙ ap (product by) (halves x) in
    zip2_of_maps bit_xor (λ x. product by (bit_and x 15)) (λ x. product by (16 * (x / 16))) v lower upper ∙ ap (λ h. map h v) (λ i x. each x i)
