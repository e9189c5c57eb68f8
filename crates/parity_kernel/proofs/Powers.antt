-- A product by its bits, from the lowest on, as a loop goes over them.
use Rattle.std.proofs.Common.{◌≡◌, ℕ, ◌+◌, ◌*◌, ◌/◌, ◌%◌, ◌^◌, ◌<◌, ◌≤◌, zero, suc, List, [], ◌∷◌, length, map, refl, sym, ◌∙◌, ap, ap₂, subst, arith}
use Rattle.std.proofs.Math.Nat.{div-one}
use Rattle.std.proofs.lemmas.Nat.{shr-shr, shr_below, shr_split, mod_below, pow_pos}
use Rattle.std.specs.Prelude.{replicate}
use lib.Lanes.{zip2}
use Rattle.std.specs.Int.Bits.{bit_xor, xor_assoc, xor_zero_r}
use Rattle.parity_kernel.specs.Field.{doubled, product, product_of}

-- twice, and again, so many times
unfoldable pub doubled_times : ℕ → ℕ → ℕ
doubled_times zero x = x
doubled_times (suc n) x = doubled_times n (doubled x)

pub doubled_more : (n x : ℕ) → doubled_times (suc n) x ≡ doubled (doubled_times n x)
unfolding doubled_times
doubled_more zero x = refl
doubled_more (suc n) x = doubled_more n (doubled x)

-- one bit more
pub product_more : (n by x : ℕ) → product_of (suc n) by x ≡ bit_xor (product_of n by x) (by / 2 ^ n % 2 * doubled_times n x)
unfolding product_of doubled_times
product_more zero by x = xor_zero_r (by % 2 * x) ∙ ap (λ (z : ℕ). z % 2 * x) (sym (div-one by))
product_more (suc n) by x =
    let one_more : 1 + n ≡ suc n = omega arith in
    ap (bit_xor (by % 2 * x))
    (product_more n (by / 2) (doubled x)
    ∙ ap (λ (z : ℕ). bit_xor (product_of n (by / 2) (doubled x)) (z % 2 * doubled_times n (doubled x))) (shr-shr by 1 n ∙ ap (λ (k : ℕ). by / 2 ^ k) one_more))
    ∙ sym (xor_assoc (by % 2 * x) (product_of n (by / 2) (doubled x)) _)

product_none : (m x : ℕ) → product_of m 0 x ≡ 0
unfolding product_of
product_none zero x = refl
product_none (suc m) x =
    let none : 0 * x ≡ 0 = omega arith in
    ap₂ bit_xor none (product_none m (doubled x))

-- no bit from n on is set
pub product_whole : (n m by x : ℕ) → n ≤ m → by < 2 ^ n → product_of m by x ≡ product_of n by x
unfolding product_of
product_whole zero m by x low fits =
    let none : by ≡ 0 = omega arith in
    ap (λ (z : ℕ). product_of m z x) none ∙ product_none m x
product_whole (suc n) zero by x low fits = absurd (omega arith)
product_whole (suc n) (suc m) by x low fits =
    let one_more : suc n ≡ n + 1 = omega arith in
    ap (bit_xor (by % 2 * x)) (product_whole n m (by / 2) (doubled x) (omega arith) (shr_below by n 1 (subst (λ (k : ℕ). by < 2 ^ k) one_more fits)))

-- ---- one turn of the loop

pub turn_set : (n by x : ℕ) → by / 2 ^ n % 2 ≡ 1 → bit_xor (product_of n by x) (doubled_times n x) ≡ product_of (n + 1) by x
turn_set n by x set =
    let next : suc n ≡ n + 1 = omega arith in
    let once : 1 * doubled_times n x ≡ doubled_times n x = omega arith in
    sym (ap (λ (k : ℕ). product_of k by x) (sym next) ∙ product_more n by x
    ∙ ap (bit_xor (product_of n by x)) (ap (λ (b : ℕ). b * doubled_times n x) set ∙ once))

pub turn_clear : (n by x : ℕ) → (by / 2 ^ n % 2 ≡ 1 → ⊥) → product_of n by x ≡ product_of (n + 1) by x
turn_clear n by x clear =
    let next : suc n ≡ n + 1 = omega arith in
    let none : by / 2 ^ n % 2 * doubled_times n x ≡ 0 = (let e : by / 2 ^ n % 2 ≡ 0 = grind arith in ap (λ (b : ℕ). b * doubled_times n x) e ∙ omega arith) in
    sym (ap (λ (k : ℕ). product_of k by x) (sym next) ∙ product_more n by x ∙ ap (bit_xor (product_of n by x)) none ∙ xor_zero_r (product_of n by x))

pub turn_doubled : (n x : ℕ) → doubled (doubled_times n x) ≡ doubled_times (n + 1) x
turn_doubled n x =
    let next : suc n ≡ n + 1 = omega arith in
    sym (ap (λ (k : ℕ). doubled_times k x) (sym next) ∙ doubled_more n x)

pub whole_at_end : (n by x : ℕ) → n ≤ 8 → by / 2 ^ n ≡ 0 → product_of n by x ≡ product by x
unfolding product
whole_at_end n by x within none =
    let split : by / 2 ^ n * 2 ^ n + by % 2 ^ n ≡ by = shr_split by n in
    let below : by % 2 ^ n < 2 ^ n = mod_below by (2 ^ n) (pow_pos n) in
    let nothing : by / 2 ^ n * 2 ^ n ≡ 0 = (ap (λ (q : ℕ). q * 2 ^ n) none ∙ omega arith) in
    sym (product_whole n 8 by x within (omega arith))

-- ---- the same of each byte of a list

map_each : (f g : ℕ → ℕ) → ((x : ℕ) → f x ≡ g x) → (xs : List ℕ) → map f xs ≡ map g xs
map_each f g e [] = refl
map_each f g e (x ∷ xs) = ap₂ (λ (y : ℕ) (ys : List ℕ). y ∷ ys) (e x) (map_each f g e xs)

pub none_yet : (by : ℕ) (xs : List ℕ) → replicate (length xs) 0 ≡ map (product_of 0 by) xs
unfolding product_of
none_yet by [] = refl
none_yet by (x ∷ xs) = ap (λ (ys : List ℕ). 0 ∷ ys) (none_yet by xs)

pub undoubled : (xs : List ℕ) → xs ≡ map (doubled_times 0) xs
unfolding doubled_times
undoubled [] = refl
undoubled (x ∷ xs) = ap (λ (ys : List ℕ). x ∷ ys) (undoubled xs)

pub turn_set_each : (n by : ℕ) (xs : List ℕ) → by / 2 ^ n % 2 ≡ 1
    → zip2 bit_xor (map (product_of n by) xs) (map (doubled_times n) xs) ≡ map (product_of (n + 1) by) xs
turn_set_each n by [] set = refl
turn_set_each n by (x ∷ xs) set = ap₂ (λ (y : ℕ) (ys : List ℕ). y ∷ ys) (turn_set n by x set) (turn_set_each n by xs set)

pub turn_clear_each : (n by : ℕ) (xs : List ℕ) → (by / 2 ^ n % 2 ≡ 1 → ⊥) → map (product_of n by) xs ≡ map (product_of (n + 1) by) xs
turn_clear_each n by xs clear = map_each (product_of n by) (product_of (n + 1) by) (λ x. turn_clear n by x clear) xs

pub turn_doubled_each : (n : ℕ) (xs : List ℕ) → map doubled (map (doubled_times n) xs) ≡ map (doubled_times (n + 1)) xs
turn_doubled_each n [] = refl
turn_doubled_each n (x ∷ xs) = ap₂ (λ (y : ℕ) (ys : List ℕ). y ∷ ys) (turn_doubled n x) (turn_doubled_each n xs)

pub whole_each : (n by : ℕ) (xs : List ℕ) → n ≤ 8 → by / 2 ^ n ≡ 0 → map (product_of n by) xs ≡ map (product by) xs
whole_each n by xs within none = map_each (product_of n by) (product by) (λ x. whole_at_end n by x within none) xs
