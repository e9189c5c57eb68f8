-- The field of 256 elements in which the second parity fragment is reckoned. A byte is the polynomial of its bits; the sum of
-- two is their exclusive or, and the product is taken modulo x^8 + x^4 + x^3 + x^2 + 1 (11D hexadecimal).
use Rattle.std.specs.Prelude.{◌≡◌, ℕ, zero, suc, ◌*◌, ◌/◌, ◌%◌, ◌<◌, bit_xor}

-- twice a byte: its bits move up by one place, and the bit that leaves it stands for 1D
abbrev pub doubled : ℕ → ℕ
doubled x = bit_xor (2 * x % 256) (0x1D * (x / 128 % 2))

-- the sum of x, 2x, 4x and so on, one for each bit of `by` that is set; the lowest so many bits are looked at
unfoldable pub product_of : ℕ → ℕ → ℕ → ℕ
product_of zero by x = 0
product_of (suc bits) by x = bit_xor (by % 2 * x) (product_of bits (by / 2) (doubled x))

-- the product of two bytes
unfoldable pub product : ℕ → ℕ → ℕ
product by x = product_of 8 by x

-- the product of `so_far` and the squares of x, of those squares and so on, so many in all
unfoldable pub times_squares : ℕ → ℕ → ℕ → ℕ
times_squares zero x so_far = so_far
times_squares (suc n) x so_far = times_squares n (product x x) (product (product x x) so_far)

-- what undoes a product by a byte that isn't 0: the byte to the power 254, since all of them to the power 255 are 1
unfoldable pub inverse_of : ℕ → ℕ
inverse_of by = times_squares 7 by 1

-- ---- the laws of the field that parity rests on

-- a product goes through exclusive or in the second byte
abbrev pub IsLinear : Type 0
IsLinear = (by x y : ℕ) → product by (bit_xor x y) ≡ bit_xor (product by x) (product by y)

-- and in the first
abbrev pub IsAdditive : Type 0
IsAdditive = (a b x : ℕ) → product (bit_xor a b) x ≡ bit_xor (product a x) (product b x)

-- a product by any byte but 0 can be undone
abbrev pub HasInverses : Type 0
HasInverses = (by x : ℕ) → 0 < by → by < 256 → x < 256 → product (inverse_of by) (product by x) ≡ x
