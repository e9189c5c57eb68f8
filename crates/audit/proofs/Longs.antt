-- Numbers below 2^64 in words.
use Rattle.std.proofs.Common.{◌≡◌, ◌≢◌, ℕ, ◌<◌, ◌^◌, Bool, true, false, List, Some, None, refl, arith, nat_lt, ◌&&◌, if◌then◌else◌}
use Rattle.std.specs.Fmt.{decimal}
use Rattle.std.specs.Str.{bytes_eq}
use Rattle.std.specs.Str.Parse.{digits_value}
use Rattle.std.proofs.lemmas.Fmt.{digits_value-decimal}
use Rattle.std.proofs.lemmas.Slice.Eq.{bytes_eq-Decides}
use Rattle.std.proofs.lemmas.Bool.Decides.{nat_tests}
use Rattle.script_text.proofs.WordLemmas.{own}
use Rattle.audit.specs.Acts.{long_of}

pub long_decimal : (n : ℕ) → n < 2 ^ 64 → long_of (decimal n) ≡ Some n
long_decimal n l =
    let v : digits_value 10 (decimal n) ≡ n = digits_value-decimal own n l in
    let e : bytes_eq (decimal n) (decimal n) ≡ true = (bytes_eq-Decides (decimal n) (decimal n)).1 refl in
    let t : nat_lt n 18446744073709551616 ≡ true = grind (arith, nat_tests) in
    rw (v, e, t) refl

number_test : (w : List ℕ) (m : ℕ) (b t : Bool) → bytes_eq w (decimal m) ≡ b → nat_lt m 18446744073709551616 ≡ t → (b ≡ true → t ≡ true → ⊥)
    → (if b && t then Some m else None) ≡ None
number_test w m true true e f h = absurd (h refl refl)
number_test w m true false e f h = refl
number_test w m false t e f h = refl

-- a word that is no number below 2^64 has none
pub long_none : (w : List ℕ) → ((n : ℕ) → n < 2 ^ 64 → w ≢ decimal n) → long_of w ≡ None
long_none w h =
    let m = digits_value 10 w in
    number_test w m (bytes_eq w (decimal m)) (nat_lt m 18446744073709551616) refl refl (λ e f. h m (small m f) ((bytes_eq-Decides w (decimal m)).0 e))
  where
    small : (m : ℕ) → nat_lt m 18446744073709551616 ≡ true → m < 2 ^ 64
    small m f = grind (arith, nat_tests, f)
