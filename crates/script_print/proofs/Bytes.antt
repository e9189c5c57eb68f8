-- The bytes of printed texts, and bytes that no word has.
use Rattle.std.proofs.Common.{◌≡◌, ◌≢◌, ℕ, ◌+◌, ◌*◌, ◌/◌, ◌%◌, ◌<◌, ◌≤◌, ◌^◌, ◌==◌, nat_lt, nat_le, Bool, true, false, not, ◌&&◌, ◌||◌, List, [], ◌∷◌, ◌++◌, length, refl, ap, arith, inl, inr, if◌then◌else◌, zero, suc, length-append}
use Rattle.std.proofs.lemmas.Bool.Decides.{nat_tests}
use Rattle.std.proofs.lemmas.Bool.{eqb-true, eqb-false}
use Rattle.std.proofs.lemmas.Str.Parse.{digit_from_value}
use Rattle.std.proofs.lemmas.Fmt.{digits_decimal, decimal_nonempty, length-decimal-le}
use Rattle.std.specs.List.{repeat, list_all, AllByRecursion}
use Rattle.std.specs.Fmt.{decimal}
use Rattle.std.specs.Str.Parse.{AllDigits}
use Rattle.script_text.specs.Words.{Lacks}
use Rattle.script_text.specs.Text.{is_plain, hex_digit, WritesByte, Writes, SpellsText, quoted}
use Rattle.script_text.specs.Forms.{is_digit, are_digits}
use Rattle.script_text.proofs.WordLemmas.{own, wide}
use Rattle.script_print.specs.Printing.{byte_text, text_body}

-- each is a byte
abbrev pub AreBytes : List ℕ → Type 0
AreBytes bs = AllByRecursion (λ b. b < 256) bs

pub all_join : (P : ℕ → Type 0) (xs ys : List ℕ) → AllByRecursion P xs → AllByRecursion P ys → AllByRecursion P (xs ++ ys)
all_join P [] ys a b = b
all_join P (x ∷ xs) ys a b = (a.0, all_join P xs ys a.1 b)

pub lacks_join : (m : ℕ) (xs ys : List ℕ) → Lacks m xs → Lacks m ys → Lacks m (xs ++ ys)
lacks_join m xs ys a b = all_join (λ x. x ≢ m) xs ys a b

-- a byte that is not among these, by its test
pub lacks_test : (m : ℕ) (bs : List ℕ) → list_all (λ b. not (b == m)) bs ≡ true → Lacks m bs
lacks_test m [] e = tt
lacks_test m (b ∷ bs) e = at_tests (λ f. lacks_test m bs f) (b == m) refl e
  where
    at_tests : (list_all (λ x. not (x == m)) bs ≡ true → Lacks m bs) → (t : Bool) → (b == m) ≡ t → (not t && list_all (λ x. not (x == m)) bs) ≡ true
        → Lacks m (b ∷ bs)
    at_tests h true f g = absurd (grind (arith, g))
    at_tests h false f g = (eqb-false b m f, h g)

-- digits
digits_lack : (m : ℕ) (ds : List ℕ) → m < 48 → AllDigits 10 ds → Lacks m ds
digits_lack m [] l d = tt
digits_lack m (c ∷ cs) l d = (λ e. omega (arith, (digit_from_value c d.0).0, e, l), digits_lack m cs l d.1)

pub decimal_lacks : (m n : ℕ) → m < 48 → n < 2 ^ 32 → Lacks m (decimal n)
decimal_lacks m n l h = digits_lack m (decimal n) l (digits_decimal own n (wide n h))

digit_test : (c : ℕ) → 48 ≤ c → c ≤ 57 → is_digit c ≡ true
digit_test c l u =
    let a : nat_le 48 c ≡ true = grind (arith, nat_tests, l) in
    let b : nat_le c 57 ≡ true = grind (arith, nat_tests, u) in
    rw (a, b) refl

digits_test : (ds : List ℕ) → AllDigits 10 ds → list_all is_digit ds ≡ true
digits_test [] d = refl
digits_test (c ∷ cs) d =
    let r = digit_from_value c d.0 in
    rw (digit_test c r.0 (omega (arith, r)), digits_test cs d.1) refl

some_digits : (ds : List ℕ) → 0 < length ds → AllDigits 10 ds → are_digits ds ≡ true
some_digits [] l d = absurd (omega (arith, l))
some_digits (c ∷ cs) l d = digits_test (c ∷ cs) d

pub decimal_digits : (n : ℕ) → n < 2 ^ 32 → are_digits (decimal n) ≡ true
decimal_digits n h = some_digits (decimal n) (decimal_nonempty n (wide n h)) (digits_decimal own n (wide n h))

pub decimal_short : (n : ℕ) → n < 2 ^ 32 → length (decimal n) ≤ 10
decimal_short n h = length-decimal-le 10 n (omega arith) (omega arith) (wide n h)

-- bytes of texts
pub byte_written : (b : ℕ) → b < 256 → WritesByte b (byte_text b)
byte_written b l = at_tests (is_plain b) (b == 34) (b == 92) refl refl refl
  where
    at_tests : (p q s : Bool) → is_plain b ≡ p → (b == 34) ≡ q → (b == 92) ≡ s
        → WritesByte b (if p then b ∷ [] else if q || s then 92 ∷ b ∷ [] else 92 ∷ 120 ∷ hex_digit (b / 16) ∷ hex_digit (b % 16) ∷ [])
    at_tests true q s e f g = inl (e, refl)
    at_tests false true s e f g = let h = eqb-true b 34 f in inr (inl (h, ap (λ x. 92 ∷ x ∷ []) h))
    at_tests false false true e f g = let h = eqb-true b 92 g in inr (inr (inl (h, ap (λ x. 92 ∷ x ∷ []) h)))
    at_tests false false false e f g = inr (inr (inr (b / 16, b % 16, omega arith, omega arith, omega arith, refl)))

pub text_written : (text : List ℕ) → AreBytes text → Writes text (text_body text)
text_written [] a = refl
text_written (b ∷ text) a = (byte_text b, text_body text, byte_written b a.0, text_written text a.1, refl)

written_byte : (b : ℕ) (piece : List ℕ) → WritesByte b piece → b < 256
written_byte b piece (inl w) = plain_byte b w.0
  where
    plain_byte : (c : ℕ) → is_plain c ≡ true → c < 256
    plain_byte c e = grind (arith, nat_tests, e)
written_byte b piece (inr (inl w)) = omega (arith, w.0)
written_byte b piece (inr (inr (inl w))) = omega (arith, w.0)
written_byte b piece (inr (inr (inr (h, l, m, n, f, g)))) = omega (arith, m, n, f)

written_bytes : (text body : List ℕ) → Writes text body → AreBytes text
written_bytes [] body w = tt
written_bytes (b ∷ text) body (piece, rest, w, ws, e) = (written_byte b piece w, written_bytes text rest ws)

all_repeat : (P : ℕ → Type 0) (n : ℕ) (xs : List ℕ) → AllByRecursion P xs → AllByRecursion P (repeat n xs)
all_repeat P zero xs a = tt
all_repeat P (suc n) xs a = all_join P xs (repeat n xs) a (all_repeat P n xs a)

pub spelled_bytes : (word text : List ℕ) → SpellsText word text → AreBytes text
spelled_bytes word text (inl (body, w, e)) = written_bytes text body w
spelled_bytes word text (inr (n, piece, body, l, w, e, f)) = rw f (all_repeat (λ b. b < 256) n piece (written_bytes piece body w))

pub text_spelled : (text : List ℕ) → AreBytes text → SpellsText (quoted (text_body text)) text
text_spelled text a = inl (text_body text, text_written text a, refl)

-- no text has a line feed
hex_lacks : (h : ℕ) (t : Bool) → (if t then 48 + h else 87 + h) ≢ 10
hex_lacks h true = λ e. omega (arith, e)
hex_lacks h false = λ e. omega (arith, e)

byte_lacks : (b : ℕ) → Lacks 10 (byte_text b)
byte_lacks b = at_tests (is_plain b) (b == 34) (b == 92) refl refl refl
  where
    plain_lacks : (c : ℕ) → is_plain c ≡ true → c ≡ 10 → ⊥
    plain_lacks c e f = grind (arith, nat_tests, e, f)

    at_tests : (p q s : Bool) → is_plain b ≡ p → (b == 34) ≡ q → (b == 92) ≡ s
        → Lacks 10 (if p then b ∷ [] else if q || s then 92 ∷ b ∷ [] else 92 ∷ 120 ∷ hex_digit (b / 16) ∷ hex_digit (b % 16) ∷ [])
    at_tests true q s e f g = (plain_lacks b e, tt)
    at_tests false true s e f g = let h = eqb-true b 34 f in ((λ x. omega (arith, x)), ((λ x. omega (arith, x, h)), tt))
    at_tests false false true e f g = let h = eqb-true b 92 g in ((λ x. omega (arith, x)), ((λ x. omega (arith, x, h)), tt))
    at_tests false false false e f g =
        ((λ x. omega (arith, x)), ((λ x. omega (arith, x)), (hex_lacks (b / 16) (nat_lt (b / 16) 10), (hex_lacks (b % 16) (nat_lt (b % 16) 10), tt))))

body_lacks : (text : List ℕ) → Lacks 10 (text_body text)
body_lacks [] = tt
body_lacks (b ∷ text) = lacks_join 10 (byte_text b) (text_body text) (byte_lacks b) (body_lacks text)

pub text_lacks : (text : List ℕ) → Lacks 10 (quoted (text_body text))
text_lacks text = ((λ x. omega (arith, x)), lacks_join 10 (text_body text) (34 ∷ []) (body_lacks text) ((λ x. omega (arith, x)), tt))

-- a byte takes at most four
byte_short : (b : ℕ) → length (byte_text b) ≤ 4
byte_short b = at_tests (is_plain b) ((b == 34) || (b == 92))
  where
    at_tests : (p q : Bool) → length (if p then b ∷ [] else if q then 92 ∷ b ∷ [] else 92 ∷ 120 ∷ hex_digit (b / 16) ∷ hex_digit (b % 16) ∷ []) ≤ 4
    at_tests true q = omega arith
    at_tests false true = omega arith
    at_tests false false = omega arith

pub body_short : (text : List ℕ) → length (text_body text) ≤ 4 * length text
body_short [] = omega arith
body_short (b ∷ text) =
    let l : length (byte_text b) ≤ 4 = byte_short b in
    let r : length (text_body text) ≤ 4 * length text = body_short text in
    let e : length (byte_text b ++ text_body text) ≡ length (byte_text b) + length (text_body text) = length-append (byte_text b) (text_body text) in
    omega (arith, l, r, e)
