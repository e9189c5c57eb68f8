-- The bytes of words: digits are the only bytes of a number's text, and how often and where first a mark stands.
use Rattle.std.proofs.Common.{◌≡◌, ◌≢◌, ℕ, zero, suc, ◌+◌, ◌/◌, ◌%◌, ◌<◌, ◌≤◌, ◌==◌, nat_le, nat_lt, Bool, true, false, ◌&&◌, ◌||◌, List, [], ◌∷◌, ◌++◌, length, refl, ap, arith, if◌then◌else◌, cond, filter}
use Rattle.std.specs.Fmt.{decimal, digits, digits_onto, digit_glyph}
use Rattle.std.specs.List.{list_all, AllByRecursion}
use Rattle.std.specs.Str.{bytes_eq}
use Rattle.std.proofs.lemmas.Bool.Decides.{nat_tests}
use Rattle.std.proofs.lemmas.Bool.{ne_eqb}
use Rattle.xfs_base.proofs.Booleans.{equal_itself}
use Rattle.script_text.specs.Words.{Lacks}
use Rattle.script_text.proofs.Texts.{cut_there}
use Rattle.script_print.proofs.Bytes.{all_join}
use Rattle.audit.specs.Shapes.{is_digit, are_digits, is_numbered, count_of, front, back, halves_of}

abbrev pub IsDigit : ℕ → Type 0
IsDigit b = (48 ≤ b) × (b ≤ 57)

abbrev pub Digits : List ℕ → Type 0
Digits bs = AllByRecursion IsDigit bs

-- the first byte is a digit
abbrev pub Begins : List ℕ → Type 0
Begins [] = ⊥
Begins (b ∷ bs) = IsDigit b

-- no space, and nothing below it
abbrev pub Plain : List ℕ → Type 0
Plain bs = AllByRecursion (λ b. 33 ≤ b) bs

-- ---- tests

pub and_true : {a b : Bool} → a ≡ true → b ≡ true → (a && b) ≡ true
and_true e f = rw (e, f) refl

pub or_true : (a : Bool) {b : Bool} → b ≡ true → (a || b) ≡ true
or_true true e = refl
or_true false e = e

-- ---- decimal digits

glyph_digit : (d : ℕ) (t : Bool) → nat_lt d 10 ≡ t → d < 10 → IsDigit (if t then 48 + d else 87 + d)
glyph_digit d true e l = (omega arith, omega (arith, l))
glyph_digit d false e l = absurd (grind (arith, nat_tests, e, l))

onto_digits : (k n : ℕ) (acc : List ℕ) → Digits acc → Digits (digits_onto k 10 false n acc)
onto_digits zero n acc a = a
onto_digits (suc k) n acc a =
    let g : IsDigit (digit_glyph false (n % 10)) = glyph_digit (n % 10) (nat_lt (n % 10) 10) refl (omega arith) in
    at_last (n / 10 == 0) (g, a) (onto_digits k (n / 10) (digit_glyph false (n % 10) ∷ acc) (g, a))
  where
    at_last : (t : Bool) → Digits (digit_glyph false (n % 10) ∷ acc) → Digits (digits_onto k 10 false (n / 10) (digit_glyph false (n % 10) ∷ acc))
        → Digits (if t then digit_glyph false (n % 10) ∷ acc else digits_onto k 10 false (n / 10) (digit_glyph false (n % 10) ∷ acc))
    at_last true p q = p
    at_last false p q = q

onto_long : (k n : ℕ) (acc : List ℕ) → length acc ≤ length (digits_onto k 10 false n acc)
onto_long zero n acc = omega arith
onto_long (suc k) n acc = at_last (n / 10 == 0) (onto_long k (n / 10) (digit_glyph false (n % 10) ∷ acc))
  where
    at_last : (t : Bool) → length (digit_glyph false (n % 10) ∷ acc) ≤ length (digits_onto k 10 false (n / 10) (digit_glyph false (n % 10) ∷ acc))
        → length acc ≤ length (if t then digit_glyph false (n % 10) ∷ acc else digits_onto k 10 false (n / 10) (digit_glyph false (n % 10) ∷ acc))
    at_last true h = omega arith
    at_last false h = omega (arith, h)

onto_some : (k n : ℕ) → 0 < length (digits_onto (suc k) 10 false n [])
onto_some k n = at_last (n / 10 == 0) (onto_long k (n / 10) (digit_glyph false (n % 10) ∷ []))
  where
    at_last : (t : Bool) → length (digit_glyph false (n % 10) ∷ []) ≤ length (digits_onto k 10 false (n / 10) (digit_glyph false (n % 10) ∷ []))
        → 0 < length (if t then digit_glyph false (n % 10) ∷ [] else digits_onto k 10 false (n / 10) (digit_glyph false (n % 10) ∷ []))
    at_last true h = omega arith
    at_last false h = omega (arith, h)

pub decimal_digits : (n : ℕ) → Digits (decimal n)
unfolding digits
decimal_digits n = onto_digits 64 n [] tt

pub decimal_some : (n : ℕ) → 0 < length (decimal n)
unfolding digits
decimal_some n = onto_some 63 n

begins : (bs : List ℕ) → 0 < length bs → Digits bs → Begins bs
begins [] l d = absurd (omega (arith, l))
begins (b ∷ bs) l d = d.0

pub decimal_begins : (n : ℕ) → Begins (decimal n)
decimal_begins n = begins (decimal n) (decimal_some n) (decimal_digits n)

pub begins_join : (xs ys : List ℕ) → Begins xs → Begins (xs ++ ys)
begins_join [] ys b = absurd b
begins_join (x ∷ xs) ys b = b

-- digits are no other mark
pub digits_lack : (m : ℕ) (bs : List ℕ) → (IsDigit m → ⊥) → Digits bs → Lacks m bs
digits_lack m [] h d = tt
digits_lack m (b ∷ bs) h d = (other b d.0, digits_lack m bs h d.1)
  where
    other : (b : ℕ) → IsDigit b → b ≢ m
    other b i e = h (omega (arith, i, e), omega (arith, i, e))

pub decimal_lacks : (m n : ℕ) → (IsDigit m → ⊥) → Lacks m (decimal n)
decimal_lacks m n h = digits_lack m (decimal n) h (decimal_digits n)

digits_plain : (bs : List ℕ) → Digits bs → Plain bs
digits_plain [] d = tt
digits_plain (b ∷ bs) d = (omega (arith, d.0), digits_plain bs d.1)

pub decimal_plain : (n : ℕ) → Plain (decimal n)
decimal_plain n = digits_plain (decimal n) (decimal_digits n)

pub plain_join : (xs ys : List ℕ) → Plain xs → Plain ys → Plain (xs ++ ys)
plain_join xs ys p q = all_join (λ b. 33 ≤ b) xs ys p q

pub plain_lacks : (m : ℕ) (bs : List ℕ) → m < 33 → Plain bs → Lacks m bs
plain_lacks m [] l p = tt
plain_lacks m (b ∷ bs) l p = (other b p.0, plain_lacks m bs l p.1)
  where
    other : (b : ℕ) → 33 ≤ b → b ≢ m
    other b i e = omega (arith, i, e, l)

pub digit_test : (b : ℕ) → IsDigit b → is_digit b ≡ true
digit_test b i =
    let l : nat_le 48 b ≡ true = grind (arith, nat_tests, i.0) in
    let u : nat_le b 57 ≡ true = grind (arith, nat_tests, i.1) in
    and_true l u

all_digits : (bs : List ℕ) → Digits bs → list_all is_digit bs ≡ true
all_digits [] d = refl
all_digits (b ∷ bs) d = and_true (digit_test b d.0) (all_digits bs d.1)

some_digits : (bs : List ℕ) → Begins bs → Digits bs → are_digits bs ≡ true
some_digits [] b d = absurd b
some_digits (x ∷ bs) b d = all_digits (x ∷ bs) d

-- a letter and the text of a number
pub numbered : (letter n : ℕ) → is_numbered letter (letter ∷ decimal n) ≡ true
numbered letter n = and_true (equal_itself letter) (some_digits (decimal n) (decimal_begins n) (decimal_digits n))

-- what begins with a digit is no word that begins with another byte
pub no_word : (bs : List ℕ) (x : ℕ) (rest : List ℕ) → Begins bs → (IsDigit x → ⊥) → bytes_eq bs (x ∷ rest) ≡ false
no_word [] x rest b h = absurd b
no_word (d ∷ bs) x rest b h = at_test (d == x) (ne_eqb d x (λ e. h (omega (arith, b, e), omega (arith, b, e))))
  where
    at_test : (t : Bool) → t ≡ false → (t && bytes_eq bs rest) ≡ false
    at_test t e = rw e refl

-- ---- marks

pub front_of : (m : ℕ) (a r : List ℕ) → Lacks m a → front m (a ++ m ∷ r) ≡ a
front_of m a r h = ap (λ c. (halves_of (a ++ m ∷ r) c).0) (cut_there m a r h)

pub back_of : (m : ℕ) (a r : List ℕ) → Lacks m a → back m (a ++ m ∷ r) ≡ r
back_of m a r h = ap (λ c. (halves_of (a ++ m ∷ r) c).1) (cut_there m a r h)

pub count_none : (m : ℕ) (bs : List ℕ) → Lacks m bs → count_of m bs ≡ 0
count_none m [] h = refl
count_none m (b ∷ bs) h = at_test (b == m) (ne_eqb b m h.0) (count_none m bs h.1)
  where
    at_test : (t : Bool) → t ≡ false → count_of m bs ≡ 0 → length (cond t (b ∷ filter (λ x. x == m) bs) (filter (λ x. x == m) bs)) ≡ 0
    at_test t e f = rw e f

-- one more where the mark comes
pub count_cut : (m : ℕ) (a r : List ℕ) → Lacks m a → count_of m (a ++ m ∷ r) ≡ count_of m r + 1
count_cut m [] r h = at_test (m == m) (equal_itself m)
  where
    at_test : (t : Bool) → t ≡ true → length (cond t (m ∷ filter (λ x. x == m) r) (filter (λ x. x == m) r)) ≡ count_of m r + 1
    at_test t e = rw e (omega arith)
count_cut m (b ∷ a) r h = at_test (b == m) (ne_eqb b m h.0) (count_cut m a r h.1)
  where
    at_test : (t : Bool) → t ≡ false → count_of m (a ++ m ∷ r) ≡ count_of m r + 1
        → length (cond t (b ∷ filter (λ x. x == m) (a ++ m ∷ r)) (filter (λ x. x == m) (a ++ m ∷ r))) ≡ count_of m r + 1
    at_test t e f = rw e f
