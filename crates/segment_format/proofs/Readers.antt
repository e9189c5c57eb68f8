-- What a reader takes is the text of what it gives, and reading that text again gives the same, whatever follows: so for one
-- field, and so for one reader after the other.
use Rattle.std.proofs.Common.{◌≡◌, ℕ, ◌+◌, ◌^◌, ◌<◌, ◌≤◌, Bool, true, false, cond, ltb, List, [], ◌∷◌, ◌++◌, length, get_or, take, drop, Result, Ok, Err, refl, sym, ap, subst, ◌∙◌, append_assoc, arith, inl, inr}
use Rattle.std.specs.Int.{Width, w8, w16, w32, w64, byte_len, from_be_bytes, to_be_bytes}
use Rattle.std.specs.List.{flat_map}
use Rattle.std.proofs.lemmas.Bool.{cases_lt, ltb-false, le-ltb}
use Rattle.std.proofs.lemmas.List.{take_at, drop_at, take-append-drop, length-append, length-take, get_or-drop, get_or-take, get_or_past}
use Rattle.std.proofs.lemmas.List.Concat.{flat_map-cons}
use Rattle.std.proofs.lemmas.Nat.{be_bytes_2, be_bytes_4, be_bytes_8, from_be_bytes-to_be_bytes_2, from_be_bytes-to_be_bytes_4, from_be_bytes-to_be_bytes_8}
use Rattle.xfs_base.specs.Fields.{Fields}
use Rattle.segment_format.specs.declared.seg_error.SegError.{SegError}
use Rattle.segment_format.specs.declared.seg_error.SegError.TheVariants.{Short}
use Rattle.segment_format.specs.Reading.{Reader, read_on, ◌>>=◌, gives, past, raw, number, judged, checked}

abbrev pub IsBytes : List ℕ → Type 0
IsBytes bytes = (i : ℕ) → get_or bytes i 0 < 256

IsBytes-drop : (n : ℕ) (bytes : List ℕ) → IsBytes bytes → IsBytes (drop n bytes)
IsBytes-drop n bytes h i = rw get_or-drop (h (n + i))

IsBytes-take : (n : ℕ) (bytes : List ℕ) → IsBytes bytes → IsBytes (take n bytes)
IsBytes-take n bytes h i =
    elim (cases_lt i n) [
      | inl lt ↦ rw (get_or-take n bytes i 0 lt) (h i)
      | inr le ↦ rw (get_or_past (take n bytes) i 0 (omega (arith, length-take n bytes))) (omega arith)
    ]

-- what was taken from the front
pub record Takes (f : Fields) (text : List ℕ) (g : Fields) : Type 0 where
  pub parts : f.left ≡ text ++ g.left
  pub place : g.at ≡ f.at + length text
  pub fits : IsBytes g.left

Takes-then : (f g h : Fields) (a b : List ℕ) → Takes f a g → Takes g b h → Takes f (a ++ b) h
Takes-then f g h a b p q = record {
  parts = p.parts ∙ ap (λ t. a ++ t) q.parts ∙ sym (append_assoc a b h.left);
  place = omega (arith, p.place, q.place, length-append a b);
  fits = q.fits;
}

-- The reader p reads the texts t x of the values x of which V holds, and no others.
pub record IsReader {A : Type 0} (p : Reader A) (t : A → List ℕ) (V : A → Type 0) : Type 0 where
  pub takes : (f : Fields) (x : A) (g : Fields) → IsBytes f.left → p f ≡ Ok (x, g) → Takes f (t x) g × V x
  pub again : (x : A) (rest : List ℕ) (at : ℕ) → V x → p (record { left = t x ++ rest; at = at }) ≡ Ok (x, record { left = rest; at = at + length (t x) })

abbrev ok : {A : Type 0} → A → Fields → Result (A × Fields) SegError
ok x f = Ok (x, f)

abbrev done : {A : Type 0} → A × Fields → Result (A × Fields) SegError
done x = Ok x

ok_is : {A : Type 0} (x y : A) (f g : Fields) → ok x f ≡ ok y g → (x ≡ y) × (f ≡ g)
ok_is {A = A} x y f g e =
    let a : A × Fields = (x, f) in
    let b : A × Fields = (y, g) in
    let p : a ≡ b = cc in
    (ap (λ (q : A × Fields). q.0) p, ap (λ (q : A × Fields). q.1) p)

-- the step that did not fail
next_ok : {A B : Type 0} (r : Result (A × Fields) SegError) (q : A → Reader B) (y : B × Fields) → read_on r q ≡ Ok y
    → (x : A × Fields) × (r ≡ Ok x) × (q x.0 x.1 ≡ Ok y)
next_ok (Ok x) q y e = (x, refl, e)
next_ok (Err d) q y e = absurd cc

cond_ok : {A : Type 0} (b : Bool) (d : SegError) (x y : A) → cond b (Ok x) (Err d) ≡ Ok y → (b ≡ true) × (x ≡ y)
cond_ok true d x y e = (refl, cc)
cond_ok false d x y e = absurd cc

guard_ok : {A : Type 0} (b : Bool) (d : SegError) (x y : A) → cond b (Err d) (Ok x) ≡ Ok y → (b ≡ false) × (x ≡ y)
guard_ok true d x y e = absurd cc
guard_ok false d x y e = (refl, cc)

judged_ok : {A : Type 0} (r : Result (A × Fields) SegError) (test : A → Bool) (d : SegError) (y : A × Fields) → judged r test d ≡ Ok y
    → (r ≡ Ok y) × (test y.0 ≡ true)
judged_ok {A = A} (Ok x) test d y e =
    let s = cond_ok (test x.0) d x y e in
    (ap (λ (z : A × Fields). done z) s.1, subst (λ (z : A × Fields). test z.0 ≡ true) s.1 s.0)
judged_ok (Err e) test d y h = absurd cc

places : (at : ℕ) (a b : List ℕ) → at + length a + length b ≡ at + length (a ++ b)
places at a b = omega (arith, length-append a b)

-- ---- one reader after the other

pub then-reader : {A B : Type 0} {p : Reader A} {q : A → Reader B} {t : A → List ℕ} {u : B → List ℕ} {V : A → Type 0} {W : A → B → Type 0} (first : B → A)
    → IsReader p t V → ((a : A) → V a → IsReader (q a) u (W a)) → ((a : A) (b : B) → V a → W a b → first b ≡ a)
    → IsReader (p >>= q) (λ b. t (first b) ++ u b) (λ b. V (first b) × W (first b) b)
then-reader {A = A} {B = B} {p = p} {q = q} {t = t} {u = u} {V = V} {W = W} first hp hq key = record {
  takes = λ f b g fits e.
      let s = next_ok (p f) q (b, g) e in
      let a = s.0.0 in
      let one = hp.takes f a s.0.1 fits s.1 in
      let two = (hq a one.1).takes s.0.1 b g one.0.fits s.2 in
      let same : first b ≡ a = key a b one.1 two.1 in
      subst (λ (y : A). Takes f (t y ++ u b) g × (V y × W y b)) (sym same) (Takes-then f s.0.1 g (t a) (u b) one.0 two.0, (one.1, two.1));
  again = λ b rest at v.
      let a = first b in
      let one = hp.again a (u b ++ rest) at v.0 in
      let two = (hq a v.0).again b rest (at + length (t a)) v.1 in
      ap (λ (l : List ℕ). read_on (p (record { left = l; at = at })) q) (append_assoc (t a) (u b) rest)
      ∙ ap (λ (r : Result (A × Fields) SegError). read_on r q) one ∙ two ∙ ap (λ (n : ℕ). ok b (record { left = rest; at = n })) (places at (t a) (u b));
}

pub gives-reader : {B : Type 0} (c : B) → IsReader (gives c) (λ b. []) (λ b. b ≡ c)
gives-reader {B = B} c = record {
  takes = λ f b g fits e.
      let s = ok_is c b f g e in (
        record {
          parts = ap (λ (h : Fields). h.left) s.1;
          place = omega (arith, ap (λ (h : Fields). h.at) s.1);
          fits = subst (λ (h : Fields). IsBytes h.left) s.1 fits;
        },
        sym s.0,
      );
  again = λ b rest at v.
      let n : at ≡ at + 0 = omega arith in
      ap (λ (x : B). ok x (record { left = rest; at = at })) (sym v) ∙ ap (λ (k : ℕ). ok b (record { left = rest; at = k })) n;
}

pub checked-reader : {A : Type 0} {p : Reader A} {t : A → List ℕ} {V : A → Type 0} (test : A → Bool) (bad : ℕ → SegError) → IsReader p t V
    → IsReader (checked p test bad) t (λ x. V x × (test x ≡ true))
checked-reader {A = A} {p = p} {t = t} {V = V} test bad hp = record {
  takes = λ f x g fits e.
      let s = judged_ok (p f) test (bad f.at) (x, g) e in
      let one = hp.takes f x g fits s.0 in
      (one.0, (one.1, s.1));
  again = λ x rest at v.
      ap (λ (r : Result (A × Fields) SegError). judged r test (bad at)) (hp.again x rest at v.0)
      ∙ ap (λ (b : Bool). cond b (ok x (record { left = rest; at = at + length (t x) })) (Err (bad at))) v.1;
}

-- the same reader, its text and its values said in other words
pub as-reader : {A : Type 0} {p : Reader A} {t t' : A → List ℕ} {V V' : A → Type 0} → IsReader p t V → ((x : A) → V x → t x ≡ t' x) → ((x : A) → V x → V' x)
    → ((x : A) → V' x → V x) → IsReader p t' V'
as-reader {A = A} {p = p} {t = t} {t' = t'} {V = V} {V' = V'} hp same to from = record {
  takes = λ f x g fits e.
      let one = hp.takes f x g fits e in
      (subst (λ (text : List ℕ). Takes f text g) (same x one.1) one.0, to x one.1);
  again = λ x rest at v.
      let e = same x (from x v) in
      ap (λ (text : List ℕ). p (record { left = text ++ rest; at = at })) (sym e) ∙ hp.again x rest at (from x v)
      ∙ ap (λ (text : List ℕ). ok x (record { left = rest; at = at + length text })) e;
}

-- a list: its first is read, then the others
abbrev pub OfCons : {A : Type 0} → (A → Type 0) → (A → List A → Type 0) → List A → Type 0
OfCons V W [] = ⊥
OfCons V W (x ∷ xs) = V x × W x xs

cons-again : {A : Type 0} {p : Reader A} {q : A → Reader (List A)} {t : A → List ℕ} {V : A → Type 0} {W : A → List A → Type 0} → IsReader p t V
    → ((a : A) → V a → IsReader (q a) (flat_map t) (W a)) → (b : List A) (rest : List ℕ) (at : ℕ) → OfCons V W b
    → read_on (p (record { left = flat_map t b ++ rest; at = at })) (λ x. q x >>= λ xs. gives (x ∷ xs)) ≡ Ok
    (b, record { left = rest; at = at + length (flat_map t b) })
cons-again hp hq [] rest at v = absurd v
cons-again {A = A} {p = p} {q = q} {t = t} hp hq (x ∷ xs) rest at v =
    let k : A → Reader (List A) = λ y. q y >>= λ ys. gives (y ∷ ys) in
    let regroup : flat_map t (x ∷ xs) ++ rest ≡ t x ++ (flat_map t xs ++ rest) =
    ap (λ (l : List ℕ). l ++ rest) (flat_map-cons t x xs) ∙ append_assoc (t x) (flat_map t xs) rest in
    let far : at + length (t x) + length (flat_map t xs) ≡ at + length (flat_map t (x ∷ xs)) =
    places at (t x) (flat_map t xs) ∙ ap (λ (l : List ℕ). at + length l) (sym (flat_map-cons t x xs)) in
    ap (λ (l : List ℕ). read_on (p (record { left = l; at = at })) k) regroup
    ∙ ap (λ (r : Result (A × Fields) SegError). read_on r k) (hp.again x (flat_map t xs ++ rest) at v.0)
    ∙ ap (λ (r : Result (List A × Fields) SegError). read_on r (λ ys. gives (x ∷ ys))) ((hq x v.0).again xs rest (at + length (t x)) v.1)
    ∙ ap (λ (n : ℕ). ok (x ∷ xs) (record { left = rest; at = n })) far

pub cons-reader : {A : Type 0} {p : Reader A} {q : A → Reader (List A)} {t : A → List ℕ} {V : A → Type 0} {W : A → List A → Type 0} → IsReader p t V
    → ((a : A) → V a → IsReader (q a) (flat_map t) (W a))
    → IsReader (p >>= λ x. q x >>= λ xs. gives (x ∷ xs)) (flat_map t) (OfCons V W)
cons-reader {A = A} {p = p} {q = q} {t = t} {V = V} {W = W} hp hq = record {
  takes = λ f b g fits e.
      let k : A → Reader (List A) = λ y. q y >>= λ ys. gives (y ∷ ys) in
      let s = next_ok (p f) k (b, g) e in
      let a = s.0.0 in
      let r = next_ok (q a s.0.1) (λ ys. gives (a ∷ ys)) (b, g) s.2 in
      let one = hp.takes f a s.0.1 fits s.1 in
      let two = (hq a one.1).takes s.0.1 r.0.0 r.0.1 one.0.fits r.1 in
      let end = ok_is (a ∷ r.0.0) b r.0.1 g r.2 in
      let both : Takes f (flat_map t (a ∷ r.0.0)) r.0.1 =
      subst (λ (text : List ℕ). Takes f text r.0.1) (sym (flat_map-cons t a r.0.0)) (Takes-then f s.0.1 r.0.1 (t a) (flat_map t r.0.0) one.0 two.0) in
      subst (λ (h : Fields). Takes f (flat_map t b) h × OfCons V W b) end.1
      (subst (λ (ys : List A). Takes f (flat_map t ys) r.0.1 × OfCons V W ys) end.0 (both, (one.1, two.1)));
  again = cons-again hp hq;
}

-- ---- numbers and bytes

pub record IsWide (w : Width) (limit : ℕ) : Type 0 where
  pub len : (n : ℕ) → length (to_be_bytes w n) ≡ byte_len w
  pub back : (bytes : List ℕ) → length bytes ≡ byte_len w → IsBytes bytes → to_be_bytes w (from_be_bytes w bytes) ≡ bytes
  pub again : (n : ℕ) → n < limit → from_be_bytes w (to_be_bytes w n) ≡ n
  pub below : (bytes : List ℕ) → IsBytes bytes → from_be_bytes w bytes < limit

one_back : (bytes : List ℕ) → length bytes ≡ 1 → IsBytes bytes → to_be_bytes w8 (from_be_bytes w8 bytes) ≡ bytes
one_back [] len fits = absurd (omega (arith, len))
one_back (b ∷ []) len fits = ap (λ (n : ℕ). n ∷ []) (omega (arith, fits 0))
one_back (b ∷ c ∷ rest) len fits = absurd (omega (arith, len))

wide8 : IsWide w8 (2 ^ 8)
wide8 = record { len = λ n. refl; back = one_back; again = λ n lt. omega arith; below = λ bytes fits. omega (arith, fits 0) }

wide16 : IsWide w16 (2 ^ 16)
wide16 = record {
  len = λ n. refl;
  back = λ bytes len fits. be_bytes_2 bytes _ len fits refl;
  again = λ n lt. from_be_bytes-to_be_bytes_2 n lt;
  below = λ bytes fits. omega (arith, fits 0, fits 1);
}

wide32 : IsWide w32 (2 ^ 32)
wide32 = record {
  len = λ n. refl;
  back = λ bytes len fits. be_bytes_4 bytes _ len fits refl;
  again = λ n lt. from_be_bytes-to_be_bytes_4 n lt;
  below = λ bytes fits. omega (arith, fits 0, fits 1, fits 2, fits 3);
}

wide64 : IsWide w64 (2 ^ 64)
wide64 = record {
  len = λ n. refl;
  back = λ bytes len fits. be_bytes_8 bytes _ len fits refl;
  again = λ n lt. from_be_bytes-to_be_bytes_8 n lt;
  below = λ bytes fits. omega (arith, fits 0, fits 1, fits 2, fits 3, fits 4, fits 5, fits 6, fits 7);
}

number-reader : (w : Width) (limit : ℕ) (wide : IsWide w limit) → IsReader (number w) (to_be_bytes w) (λ n. n < limit)
number-reader w limit wide = record {
  takes = λ f n g fits e.
      let s = guard_ok (ltb (length f.left) (byte_len w)) (Short f.at) (from_be_bytes w (take (byte_len w) f.left), past (byte_len w) f) (n, g) e in
      let long : byte_len w ≤ length f.left = ltb-false _ _ s.0 in
      let n-is : from_be_bytes w (take (byte_len w) f.left) ≡ n = ap (λ (p : ℕ × Fields). p.0) s.1 in
      let g-is : past (byte_len w) f ≡ g = ap (λ (p : ℕ × Fields). p.1) s.1 in
      let front : take (byte_len w) f.left ≡ to_be_bytes w n =
      sym (wide.back (take (byte_len w) f.left) (omega (arith, length-take (byte_len w) f.left)) (IsBytes-take (byte_len w) f.left fits))
      ∙ ap (to_be_bytes w) n-is in
      let taken : Takes f (to_be_bytes w n) (past (byte_len w) f) = record {
        parts = sym (take-append-drop (byte_len w) f.left) ∙ ap (λ (l : List ℕ). l ++ drop (byte_len w) f.left) front;
        place = ap (λ (k : ℕ). f.at + k) (sym (wide.len n));
        fits = IsBytes-drop (byte_len w) f.left fits;
      } in (
        subst (λ (h : Fields). Takes f (to_be_bytes w n) h) g-is taken,
        subst (λ (k : ℕ). k < limit) n-is (wide.below (take (byte_len w) f.left) (IsBytes-take (byte_len w) f.left fits)),
      );
  again = λ n rest at lt.
      let len = wide.len n in
      let long : ltb (length (to_be_bytes w n ++ rest)) (byte_len w) ≡ false = le-ltb _ _ (omega (arith, length-append (to_be_bytes w n) rest, len)) in
      let read : number w (record { left = to_be_bytes w n ++ rest; at = at }) ≡ ok n (record { left = rest; at = at + byte_len w }) =
      rw (long, take_at (to_be_bytes w n) rest (byte_len w) len, drop_at (to_be_bytes w n) rest (byte_len w) len, wide.again n lt) refl in
      read ∙ ap (λ (k : ℕ). ok n (record { left = rest; at = at + k })) (sym len);
}

pub number16 : IsReader (number w16) (to_be_bytes w16) (λ n. n < 2 ^ 16)
number16 = number-reader w16 (2 ^ 16) wide16

pub number32 : IsReader (number w32) (to_be_bytes w32) (λ n. n < 2 ^ 32)
number32 = number-reader w32 (2 ^ 32) wide32

pub number64 : IsReader (number w64) (to_be_bytes w64) (λ n. n < 2 ^ 64)
number64 = number-reader w64 (2 ^ 64) wide64

-- one byte is itself
pub byte-reader : IsReader (number w8) (λ n. n ∷ []) (λ n. n < 2 ^ 8)
byte-reader = as-reader (number-reader w8 (2 ^ 8) wide8) (λ n lt. ap (λ (k : ℕ). k ∷ []) (omega arith)) (λ n lt. lt) (λ n lt. lt)

pub raw-reader : (n : ℕ) → IsReader (raw n) (λ bytes. bytes) (λ bytes. length bytes ≡ n)
raw-reader n = record {
  takes = λ f bytes g fits e.
      let s = guard_ok (ltb (length f.left) n) (Short f.at) (take n f.left, past n f) (bytes, g) e in
      let long : n ≤ length f.left = ltb-false _ _ s.0 in
      let len : length (take n f.left) ≡ n = omega (arith, length-take n f.left) in
      let taken : Takes f (take n f.left) (past n f) = record {
        parts = sym (take-append-drop n f.left);
        place = ap (λ (k : ℕ). f.at + k) (sym len);
        fits = IsBytes-drop n f.left fits;
      } in
      subst (λ (p : List ℕ × Fields). Takes f p.0 p.1 × (length p.0 ≡ n)) s.1 (taken, len);
  again = λ bytes rest at len.
      let long : ltb (length (bytes ++ rest)) n ≡ false = le-ltb _ _ (omega (arith, length-append bytes rest, len)) in
      let read : raw n (record { left = bytes ++ rest; at = at }) ≡ ok bytes (record { left = rest; at = at + n }) =
      rw (long, take_at bytes rest n len, drop_at bytes rest n len) refl in
      read ∙ ap (λ (k : ℕ). ok bytes (record { left = rest; at = at + k })) (sym len);
}
