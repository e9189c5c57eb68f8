-- Buckets and sizes are read exactly where they are of their form.
use Rattle.std.proofs.Common.{inl, inr, ◌≡◌, ℕ, zero, suc, ◌+◌, ◌<◌, ◌≤◌, ◌^◌, Bool, true, false, cond, ◌&&◌, List, [], ◌∷◌, ◌++◌, length, take, drop, get_or, Option, Some, None, refl, sym, ap, subst, ◌∙◌, arith}
use Rattle.std.specs.Prelude.{nat_le, ◌==◌, ◌||◌}
use Rattle.std.specs.Int.{w32, w64, to_be_bytes, from_be_bytes}
use Rattle.std.specs.List.{AllByRecursion}
use Rattle.std.specs.FinMap.Entries.{is_sorted}
use Rattle.std.proofs.lemmas.Bool.Decides.{nat_tests}
use Rattle.std.proofs.lemmas.List.{length-take-le, take-append-drop, get_or-drop}
use Rattle.std.proofs.lemmas.Nat.{be_bytes_4, be_bytes_8, from_be_bytes-to_be_bytes_8}
use Rattle.std.proofs.lemmas.Bool.{leb-true, le-leb}
use Rattle.xfs_base.proofs.Booleans.{and_first, and_second}
use Rattle.version_model.specs.History.{Content}
use Rattle.file_plan.specs.Names.{Row, name_cmp, is_good}
use Rattle.file_plan.specs.Format.{kind_byte, kind_of, is_kind_byte, value_of, row_text, bucket_bytes, name_length, front_row, has_row, with_row, rows_from, in_order, read_bucket, read_size, file_end}
use Rattle.file_plan.specs.Formats.{IsStored, IsRow, IsBucketOf, IsSizeOf, BucketsAreExact, SizesAreExact}
use Rattle.file_plan.proofs.Buckets.{bucket_read}
use Rattle.file_plan.proofs.Measuring.{size_bound}
use Rattle.file_plan.specs.declared.node.Kind.TheVariants as kind

abbrev AreBytes : List ℕ → Type 0
AreBytes bytes = (i : ℕ) → get_or bytes i 0 < 256

-- ---- what is read is of the form

-- four bytes and no more
four : (a b c d : ℕ) → AreBytes (a ∷ b ∷ c ∷ d ∷ []) → to_be_bytes w32 (from_be_bytes w32 (a ∷ b ∷ c ∷ d ∷ [])) ≡ a ∷ b ∷ c ∷ d ∷ []
four a b c d small = be_bytes_4 (a ∷ b ∷ c ∷ d ∷ []) (from_be_bytes w32 (a ∷ b ∷ c ∷ d ∷ [])) refl small refl

four_small : (a b c d : ℕ) → a < 256 → b < 256 → c < 256 → d < 256 → AreBytes (a ∷ b ∷ c ∷ d ∷ [])
four_small a b c d ha hb hc hd zero = ha
four_small a b c d ha hb hc hd (suc zero) = hb
four_small a b c d ha hb hc hd (suc (suc zero)) = hc
four_small a b c d ha hb hc hd (suc (suc (suc zero))) = hd
four_small a b c d ha hb hc hd (suc (suc (suc (suc i)))) = omega arith

four_fit : (a b c d : ℕ) → a < 256 → b < 256 → c < 256 → d < 256 → from_be_bytes w32 (a ∷ b ∷ c ∷ d ∷ []) < 2 ^ 32
four_fit a b c d ha hb hc hd = omega arith

record Front (bytes : List ℕ) : Type 0 where
  text : bytes ≡ row_text (front_row bytes) ++ drop (name_length bytes) (drop 6 bytes)
  row : IsRow (front_row bytes)

byte_back : (k : ℕ) → is_kind_byte k ≡ true → kind_byte (kind_of k) ≡ k
byte_back k known = by (k == 1) (k == 2) refl refl known
  where
    by : (b c : Bool) → (k == 1) ≡ b → (k == 2) ≡ c → (b || c) ≡ true → kind_byte (cond b kind.File kind.Directory) ≡ k
    by true c e f h = let g : k ≡ 1 = grind (arith, nat_tests) in sym g
    by false true e f h = let g : k ≡ 2 = grind (arith, nat_tests) in sym g
    by false false e f h = let w : false ≡ true = h in cc

six : (k a b c d l : ℕ) (rest : List ℕ) → AreBytes (k ∷ a ∷ b ∷ c ∷ d ∷ l ∷ rest) → l ≤ length rest → is_kind_byte k ≡ true → is_good (take l rest) ≡ true
    → Front (k ∷ a ∷ b ∷ c ∷ d ∷ l ∷ rest)
six k a b c d l rest small within known good =
    let ha : a < 256 = small 1 in let hb : b < 256 = small 2 in let hc : c < 256 = small 3 in let hd : d < 256 = small 4 in
    record {
      text = ap (λ (bs : List ℕ). k ∷ a ∷ b ∷ c ∷ d ∷ l ∷ bs) (sym (take-append-drop l rest))
          ∙ ap (λ (n : ℕ). k ∷ a ∷ b ∷ c ∷ d ∷ n ∷ (take l rest ++ drop l rest)) (sym (length-take-le l rest within))
          ∙ ap (λ (bs : List ℕ). k ∷ (bs ++ length (take l rest) ∷ (take l rest ++ drop l rest))) (sym (four a b c d (four_small a b c d ha hb hc hd)))
          ∙ ap (λ (n : ℕ). n ∷ (to_be_bytes w32 (from_be_bytes w32 (a ∷ b ∷ c ∷ d ∷ [])) ++ length (take l rest) ∷ (take l rest ++ drop l rest)))
          (sym (byte_back k known));
      row = record { good = good; ino = four_fit a b c d ha hb hc hd };
    }

front : (bytes : List ℕ) → AreBytes bytes → has_row bytes ≡ true → Front bytes
unfolding has_row
front bytes small has =
    by bytes small (leb-true (6 + name_length bytes) (length bytes) (and_first (nat_le (6 + name_length bytes) (length bytes)) _ has))
    (and_first (is_kind_byte (get_or bytes 0 0)) _ (and_second (nat_le (6 + name_length bytes) (length bytes)) _ has))
    (and_second (is_kind_byte (get_or bytes 0 0)) _ (and_second (nat_le (6 + name_length bytes) (length bytes)) _ has))
  where
    by : (bytes : List ℕ) → AreBytes bytes → 6 + name_length bytes ≤ length bytes → is_kind_byte (get_or bytes 0 0) ≡ true → is_good (front_row bytes).0 ≡ true
        → Front bytes
    by [] small long kind good = absurd (omega (arith, long))
    by (k ∷ []) small long kind good = absurd (omega (arith, long))
    by (k ∷ a ∷ []) small long kind good = absurd (omega (arith, long))
    by (k ∷ a ∷ b ∷ []) small long kind good = absurd (omega (arith, long))
    by (k ∷ a ∷ b ∷ c ∷ []) small long kind good = absurd (omega (arith, long))
    by (k ∷ a ∷ b ∷ c ∷ d ∷ []) small long kind good = absurd (omega (arith, long))
    by (k ∷ a ∷ b ∷ c ∷ d ∷ l ∷ rest) small long kind good = six k a b c d l rest small (omega (arith, long)) kind good

drop_small : (n : ℕ) (bytes : List ℕ) → AreBytes bytes → AreBytes (drop n bytes)
drop_small n bytes small i = subst (λ (b : ℕ). b < 256) (sym (get_or-drop n bytes i 0)) (small (n + i))

-- the bytes are the text of the entries that are read
abbrev IsRead : List ℕ → List Row → Type 0
IsRead bytes rows = (bytes ≡ bucket_bytes rows) × AllByRecursion IsRow rows

none_read : (bytes : List ℕ) (rows : List Row) → Some rows ≡ None → IsRead bytes rows
none_read bytes rows e = let no' : ⊥ = cc in absurd no'

read_more : (bytes rest : List ℕ) (row : Row) → bytes ≡ row_text row ++ rest → IsRow row → (o : Option (List Row))
    → ((more : List Row) → o ≡ Some more → IsRead rest more) → (rows : List Row) → with_row row o ≡ Some rows → IsRead bytes rows
read_more bytes rest row text fact None go rows e = none_read bytes rows (sym e)
read_more bytes rest row text fact (Some more) go rows e =
    let same : row ∷ more ≡ rows = cc in
    let g = go more refl in
    subst (IsRead bytes) same (text ∙ ap (λ (bs : List ℕ). row_text row ++ bs) g.0, (fact, g.1))

read_step : (bytes : List ℕ) (b : Bool) → has_row bytes ≡ b → AreBytes bytes → (o : Option (List Row))
    → ((more : List Row) → o ≡ Some more → IsRead (drop (name_length bytes) (drop 6 bytes)) more) → (rows : List Row)
    → cond b (with_row (front_row bytes) o) None ≡ Some rows → IsRead bytes rows
read_step bytes true has small o go rows e = let f =
    front bytes small has in read_more bytes (drop (name_length bytes) (drop 6 bytes)) (front_row bytes) f.text f.row o go rows e
read_step bytes false has small o go rows e = none_read bytes rows (sym e)

rows_read : (n : ℕ) (bytes : List ℕ) → AreBytes bytes → (rows : List Row) → rows_from n bytes ≡ Some rows → IsRead bytes rows
rows_read n [] small rows e = let same : [] ≡ rows = cc in subst (IsRead []) same (refl, tt)
rows_read zero (b ∷ bs) small rows e = none_read (b ∷ bs) rows (sym e)
rows_read (suc n) (b ∷ bs) small rows e =
    let rest = drop (name_length (b ∷ bs)) (drop 6 (b ∷ bs)) in
    read_step (b ∷ bs) (has_row (b ∷ bs)) refl small (rows_from n rest)
    (λ more h. rows_read n rest (drop_small (name_length (b ∷ bs)) (drop 6 (b ∷ bs)) (drop_small 6 (b ∷ bs) small)) more h) rows e

ordered : (o : Option (List Row)) (rows : List Row) → in_order o ≡ Some rows → (o ≡ Some rows) × (is_sorted name_cmp rows ≡ true)
ordered None rows e = let no' : ⊥ = cc in absurd no'
ordered (Some found) rows e = by (is_sorted name_cmp found) refl e
  where
    by : (b : Bool) → is_sorted name_cmp found ≡ b → cond b (Some found) None ≡ Some rows → (Some found ≡ Some rows) × (is_sorted name_cmp rows ≡ true)
    by true s e = let same : found ≡ rows = cc in (e, ap (λ (rs : List Row). is_sorted name_cmp rs) (sym same) ∙ s)
    by false s e = let no' : ⊥ = cc in absurd no'

some_content : (bytes : List ℕ) → 0 < length bytes → Some bytes ≡ value_of bytes
some_content [] h = absurd (omega (arith, h))
some_content (b ∷ bs) h = refl

bucket_form : (value : Content) (rows : List Row) → IsStored value → read_bucket value ≡ Some rows → IsBucketOf value rows
bucket_form None rows stored e = let same : [] ≡ rows = cc in subst (IsBucketOf None) same (record { text = refl; rising = refl; each = tt })
bucket_form (Some bytes) rows stored e =
    let o = ordered (rows_from (length bytes) bytes) rows e in
    let r = rows_read (length bytes) bytes stored.1 rows o.0 in
    record { text = some_content bytes stored.0 ∙ ap value_of r.0; rising = o.1; each = r.1 }

pub buckets_exact : BucketsAreExact
buckets_exact value rows stored = (bucket_form value rows stored, bucket_read value rows)

-- ---- sizes

size_form : (bytes : List ℕ) (size : ℕ) (b c : Bool) → (length bytes == 8) ≡ b → nat_le (from_be_bytes w64 bytes) file_end ≡ c → AreBytes bytes
    → cond (b && c) (Some (from_be_bytes w64 bytes)) None ≡ Some size → IsSizeOf (Some bytes) size
size_form bytes size true true eight fit small e =
    let long : length bytes ≡ 8 = grind (arith, nat_tests) in
    let same : from_be_bytes w64 bytes ≡ size = cc in
    inr (ap Some (sym (be_bytes_8 bytes size long small (sym same))), subst (λ (n : ℕ). n ≤ file_end) same (leb-true (from_be_bytes w64 bytes) file_end fit))
size_form bytes size true false eight fit small e = let no' : ⊥ = cc in absurd no'
size_form bytes size false c eight fit small e = let no' : ⊥ = cc in absurd no'

form_of_size : (value : Content) (size : ℕ) → IsStored value → read_size value ≡ Some size → IsSizeOf value size
form_of_size None size stored e = let same : 0 ≡ size = cc in inl (refl, sym same)
form_of_size (Some []) size stored e = absurd (omega (arith, stored.0))
form_of_size (Some (b ∷ bs)) size stored e = size_form (b ∷ bs) size (length (b ∷ bs) == 8) (nat_le (from_be_bytes w64 (b ∷ bs)) file_end) refl refl stored.1 e

size_read : (value : Content) (size : ℕ) → IsSizeOf value size → read_size value ≡ Some size
size_read value size (inl h) = ap read_size h.0 ∙ ap Some (sym h.1)
size_read value size (inr h) =
    ap read_size h.0 ∙ ap (λ (m : ℕ). cond (nat_le m file_end) (Some m) None) (from_be_bytes-to_be_bytes_8 size (size_bound size h.1))
    ∙ ap (λ (b : Bool). cond b (Some size) None) (le-leb size file_end h.1)

pub sizes_exact : SizesAreExact
sizes_exact value size stored = (form_of_size value size stored, size_read value size)
