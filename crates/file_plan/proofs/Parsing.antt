-- The loop that reads the entries of a bucket, one after the other.
use Rattle.std.proofs.Common.{◌≡◌, ℕ, zero, suc, ◌+◌, ◌<◌, ◌≤◌, Bool, true, false, cond, ◌&&◌, List, [], ◌∷◌, ◌++◌, length, take, drop, get_or, Option, Some, None, refl, sym, ap, subst, ◌∙◌, arith, append_assoc, length-drop, inl, inr}
use Rattle.std.specs.Prelude.{nat_le, ◌==◌, ◌⊎◌}
use Rattle.xfs_base.specs.Limits.{max_value}
use Rattle.xfs_base.specs.Value.{IsValue}
use Rattle.xfs_base.proofs.Booleans.{and_first, and_second}
use Rattle.std.proofs.lemmas.Bool.Decides.{nat_tests}
use Rattle.std.proofs.lemmas.List.{append-nil}
use Rattle.std.specs.List.{list_all}
use Rattle.std.proofs.lemmas.Bool.{le-leb, leb-true}
use Rattle.file_plan.specs.Names.{Row, is_good, has_name_length, is_name_byte}
use Rattle.file_plan.specs.Format.{value_of, is_kind_byte, name_length, front_row, has_row, rest_of_rows, with_row, rows_from}

-- ---- the entry at the front

pub has_row_long : (bytes : List ℕ) → 6 + name_length bytes ≤ length bytes
    → has_row bytes ≡ (is_kind_byte (get_or bytes 0 0) && is_good (take (name_length bytes) (drop 6 bytes)))
unfolding has_row
has_row_long bytes long =
    ap (λ (b : Bool). b && (is_kind_byte (get_or bytes 0 0) && is_good (front_row bytes).0)) (le-leb (6 + name_length bytes) (length bytes) long)

pub has_row_short : (bytes : List ℕ) → length bytes < 6 + name_length bytes → has_row bytes ≡ false
unfolding has_row
has_row_short bytes short =
    ap (λ (b : Bool). b && (is_kind_byte (get_or bytes 0 0) && is_good (front_row bytes).0)) (too_long (6 + name_length bytes) (length bytes) short)
  where
    too_long : (n m : ℕ) → m < n → nat_le n m ≡ false
    too_long n m h = grind (arith, nat_tests)

-- an entry at the front has at least its six bytes and its name
pub row_length : (bytes : List ℕ) → has_row bytes ≡ true → 6 + name_length bytes ≤ length bytes
unfolding has_row
row_length bytes has = leb-true (6 + name_length bytes) (length bytes) (and_first (nat_le (6 + name_length bytes) (length bytes)) _ has)

pub row_name : (bytes : List ℕ) → has_row bytes ≡ true → is_good (take (name_length bytes) (drop 6 bytes)) ≡ true
unfolding has_row
row_name bytes has = and_second (is_kind_byte (get_or bytes 0 0)) _ (and_second (nat_le (6 + name_length bytes) (length bytes)) _ has)

-- ---- the loop

-- the entries that were read, and those to come
abbrev pub with_all : List Row → Option (List Row) → Option (List Row)
with_all rows None = None
with_all rows (Some more) = Some (rows ++ more)

-- so many entries at most are to come, and with them all are those of the bucket
pub record Reads (rows : List Row) (rest all : List ℕ) : Type 0 where
  pub limit : ℕ
  pub enough : length rest ≤ limit
  pub same : with_all rows (rows_from limit rest) ≡ rows_from (length all) all

all_more : (rows : List Row) (row : Row) (o : Option (List Row)) → with_all (rows ++ row ∷ []) o ≡ with_all rows (with_row row o)
all_more rows row None = refl
all_more rows row (Some more) = ap Some (append_assoc rows (row ∷ []) more)

front_step : (n : ℕ) (b : ℕ) (bs : List ℕ) (t : Bool) → has_row (b ∷ bs) ≡ t
    → rows_from (suc n) (b ∷ bs) ≡ cond t (with_row (front_row (b ∷ bs)) (rows_from n (rest_of_rows (b ∷ bs)))) None
front_step n b bs t e = ap (λ (u : Bool). cond u (with_row (front_row (b ∷ bs)) (rows_from n (rest_of_rows (b ∷ bs)))) None) e

pub rest_shorter : (bytes : List ℕ) → has_row bytes ≡ true → length (rest_of_rows bytes) < length bytes
rest_shorter bytes has =
    let long = row_length bytes has in
    let e = length-drop (name_length bytes) (drop 6 bytes) in
    let f = length-drop 6 bytes in
    omega (arith, long, e, f)

pub reads_more : (rows : List Row) (rest all : List ℕ) (row : Row) → has_row rest ≡ true → row ≡ front_row rest → Reads rows rest all
    → Reads (rows ++ row ∷ []) (rest_of_rows rest) all
reads_more rows [] all row has fact r = let long = row_length [] has in absurd (omega (arith, long))
reads_more rows (b ∷ bs) all row has fact r = by r.limit r.enough r.same
  where
    by : (n : ℕ) → length (b ∷ bs) ≤ n → with_all rows (rows_from n (b ∷ bs)) ≡ rows_from (length all) all
        → Reads (rows ++ row ∷ []) (rest_of_rows (b ∷ bs)) all
    by zero enough same = absurd (omega (arith, enough))
    by (suc n) enough same = record {
      limit = n;
      enough = let less = rest_shorter (b ∷ bs) has in omega (arith, less, enough);
      same = all_more rows row (rows_from n (rest_of_rows (b ∷ bs)))
          ∙ ap (λ (r : Row). with_all rows (with_row r (rows_from n (rest_of_rows (b ∷ bs))))) fact
          ∙ ap (with_all rows) (sym (front_step n b bs true has)) ∙ same;
    }

pub reads_all : (rows : List Row) (rest all : List ℕ) → length rest ≡ 0 → Reads rows rest all → Some rows ≡ rows_from (length all) all
reads_all rows [] all none r = ap Some (sym (append-nil rows)) ∙ r.same
reads_all rows (b ∷ bs) all none r = absurd (omega (arith, none))

pub reads_step : (rows : List Row) (rest all : List ℕ) (row : Row) (now : List Row) (more : List ℕ) → has_row rest ≡ true → row ≡ front_row rest
    → now ≡ rows ++ row ∷ [] → more ≡ rest_of_rows rest → Reads rows rest all → Reads now more all
reads_step rows rest all row now more has fact e f r =
    subst (λ (rs : List Row). Reads rs more all) (sym e)
    (subst (λ (bs : List ℕ). Reads (rows ++ row ∷ []) bs all) (sym f) (reads_more rows rest all row has fact r))

-- ---- names

-- a name has at most 60 bytes
pub good_short : (name : List ℕ) → is_good name ≡ true → length name ≤ 60
unfolding is_good
good_short name good =
    by (length name)
    (and_second (nat_le 1 (length name)) (nat_le (length name) 60)
    (and_first (nat_le 1 (length name) && nat_le (length name) 60) _ (and_first (has_name_length name && list_all is_name_byte name) _ good)))
  where
    by : (n : ℕ) → nat_le n 60 ≡ true → n ≤ 60
    by n h = grind (arith, nat_tests)

-- ---- values

-- bytes that are a value are none that are refused
pub bad_value : (bytes : List ℕ) (n : ℕ) → IsValue (value_of bytes) → false ≡ (length bytes == 0)
    → (n ≡ length bytes) × ((length bytes ≡ 0) ⊎ (max_value < length bytes)) → ⊥
bad_value [] n fact some h = let e : false ≡ true = some in cc
bad_value (b ∷ bs) n fact some h = by h.1
  where
    by : (length (b ∷ bs) ≡ 0) ⊎ (max_value < length (b ∷ bs)) → ⊥
    by (inl e) = omega (arith, e)
    by (inr e) = omega (arith, e, fact.1)

-- a front of some bytes is a value
pub some_content : (bytes : List ℕ) (n : ℕ) → 0 < n → 0 < length bytes → value_of (take n bytes) ≡ Some (take n bytes)
some_content bytes zero h some = absurd (omega (arith, h))
some_content [] (suc n) h some = absurd (omega (arith, some))
some_content (b ∷ bs) (suc n) h some = refl
