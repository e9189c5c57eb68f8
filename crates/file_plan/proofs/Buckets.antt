-- What is written as a bucket is read as it was written, and what a bucket holds once an entry is put or taken out.
use Rattle.std.proofs.Common.{◌≡◌, ℕ, zero, suc, ◌+◌, ◌<◌, ◌≤◌, ◌^◌, Bool, true, false, cond, ◌&&◌, List, [], ◌∷◌, ◌++◌, length, drop, Option, Some, None, refl, sym, ap, subst, ◌∙◌, arith, length-append}
use Rattle.std.specs.Prelude.{T, nat_le, IfSome}
use Rattle.std.specs.List.{AllByRecursion}
use Rattle.std.specs.FinMap.Entries.{is_sorted, is_sorted-put, below_all}
use Rattle.std.specs.Ordering.{eq_by_cmp, match_ordering, is_eq, is_lt}
use Rattle.std.specs.Cmp.{IsTotalOrder}
use Rattle.std.specs.Map.{remove_entry}
use Rattle.std.specs.BTreeMap.{is_at, insert_entry}
use Rattle.std.specs.declared.cmp.Ordering.{Ordering}
use Rattle.std.specs.declared.cmp.Ordering.TheVariants.{Less, Equal, Greater}
use Rattle.std.proofs.lemmas.Bool.Decides.{nat_tests}
use Rattle.std.proofs.lemmas.Cmp.{nat_list_cmp_total, tied_itself}
use Rattle.std.proofs.lemmas.List.{take_at, drop_at}
use Rattle.std.proofs.lemmas.Map.Lookups.{exact_bytes}
use Rattle.std.proofs.lemmas.Nat.{from_be_bytes-to_be_bytes_4}
use Rattle.xfs_base.proofs.BlockOrder.{lookup-insert_entry, insert_entry-put}
use Rattle.version_model.specs.History.{Content}
use Rattle.file_plan.specs.declared.node.Node.{Node}
use Rattle.file_plan.specs.Names.{Name, Row, name_cmp, is_good, named}
use Rattle.file_plan.specs.Format.{kind_byte, kind_of, is_kind_byte, value_of, row_text, bucket_bytes, front_row, has_row, with_row, rows_from, in_order, read_bucket}
use Rattle.file_plan.specs.Formats.{IsRow, IsBucketOf}
use Rattle.file_plan.specs.Tree.{IsEntry, IsBucket}
use Rattle.xfs_base.specs.declared.block.Ino.{Ino}
use Rattle.file_plan.specs.declared.node.Kind.{Kind}
use Rattle.file_plan.specs.declared.node.Kind.TheVariants as kind

pub and_true : (a b : Bool) → a ≡ true → b ≡ true → (a && b) ≡ true
and_true a b p q = ap (λ x. x && b) p ∙ q

pub is_T : (b : Bool) → b ≡ true → T b
is_T b h = subst T (sym h) tt

pub from_T : (b : Bool) → T b → b ≡ true
from_T true h = refl
from_T false h = absurd h

-- ---- a bucket is read as it was written

length_first : (name rest : List ℕ) (n : ℕ) → 6 + length (name ++ rest) ≡ n → nat_le (6 + length name) n ≡ true
length_first name rest n h = let e = length-append name rest in let le : 6 + length name ≤ n = omega (arith, e, h) in grind (arith, nat_tests)

-- the byte of a kind is read as it was written
kind_back : (k : Kind) → kind_of (kind_byte k) ≡ k
kind_back kind.File = refl
kind_back kind.Directory = refl

kind_known : (k : Kind) → is_kind_byte (kind_byte k) ≡ true
kind_known kind.File = refl
kind_known kind.Directory = refl

pub front_is : (row : Row) (rest : List ℕ) → row.1.ino.0 < 2 ^ 32 → front_row (row_text row ++ rest) ≡ row
front_is row rest fits =
    let p = take_at row.0 rest (length row.0) refl in
    let q = from_be_bytes-to_be_bytes_4 row.1.ino.0 fits in
    λ i. (p i, record { kind = kind_back row.1.kind i; ino = record { 0 = q i } })

pub has_front : (row : Row) (rest : List ℕ) → is_good row.0 ≡ true → has_row (row_text row ++ rest) ≡ true
unfolding has_row
has_front row rest good =
    and_true _ _ (length_first row.0 rest (length (row_text row ++ rest)) (omega arith))
    (and_true (is_kind_byte (kind_byte row.1.kind)) _ (kind_known row.1.kind) (ap is_good (take_at row.0 rest (length row.0) refl) ∙ good))

pub rows_back : (rows : List Row) (n : ℕ) → length (bucket_bytes rows) ≤ n → AllByRecursion IsRow rows → rows_from n (bucket_bytes rows) ≡ Some rows
rows_back [] n short all = refl
rows_back (row ∷ rows) zero short all = absurd (omega (arith, short))
rows_back (row ∷ rows) (suc n) short all =
    let e = length-append row.0 (bucket_bytes rows) in
    let less : length (bucket_bytes rows) ≤ n = omega (arith, e, short) in
    ap (λ (b : Bool). cond b (with_row (front_row (bucket_bytes (row ∷ rows))) (rows_from n (drop (length row.0) (row.0 ++ bucket_bytes rows)))) None)
    (has_front row (bucket_bytes rows) all.0.good)
    ∙ ap (λ (r : Row). with_row r (rows_from n (drop (length row.0) (row.0 ++ bucket_bytes rows)))) (front_is row (bucket_bytes rows) all.0.ino)
    ∙ ap (λ (bytes : List ℕ). with_row row (rows_from n bytes)) (drop_at row.0 (bucket_bytes rows) (length row.0) refl)
    ∙ ap (with_row row) (rows_back rows n less all.1)

read_content : (bytes : List ℕ) → read_bucket (value_of bytes) ≡ in_order (rows_from (length bytes) bytes)
read_content [] = refl
read_content (b ∷ bs) = refl

pub bucket_read : (value : Content) (rows : List Row) → IsBucketOf value rows → read_bucket value ≡ Some rows
bucket_read value rows fact =
    ap read_bucket fact.text ∙ read_content (bucket_bytes rows) ∙ ap in_order (rows_back rows (length (bucket_bytes rows)) (omega arith) fact.each)
    ∙ ap (λ (b : Bool). cond b (Some rows) None) fact.rising

forms : (kinds : Ino → Option Kind) (bucket : ℕ) (rows : List Row) → AllByRecursion (IsEntry kinds bucket) rows → AllByRecursion IsRow rows
forms kinds bucket [] all = tt
forms kinds bucket (row ∷ rows) all = (all.0.form, forms kinds bucket rows all.1)

pub bucket_back : (kinds : Ino → Option Kind) (bucket : ℕ) (value : Content) (rows : List Row) → IsBucket kinds bucket value rows
    → read_bucket value ≡ Some rows
bucket_back kinds bucket value rows fact = bucket_read value rows (record { text = fact.text; rising = fact.rising; each = forms kinds bucket rows fact.each })

-- ---- what names lead to

pub name_total : IsTotalOrder name_cmp
name_total = nat_list_cmp_total

equal_from_test : (o : Ordering) → is_eq o ≡ true → o ≡ Equal
equal_from_test Less h = cc
equal_from_test Equal h = refl
equal_from_test Greater h = cc

pub one_name : (a b : Name) → eq_by_cmp name_cmp a b ≡ true → a ≡ b
one_name a b h = exact_bytes a b (equal_from_test (name_cmp a b) h)

pub name_itself : (a : Name) → eq_by_cmp name_cmp a a ≡ true
name_itself a = ap is_eq (tied_itself name_total a)

-- what holds of each entry holds of the one that a name leads to
found_step : (P : Row → Type 0) (name : Name) (row : Row) (rest : Option Node) (t : Bool) → eq_by_cmp name_cmp name row.0 ≡ t → P row
    → IfSome rest (λ node. P (name, node)) → IfSome (cond t (Some row.1) rest) (λ node. P (name, node))
found_step P name row rest true fact here more = subst (λ (n : Name). P (n, row.1)) (sym (one_name name row.0 fact)) here
found_step P name row rest false fact here more = more

pub named_each : (P : Row → Type 0) (name : Name) (rows : List Row) → AllByRecursion P rows → IfSome (named name rows) (λ node. P (name, node))
named_each P name [] all = tt
named_each P name (row ∷ rows) all = found_step P name row (named name rows) (eq_by_cmp name_cmp name row.0) refl all.0 (named_each P name rows all.1)

-- ---- an entry more

pub named-insert : (q k : Name) (node : Node) (rows : List Row)
    → named q (insert_entry name_cmp rows k node) ≡ cond (eq_by_cmp name_cmp q k) (Some node) (named q rows)
named-insert q k node rows = lookup-insert_entry name_total q k node rows

pub rising-insert : (k : Name) (node : Node) (rows : List Row) → is_sorted name_cmp rows ≡ true → is_sorted name_cmp (insert_entry name_cmp rows k node) ≡ true
rising-insert k node rows h =
    ap (λ (rs : List Row). is_sorted name_cmp rs) (insert_entry-put name_cmp k node rows)
    ∙ from_T _ (is_sorted-put name_cmp name_total k node rows (is_T (is_sorted name_cmp rows) h))

pub all-insert : (P : Row → Type 0) (k : Name) (node : Node) (rows : List Row) → P (k, node) → AllByRecursion P rows
    → AllByRecursion P (insert_entry name_cmp rows k node)
all-insert P k node [] here all = (here, tt)
all-insert P k node (row ∷ rows) here all =
    elim (name_cmp k row.0) as
    (λ (o : Ordering). name_cmp k row.0 ≡ o
    → AllByRecursion P (match_ordering o ((k, node) ∷ row ∷ rows) ((row.0, node) ∷ rows) (row ∷ insert_entry name_cmp rows k node))) [
      | Less ↦ λ _. (here, all)
      | Equal ↦ λ e. (subst (λ (n : Name). P (n, node)) (one_name k row.0 (ap is_eq e)) here, all.1)
      | Greater ↦ λ _. (all.0, all-insert P k node rows here all.1)
    ] refl

-- the bytes that an entry more takes
pub length-insert : (k : Name) (node : Node) (rows : List Row) → named k rows ≡ None
    → length (bucket_bytes (insert_entry name_cmp rows k node)) ≡ length (bucket_bytes rows) + (6 + length k)
length-insert k node [] none = let nil : List ℕ = [] in let e = length-append k nil in omega (arith, e)
length-insert k node (row ∷ rows) none =
    elim (name_cmp k row.0) as
    (λ (o : Ordering). cond (is_eq o) (Some row.1) (named k rows) ≡ None
    → length (bucket_bytes (match_ordering o ((k, node) ∷ row ∷ rows) ((row.0, node) ∷ rows) (row ∷ insert_entry name_cmp rows k node))) ≡ length
    (bucket_bytes (row ∷ rows)) + (6 + length k)) [
      | Less ↦ λ _. let e = length-append k (bucket_bytes (row ∷ rows)) in omega (arith, e)
      | Equal ↦ λ h. let e : Some row.1 ≡ None = h in cc
      | Greater ↦ λ h. let e = length-append row.0 (bucket_bytes rows) in let f =
          length-append row.0 (bucket_bytes (insert_entry name_cmp rows k node)) in omega (arith, e, f, length-insert k node rows h)
    ] none

-- ---- an entry less

pub first : (a b : Bool) → T (a && b) → T a
first true b h = tt
first false b h = h

pub second : (a b : Bool) → T (a && b) → T b
second true b h = h
second false b h = absurd h

both : (a b : Bool) → T a → T b → T (a && b)
both true b h k = k
both false b h k = h

passed : (o : Ordering) (row : Row) (rest : Option Node) → T (is_lt o) → rest ≡ None → cond (is_eq o) (Some row.1) rest ≡ None
passed Less row rest less none = none
passed Equal row rest less none = absurd less
passed Greater row rest less none = absurd less

pub none_below : (x q : Name) (rows : List Row) → q ≡ x → T (below_all name_cmp x rows) → named q rows ≡ None
none_below x q [] same below = refl
none_below x q (row ∷ rows) same below =
    let less : T (is_lt (name_cmp q row.0)) =
    subst (λ (n : Name). T (is_lt (name_cmp n row.0))) (sym same) (first (is_lt (name_cmp x row.0)) (below_all name_cmp x rows) below) in
    passed (name_cmp q row.0) row (named q rows) less (none_below x q rows same (second (is_lt (name_cmp x row.0)) (below_all name_cmp x rows) below))

apart : (a b : Name) → a ≡ b → eq_by_cmp name_cmp a b ≡ false → true ≡ false
apart a b same differ = sym (name_itself b) ∙ ap (λ (n : Name). eq_by_cmp name_cmp n b) (sym same) ∙ differ

removed_step : (q k : Name) (row : Row) (rows : List Row) (less : Option Node) (t b c : Bool) → eq_by_cmp name_cmp k row.0 ≡ t → eq_by_cmp name_cmp q k ≡ b
    → eq_by_cmp name_cmp q row.0 ≡ c
    → T (below_all name_cmp row.0 rows) → less ≡ cond b None (named q rows)
    → cond t (named q rows) (cond c (Some row.1) less) ≡ cond b None (cond c (Some row.1) (named q rows))
removed_step q k row rows less true true c tk bk ck below h = none_below row.0 q rows (one_name q k bk ∙ one_name k row.0 tk) below
removed_step q k row rows less true false true tk bk ck below h = let e = apart q k (one_name q row.0 ck ∙ sym (one_name k row.0 tk)) bk in cc
removed_step q k row rows less true false false tk bk ck below h = refl
removed_step q k row rows less false true true tk bk ck below h = let e = apart k row.0 (sym (one_name q k bk) ∙ one_name q row.0 ck) tk in cc
removed_step q k row rows less false false true tk bk ck below h = refl
removed_step q k row rows less false b false tk bk ck below h = h

abbrev pub without : Name → List Row → List Row
without name rows = remove_entry (is_at (name_cmp name)) rows

none_either : (b : Bool) (o : Option Node) → o ≡ None → o ≡ cond b None o
none_either true o h = h
none_either false o h = refl

pub named-remove : (q k : Name) (rows : List Row) → T (is_sorted name_cmp rows) → named q (without k rows) ≡ cond (eq_by_cmp name_cmp q k) None (named q rows)
named-remove q k [] rising = none_either (eq_by_cmp name_cmp q k) None refl
named-remove q k (row ∷ rows) rising =
    let below = first (below_all name_cmp row.0 rows) (is_sorted name_cmp rows) rising in
    let rest = named-remove q k rows (second (below_all name_cmp row.0 rows) (is_sorted name_cmp rows) rising) in
    elim (eq_by_cmp name_cmp k row.0) as
    (λ (t : Bool). eq_by_cmp name_cmp k row.0 ≡ t → named q (cond t rows (row ∷ without k rows)) ≡ cond (eq_by_cmp name_cmp q k) None (named q (row ∷ rows))) [
      | true ↦ λ e. removed_step q k row rows (named q (without k rows)) true (eq_by_cmp name_cmp q k) (eq_by_cmp name_cmp q row.0) e refl refl below rest
      | false ↦ λ e. removed_step q k row rows (named q (without k rows)) false (eq_by_cmp name_cmp q k) (eq_by_cmp name_cmp q row.0) e refl refl below rest
    ] refl

below_removed : (x k : Name) (rows : List Row) → T (below_all name_cmp x rows) → T (below_all name_cmp x (without k rows))
below_removed x k [] h = h
below_removed x k (row ∷ rows) h =
    elim (is_at (name_cmp k) row.0) as (λ t. T (below_all name_cmp x (cond t rows (row ∷ without k rows)))) [
      | true ↦ second (is_lt (name_cmp x row.0)) (below_all name_cmp x rows) h
      | false ↦ both (is_lt (name_cmp x row.0)) _ (first (is_lt (name_cmp x row.0)) (below_all name_cmp x rows) h)
          (below_removed x k rows (second (is_lt (name_cmp x row.0)) (below_all name_cmp x rows) h))
    ]

pub rising-remove : (k : Name) (rows : List Row) → T (is_sorted name_cmp rows) → T (is_sorted name_cmp (without k rows))
rising-remove k [] h = h
rising-remove k (row ∷ rows) h =
    let front = first (below_all name_cmp row.0 rows) (is_sorted name_cmp rows) h in
    let back = second (below_all name_cmp row.0 rows) (is_sorted name_cmp rows) h in
    elim (is_at (name_cmp k) row.0) as (λ t. T (is_sorted name_cmp (cond t rows (row ∷ without k rows)))) [
      | true ↦ back
      | false ↦ both (below_all name_cmp row.0 (without k rows)) _ (below_removed row.0 k rows front) (rising-remove k rows back)
    ]

pub all-remove : (P : Row → Type 0) (k : Name) (rows : List Row) → AllByRecursion P rows → AllByRecursion P (without k rows)
all-remove P k [] all = all
all-remove P k (row ∷ rows) all =
    elim (is_at (name_cmp k) row.0) as (λ t. AllByRecursion P (cond t rows (row ∷ without k rows)))
    [ true ↦ all.1 | false ↦ (all.0, all-remove P k rows all.1) ]
