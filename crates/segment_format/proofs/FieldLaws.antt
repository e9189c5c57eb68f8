-- Each field, and each group of fields, is read as it is spelled.
use Rattle.std.proofs.Common.{◌≡◌, ℕ, zero, suc, ◌+◌, ◌^◌, ◌<◌, ◌≤◌, Bool, true, false, cond, ltb, leb, eqb, List, [], ◌∷◌, ◌++◌, length, Option, Some, None, refl, sym, ap, ◌∙◌, arith}
use Rattle.std.specs.Prelude.{IfSome}
use Rattle.std.specs.Int.{w8, w16, w32, w64, to_be_bytes}
use Rattle.std.specs.List.{flat_map, AllByRecursion}
use Rattle.std.proofs.lemmas.Bool.Decides.{nat_tests}
use Rattle.std.proofs.lemmas.List.{append-nil}
use Rattle.xfs_base.specs.declared.block.BlockId.{BlockId}
use Rattle.xfs_base.specs.declared.entry.Entry.{Entry}
use Rattle.xfs_base.specs.declared.entry.Place.{Place}
use Rattle.xfs_base.specs.declared.segment.LogId.{LogId}
use Rattle.xfs_base.specs.declared.segment.Pass.{Pass}
use Rattle.xfs_base.specs.declared.segment.Prior.{Prior}
use Rattle.xfs_base.specs.declared.segment.SegName.{SegName}
use Rattle.xfs_base.specs.Limits.{max_value, log_count}
use Rattle.segment_format.specs.declared.head.Head.{Head}
use Rattle.segment_format.specs.declared.seg_error.SegError.TheVariants.{BadMark, BadVersion, BadLength}
use Rattle.segment_format.specs.Format.{first_version, second_version, most_items, longest, mark, is_mark, is_within, IsWithin, is_log, IsLog, is_version, IsVersion, is_length, IsLength, short_block}
use Rattle.segment_format.specs.Ranges.{FitsBlock, FitsPass, FitsName, FitsPrior, FitsPlace, FitsRow}
use Rattle.segment_format.specs.Reading.{number, raw, checked}
use Rattle.segment_format.specs.ReadingFields.{block_at, log_at, pass_at, name_at, prior_at, mark_at, head_at, value_at, place_at, flagged_at, row_at, rows_at}
use Rattle.segment_format.specs.Text.{block_text, pass_text, name_text, prior_text, value_text, place_text, row_text, head_text, IsPlace, IsRow}
use Rattle.segment_format.proofs.Readers.{IsReader, then-reader, gives-reader, checked-reader, as-reader, cons-reader, OfCons, number16, number32, number64, byte-reader, raw-reader}

-- ---- tests

pub within_true : (lo hi n : ℕ) → is_within lo hi n ≡ true → IsWithin lo hi n
within_true lo hi n h = let a : lo ≤ n = grind (arith, nat_tests) in let b : n ≤ hi = grind (arith, nat_tests) in (a, b)

pub true_within : (lo hi n : ℕ) → IsWithin lo hi n → is_within lo hi n ≡ true
true_within lo hi n h = let a : lo ≤ n = h.0 in let b : n ≤ hi = h.1 in grind (arith, nat_tests)

pub lt_true : (n m : ℕ) → ltb n m ≡ true → n < m
lt_true n m h = grind (arith, nat_tests)

pub true_lt : (n m : ℕ) → n < m → ltb n m ≡ true
true_lt n m h = grind (arith, nat_tests)

le_true : (n m : ℕ) → leb n m ≡ true → n ≤ m
le_true n m h = grind (arith, nat_tests)

true_le : (n m : ℕ) → n ≤ m → leb n m ≡ true
true_le n m h = grind (arith, nat_tests)

pub eq_true : (n m : ℕ) → eqb n m ≡ true → n ≡ m
eq_true n m h = grind (arith, nat_tests)

pub true_eq : (n m : ℕ) → n ≡ m → eqb n m ≡ true
true_eq n m h = grind (arith, nat_tests)

mark_is : (bytes : List ℕ) → length bytes ≡ 3 → is_mark bytes ≡ true → bytes ≡ mark
mark_is [] len h = absurd (omega (arith, len))
mark_is (x ∷ []) len h = absurd (omega (arith, len))
mark_is (x ∷ y ∷ []) len h = absurd (omega (arith, len))
mark_is (x ∷ y ∷ z ∷ []) len h =
    let a : x ≡ 0x78 = grind (arith, nat_tests) in
    let b : y ≡ 0x46 = grind (arith, nat_tests) in
    let c : z ≡ 0x53 = grind (arith, nat_tests) in
    cc
mark_is (x ∷ y ∷ z ∷ w ∷ rest) len h = absurd (omega (arith, len))

-- ---- numbers in a row

pub block-reader : IsReader block_at block_text FitsBlock
unfolding block_at
block-reader =
    as-reader
    (then-reader (λ (b : BlockId). b.ino.0) number32
    (λ ino _. then-reader (λ (b : BlockId). b.blk) number32
    (λ blk _. gives-reader (record { ino = record { 0 = ino }; blk = blk }))
    (λ blk b _ h. ap (λ (x : BlockId). x.blk) h))
    (λ ino b _ h. ap (λ (x : BlockId). x.ino.0) h.1))
    (λ b v. refl)
    (λ b v. (v.0, v.1.0))
    (λ b v. (v.0, (v.1, refl)))

log-reader : IsReader log_at (λ l. l.0 ∷ []) (λ l. IsLog l.0)
unfolding log_at
log-reader =
    as-reader
    (then-reader (λ (l : LogId). l.0) (checked-reader is_log BadLength byte-reader)
    (λ log _. gives-reader (record { 0 = log }))
    (λ log l _ h. ap (λ (x : LogId). x.0) h))
    (λ l v. refl)
    (λ l v. within_true 1 log_count l.0 v.0.1)
    (λ l v. ((omega (arith, v.1), true_within 1 log_count l.0 v), refl))

pass-reader : IsReader pass_at pass_text FitsPass
unfolding pass_at
pass-reader =
    as-reader
    (then-reader (λ (p : Pass). p.inc) number32
    (λ inc _. then-reader (λ (p : Pass). p.att) number32
    (λ att _. gives-reader (record { inc = inc; att = att }))
    (λ att p _ h. ap (λ (x : Pass). x.att) h))
    (λ inc p _ h. ap (λ (x : Pass). x.inc) h.1))
    (λ p v. refl)
    (λ p v. (v.0, v.1.0))
    (λ p v. (v.0, (v.1, refl)))

-- a name is of a log from 1 to 13
abbrev pub OfName : SegName → Type 0
OfName n = FitsName n × IsLog n.log.0

name-reader : IsReader name_at name_text OfName
unfolding name_at
name-reader =
    as-reader
    (then-reader (λ (n : SegName). n.log) log-reader
    (λ log _. then-reader (λ (n : SegName). n.seq) number32
    (λ seq _. then-reader (λ (n : SegName). n.pass) pass-reader
    (λ pass _. gives-reader (record { log = log; seq = seq; pass = pass }))
    (λ pass n _ h. ap (λ (x : SegName). x.pass) h))
    (λ seq n _ h. ap (λ (x : SegName). x.seq) h.1))
    (λ log n _ h. ap (λ (x : SegName). x.log) h.1.1))
    (λ n v. refl)
    (λ n v. ((v.1.0, v.1.1.0), v.0))
    (λ n v. (v.1, (v.0.0, (v.0.1, refl))))

prior-reader : IsReader prior_at prior_text FitsPrior
unfolding prior_at
prior-reader =
    as-reader
    (then-reader (λ (p : Prior). p.pass) pass-reader
    (λ pass _. then-reader (λ (p : Prior). p.group) number32
    (λ group _. gives-reader (record { pass = pass; group = group }))
    (λ group p _ h. ap (λ (x : Prior). x.group) h))
    (λ pass p _ h. ap (λ (x : Prior). x.pass) h.1))
    (λ p v. refl)
    (λ p v. (v.0, v.1.0))
    (λ p v. (v.0, (v.1, refl)))

-- ---- the header

pub mark-reader : IsReader mark_at (λ bytes. bytes) (λ bytes. bytes ≡ mark)
unfolding mark_at
mark-reader =
    as-reader (checked-reader is_mark BadMark (raw-reader 3))
    (λ bytes v. refl)
    (λ bytes v. mark_is bytes v.0 v.1)
    (λ bytes v. (ap (λ (l : List ℕ). length l) v, ap (λ (l : List ℕ). is_mark l) v))

version-reader : IsReader (checked (number w8) is_version BadVersion) (λ n. n ∷ []) IsVersion
version-reader =
    as-reader (checked-reader is_version BadVersion byte-reader)
    (λ n v. refl)
    (λ n v. within_true first_version second_version n v.1)
    (λ n v. (omega (arith, v.1), true_within first_version second_version n v))

abbrev pub OfHead : Head → Type 0
OfHead h = IsVersion h.version × OfName h.name × FitsPrior h.prior × (h.group < 2 ^ 32) × (h.count ≤ most_items + most_items)

count-reader : IsReader (checked (number w16) (λ n. leb n (most_items + most_items)) BadLength) (to_be_bytes w16) (λ n. n ≤ most_items + most_items)
count-reader =
    as-reader (checked-reader (λ n. leb n (most_items + most_items)) BadLength number16)
    (λ n v. refl)
    (λ n v. le_true n (most_items + most_items) v.1)
    (λ n v. (omega (arith, v), true_le n (most_items + most_items) v))

pub head-reader : IsReader head_at head_text OfHead
unfolding head_at
head-reader =
    as-reader
    (then-reader (λ (h : Head). h.version) version-reader
    (λ version _. then-reader (λ (h : Head). h.name) name-reader
    (λ name _. then-reader (λ (h : Head). h.prior) prior-reader
    (λ prior _. then-reader (λ (h : Head). h.group) number32
    (λ group _. then-reader (λ (h : Head). h.count) count-reader
    (λ count _. gives-reader (record { version = version; name = name; prior = prior; group = group; count = count }))
    (λ count x _ h. ap (λ (y : Head). y.count) h))
    (λ group x _ h. ap (λ (y : Head). y.group) h.1))
    (λ prior x _ h. ap (λ (y : Head). y.prior) h.1.1))
    (λ name x _ h. ap (λ (y : Head). y.name) h.1.1.1))
    (λ version x _ h. ap (λ (y : Head). y.version) h.1.1.1.1))
    (λ h v. refl)
    (λ h v. (v.0, v.1.0, v.1.1.0, v.1.1.1.0, v.1.1.1.1.0))
    (λ h v. (v.0, (v.1, (v.2, (v.3, (v.4, refl))))))

-- ---- values

-- a value that is present, of a length in bounds
abbrev pub OfValue : ℕ → Option (List ℕ) → Type 0
OfValue version None = ⊥
OfValue version (Some bytes) = IsLength version (length bytes)

longest_fits : (b : Bool) (n : ℕ) → n ≤ cond b short_block max_value → n < 2 ^ 16
longest_fits true n le = omega arith
longest_fits false n le = omega arith

length-reader : (version : ℕ) → IsReader (checked (number w16) (is_length version) BadLength) (to_be_bytes w16) (IsLength version)
length-reader version =
    as-reader (checked-reader (is_length version) BadLength number16)
    (λ n v. refl)
    (λ n v. within_true 1 (longest version) n v.1)
    (λ n v. (longest_fits (eqb version first_version) n v.1, true_within 1 (longest version) n v))

bytes_of : Option (List ℕ) → List ℕ
bytes_of None = []
bytes_of (Some bytes) = bytes

some_of : (v : Option (List ℕ)) (bytes : List ℕ) → v ≡ Some bytes → bytes_of v ≡ bytes
unfolding bytes_of
some_of None bytes h = absurd cc
some_of (Some b) bytes h = cc

value_spelled : (v : Option (List ℕ)) → v ≡ Some (bytes_of v) → to_be_bytes w16 (length (bytes_of v)) ++ (bytes_of v ++ []) ≡ value_text v
unfolding bytes_of
value_spelled None h = absurd cc
value_spelled (Some bytes) h = ap (λ (l : List ℕ). to_be_bytes w16 (length bytes) ++ l) (append-nil bytes)

value_to : (version : ℕ) (v : Option (List ℕ)) → IsLength version (length (bytes_of v)) → v ≡ Some (bytes_of v) → OfValue version v
unfolding bytes_of
value_to version None l h = absurd cc
value_to version (Some bytes) l h = l

value_from : (version : ℕ) (v : Option (List ℕ)) → OfValue version v → IsLength version (length (bytes_of v)) × (v ≡ Some (bytes_of v))
unfolding bytes_of
value_from version None h = absurd h
value_from version (Some bytes) h = (h, refl)

pub value-reader : (version : ℕ) → IsReader (value_at version) value_text (OfValue version)
unfolding value_at
value-reader version =
    as-reader
    (then-reader (λ (v : Option (List ℕ)). length (bytes_of v)) (length-reader version)
    (λ n _. then-reader (λ (v : Option (List ℕ)). bytes_of v) (raw-reader n)
    (λ bytes _. gives-reader (Some bytes))
    (λ bytes v _ h. some_of v bytes h))
    (λ n v _ h. h.0))
    (λ v h. value_spelled v h.1.1)
    (λ v h. value_to version v h.0 h.1.1)
    (λ v h. let f = value_from version v h in (f.0, (refl, f.1)))

-- ---- rows

abbrev OfPlace : Place → Type 0
OfPlace p = FitsPlace p × IsLog p.seg.name.log.0

-- what stands behind the flag
place_rest : Option Place → List ℕ
place_rest None = []
place_rest (Some p) = name_text p.seg.name ++ to_be_bytes w32 p.seg.group ++ to_be_bytes w16 p.item

place-reader : IsReader place_at (λ p. name_text p.seg.name ++ to_be_bytes w32 p.seg.group ++ to_be_bytes w16 p.item) OfPlace
unfolding place_at
place-reader =
    as-reader
    (then-reader (λ (p : Place). p.seg.name) name-reader
    (λ name _. then-reader (λ (p : Place). p.seg.group) number32
    (λ group _. then-reader (λ (p : Place). p.item) number16
    (λ item _. gives-reader (record { seg = record { name = name; group = group }; item = item }))
    (λ item p _ h. ap (λ (x : Place). x.item) h))
    (λ group p _ h. ap (λ (x : Place). x.seg.group) h.1))
    (λ name p _ h. ap (λ (x : Place). x.seg.name) h.1.1))
    (λ p v. refl)
    (λ p v. ((v.0.0, v.1.0, v.1.1.0), v.0.1))
    (λ p v. ((v.0.0, v.1), (v.0.1, (v.0.2, refl))))

-- behind a flag of 0 no place, and behind another a place
abbrev Flagged : ℕ → Option Place → Type 0
Flagged zero None = Unit {0}
Flagged zero (Some p) = ⊥
Flagged (suc n) None = ⊥
Flagged (suc n) (Some p) = OfPlace p

default_place : Place
default_place = record { seg = record { name = record { log = record { 0 = 0 }; seq = 0; pass = record { inc = 0; att = 0 } }; group = 0 }; item = 0 }

place_of : Option Place → Place
place_of None = default_place
place_of (Some p) = p

flag_of : Option Place → ℕ
flag_of None = 0
flag_of (Some p) = 1

some_place : (o : Option Place) (p : Place) → o ≡ Some p → place_of o ≡ p
unfolding place_of
some_place None p h = absurd cc
some_place (Some q) p h = cc

none_to : (o : Option Place) → o ≡ None → Flagged zero o
none_to None h = tt
none_to (Some p) h = absurd cc

none_from : (o : Option Place) → Flagged zero o → o ≡ None
none_from None h = refl
none_from (Some p) h = absurd h

none_spelled : (o : Option Place) → o ≡ None → [] ≡ place_rest o
unfolding place_rest
none_spelled None h = refl
none_spelled (Some p) h = absurd cc

some_to : (n : ℕ) (o : Option Place) → OfPlace (place_of o) → o ≡ Some (place_of o) → Flagged (suc n) o
unfolding place_of
some_to n None v h = absurd cc
some_to n (Some p) v h = v

some_from : (n : ℕ) (o : Option Place) → Flagged (suc n) o → OfPlace (place_of o) × (o ≡ Some (place_of o))
unfolding place_of
some_from n None h = absurd h
some_from n (Some p) h = (h, refl)

some_spelled : (o : Option Place) → o ≡ Some (place_of o)
    → (name_text (place_of o).seg.name ++ to_be_bytes w32 (place_of o).seg.group ++ to_be_bytes w16 (place_of o).item) ++ [] ≡ place_rest o
unfolding place_of place_rest
some_spelled None h = absurd cc
some_spelled (Some p) h = refl

flagged-reader : (has : ℕ) → IsReader (flagged_at has) place_rest (Flagged has)
unfolding flagged_at
flagged-reader zero = as-reader (gives-reader None) none_spelled none_to none_from
flagged-reader (suc n) =
    as-reader
    (then-reader (λ (o : Option Place). place_of o) place-reader
    (λ place _. gives-reader (Some place))
    (λ place o _ h. some_place o place h))
    (λ o v. some_spelled o v.1)
    (λ o v. some_to n o v.0 v.1)
    (λ o v. some_from n o v)

has-reader : IsReader (checked (number w8) (λ n. ltb n 2) BadLength) (λ n. n ∷ []) (λ n. n < 2)
has-reader =
    as-reader (checked-reader (λ n. ltb n 2) BadLength byte-reader)
    (λ n v. refl)
    (λ n v. lt_true n 2 v.1)
    (λ n v. (omega (arith, v), true_lt n 2 v))

flag_is : (has : ℕ) (o : Option Place) → has < 2 → Flagged has o → flag_of o ≡ has
unfolding flag_of
flag_is zero None lt h = refl
flag_is zero (Some p) lt h = absurd h
flag_is (suc n) None lt h = absurd h
flag_is (suc n) (Some p) lt h = omega (arith, lt)

flag_from : (o : Option Place) → IfSome o FitsPlace → IfSome o IsPlace → (flag_of o < 2) × Flagged (flag_of o) o
unfolding flag_of
flag_from None f v = (omega arith, tt)
flag_from (Some p) f v = (omega arith, (f, v))

flag_fits : (o : Option Place) → Flagged (flag_of o) o → IfSome o FitsPlace × IfSome o IsPlace
unfolding flag_of
flag_fits None h = (tt, tt)
flag_fits (Some p) h = h

flag_spelled : (o : Option Place) → flag_of o ∷ place_rest o ≡ place_text o
unfolding flag_of place_rest
flag_spelled None = refl
flag_spelled (Some p) = refl

abbrev pub OfRow : BlockId × Entry → Type 0
OfRow r = FitsRow r × IsRow r

row_spelled : (r : BlockId × Entry)
    → to_be_bytes w32 r.0.ino.0
    ++ (to_be_bytes w32 r.0.blk ++ (to_be_bytes w64 r.1.ver ++ (to_be_bytes w32 r.1.hop ++ (flag_of r.1.place ∷ (place_rest r.1.place ++ []))))) ≡ row_text r
row_spelled r =
    ap (λ (l : List ℕ). to_be_bytes w32 r.0.ino.0 ++ (to_be_bytes w32 r.0.blk ++ (to_be_bytes w64 r.1.ver ++ (to_be_bytes w32 r.1.hop ++ l))))
    (ap (λ (l : List ℕ). flag_of r.1.place ∷ l) (append-nil (place_rest r.1.place)) ∙ flag_spelled r.1.place)

row-reader : IsReader row_at row_text OfRow
unfolding row_at
row-reader =
    as-reader
    (then-reader (λ (r : BlockId × Entry). r.0) block-reader
    (λ block _. then-reader (λ (r : BlockId × Entry). r.1.ver) number64
    (λ ver _. then-reader (λ (r : BlockId × Entry). r.1.hop) number32
    (λ hop _. then-reader (λ (r : BlockId × Entry). flag_of r.1.place) has-reader
    (λ has _. then-reader (λ (r : BlockId × Entry). r.1.place) (flagged-reader has)
    (λ place _. gives-reader (block, record { ver = ver; hop = hop; place = place }))
    (λ place r _ h. ap (λ (x : BlockId × Entry). x.1.place) h))
    (λ has r lt h. flag_is has r.1.place lt h.0))
    (λ hop r _ h. ap (λ (x : BlockId × Entry). x.1.hop) h.1.1))
    (λ ver r _ h. ap (λ (x : BlockId × Entry). x.1.ver) h.1.1.1))
    (λ block r _ h. ap (λ (x : BlockId × Entry). x.0) h.1.1.1.1))
    (λ r v. row_spelled r)
    (λ r v. let p = flag_fits r.1.place v.1.1.1.1.0 in ((v.0, v.1.0, v.1.1.0, p.0), p.1))
    (λ r v. let p = flag_from r.1.place v.0.3 v.1 in (v.0.0, (v.0.1, (v.0.2, (p.0, (p.1, refl))))))

-- so many rows
abbrev OfRows : ℕ → List (BlockId × Entry) → Type 0
OfRows n rows = (length rows ≡ n) × AllByRecursion FitsRow rows × AllByRecursion IsRow rows

rows_to : (n : ℕ) (rows : List (BlockId × Entry)) → OfCons OfRow (λ r others. OfRows n others) rows → OfRows (suc n) rows
rows_to n [] h = absurd h
rows_to n (r ∷ rows) h = (ap suc h.1.0, (h.0.0, h.1.1), (h.0.1, h.1.2))

rows_from : (n : ℕ) (rows : List (BlockId × Entry)) → OfRows (suc n) rows → OfCons OfRow (λ r others. OfRows n others) rows
rows_from n [] h = absurd (omega (arith, h.0))
rows_from n (r ∷ rows) h = ((h.1.0, h.2.0), (omega (arith, h.0), h.1.1, h.2.1))

no_rows_to : (rows : List (BlockId × Entry)) → rows ≡ [] → OfRows 0 rows
no_rows_to [] h = (refl, tt, tt)
no_rows_to (r ∷ rows) h = absurd cc

no_rows_from : (rows : List (BlockId × Entry)) → OfRows 0 rows → rows ≡ []
no_rows_from [] h = refl
no_rows_from (r ∷ rows) h = absurd (omega (arith, h.0))

no_rows_spelled : (rows : List (BlockId × Entry)) → rows ≡ [] → [] ≡ flat_map row_text rows
no_rows_spelled rows h = ap (λ (l : List (BlockId × Entry)). flat_map row_text l) (sym h)

pub rows-reader : (n : ℕ) → IsReader (rows_at n) (flat_map row_text) (OfRows n)
unfolding rows_at
rows-reader zero = as-reader (gives-reader []) no_rows_spelled no_rows_to no_rows_from
rows-reader (suc n) = as-reader (cons-reader row-reader (λ r _. rows-reader n)) (λ rows v. refl) (rows_to n) (rows_from n)
