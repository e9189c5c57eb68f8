-- Each item is read as it is spelled.
use Rattle.std.proofs.Common.{◌≡◌, ℕ, ◌^◌, ◌<◌, ◌≤◌, Bool, true, false, cond, ltb, eqb, List, [], ◌∷◌, ◌++◌, length, Option, Some, None, refl, sym, ap, subst, ◌∙◌, arith}
use Rattle.std.specs.Prelude.{is_none}
use Rattle.std.specs.Int.{w8, w16, w32, w64, to_be_bytes}
use Rattle.std.specs.List.{flat_map, AllByRecursion}
use Rattle.std.proofs.lemmas.Bool.Decides.{nat_tests}
use Rattle.std.proofs.lemmas.List.{append-nil}
use Rattle.xfs_base.specs.declared.block.BlockId.{BlockId}
use Rattle.xfs_base.specs.declared.entry.Entry.{Entry}
use Rattle.xfs_base.specs.Limits.{slot_count}
use Rattle.segment_format.specs.declared.segment.Item.{Item}
use Rattle.segment_format.specs.declared.segment.Item.TheVariants.{Block, Delta, Part}
use Rattle.segment_format.specs.declared.seen.Seen.{Seen}
use Rattle.segment_format.specs.declared.seg_error.SegError.TheVariants.{BadKind, BadLength, BadRef}
use Rattle.segment_format.specs.Format.{most_items, IsWithin, is_row_count, IsRowCount}
use Rattle.segment_format.specs.Ranges.{FitsBlock, FitsRow, FitsItem}
use Rattle.segment_format.specs.Reading.{number, checked}
use Rattle.segment_format.specs.ReadingItems.{kind_at, block_item_at, delta_item_at, part_item_at, body_at, item_at}
use Rattle.segment_format.specs.Rule.{is_kind, has_room, may_come, answers, follows}
use Rattle.segment_format.specs.Text.{block_text, value_text, row_text, item_text, IsRow, IsItem}
use Rattle.segment_format.proofs.Readers.{IsReader, then-reader, gives-reader, checked-reader, as-reader, number16, number32, number64, byte-reader}
use Rattle.segment_format.proofs.FieldLaws.{within_true, true_within, lt_true, true_lt, eq_true, block-reader, value-reader, rows-reader, OfValue}

-- ---- kinds

abbrev OfKind : Seen → ℕ → Type 0
OfKind seen kind = IsWithin 1 3 kind × (has_room seen kind ≡ true) × (may_come seen kind ≡ true)

kind-reader : (seen : Seen) → IsReader (kind_at seen) (λ kind. kind ∷ []) (OfKind seen)
unfolding kind_at
kind-reader seen =
    as-reader (checked-reader (may_come seen) BadRef (checked-reader (has_room seen) BadLength (checked-reader is_kind BadKind byte-reader)))
    (λ kind v. refl)
    (λ kind v. (within_true 1 3 kind v.0.0.1, v.0.1, v.1))
    (λ kind v. (((omega (arith, v.0.1), true_within 1 3 kind v.0), v.1), v.2))

-- ---- what stands behind a kind

abbrev kind_of : Item → ℕ
kind_of (Block block value) = 1
kind_of (Delta block ver hop item) = 2
kind_of (Part slot rows) = 3

abbrev body_text : Item → List ℕ
body_text (Block block value) = block_text block ++ value_text value
body_text (Delta block ver hop item) = block_text block ++ to_be_bytes w64 ver ++ to_be_bytes w32 hop ++ to_be_bytes w16 item
body_text (Part slot rows) = slot ∷ to_be_bytes w16 (length rows) ++ flat_map row_text rows

kind_spelled : (x : Item) → kind_of x ∷ body_text x ≡ item_text x
kind_spelled (Block block value) = refl
kind_spelled (Delta block ver hop item) = refl
kind_spelled (Part slot rows) = refl

-- the parts of an item; something where it has no such part
abbrev no_block : BlockId
no_block = record { ino = record { 0 = 0 }; blk = 0 }

abbrev block_of : Item → BlockId
block_of (Block block value) = block
block_of (Delta block ver hop item) = block
block_of (Part slot rows) = no_block

abbrev value_of : Item → Option (List ℕ)
value_of (Block block value) = value
value_of (Delta block ver hop item) = None
value_of (Part slot rows) = None

abbrev ver_of : Item → ℕ
ver_of (Block block value) = 0
ver_of (Delta block ver hop item) = ver
ver_of (Part slot rows) = 0

abbrev hop_of : Item → ℕ
hop_of (Block block value) = 0
hop_of (Delta block ver hop item) = hop
hop_of (Part slot rows) = 0

abbrev number_of : Item → ℕ
number_of (Block block value) = 0
number_of (Delta block ver hop item) = item
number_of (Part slot rows) = 0

abbrev slot_of : Item → ℕ
slot_of (Block block value) = 0
slot_of (Delta block ver hop item) = 0
slot_of (Part slot rows) = slot

abbrev rows_of : Item → List (BlockId × Entry)
rows_of (Block block value) = []
rows_of (Delta block ver hop item) = []
rows_of (Part slot rows) = rows

abbrev pub FullItem : ℕ → Item → Type 0
FullItem version x = FitsItem x × IsItem version x

abbrev OfBlock : ℕ → Item → Type 0
OfBlock version (Block block value) = FitsBlock block × OfValue version value
OfBlock version (Delta block ver hop item) = ⊥
OfBlock version (Part slot rows) = ⊥

block_from : (version : ℕ) (x : Item) → OfBlock version x → FitsBlock (block_of x) × (OfValue version (value_of x) × (x ≡ Block (block_of x) (value_of x)))
block_from version (Block block value) h = (h.0, (h.1, refl))
block_from version (Delta block ver hop item) h = absurd h
block_from version (Part slot rows) h = absurd h

block_item-reader : (version : ℕ) → IsReader (block_item_at version) body_text (OfBlock version)
unfolding block_item_at
block_item-reader version =
    as-reader
    (then-reader (λ (x : Item). block_of x) block-reader
    (λ block _. then-reader (λ (x : Item). value_of x) (value-reader version)
    (λ value _. gives-reader (Block block value))
    (λ value x _ h. ap (λ (y : Item). value_of y) h))
    (λ block x _ h. ap (λ (y : Item). block_of y) h.1))
    (λ x v. ap (λ (l : List ℕ). block_text (block_of x) ++ l) (append-nil (value_text (value_of x))) ∙ ap (λ (y : Item). body_text y) (sym v.1.1))
    (λ x v. subst (λ (y : Item). OfBlock version y) (sym v.1.1) (v.0, v.1.0))
    (λ x v. block_from version x v)

abbrev OfDelta : Item → Type 0
OfDelta (Block block value) = ⊥
OfDelta (Delta block ver hop item) = FitsBlock block × (ver < 2 ^ 64) × (hop < 2 ^ 32) × (item < 2 ^ 16)
OfDelta (Part slot rows) = ⊥

delta_from : (x : Item) → OfDelta x
    → FitsBlock (block_of x)
    × ((ver_of x < 2 ^ 64) × ((hop_of x < 2 ^ 32) × ((number_of x < 2 ^ 16) × (x ≡ Delta (block_of x) (ver_of x) (hop_of x) (number_of x)))))
delta_from (Block block value) h = absurd h
delta_from (Delta block ver hop item) h = (h.0, (h.1, (h.2, (h.3, refl))))
delta_from (Part slot rows) h = absurd h

delta_item-reader : IsReader delta_item_at body_text OfDelta
unfolding delta_item_at
delta_item-reader =
    as-reader
    (then-reader (λ (x : Item). block_of x) block-reader
    (λ block _. then-reader (λ (x : Item). ver_of x) number64
    (λ ver _. then-reader (λ (x : Item). hop_of x) number32
    (λ hop _. then-reader (λ (x : Item). number_of x) number16
    (λ item _. gives-reader (Delta block ver hop item))
    (λ item x _ h. ap (λ (y : Item). number_of y) h))
    (λ hop x _ h. ap (λ (y : Item). hop_of y) h.1))
    (λ ver x _ h. ap (λ (y : Item). ver_of y) h.1.1))
    (λ block x _ h. ap (λ (y : Item). block_of y) h.1.1.1))
    (λ x v. ap (λ (y : Item). body_text y) (sym v.1.1.1.1))
    (λ x v. subst (λ (y : Item). OfDelta y) (sym v.1.1.1.1) (v.0, v.1.0, v.1.1.0, v.1.1.1.0))
    (λ x v. delta_from x v)

abbrev OfPart : Item → Type 0
OfPart (Block block value) = ⊥
OfPart (Delta block ver hop item) = ⊥
OfPart (Part slot rows) = (slot < slot_count) × IsRowCount (length rows) × AllByRecursion FitsRow rows × AllByRecursion IsRow rows

part_from : (x : Item) → OfPart x
    → (slot_of x < slot_count)
    × (IsRowCount (length (rows_of x))
    × (((length (rows_of x) ≡ length (rows_of x)) × AllByRecursion FitsRow (rows_of x) × AllByRecursion IsRow (rows_of x))
    × (x ≡ Part (slot_of x) (rows_of x))))
part_from (Block block value) h = absurd h
part_from (Delta block ver hop item) h = absurd h
part_from (Part slot rows) h = (h.0, (h.1, ((refl, h.2, h.3), refl)))

slot-reader : IsReader (checked (number w8) (λ n. ltb n slot_count) BadLength) (λ n. n ∷ []) (λ n. n < slot_count)
slot-reader =
    as-reader (checked-reader (λ n. ltb n slot_count) BadLength byte-reader)
    (λ n v. refl)
    (λ n v. lt_true n 8 v.1)
    (λ n v. (omega (arith, v), true_lt n 8 v))

row_count-reader : IsReader (checked (number w16) is_row_count BadLength) (to_be_bytes w16) IsRowCount
row_count-reader =
    as-reader (checked-reader is_row_count BadLength number16)
    (λ n v. refl)
    (λ n v. within_true 1 128 n v.1)
    (λ n v. (omega (arith, v.1), true_within 1 128 n v))

part_item-reader : IsReader part_item_at body_text OfPart
unfolding part_item_at
part_item-reader =
    as-reader
    (then-reader (λ (x : Item). slot_of x) slot-reader
    (λ slot _. then-reader (λ (x : Item). length (rows_of x)) row_count-reader
    (λ n _. then-reader (λ (x : Item). rows_of x) (rows-reader n)
    (λ rows _. gives-reader (Part slot rows))
    (λ rows x _ h. ap (λ (y : Item). rows_of y) h))
    (λ n x _ h. h.0.0))
    (λ slot x _ h. ap (λ (y : Item). slot_of y) h.1.1))
    (λ x v. ap (λ (l : List ℕ). slot_of x ∷ to_be_bytes w16 (length (rows_of x)) ++ l) (append-nil (flat_map row_text (rows_of x)))
    ∙ ap (λ (y : Item). body_text y) (sym v.1.1.1))
    (λ x v. subst (λ (y : Item). OfPart y) (sym v.1.1.1) (v.0, v.1.0, v.1.1.0.1, v.1.1.0.2))
    (λ x v. part_from x v)

-- ---- all three

value_is : (version : ℕ) (block : BlockId) (value : Option (List ℕ)) → OfValue version value → IsItem version (Block block value)
value_is version block None h = h
value_is version block (Some bytes) h = h

is_value : (version : ℕ) (block : BlockId) (value : Option (List ℕ)) → IsItem version (Block block value) → OfValue version value
is_value version block None h = h
is_value version block (Some bytes) h = h

abbrev OfBody : ℕ → ℕ → Item → Type 0
OfBody version kind x = FullItem version x × (kind_of x ≡ kind)

body_block : (version kind : ℕ) (x : Item) → kind ≡ 1 → OfBlock version x → OfBody version kind x
body_block version kind (Block block value) k h = ((h.0, value_is version block value h.1), sym k)
body_block version kind (Delta block ver hop item) k h = absurd h
body_block version kind (Part slot rows) k h = absurd h

block_body : (version kind : ℕ) (x : Item) → kind ≡ 1 → OfBody version kind x → OfBlock version x
block_body version kind (Block block value) k h = (h.0.0, is_value version block value h.0.1)
block_body version kind (Delta block ver hop item) k h = absurd (omega (arith, k, h.1))
block_body version kind (Part slot rows) k h = absurd (omega (arith, k, h.1))

body_delta : (version kind : ℕ) (x : Item) → kind ≡ 2 → OfDelta x → OfBody version kind x
body_delta version kind (Block block value) k h = absurd h
body_delta version kind (Delta block ver hop item) k h = ((h, tt), sym k)
body_delta version kind (Part slot rows) k h = absurd h

delta_body : (version kind : ℕ) (x : Item) → kind ≡ 2 → OfBody version kind x → OfDelta x
delta_body version kind (Block block value) k h = absurd (omega (arith, k, h.1))
delta_body version kind (Delta block ver hop item) k h = h.0.0
delta_body version kind (Part slot rows) k h = absurd (omega (arith, k, h.1))

body_part : (version kind : ℕ) (x : Item) → kind ≡ 3 → OfPart x → OfBody version kind x
body_part version kind (Block block value) k h = absurd h
body_part version kind (Delta block ver hop item) k h = absurd h
body_part version kind (Part slot rows) k h = ((h.2, (h.0, h.1, h.3)), sym k)

part_body : (version kind : ℕ) (x : Item) → kind ≡ 3 → OfBody version kind x → OfPart x
part_body version kind (Block block value) k h = absurd (omega (arith, k, h.1))
part_body version kind (Delta block ver hop item) k h = absurd (omega (arith, k, h.1))
part_body version kind (Part slot rows) k h = (h.0.1.0, h.0.1.1, h.0.0, h.0.1.2)

third_kind : (kind : ℕ) → IsWithin 1 3 kind → eqb kind 1 ≡ false → eqb kind 2 ≡ false → kind ≡ 3
third_kind kind w a b = let lo : 1 ≤ kind = w.0 in let hi : kind ≤ 3 = w.1 in grind (arith, nat_tests)

body_cases : (version kind : ℕ) → IsWithin 1 3 kind → (b c : Bool) → eqb kind 1 ≡ b → eqb kind 2 ≡ c
    → IsReader (cond b (block_item_at version) (cond c delta_item_at part_item_at)) body_text (OfBody version kind)
body_cases version kind w true c e f = let k =
    eq_true kind 1 e in as-reader (block_item-reader version) (λ x v. refl) (λ x v. body_block version kind x k v) (λ x v. block_body version kind x k v)
body_cases version kind w false true e f = let k =
    eq_true kind 2 f in as-reader delta_item-reader (λ x v. refl) (λ x v. body_delta version kind x k v) (λ x v. delta_body version kind x k v)
body_cases version kind w false false e f = let k =
    third_kind kind w e f in as-reader part_item-reader (λ x v. refl) (λ x v. body_part version kind x k v) (λ x v. part_body version kind x k v)

body-reader : (version kind : ℕ) → IsWithin 1 3 kind → IsReader (body_at version kind) body_text (OfBody version kind)
unfolding body_at
body-reader version kind w = body_cases version kind w (eqb kind 1) (eqb kind 2) refl refl

-- ---- an item behind what is seen

pub none_true : {A : Type 0} (o : Option A) → is_none o ≡ true → o ≡ None
none_true None h = refl
none_true (Some x) h = absurd cc

pub true_none : {A : Type 0} (o : Option A) → o ≡ None → is_none o ≡ true
true_none None h = refl
true_none (Some x) h = absurd cc

-- what is seen lets this item come
abbrev pub Joins : Seen → Item → Type 0
Joins seen (Block block value) = (seen.others < most_items) × (seen.awaited ≡ None)
Joins seen (Delta block ver hop item) = (seen.deltas < most_items) × (answers seen.awaited block item ≡ true)
Joins seen (Part slot rows) = (seen.others < most_items) × (seen.awaited ≡ None)

joins_to : (seen : Seen) (x : Item) → OfKind seen (kind_of x) → follows seen.awaited x ≡ true → Joins seen x
joins_to seen (Block block value) v f = (lt_true seen.others most_items v.1, none_true seen.awaited v.2)
joins_to seen (Delta block ver hop item) v f = (lt_true seen.deltas most_items v.1, f)
joins_to seen (Part slot rows) v f = (lt_true seen.others most_items v.1, none_true seen.awaited v.2)

joins_from : (seen : Seen) (x : Item) → Joins seen x → OfKind seen (kind_of x) × (follows seen.awaited x ≡ true)
joins_from seen (Block block value) j = (((omega arith, omega arith), true_lt seen.others most_items j.0, true_none seen.awaited j.1), refl)
joins_from seen (Delta block ver hop item) j = (((omega arith, omega arith), true_lt seen.deltas most_items j.0, refl), j.1)
joins_from seen (Part slot rows) j = (((omega arith, omega arith), true_lt seen.others most_items j.0, true_none seen.awaited j.1), refl)

pub item-reader : (version : ℕ) (seen : Seen) → IsReader (item_at version seen) item_text (λ x. FullItem version x × Joins seen x)
unfolding item_at
item-reader version seen =
    as-reader
    (checked-reader (follows seen.awaited) BadRef
    (then-reader (λ (x : Item). kind_of x) (kind-reader seen)
    (λ kind v. body-reader version kind v.0)
    (λ kind x _ h. h.1)))
    (λ x v. kind_spelled x)
    (λ x v. (v.0.1.0, joins_to seen x v.0.0 v.1))
    (λ x v. let j = joins_from seen x v.1 in ((j.0, (v.0, refl)), j.1))
