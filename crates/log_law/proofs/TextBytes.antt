-- The text of a segment is bytes, where that of each of its items is; and so is that of an item, where the value of a Block is, and the rows of a Part are rows.
use Rattle.std.proofs.Common.{◌<◌, ℕ, zero, suc, List, [], ◌∷◌, ◌++◌, length, Option, Some, None, arith}
use Rattle.std.specs.Prelude.{IfSome}
use Rattle.std.specs.List.{AllByRecursion, flat_map}
use Rattle.std.specs.Int.{Width, w16, w32, w64, byte_len, byte_at, bytes_high_first, to_be_bytes}
use Rattle.std.proofs.lemmas.List.Elements.{All-nil, All-cons, All-append}
use Rattle.xfs_base.proofs.Booleans.{by_test}
use Rattle.xfs_base.specs.declared.block.BlockId.{BlockId}
use Rattle.xfs_base.specs.declared.entry.Entry.{Entry}
use Rattle.xfs_base.specs.declared.entry.Place.{Place}
use Rattle.xfs_base.specs.declared.segment.Pass.{Pass}
use Rattle.xfs_base.specs.declared.segment.Prior.{Prior}
use Rattle.xfs_base.specs.declared.segment.SegName.{SegName}
use Rattle.xfs_base.specs.Limits.{slot_count}
use Rattle.segment_format.specs.declared.segment.Item.{Item}
use Rattle.segment_format.specs.declared.segment.Item.TheVariants.{Block, Delta, Part}
use Rattle.segment_format.specs.declared.segment.Segment.{Segment}
use Rattle.segment_format.specs.Format.{first_version, second_version, IsLog}
use Rattle.segment_format.specs.Text.{block_text, pass_text, name_text, prior_text, place_text, row_text, value_text, item_text, version_of, head_of, head_text, text_of, IsPlace, IsRow, IsItem}
use Rattle.stripe_code.specs.Stripe.{IsBytes}

-- ---- numbers

abbrev IsByte : ℕ → Type 0
IsByte b = b < 256

byte_small : (k n : ℕ) → byte_at k n < 256
byte_small zero n = omega arith
byte_small (suc k) n = omega arith

number_bytes : (k n : ℕ) → IsBytes (bytes_high_first k n)
number_bytes zero n = All-nil IsByte
number_bytes (suc k) n = All-cons IsByte (byte_at k n) (bytes_high_first k n) (byte_small k n) (number_bytes k n)

both : (xs ys : List ℕ) → IsBytes xs → IsBytes ys → IsBytes (xs ++ ys)
both xs ys = All-append IsByte xs ys

one : (x : ℕ) (xs : List ℕ) → x < 256 → IsBytes xs → IsBytes (x ∷ xs)
one x xs = All-cons IsByte x xs

number : (w : Width) (n : ℕ) → IsBytes (to_be_bytes w n)
number w n = number_bytes (byte_len w) n

-- ---- fields

block_bytes : (b : BlockId) → IsBytes (block_text b)
block_bytes b = both (to_be_bytes w32 b.ino.0) (to_be_bytes w32 b.blk) (number w32 b.ino.0) (number w32 b.blk)

pass_bytes : (p : Pass) → IsBytes (pass_text p)
pass_bytes p = both (to_be_bytes w32 p.inc) (to_be_bytes w32 p.att) (number w32 p.inc) (number w32 p.att)

name_bytes : (n : SegName) → IsLog n.log.0 → IsBytes (name_text n)
name_bytes n fact =
    one n.log.0 (to_be_bytes w32 n.seq ++ pass_text n.pass) (let e = fact.1 in omega arith)
    (both (to_be_bytes w32 n.seq) (pass_text n.pass) (number w32 n.seq) (pass_bytes n.pass))

prior_bytes : (p : Prior) → IsBytes (prior_text p)
prior_bytes p = both (pass_text p.pass) (to_be_bytes w32 p.group) (pass_bytes p.pass) (number w32 p.group)

value_bytes : (value : Option (List ℕ)) → IfSome value IsBytes → IsBytes (value_text value)
value_bytes None h = All-nil IsByte
value_bytes (Some bytes) h = both (to_be_bytes w16 (length bytes)) bytes (number w16 (length bytes)) h

place_bytes : (p : Option Place) → IfSome p IsPlace → IsBytes (place_text p)
place_bytes None h = one 0 [] (omega arith) (All-nil IsByte)
place_bytes (Some p) h =
    let rest : List ℕ = to_be_bytes w32 p.seg.group ++ to_be_bytes w16 p.item in
    one 1 (name_text p.seg.name ++ rest) (omega arith)
    (both (name_text p.seg.name) rest (name_bytes p.seg.name h)
    (both (to_be_bytes w32 p.seg.group) (to_be_bytes w16 p.item) (number w32 p.seg.group) (number w16 p.item)))

row_bytes : (r : BlockId × Entry) → IsRow r → IsBytes (row_text r)
row_bytes r fact =
    let hop : List ℕ = to_be_bytes w32 r.1.hop ++ place_text r.1.place in
    let ver : List ℕ = to_be_bytes w64 r.1.ver ++ hop in
    both (block_text r.0) ver (block_bytes r.0)
    (both (to_be_bytes w64 r.1.ver) hop (number w64 r.1.ver)
    (both (to_be_bytes w32 r.1.hop) (place_text r.1.place) (number w32 r.1.hop) (place_bytes r.1.place fact)))

rows_bytes : (rows : List (BlockId × Entry)) → AllByRecursion IsRow rows → IsBytes (flat_map row_text rows)
rows_bytes [] all = All-nil IsByte
rows_bytes (r ∷ rows) all = both (row_text r) (flat_map row_text rows) (row_bytes r all.0) (rows_bytes rows all.1)

-- ---- items

abbrev pub ItemBytes : Item → Type 0
ItemBytes i = IsBytes (item_text i)

pub block_item : (block : BlockId) (value : Option (List ℕ)) → IfSome value IsBytes → ItemBytes (Block block value)
block_item block value h =
    one 1 (block_text block ++ value_text value) (omega arith) (both (block_text block) (value_text value) (block_bytes block) (value_bytes value h))

pub delta_item : (block : BlockId) (ver hop item : ℕ) → ItemBytes (Delta block ver hop item)
delta_item block ver hop item =
    let hops : List ℕ = to_be_bytes w32 hop ++ to_be_bytes w16 item in
    let numbers : List ℕ = to_be_bytes w64 ver ++ hops in
    one 2 (block_text block ++ numbers) (omega arith)
    (both (block_text block) numbers (block_bytes block)
    (both (to_be_bytes w64 ver) hops (number w64 ver) (both (to_be_bytes w32 hop) (to_be_bytes w16 item) (number w32 hop) (number w16 item))))

pub part_item : (slot : ℕ) (rows : List (BlockId × Entry)) → IsItem second_version (Part slot rows) → ItemBytes (Part slot rows)
part_item slot rows fact =
    let small : slot < slot_count = fact.0 in
    let rest : List ℕ = to_be_bytes w16 (length rows) ++ flat_map row_text rows in
    one 3 (slot ∷ rest) (omega arith)
    (one slot rest (omega arith) (both (to_be_bytes w16 (length rows)) (flat_map row_text rows) (number w16 (length rows)) (rows_bytes rows fact.2)))

items_bytes : (items : List Item) → AllByRecursion ItemBytes items → IsBytes (flat_map item_text items)
items_bytes [] all = All-nil IsByte
items_bytes (i ∷ rest) all = both (item_text i) (flat_map item_text rest) all.0 (items_bytes rest all.1)

-- ---- the segment

version_small : (items : List Item) → version_of items < 256
version_small items = by_test (λ (v : ℕ). v < 256) _ second_version first_version (λ t. omega arith) (λ t. omega arith)

head_bytes : (s : Segment) → IsLog s.name.log.0 → IsBytes (head_text (head_of s))
head_bytes s fact =
    let counted : List ℕ = to_be_bytes w32 s.group ++ to_be_bytes w16 (length s.items) in
    one (version_of s.items) (name_text s.name ++ (prior_text s.prior ++ counted)) (version_small s.items)
    (both (name_text s.name) (prior_text s.prior ++ counted) (name_bytes s.name fact)
    (both (prior_text s.prior) counted (prior_bytes s.prior)
    (both (to_be_bytes w32 s.group) (to_be_bytes w16 (length s.items)) (number w32 s.group) (number w16 (length s.items)))))

pub text_bytes : (s : Segment) → IsLog s.name.log.0 → AllByRecursion ItemBytes s.items → IsBytes (text_of s)
text_bytes s fact all =
    let rest : List ℕ = head_text (head_of s) ++ flat_map item_text s.items in
    one 0x78 (0x46 ∷ 0x53 ∷ rest) (omega arith)
    (one 0x46 (0x53 ∷ rest) (omega arith)
    (one 0x53 rest (omega arith) (both (head_text (head_of s)) (flat_map item_text s.items) (head_bytes s fact) (items_bytes s.items all))))
