-- How long things are: a table after an insertion, a stripe, the text of a segment.
use Rattle.std.proofs.Common.{◌≡◌, ℕ, zero, suc, ◌+◌, ◌-◌, ◌*◌, ◌^◌, ◌<◌, ◌≤◌, Bool, true, false, cond, List, [], ◌∷◌, length, Option, Some, None, refl, ap, ◌∙◌, arith, length-append}
use Rattle.std.specs.Prelude.{is_some}
use Rattle.std.specs.List.{AllByRecursion, flat_map}
use Rattle.std.specs.Map.{lookup}
use Rattle.indexmap.specs.IndexMap.{insert_entry}
use Rattle.xfs_base.specs.declared.block.BlockId.{BlockId}
use Rattle.xfs_base.specs.declared.entry.Entry.{Entry}
use Rattle.xfs_base.specs.declared.entry.Place.{Place}
use Rattle.segment_format.specs.declared.segment.Item.{Item}
use Rattle.segment_format.specs.declared.segment.Item.TheVariants.{Block, Delta, Part}
use Rattle.segment_format.specs.declared.segment.Segment.{Segment}
use Rattle.segment_format.specs.Format.{second_version}
use Rattle.segment_format.specs.Rule.{deltas_in, others_in}
use Rattle.segment_format.specs.Text.{row_text, place_text, item_text, text_of, IsItem, KeepsLimits}
use Rattle.stripe_code.specs.Stripe.{IsCut, part_len, cut_pieces, parities, stripe_of}

-- ---- a table

-- a key that is there takes no room
pub length-insert_entry : {K V : Type 0} (eq : K → K → Bool) (k : K) (v : V) (es : List (K × V))
    → length (insert_entry eq es k v) ≡ cond (is_some (lookup (eq k) es)) (length es) (length es + 1)
length-insert_entry eq k v [] = refl
length-insert_entry eq k v (e ∷ es) =
    elim (eq k e.0) as
    (λ b. length (cond b ((e.0, v) ∷ es) (e ∷ insert_entry eq es k v)) ≡ cond (is_some (cond b (Some e.1) (lookup (eq k) es))) (suc (length es))
    (suc (length es) + 1)) [
      | true ↦ refl
      | false ↦ ap suc (length-insert_entry eq k v es)
          ∙ elim (is_some (lookup (eq k) es)) as (λ b. suc (cond b (length es) (length es + 1)) ≡ cond b (suc (length es)) (suc (length es) + 1))
          [ true ↦ refl | false ↦ omega arith ]
    ]

pub length-insert_present : {K V : Type 0} (eq : K → K → Bool) (k : K) (v : V) (es : List (K × V)) → is_some (lookup (eq k) es) ≡ true
    → length (insert_entry eq es k v) ≡ length es
length-insert_present eq k v es h = length-insert_entry eq k v es ∙ ap (λ b. cond b (length es) (length es + 1)) h

pub length-insert_absent : {K V : Type 0} (eq : K → K → Bool) (k : K) (v : V) (es : List (K × V)) → is_some (lookup (eq k) es) ≡ false
    → length (insert_entry eq es k v) ≡ length es + 1
length-insert_absent eq k v es h = length-insert_entry eq k v es ∙ ap (λ b. cond b (length es) (length es + 1)) h

-- ---- a stripe

length-cut_pieces : (count part : ℕ) (text : List ℕ) → length (cut_pieces count part text) ≡ count
length-cut_pieces zero part text = refl
length-cut_pieces (suc count) part text = ap suc (length-cut_pieces count part _)

length-parities : (n parity part : ℕ) (fs : List (List ℕ)) → IsCut n parity → length (parities parity part fs) ≡ parity
length-parities n zero part fs c = absurd (omega (arith, c.some))
length-parities n (suc zero) part fs c = refl
length-parities n (suc (suc zero)) part fs c = refl
length-parities n (suc (suc (suc parity))) part fs c = absurd (omega (arith, c.few))

-- a fragment for each member
pub length-stripe_of : (text : List ℕ) (n parity : ℕ) → IsCut n parity → length (stripe_of text n parity) ≡ n
unfolding stripe_of
length-stripe_of text n parity c =
    let part : ℕ = part_len (length text) (n - parity) in
    omega (
      arith,
      c.least,
      length-append (cut_pieces (n - parity) part text) (parities parity part (cut_pieces (n - parity) part text)),
      length-cut_pieces (n - parity) part text,
      length-parities n parity part (cut_pieces (n - parity) part text) c,
    )

-- ---- a text

place_fits : (p : Option Place) → length (place_text p) ≤ 20
place_fits None = omega arith
place_fits (Some p) = omega arith

rows_fit : (rows : List (BlockId × Entry)) → length (flat_map row_text rows) ≤ 40 * length rows
rows_fit [] = omega arith
rows_fit (r ∷ rs) =
    let one : length (row_text r) ≤ 40 = omega (arith, place_fits r.1.place) in
    omega (arith, length-append (row_text r) (flat_map row_text rs), rows_fit rs)

item_fits : (i : Item) → IsItem second_version i → length (item_text i) ≤ 8300
item_fits (Block block None) h = absurd h
item_fits (Block block (Some bytes)) h = omega (arith, h.1)
item_fits (Delta block ver hop item) h = omega arith
item_fits (Part slot rows) h = omega (arith, rows_fit rows, h.1.1)

items_fit : (items : List Item) → AllByRecursion (IsItem second_version) items → length (flat_map item_text items) ≤ 8300 * length items
items_fit [] h = omega arith
items_fit (i ∷ rest) h = omega (arith, length-append (item_text i) (flat_map item_text rest), item_fits i h.0, items_fit rest h.1)

-- each item is a Delta or not
count_kinds : (items : List Item) → length items ≡ others_in items + deltas_in items
count_kinds [] = refl
count_kinds (Block block value ∷ rest) = omega (arith, count_kinds rest)
count_kinds (Delta block ver hop item ∷ rest) = omega (arith, count_kinds rest)
count_kinds (Part slot rows ∷ rest) = omega (arith, count_kinds rest)

-- the length of a text fits a u32
pub text_fits : (s : Segment) → KeepsLimits s → length (text_of s) < 2 ^ 32
text_fits s k =
    let many : length s.items ≤ 48 = omega (arith, count_kinds s.items, k.others, k.deltas) in
    let all : length (flat_map item_text s.items) ≤ 8300 * length s.items = items_fit s.items k.items in
    omega arith
