-- Reading rows or items one after the other, as a loop does.
use Rattle.std.proofs.Common.{◌≡◌, ℕ, suc, ◌-◌, ◌+◌, ◌≤◌, ◌<◌, Bool, true, false, List, [], ◌∷◌, ◌++◌, Result, Ok, Err, Option, Some, None, refl, sym, ap, ◌∙◌, append_assoc, arith, inl, inr}
use Rattle.std.proofs.lemmas.List.{append-nil}
use Rattle.std.specs.Prelude.{is_none, is_some, not}
use Rattle.xfs_base.specs.declared.block.BlockId.{BlockId}
use Rattle.xfs_base.specs.declared.entry.Entry.{Entry}
use Rattle.xfs_base.specs.Fields.{Fields}
use Rattle.segment_format.specs.declared.segment.Item.{Item}
use Rattle.segment_format.specs.declared.segment.Item.TheVariants.{Block, Delta, Part}
use Rattle.segment_format.specs.declared.seen.Seen.{Seen}
use Rattle.segment_format.specs.declared.seg_error.SegError.{SegError}
use Rattle.segment_format.specs.declared.seg_error.SegError.TheVariants.{BadRef}
use Rattle.segment_format.specs.Reading.{Reader, read_on, ◌>>=◌, gives, Fails}
use Rattle.segment_format.specs.ReadingFields.{row_at, rows_at}
use Rattle.segment_format.specs.ReadingItems.{item_at, items_at}
use Rattle.segment_format.specs.Rule.{seen_after}

-- what was read before, and what is still read
abbrev pub with_front : {A : Type 0} → List A → Result (List A × Fields) SegError → Result (List A × Fields) SegError
with_front front read = read_on read (λ xs. gives (front ++ xs))

regroup : {A : Type 0} (front : List A) (x : A) (read : Result (List A × Fields) SegError)
    → with_front front (read_on read (λ xs. gives (x ∷ xs))) ≡ with_front (front ++ x ∷ []) read
regroup front x (Ok r) = ap (λ xs. Ok (xs, r.1)) (simp append_assoc)
regroup front x (Err e) = refl

fails_on : {A : Type 0} (e : SegError) (front : List A) (read total : Result (List A × Fields) SegError) → Fails e read → with_front front read ≡ total
    → Fails e total
fails_on e front read total (inl m) so_far = inl m
fails_on e front read total (inr h) so_far = inr (sym so_far ∙ ap (with_front front) h)

fails_in : {A B : Type 0} (e : SegError) (read : Result (A × Fields) SegError) (q : A → Reader B) → Fails e read → Fails e (read_on read q)
fails_in e read q (inl m) = inl m
fails_in e read q (inr h) = inr (ap (λ r. read_on r q) h)

-- ---- rows

pub rows_go_on : (front : List (BlockId × Entry)) (count i : ℕ) (f g : Fields) (row : BlockId × Entry)
    (total : Result (List (BlockId × Entry) × Fields) SegError) → i < count → row_at f ≡ Ok (row, g)
    → with_front front (rows_at (count - i) f) ≡ total → with_front (front ++ row ∷ []) (rows_at (count - (i + 1)) g) ≡ total
unfolding rows_at
rows_go_on front count i f g row total lt h so_far =
    let k : count - i ≡ suc (count - (i + 1)) = omega arith in
    let one : with_front front (rows_at (count - i) f) ≡ with_front (front ++ row ∷ []) (rows_at (count - (i + 1)) g) =
    rw (k, h) (regroup front row (rows_at (count - (i + 1)) g)) in
    sym one ∙ so_far

pub rows_fail : (e : SegError) (front : List (BlockId × Entry)) (count i : ℕ) (f : Fields) (total : Result (List (BlockId × Entry) × Fields) SegError)
    → i < count → Fails e (row_at f)
    → with_front front (rows_at (count - i) f) ≡ total → Fails e total
unfolding rows_at
rows_fail e front count i f total lt h so_far =
    let k : count - i ≡ suc (count - (i + 1)) = omega arith in
    let here : Fails e (rows_at (count - i) f) = rw k (fails_in e (row_at f) (λ row. rows_at (count - (i + 1)) >>= λ others. gives (row ∷ others)) h) in
    fails_on e front (rows_at (count - i) f) total here so_far

pub rows_end : (front : List (BlockId × Entry)) (count i : ℕ) (f : Fields) (total : Result (List (BlockId × Entry) × Fields) SegError) → count ≤ i
    → with_front front (rows_at (count - i) f) ≡ total → total ≡ Ok (front, f)
unfolding rows_at
rows_end front count i f total le so_far =
    let k : count - i ≡ 0 = omega arith in
    let one : with_front front (rows_at (count - i) f) ≡ Ok (front, f) = rw k (ap (λ rows. Ok (rows, f)) (append-nil front)) in
    sym so_far ∙ one

-- ---- items

pub items_go_on : (version : ℕ) (front : List Item) (seen : Seen) (count i : ℕ) (f g : Fields) (item : Item) (total : Result (List Item × Fields) SegError)
    → i < count → item_at version seen f ≡ Ok (item, g)
    → with_front front (items_at version seen (count - i) f) ≡ total
    → with_front (front ++ item ∷ []) (items_at version (seen_after item seen) (count - (i + 1)) g) ≡ total
unfolding items_at
items_go_on version front seen count i f g item total lt h so_far =
    let k : count - i ≡ suc (count - (i + 1)) = omega arith in
    let one : with_front front (items_at version seen (count - i) f) ≡ with_front (front ++ item ∷ [])
    (items_at version (seen_after item seen) (count - (i + 1)) g) =
    rw (k, h) (regroup front item (items_at version (seen_after item seen) (count - (i + 1)) g)) in
    sym one ∙ so_far

pub items_fail : (version : ℕ) (e : SegError) (front : List Item) (seen : Seen) (count i : ℕ) (f : Fields) (total : Result (List Item × Fields) SegError)
    → i < count → Fails e (item_at version seen f)
    → with_front front (items_at version seen (count - i) f) ≡ total → Fails e total
unfolding items_at
items_fail version e front seen count i f total lt h so_far =
    let k : count - i ≡ suc (count - (i + 1)) = omega arith in
    let here : Fails e (items_at version seen (count - i) f) =
    rw k (fails_in e (item_at version seen f) (λ item. items_at version (seen_after item seen) (count - (i + 1)) >>= λ others. gives (item ∷ others)) h) in
    fails_on e front (items_at version seen (count - i) f) total here so_far

pub items_end : (version : ℕ) (front : List Item) (seen : Seen) (count i : ℕ) (f : Fields) (total : Result (List Item × Fields) SegError) → count ≤ i
    → is_none seen.awaited ≡ true → with_front front (items_at version seen (count - i) f) ≡ total → total ≡ Ok (front, f)
unfolding items_at
items_end version front seen count i f total le none so_far =
    let k : count - i ≡ 0 = omega arith in
    let one : with_front front (items_at version seen (count - i) f) ≡ Ok (front, f) = rw (k, none) (ap (λ items. Ok (items, f)) (append-nil front)) in
    sym so_far ∙ one

pub items_miss : (version : ℕ) (front : List Item) (seen : Seen) (count i : ℕ) (f : Fields) (total : Result (List Item × Fields) SegError) → count ≤ i
    → is_none seen.awaited ≡ false → with_front front (items_at version seen (count - i) f) ≡ total → total ≡ Err (BadRef f.at)
unfolding items_at
items_miss version front seen count i f total le some so_far =
    let k : count - i ≡ 0 = omega arith in
    let one : with_front front (items_at version seen (count - i) f) ≡ Err (BadRef f.at) = rw (k, some) refl in
    sym so_far ∙ one

-- one item more is seen
pub after_counts : (item : Item) (seen : Seen) → (seen_after item seen).others + (seen_after item seen).deltas ≡ seen.others + seen.deltas + 1
after_counts (Block block value) seen = omega arith
after_counts (Delta block ver hop item) seen = omega arith
after_counts (Part slot rows) seen = omega arith

pub is_none_from_some : {A : Type 0} (o : Option A) (b : Bool) → is_some o ≡ b → is_none o ≡ not b
is_none_from_some None b h = ap not h
is_none_from_some (Some x) b h = ap not h
