-- The items of changes say of blocks what the changes do.
use Rattle.std.proofs.Common.{◌≡◌, ℕ, zero, suc, ◌+◌, ◌≤◌, List, [], ◌∷◌, ◌++◌, append_assoc, length, map, take, Option, Some, None, refl, sym, ap, ◌∙◌, arith}
use Rattle.std.specs.List.{filter_map, slice_get}
use Rattle.client_call.specs.Reads.{value_in}
use Rattle.log_flight.specs.declared.dirty.Change.{Change}
use Rattle.log_flight.specs.Items.{change_items, items_of}
use Rattle.segment_format.specs.declared.segment.Item.{Item}
use Rattle.segment_format.specs.declared.segment.Item.TheVariants.{Block, Delta}
use Rattle.segment_format.specs.Rule.{no_item}
use Rattle.xfs_base.specs.declared.block.BlockId.{BlockId}
use Rattle.xfs_base.specs.declared.entry.Entry.{Entry}
use Rattle.xfs_base.specs.Limits.{segment_blocks}
use Rattle.node_slots.specs.node_tie.LogRows.{told, row_told, rows_told}

-- ---- places in a list

pub get_past : {X : Type 0} (xs : List X) (k : ℕ) → length xs ≤ k → slice_get xs k ≡ None
get_past [] k h = refl
get_past (x ∷ xs) zero h = absurd (omega arith)
get_past (x ∷ xs) (suc k) h = get_past xs k (omega arith)

get_at : {X : Type 0} (before : List X) (x : X) (xs : List X) → slice_get (before ++ x ∷ xs) (length before) ≡ Some x
get_at [] x xs = refl
get_at (y ∷ before) x xs = get_at before x xs

length_more : {X : Type 0} (xs ys : List X) → length (xs ++ ys) ≡ length xs + length ys
length_more [] ys = omega arith
length_more (x ∷ xs) ys = let rest = length_more xs ys in omega arith

pub take_within : {X : Type 0} (n : ℕ) (xs : List X) → length (take n xs) ≤ n
take_within zero xs = omega arith
take_within (suc n) [] = omega arith
take_within (suc n) (x ∷ xs) = let rest = take_within n xs in omega arith

-- ---- the items of changes

change_length : (before : ℕ) (block : BlockId) (entry : Entry) (value : Option (List ℕ))
    → length (change_items before block (record { entry = entry; value = value })) ≤ 2
change_length before block entry None = omega arith
change_length before block entry (Some bytes) = omega arith

items_length : (before : ℕ) (cs : List (BlockId × Change)) → length (items_of before cs) ≤ length cs + length cs
items_length before [] = omega arith
items_length before (c ∷ cs) =
    let here = change_items before c.0 c.1 in
    let one = change_length before c.0 c.1.entry c.1.value in
    let rest = items_length (before + length here) cs in
    let both = length_more here (items_of (before + length here) cs) in
    omega arith

-- what the items of these changes say, wherever they stand among all
abbrev Tells : List Item → List (BlockId × Change) → Type 0
Tells all cs =
    (before : ℕ) (first : List Item) → length first ≡ before → all ≡ first ++ items_of before cs → filter_map (row_told all) (items_of before cs) ≡ map told cs

-- a change before them
tells_more : (all : List Item) → length all ≤ no_item → (block : BlockId) (entry : Entry) (value : Option (List ℕ)) (cs : List (BlockId × Change))
    → Tells all cs
    → Tells all ((block, record { entry = entry; value = value }) ∷ cs)
tells_more all within block entry None cs tells before first at fact =
    let here : Item = Delta block entry.ver entry.hop no_item in
    let rest = tells (before + 1) (first ++ here ∷ []) (let e = length_more first (here ∷ []) in omega arith) (fact ∙ sym (append_assoc first (here ∷ []) _)) in
    ap (λ (v : Option (List ℕ)). (block, record { version = entry.ver; value = v }) ∷ filter_map (row_told all) (items_of (before + 1) cs))
    (ap value_in (get_past all no_item within))
    ∙ ap (λ rows. (block, record { version = entry.ver; value = None }) ∷ rows) rest
tells_more all within block entry (Some bytes) cs tells before first at fact =
    let here : List Item = Block block (Some bytes) ∷ Delta block entry.ver entry.hop before ∷ [] in
    let rest = tells (before + 2) (first ++ here) (let e = length_more first here in omega arith) (fact ∙ sym (append_assoc first here _)) in
    let found : slice_get all before ≡ Some (Block block (Some bytes)) =
    ap (λ n. slice_get all n) (sym at) ∙ ap (λ items. slice_get items (length first)) fact ∙ get_at first (Block block (Some bytes)) _ in
    ap (λ (v : Option (List ℕ)). (block, record { version = entry.ver; value = v }) ∷ filter_map (row_told all) (items_of (before + 2) cs)) (ap value_in found)
    ∙ ap (λ rows. (block, record { version = entry.ver; value = Some bytes }) ∷ rows) rest

tells_all : (all : List Item) → length all ≤ no_item → (cs : List (BlockId × Change)) → Tells all cs
tells_all all within [] before first at fact = refl
tells_all all within (c ∷ cs) before first at fact = tells_more all within c.0 c.1.entry c.1.value cs (tells_all all within cs) before first at fact

-- the items of so few changes say what the changes do
pub rows_told_of : (cs : List (BlockId × Change)) → length cs ≤ segment_blocks → rows_told (items_of 0 cs) ≡ map told cs
rows_told_of cs few = tells_all (items_of 0 cs) (let limit = items_length 0 cs in omega arith) cs 0 [] refl refl
