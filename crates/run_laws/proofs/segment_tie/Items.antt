-- The items that are written of changes tell of blocks once, each of a version that waited; and what a segment tells of blocks is said by its items alone.
use Rattle.std.proofs.Common.{◌≡◌, ℕ, ◌+◌, ◌<◌, ◌≤◌, List, [], ◌∷◌, ◌++◌, length, map, Option, Some, None, refl, sym, subst, arith}
use Rattle.std.specs.List.{AllByRecursion, filter_map}
use Rattle.headline.specs.Filed.{IsNoPart}
use Rattle.log_flight.specs.declared.dirty.Change.{Change}
use Rattle.log_flight.specs.Items.{change_items, items_of}
use Rattle.node_slots.specs.node_tie.LogRows.{told, rows_told}
use Rattle.node_slots.proofs.node_tie.LogRows.{rows_told_of}
use Rattle.segment_format.specs.declared.segment.Item.{Item}
use Rattle.segment_format.specs.declared.segment.Item.TheVariants.{Block, Delta, Part}
use Rattle.segment_format.specs.declared.segment.Segment.{Segment}
use Rattle.segment_format.specs.Rows.{row_of}
use Rattle.segment_format.specs.Rule.{KeepsRule, no_item}
use Rattle.token_law.specs.Books.{AreOnce}
use Rattle.xfs_base.specs.declared.block.BlockId.{BlockId}
use Rattle.xfs_base.specs.declared.entry.Entry.{Entry}
use Rattle.xfs_base.specs.Limits.{segment_blocks}
use Rattle.xfs_base.proofs.Alls.{all_append}
use Rattle.run_laws.specs.segment_tie.Segments.{TellsOnce, IsOriginal, IsCopies, IsPart, NothingIsAnyKind, AttemptsAreAlike, IsFirstHand, IsMoved, IsWaiting}

-- ---- what items say

-- a Delta says a version from 1 on, moved so often
abbrev pub ItemSays : (ℕ → Type 0) → Item → Type 0
ItemSays Moved (Block block value) = Unit {0}
ItemSays Moved (Delta block ver hop item) = (0 < ver) × Moved hop
ItemSays Moved (Part slot rows) = ⊥

-- items that tell of blocks
pub record Says (Moved : ℕ → Type 0) (items : List Item) : Type 0 where
  pub once : AreOnce (rows_told items)
  pub few : length items ≤ no_item
  pub each : AllByRecursion (ItemSays Moved) items
  pub rule : KeepsRule None 0 items

module _ (Moved : ℕ → Type 0) where
  abbrev pub AllSay : List Item → Type 0
  AllSay items = AllByRecursion (ItemSays Moved) items

  no_parts : (items : List Item) → AllSay items → AllByRecursion IsNoPart items
  no_parts [] all = tt
  no_parts (Block block value ∷ items) all = (tt, no_parts items all.1)
  no_parts (Delta block ver hop item ∷ items) all = (tt, no_parts items all.1)
  no_parts (Part slot rows ∷ items) all = absurd all.0

  versioned : (s : Segment) (items : List Item) → AllSay items → AllByRecursion (λ row. 0 < row.1.ver) (filter_map (row_of s) items)
  versioned s [] all = tt
  versioned s (Block block value ∷ items) all = versioned s items all.1
  versioned s (Delta block ver hop item ∷ items) all = (all.0.0, versioned s items all.1)
  versioned s (Part slot rows ∷ items) all = absurd all.0

  moved : (s : Segment) (items : List Item) → AllSay items → AllByRecursion (λ row. Moved row.1.hop) (filter_map (row_of s) items)
  moved s [] all = tt
  moved s (Block block value ∷ items) all = moved s items all.1
  moved s (Delta block ver hop item ∷ items) all = (all.0.1, moved s items all.1)
  moved s (Part slot rows ∷ items) all = absurd all.0

  -- and back
  says : (s : Segment) (items : List Item) → AllByRecursion IsNoPart items → AllByRecursion (λ row. 0 < row.1.ver) (filter_map (row_of s) items)
      → AllByRecursion (λ row. Moved row.1.hop) (filter_map (row_of s) items) → AllSay items
  says s [] none some hops = tt
  says s (Block block value ∷ items) none some hops = (tt, says s items none.1 some hops)
  says s (Delta block ver hop item ∷ items) none some hops = ((some.0, hops.0), says s items none.1 some.1 hops.1)
  says s (Part slot rows ∷ items) none some hops = absurd none.0

  tells_once : (s : Segment) → Says Moved s.items → TellsOnce s
  tells_once s h = record {
    no_parts = no_parts s.items h.each;
    plain = record { once = h.once; few = h.few };
    versioned = versioned s s.items h.each;
    places = h.rule;
  }

  items_say : (s : Segment) → TellsOnce s → AllByRecursion (λ row. Moved row.1.hop) (filter_map (row_of s) s.items) → Says Moved s.items
  items_say s h hops =
      record { once = h.plain.once; few = h.plain.few; each = says s s.items h.no_parts h.versioned hops; rule = h.places }

  pub nothing_says : Says Moved []
  nothing_says = record { once = tt; few = omega arith; each = tt; rule = tt }

pub original_of : (s : Segment) → Says IsFirstHand s.items → IsOriginal s
original_of s h = record { tells = tells_once IsFirstHand s h; first_hand = moved IsFirstHand s s.items h.each }

pub copies_of : (s : Segment) → Says IsMoved s.items → IsCopies s
copies_of s h = record { tells = tells_once IsMoved s h; moved = moved IsMoved s s.items h.each }

original_says : (s : Segment) → IsOriginal s → Says IsFirstHand s.items
original_says s h = items_say IsFirstHand s h.tells h.first_hand

copies_say : (s : Segment) → IsCopies s → Says IsMoved s.items
copies_say s h = items_say IsMoved s h.tells h.moved

pub original_alike : (s t : Segment) → s.items ≡ t.items → IsOriginal s → IsOriginal t
original_alike s t same h = original_of t (subst (Says IsFirstHand) same (original_says s h))

pub copies_alike : (s t : Segment) → s.items ≡ t.items → IsCopies s → IsCopies t
copies_alike s t same h = copies_of t (subst (Says IsMoved) same (copies_say s h))

pub nothing_is : NothingIsAnyKind
nothing_is s none = record {
  original = original_of s (subst (Says IsFirstHand) (sym none) (nothing_says IsFirstHand));
  copies = copies_of s (subst (Says IsMoved) (sym none) (nothing_says IsMoved));
  pages = subst (AllByRecursion IsPart) (sym none) tt;
}

pub alike : AttemptsAreAlike
alike s t same =
    record { original = original_alike s t same; copies = copies_alike s t same; pages = λ h. subst (AllByRecursion IsPart) same h }

-- ---- the items of changes

abbrev pub Changes : Type 0
Changes = List (BlockId × Change)

module _ (Moved : ℕ → Type 0) where
  abbrev pub AllWait : Changes → Type 0
  AllWait cs = AllByRecursion (λ (c : BlockId × Change). IsWaiting Moved c.1) cs

  change_says : (before : ℕ) (block : BlockId) (entry : Entry) (value : Option (List ℕ)) → IsWaiting Moved (record { entry = entry; value = value })
      → AllSay Moved (change_items before block (record { entry = entry; value = value }))
  change_says before block entry None fact = ((fact.version, fact.hop), tt)
  change_says before block entry (Some bytes) fact = (tt, ((fact.version, fact.hop), tt))

  changes_say : (before : ℕ) (cs : Changes) → AllWait cs → AllSay Moved (items_of before cs)
  changes_say before [] all = tt
  changes_say before (c ∷ cs) all =
      let here : List Item = change_items before c.0 c.1 in
      all_append (ItemSays Moved) here (items_of (before + length here) cs)
      (change_says before c.0 c.1.entry c.1.value (record { version = all.0.version; hop = all.0.hop })) (changes_say (before + length here) cs all.1)

-- a Block stands right before its Delta, which names it
rule_more : (before : ℕ) (block : BlockId) (entry : Entry) (value : Option (List ℕ)) (cs : Changes)
    → ((n : ℕ) → KeepsRule None n (items_of n cs))
    → KeepsRule None before (items_of before ((block, record { entry = entry; value = value }) ∷ cs))
rule_more before block entry None cs rest = (refl, rest (before + 1))
rule_more before block entry (Some bytes) cs rest =
    (let e : before + 2 ≡ (before + 1) + 1 = omega arith in (refl, refl, subst (λ m. KeepsRule None m (items_of (before + 2) cs)) e (rest (before + 2))))

rule_kept : (cs : Changes) (before : ℕ) → KeepsRule None before (items_of before cs)
rule_kept [] before = tt
rule_kept (c ∷ cs) before = rule_more before c.0 c.1.entry c.1.value cs (rule_kept cs)

pub changes_tell : (Moved : ℕ → Type 0) (cs : Changes) → length cs ≤ segment_blocks → AreOnce (map told cs) → AllWait Moved cs → Says Moved (items_of 0 cs)
changes_tell Moved cs few once all = record {
  once = subst AreOnce (sym (rows_told_of cs few)) once;
  few = omega (arith, few, items_length 0 cs);
  each = changes_say Moved 0 cs all;
  rule = rule_kept cs 0;
}
  where
    change_length : (before : ℕ) (block : BlockId) (entry : Entry) (value : Option (List ℕ))
        → length (change_items before block (record { entry = entry; value = value })) ≤ 2
    change_length before block entry None = omega arith
    change_length before block entry (Some bytes) = omega arith

    length_more : {X : Type 0} (xs ys : List X) → length (xs ++ ys) ≡ length xs + length ys
    length_more [] ys = omega arith
    length_more (x ∷ xs) ys = let rest = length_more xs ys in omega arith

    items_length : (before : ℕ) (cs : Changes) → length (items_of before cs) ≤ length cs + length cs
    items_length before [] = omega arith
    items_length before (c ∷ cs) =
        let here = change_items before c.0 c.1 in
        let one = change_length before c.0 c.1.entry c.1.value in
        let rest = items_length (before + length here) cs in
        let both = length_more here (items_of (before + length here) cs) in
        omega arith
