-- The items that are written of changes have a text, and so have those that pass the test.
use Rattle.std.proofs.Common.{◌≡◌, ℕ, suc, ◌+◌, ◌*◌, ◌≤◌, Bool, true, false, List, [], ◌∷◌, ◌++◌, length, Option, Some, None, refl, sym, ap, subst, ◌∙◌, arith, length-append, append_assoc}
use Rattle.std.specs.Prelude.{◌==◌, ◌&&◌, nat_lt, nat_le}
use Rattle.std.specs.List.{list_all, AllByRecursion}
use Rattle.std.proofs.lemmas.Bool.{true≢false, eqb-true, leb-true, ltb-true}
use Rattle.std.proofs.lemmas.Bool.Decides.{nat_tests}
use Rattle.xfs_base.specs.declared.block.BlockId.{BlockId}
use Rattle.xfs_base.specs.declared.entry.Entry.{Entry}
use Rattle.xfs_base.specs.declared.entry.Place.{Place}
use Rattle.xfs_base.specs.Blocks.{same_block}
use Rattle.xfs_base.specs.Limits.{segment_blocks, slot_count, log_count}
use Rattle.xfs_base.proofs.BlockOrder.{same_block_exact}
use Rattle.xfs_base.proofs.Booleans.{and_first, and_second}
use Rattle.segment_format.specs.declared.segment.Item.{Item}
use Rattle.segment_format.specs.declared.segment.Item.TheVariants.{Block, Delta, Part}
use Rattle.segment_format.specs.Format.{most_items, second_version, longest, is_within, IsWithin, is_row_count}
use Rattle.segment_format.specs.Rule.{KeepsRule, no_item, deltas_in, others_in}
use Rattle.segment_format.specs.Text.{IsItem, IsRow}
use Rattle.log_flight.specs.declared.dirty.Change.{Change}
use Rattle.log_flight.specs.Items.{change_items, items_of}
use Rattle.log_flight.specs.Texts.{HasText, is_placed, is_item, keeps_rule, has_text}

-- ---- items of changes

-- the items so far and those of the changes to come are all; each may stand in a text; and there are few
pub record BuildsItems (items : List Item) (rest all : List (BlockId × Change)) : Type 0 where
  pub made : items ++ items_of (length items) rest ≡ items_of 0 all
  pub each : AllByRecursion (IsItem second_version) items
  pub few : length items + 2 * length rest ≤ 48

all_append : (P : Item → Type 0) (xs ys : List Item) → AllByRecursion P xs → AllByRecursion P ys → AllByRecursion P (xs ++ ys)
all_append P [] ys h k = k
all_append P (x ∷ xs) ys h k = (h.0, all_append P xs ys h.1 k)

two_at_most : (before : ℕ) (block : BlockId) (change : Change) → length (change_items before block change) ≤ 2
two_at_most before block change =
    elim change.value as (λ v. length (change_items before block (record { entry = change.entry; value = v })) ≤ 2)
    [ None ↦ omega arith | Some bytes ↦ omega arith ]

-- one change more
pub builds_more : (items : List Item) (c : BlockId × Change) (rest all : List (BlockId × Change)) (more : List Item) → BuildsItems items (c ∷ rest) all
    → more ≡ items ++ change_items (length items) c.0 c.1 → AllByRecursion (IsItem second_version) (change_items (length items) c.0 c.1)
    → BuildsItems more rest all
builds_more items c rest all more b e each =
    let added : List Item = change_items (length items) c.0 c.1 in
    let size : length more ≡ length items + length added = ap length e ∙ length-append items added in
    record {
      made = ap (λ m. m ++ items_of (length more) rest) e ∙ append_assoc items added (items_of (length more) rest)
          ∙ ap (λ n. items ++ (added ++ items_of n rest)) size ∙ b.made;
      each = subst (AllByRecursion (IsItem second_version)) (sym e) (all_append (IsItem second_version) items added b.each each);
      few = omega (arith, two_at_most (length items) c.0 c.1, b.few);
    }

deltas : (n : ℕ) (cs : List (BlockId × Change)) → deltas_in (items_of n cs) ≡ length cs
deltas n [] = refl
deltas n (c ∷ cs) =
    elim c.1.value as
    (λ v. deltas_in
    (change_items n c.0 (record { entry = c.1.entry; value = v }) ++ items_of (n + length (change_items n c.0 (record { entry = c.1.entry; value = v }))) cs)
    ≡ suc (length cs)) [
      | None ↦ omega (arith, deltas (n + 1) cs)
      | Some bytes ↦ omega (arith, deltas (n + 2) cs)
    ]

others : (n : ℕ) (cs : List (BlockId × Change)) → others_in (items_of n cs) ≤ length cs
others n [] = omega arith
others n (c ∷ cs) =
    elim c.1.value as
    (λ v. others_in
    (change_items n c.0 (record { entry = c.1.entry; value = v }) ++ items_of (n + length (change_items n c.0 (record { entry = c.1.entry; value = v }))) cs)
    ≤ suc (length cs)) [
      | None ↦ omega (arith, others (n + 1) cs)
      | Some bytes ↦ omega (arith, others (n + 2) cs)
    ]

keeps : (n : ℕ) (cs : List (BlockId × Change)) → KeepsRule None n (items_of n cs)
keeps n [] = tt
keeps n (c ∷ cs) =
    elim c.1.value as
    (λ v. KeepsRule None n
    (change_items n c.0 (record { entry = c.1.entry; value = v }) ++ items_of (n + length (change_items n c.0 (record { entry = c.1.entry; value = v }))) cs)) [
      | None ↦ (refl, keeps (n + 1) cs)
      | Some bytes ↦ let e : n + 2 ≡ (n + 1) + 1 = omega arith in (refl, refl, subst (λ m. KeepsRule None m (items_of (n + 2) cs)) e (keeps (n + 2) cs))
    ]

pub written_have_text : (items : List Item) (cs : List (BlockId × Change)) → length cs ≤ segment_blocks → items ≡ items_of 0 cs
    → AllByRecursion (IsItem second_version) items → HasText items
written_have_text items cs few e each =
    subst HasText (sym e) (record {
      each = subst (AllByRecursion (IsItem second_version)) e each;
      others = omega (arith, others 0 cs);
      deltas = omega (arith, deltas 0 cs);
      rule = keeps 0 cs;
    })

-- ---- the test

false_is_not : {A : Type 0} → false ≡ true → A
false_is_not h = absurd (true≢false (sym h))

before_of : (m n : ℕ) → ((m + 1) == (n + 1)) ≡ true → m ≡ n
before_of m n h = grind (arith, nat_tests)

within_of : (lo hi n : ℕ) → is_within lo hi n ≡ true → IsWithin lo hi n
within_of lo hi n h = (leb-true lo n (and_first (nat_le lo n) (nat_le n hi) h), leb-true n hi (and_second (nat_le lo n) (nat_le n hi) h))

placed : (p : Option Place) (block : BlockId) (ver hop : ℕ) → is_placed p ≡ true → IsRow (block, record { ver = ver; hop = hop; place = p })
placed None block ver hop h = tt
placed (Some p) block ver hop h = within_of 1 log_count p.seg.name.log.0 h

all_placed : (rows : List (BlockId × Entry)) → list_all (λ r. is_placed r.1.place) rows ≡ true → AllByRecursion IsRow rows
all_placed [] h = tt
all_placed (r ∷ rs) h = (
  placed r.1.place r.0 r.1.ver r.1.hop (and_first (is_placed r.1.place) (list_all (λ r. is_placed r.1.place) rs) h),
  all_placed rs (and_second (is_placed r.1.place) (list_all (λ r. is_placed r.1.place) rs) h),
)

item_of_test : (i : Item) → is_item i ≡ true → IsItem second_version i
item_of_test (Block block None) h = false_is_not h
item_of_test (Block block (Some bytes)) h = within_of 1 (longest second_version) (length bytes) h
item_of_test (Delta block ver hop item) h = tt
item_of_test (Part slot rows) h =
    let rest : (is_row_count (length rows) && list_all (λ r. is_placed r.1.place) rows) ≡ true =
    and_second (nat_lt slot slot_count) (is_row_count (length rows) && list_all (λ r. is_placed r.1.place) rows) h in (
      ltb-true slot slot_count (and_first (nat_lt slot slot_count) (is_row_count (length rows) && list_all (λ r. is_placed r.1.place) rows) h),
      within_of 1 128 (length rows) (and_first (is_row_count (length rows)) (list_all (λ r. is_placed r.1.place) rows) rest),
      all_placed rows (and_second (is_row_count (length rows)) (list_all (λ r. is_placed r.1.place) rows) rest),
    )

all_items : (items : List Item) → list_all is_item items ≡ true → AllByRecursion (IsItem second_version) items
all_items [] h = tt
all_items (i ∷ rest) h = (item_of_test i (and_first (is_item i) (list_all is_item rest) h), all_items rest (and_second (is_item i) (list_all is_item rest) h))

-- of the items from a number on, where no Delta is awaited, and where that of the item before is
rules : (items : List Item)
    → ((n : ℕ) → keeps_rule None n items ≡ true → KeepsRule None n items)
    × ((block : BlockId) (n : ℕ) → keeps_rule (Some block) (n + 1) items ≡ true → KeepsRule (Some (record { block = block; item = n })) (n + 1) items)
rules [] = (λ n h. tt, λ block n h. false_is_not h)
rules (Block b value ∷ rest) = (λ n h. (rules rest).1 b n h, λ block n h. false_is_not h)
rules (Delta b ver hop item ∷ rest) = (
  λ n h. (
    eqb-true item no_item (and_first (item == no_item) (keeps_rule None (n + 1) rest) h),
    (rules rest).0 (n + 1) (and_second (item == no_item) (keeps_rule None (n + 1) rest) h),
  ),
  λ block n h.
      let here : (same_block b block && ((item + 1) == (n + 1))) ≡ true =
      and_first (same_block b block && ((item + 1) == (n + 1))) (keeps_rule None ((n + 1) + 1) rest) h in (
        sym (same_block_exact b block (and_first (same_block b block) ((item + 1) == (n + 1)) here)),
        before_of item n (and_second (same_block b block) ((item + 1) == (n + 1)) here),
        (rules rest).0 ((n + 1) + 1) (and_second (same_block b block && ((item + 1) == (n + 1))) (keeps_rule None ((n + 1) + 1) rest) h),
      ),
)
rules (Part slot rows ∷ rest) = (λ n h. (rules rest).0 (n + 1) h, λ block n h. false_is_not h)

pub tested_have_text : (items : List Item) → has_text items ≡ true → HasText items
tested_have_text items h =
    let all : Bool = list_all is_item items in
    let others : Bool = nat_le (others_in items) most_items in
    let deltas : Bool = nat_le (deltas_in items) most_items in
    let rule : Bool = keeps_rule None 0 items in
    let rest : (others && (deltas && rule)) ≡ true = and_second all (others && (deltas && rule)) h in
    let few : (deltas && rule) ≡ true = and_second others (deltas && rule) rest in
    record {
      each = all_items items (and_first all (others && (deltas && rule)) h);
      others = leb-true (others_in items) most_items (and_first others (deltas && rule) rest);
      deltas = leb-true (deltas_in items) most_items (and_first deltas rule few);
      rule = (rules items).0 0 (and_second deltas rule few);
    }
