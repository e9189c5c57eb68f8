-- The test passes just the items that a segment may have.
use Rattle.std.proofs.Common.{◌≡◌, ℕ, ◌+◌, Bool, true, List, [], ◌∷◌, length, Option, Some, None, refl, sym, ap, ◌∙◌}
use Rattle.std.specs.Prelude.{◌==◌, ◌&&◌, ◌↔◌, IsTrue, nat_lt, nat_le}
use Rattle.std.specs.List.{list_all, AllByRecursion}
use Rattle.std.proofs.lemmas.Bool.{and_from, eq-eqb, le-leb, lt-ltb}
use Rattle.xfs_base.specs.declared.block.BlockId.{BlockId}
use Rattle.xfs_base.specs.declared.entry.Entry.{Entry}
use Rattle.xfs_base.specs.declared.entry.Place.{Place}
use Rattle.xfs_base.specs.Blocks.{same_block}
use Rattle.xfs_base.proofs.BlockOrder.{same_block_itself}
use Rattle.xfs_base.specs.Limits.{slot_count, log_count}
use Rattle.segment_format.specs.declared.segment.Item.{Item}
use Rattle.segment_format.specs.declared.segment.Item.TheVariants.{Block, Delta, Part}
use Rattle.segment_format.specs.Format.{most_items, second_version, longest, is_within, IsWithin, is_row_count}
use Rattle.segment_format.specs.Rule.{KeepsRule, no_item, deltas_in, others_in}
use Rattle.segment_format.specs.Text.{IsItem, IsRow}
use Rattle.log_flight.specs.Texts.{HasText, is_placed, is_item, keeps_rule, has_text}
use Rattle.log_flight.proofs.ItemTexts.{tested_have_text}

within_tests : (lo hi n : ℕ) → IsWithin lo hi n → is_within lo hi n ≡ true
within_tests lo hi n h = and_from (nat_le lo n) (nat_le n hi) (le-leb lo n h.0) (le-leb n hi h.1)

place_tests : (p : Option Place) (block : BlockId) (ver hop : ℕ) → IsRow (block, record { ver = ver; hop = hop; place = p }) → is_placed p ≡ true
place_tests None block ver hop h = refl
place_tests (Some p) block ver hop h = within_tests 1 log_count p.seg.name.log.0 h

rows_test : (rows : List (BlockId × Entry)) → AllByRecursion IsRow rows → list_all (λ r. is_placed r.1.place) rows ≡ true
rows_test [] h = refl
rows_test (r ∷ rs) h =
    and_from (is_placed r.1.place) (list_all (λ r. is_placed r.1.place) rs) (place_tests r.1.place r.0 r.1.ver r.1.hop h.0) (rows_test rs h.1)

item_tests : (i : Item) → IsItem second_version i → is_item i ≡ true
item_tests (Block block None) h = absurd h
item_tests (Block block (Some bytes)) h = within_tests 1 (longest second_version) (length bytes) h
item_tests (Delta block ver hop item) h = refl
item_tests (Part slot rows) h =
    and_from (nat_lt slot slot_count) (is_row_count (length rows) && list_all (λ r. is_placed r.1.place) rows) (lt-ltb slot slot_count h.0)
    (and_from (is_row_count (length rows)) (list_all (λ r. is_placed r.1.place) rows) (within_tests 1 128 (length rows) h.1) (rows_test rows h.2))

items_test : (items : List Item) → AllByRecursion (IsItem second_version) items → list_all is_item items ≡ true
items_test [] h = refl
items_test (i ∷ rest) h = and_from (is_item i) (list_all is_item rest) (item_tests i h.0) (items_test rest h.1)

-- of the items from a number on, where no Delta is awaited, and where that of the item before is
rule_tests : (items : List Item)
    → ((n : ℕ) → KeepsRule None n items → keeps_rule None n items ≡ true)
    × ((block : BlockId) (n : ℕ) → KeepsRule (Some (record { block = block; item = n })) (n + 1) items → keeps_rule (Some block) (n + 1) items ≡ true)
rule_tests [] = (λ n h. refl, λ block n h. absurd h)
rule_tests (Block b value ∷ rest) = (λ n h. (rule_tests rest).1 b n h, λ block n h. absurd h)
rule_tests (Delta b ver hop item ∷ rest) = (
  λ n h. and_from (item == no_item) (keeps_rule None (n + 1) rest) (eq-eqb item no_item h.0) ((rule_tests rest).0 (n + 1) h.1),
  λ block n h.
      let next : item + 1 ≡ n + 1 = ap (λ k. k + 1) h.1 in
      let is_block : same_block b block ≡ true = ap (same_block b) (sym h.0) ∙ same_block_itself b in
      and_from (same_block b block && ((item + 1) == (n + 1))) (keeps_rule None ((n + 1) + 1) rest)
      (and_from (same_block b block) ((item + 1) == (n + 1)) is_block (eq-eqb (item + 1) (n + 1) next)) ((rule_tests rest).0 ((n + 1) + 1) h.2),
)
rule_tests (Part slot rows ∷ rest) = (λ n h. (rule_tests rest).0 (n + 1) h, λ block n h. absurd h)

passes : (items : List Item) → HasText items → has_text items ≡ true
passes items h =
    let few : Bool = nat_le (deltas_in items) most_items && keeps_rule None 0 items in
    and_from (list_all is_item items) (nat_le (others_in items) most_items && few) (items_test items h.each)
    (and_from (nat_le (others_in items) most_items) few (le-leb (others_in items) most_items h.others)
    (and_from (nat_le (deltas_in items) most_items) (keeps_rule None 0 items) (le-leb (deltas_in items) most_items h.deltas) ((rule_tests items).0 0 h.rule)))

pub tests_text : (items : List Item) (b : Bool) → b ≡ has_text items → (IsTrue b ↔ HasText items)
tests_text items b e = (λ t. tested_have_text items (sym e ∙ t), λ h. e ∙ passes items h)
