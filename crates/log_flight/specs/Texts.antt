-- Which items a segment may have.
use Rattle.std.specs.Prelude.{ℕ, ◌+◌, ◌≤◌, Bool, true, false, ◌==◌, ◌&&◌, nat_lt, nat_le, is_none, List, [], ◌∷◌, length, Option, Some, None}
use Rattle.std.specs.List.{list_all, AllByRecursion}
use Rattle.xfs_base.specs.declared.block.BlockId.{BlockId}
use Rattle.xfs_base.specs.declared.entry.Place.{Place}
use Rattle.xfs_base.specs.Blocks.{same_block}
use Rattle.xfs_base.specs.Limits.{slot_count}
use Rattle.segment_format.specs.declared.segment.Item.{Item}
use Rattle.segment_format.specs.declared.segment.Item.TheVariants.{Block, Delta, Part}
use Rattle.segment_format.specs.Format.{most_items, second_version, is_log, is_length, is_row_count}
use Rattle.segment_format.specs.Rule.{KeepsRule, no_item, deltas_in, others_in}
use Rattle.segment_format.specs.Text.{IsItem}

-- the limits and the rule on Deltas, as segment_format has them, of the items alone
pub record HasText (items : List Item) : Type 0 where
  pub each : AllByRecursion (IsItem second_version) items
  pub others : others_in items ≤ most_items
  pub deltas : deltas_in items ≤ most_items
  pub rule : KeepsRule None 0 items

-- ---- the same as a test

abbrev pub is_placed : Option Place → Bool
is_placed None = true
is_placed (Some p) = is_log p.seg.name.log.0

abbrev pub is_present : Option (List ℕ) → Bool
is_present None = false
is_present (Some bytes) = is_length second_version (length bytes)

-- whether a segment may have the item at all
abbrev pub is_item : Item → Bool
is_item (Block block value) = is_present value
is_item (Delta block ver hop item) = true
is_item (Part slot rows) = nat_lt slot slot_count && (is_row_count (length rows) && list_all (λ r. is_placed r.1.place) rows)

-- the Delta that has to come behind an item: that of a Block
abbrev pub awaited_after : Item → Option BlockId
awaited_after (Block block value) = Some block
awaited_after (Delta block ver hop item) = None
awaited_after (Part slot rows) = None

-- whether the item of this number may come, where this Delta is awaited
abbrev pub may_come : Option BlockId → ℕ → Item → Bool
may_come None number (Block block value) = true
may_come None number (Delta block ver hop item) = item == no_item
may_come None number (Part slot rows) = true
may_come (Some awaited) number (Block block value) = false
may_come (Some awaited) number (Delta block ver hop item) = same_block block awaited && ((item + 1) == number)
may_come (Some awaited) number (Part slot rows) = false

-- whether the items from a number on keep the rule on Deltas, where this Delta is awaited
abbrev pub keeps_rule : Option BlockId → ℕ → List Item → Bool
keeps_rule awaited number [] = is_none awaited
keeps_rule awaited number (i ∷ rest) = may_come awaited number i && keeps_rule (awaited_after i) (number + 1) rest

abbrev pub has_text : List Item → Bool
has_text items = list_all is_item items && (nat_le (others_in items) most_items && (nat_le (deltas_in items) most_items && keeps_rule None 0 items))
