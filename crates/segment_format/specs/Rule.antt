-- The rule on Deltas: a Block is followed at once by its Delta, and any other Delta has item 65535.
use Rattle.std.specs.Prelude.{◌≡◌, ℕ, ◌+◌, Bool, true, List, [], ◌∷◌, Option, Some, None, nat_lt, ◌==◌, ◌&&◌, ◌||◌, if◌then◌else◌, is_none}
use Rattle.xfs_base.specs.declared.block.BlockId.{BlockId}
use Rattle.xfs_base.specs.Blocks.{same_block}
use Rattle.segment_format.specs.declared.segment.Item.{Item}
use Rattle.segment_format.specs.declared.segment.Item.TheVariants.{Block, Delta, Part}
use Rattle.segment_format.specs.declared.seen.Awaited.{Awaited}
use Rattle.segment_format.specs.declared.seen.Seen.{Seen}
use Rattle.segment_format.specs.Format.{most_items, is_within}

-- the item of a Delta of an Absent version
abbrev pub no_item : ℕ
no_item = 65535

-- the items from number n on keep the rule, where this Delta has to come first
abbrev pub KeepsRule : Option Awaited → ℕ → List Item → Type 0
KeepsRule None n [] = Unit {0}
KeepsRule None n (Block block value ∷ rest) = KeepsRule (Some (record { block = block; item = n })) (n + 1) rest
KeepsRule None n (Delta block ver hop item ∷ rest) = (item ≡ no_item) × KeepsRule None (n + 1) rest
KeepsRule None n (Part slot rows ∷ rest) = KeepsRule None (n + 1) rest
KeepsRule (Some a) n [] = ⊥
KeepsRule (Some a) n (Block block value ∷ rest) = ⊥
KeepsRule (Some a) n (Delta block ver hop item ∷ rest) = (block ≡ a.block) × (item ≡ a.item) × KeepsRule None (n + 1) rest
KeepsRule (Some a) n (Part slot rows ∷ rest) = ⊥

-- how many items are Delta
abbrev pub deltas_in : List Item → ℕ
deltas_in [] = 0
deltas_in (Block block value ∷ rest) = deltas_in rest
deltas_in (Delta block ver hop item ∷ rest) = deltas_in rest + 1
deltas_in (Part slot rows ∷ rest) = deltas_in rest

-- how many are Block or Part
abbrev pub others_in : List Item → ℕ
others_in [] = 0
others_in (Block block value ∷ rest) = others_in rest + 1
others_in (Delta block ver hop item ∷ rest) = others_in rest
others_in (Part slot rows ∷ rest) = others_in rest + 1

-- ---- the same, an item at a time

abbrev pub nothing_seen : Seen
nothing_seen = record { others = 0; deltas = 0; awaited = None }

-- what is seen behind this item
abbrev pub seen_after : Item → Seen → Seen
seen_after (Block block value) seen =
    record { others = seen.others + 1; deltas = seen.deltas; awaited = Some (record { block = block; item = seen.others + seen.deltas }) }
seen_after (Delta block ver hop item) seen = record { others = seen.others; deltas = seen.deltas + 1; awaited = None }
seen_after (Part slot rows) seen = record { others = seen.others + 1; deltas = seen.deltas; awaited = None }

abbrev pub is_kind : ℕ → Bool
is_kind kind = is_within 1 3 kind

-- the limits leave room for one more of this kind
abbrev pub has_room : Seen → ℕ → Bool
has_room seen kind = if kind == 2 then nat_lt seen.deltas most_items else nat_lt seen.others most_items

-- a Delta may come always, and the others where none has to
abbrev pub may_come : Seen → ℕ → Bool
may_come seen kind = (kind == 2) || is_none seen.awaited

-- the Delta is the one that has to come, or of an Absent version where none has to
abbrev pub answers : Option Awaited → BlockId → ℕ → Bool
answers None block item = item == no_item
answers (Some a) block item = same_block block a.block && (item == a.item)

abbrev pub follows : Option Awaited → Item → Bool
follows awaited (Block block value) = true
follows awaited (Delta block ver hop item) = answers awaited block item
follows awaited (Part slot rows) = true
