-- Items, and a whole segment, from the left. A number after a name is the version of the text.
use Rattle.std.specs.Prelude.{ℕ, zero, suc, List, [], ◌∷◌, length, nat_lt, ◌==◌, if◌then◌else◌, Result, Ok, Err, is_none}
use Rattle.std.specs.Int.{w8, w16, w32, w64}
use Rattle.xfs_base.specs.Fields.{Fields}
use Rattle.xfs_base.specs.Limits.{slot_count}
use Rattle.segment_format.specs.declared.head.Head.{Head}
use Rattle.segment_format.specs.declared.segment.Item.{Item}
use Rattle.segment_format.specs.declared.segment.Item.TheVariants.{Block, Delta, Part}
use Rattle.segment_format.specs.declared.segment.Segment.{Segment}
use Rattle.segment_format.specs.declared.seen.Seen.{Seen}
use Rattle.segment_format.specs.declared.seg_error.SegError.{SegError}
use Rattle.segment_format.specs.declared.seg_error.SegError.TheVariants.{BadVersion, BadKind, BadLength, BadRef, Trailing}
use Rattle.segment_format.specs.Format.{is_row_count}
use Rattle.segment_format.specs.Reading.{Reader, ◌>>=◌, gives, number, checked}
use Rattle.segment_format.specs.ReadingFields.{block_at, value_at, rows_at, mark_at, head_at}
use Rattle.segment_format.specs.Rule.{nothing_seen, seen_after, is_kind, has_room, may_come, follows}
use Rattle.segment_format.specs.Text.{version_of}

-- the kind of the next item
unfoldable pub kind_at : Seen → Reader ℕ
kind_at seen = checked (checked (checked (number w8) is_kind BadKind) (has_room seen) BadLength) (may_come seen) BadRef

unfoldable pub block_item_at : ℕ → Reader Item
block_item_at version = do
  block ← block_at
  value ← value_at version
  gives (Block block value)

unfoldable pub delta_item_at : Reader Item
delta_item_at = do
  block ← block_at
  ver ← number w64
  hop ← number w32
  item ← number w16
  gives (Delta block ver hop item)

unfoldable pub part_item_at : Reader Item
part_item_at = do
  slot ← checked (number w8) (λ n. nat_lt n slot_count) BadLength
  count ← checked (number w16) is_row_count BadLength
  rows ← rows_at count
  gives (Part slot rows)

-- what stands behind a kind
unfoldable pub body_at : ℕ → ℕ → Reader Item
body_at version kind = if kind == 1 then block_item_at version else if kind == 2 then delta_item_at else part_item_at

-- one item: a Delta is read whole before its rule is tested
unfoldable pub item_at : ℕ → Seen → Reader Item
item_at version seen = checked (kind_at seen >>= body_at version) (follows seen.awaited) BadRef

-- so many items, behind what is seen; none may be missing at the end
unfoldable pub items_at : ℕ → Seen → ℕ → Reader (List Item)
items_at version seen zero = checked (gives []) (λ none. is_none seen.awaited) BadRef
items_at version seen (suc n) = do
  item ← item_at version seen
  others ← items_at version (seen_after item seen) n
  gives (item ∷ others)

-- what stands behind the mark; the version must be the one that the items need, which is known behind the last of them
unfoldable pub parts_at : Reader (Head × List Item)
parts_at = checked (head_at >>= λ head. items_at head.version nothing_seen head.count >>= λ items. gives (head, items))
    (λ parts. parts.0.version == version_of parts.1) BadVersion

unfoldable pub segment_at : Reader Segment
segment_at = do
  mark ← mark_at
  parts ← parts_at
  gives (record { name = parts.0.name; prior = parts.0.prior; group = parts.0.group; items = parts.1 })

-- all of the bytes
abbrev pub ended : Result (Segment × Fields) SegError → Result Segment SegError
ended (Ok x) = if length x.1.left == 0 then Ok x.0 else Err (Trailing x.1.at)
ended (Err e) = Err e

-- what reading these bytes answers: a segment, or the first place at which no text can go on, or a version that no Block needs
unfoldable pub answer_of : List ℕ → Result Segment SegError
answer_of bytes = ended (segment_at (record { left = bytes; at = 0 }))
