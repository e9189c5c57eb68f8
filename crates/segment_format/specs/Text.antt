-- Segment formats 1 and 2: the text of a segment, field by field. All numbers are big-endian.
use Rattle.std.specs.Prelude.{◌≡◌, ℕ, ◌<◌, ◌≤◌, Bool, false, List, [], ◌∷◌, ◌++◌, length, Option, Some, None, IfSome, nat_lt, if◌then◌else◌}
use Rattle.std.specs.Int.{w16, w32, w64, to_be_bytes}
use Rattle.std.specs.List.{flat_map, list_any, AllByRecursion}
use Rattle.xfs_base.specs.declared.block.BlockId.{BlockId}
use Rattle.xfs_base.specs.declared.entry.Entry.{Entry}
use Rattle.xfs_base.specs.declared.entry.Place.{Place}
use Rattle.xfs_base.specs.declared.segment.Pass.{Pass}
use Rattle.xfs_base.specs.declared.segment.Prior.{Prior}
use Rattle.xfs_base.specs.declared.segment.SegName.{SegName}
use Rattle.xfs_base.specs.Limits.{slot_count}
use Rattle.segment_format.specs.declared.head.Head.{Head}
use Rattle.segment_format.specs.declared.segment.Item.{Item}
use Rattle.segment_format.specs.declared.segment.Item.TheVariants.{Block, Delta, Part}
use Rattle.segment_format.specs.declared.segment.Segment.{Segment}
use Rattle.segment_format.specs.Format.{first_version, second_version, longest, most_items, mark, IsLog, IsLength, IsRowCount}
use Rattle.segment_format.specs.Rule.{KeepsRule, deltas_in, others_in}

abbrev pub block_text : BlockId → List ℕ
block_text b = to_be_bytes w32 b.ino.0 ++ to_be_bytes w32 b.blk

abbrev pub pass_text : Pass → List ℕ
pass_text p = to_be_bytes w32 p.inc ++ to_be_bytes w32 p.att

abbrev pub name_text : SegName → List ℕ
name_text n = n.log.0 ∷ to_be_bytes w32 n.seq ++ pass_text n.pass

abbrev pub prior_text : Prior → List ℕ
prior_text p = pass_text p.pass ++ to_be_bytes w32 p.group

-- a value that is present: its length, then its bytes
abbrev pub value_text : Option (List ℕ) → List ℕ
value_text None = []
value_text (Some bytes) = to_be_bytes w16 (length bytes) ++ bytes

-- 0 for no place, or 1 and the place
abbrev pub place_text : Option Place → List ℕ
place_text None = 0 ∷ []
place_text (Some p) = 1 ∷ name_text p.seg.name ++ to_be_bytes w32 p.seg.group ++ to_be_bytes w16 p.item

abbrev pub row_text : BlockId × Entry → List ℕ
row_text r = block_text r.0 ++ to_be_bytes w64 r.1.ver ++ to_be_bytes w32 r.1.hop ++ place_text r.1.place

abbrev pub item_text : Item → List ℕ
item_text (Block block value) = 1 ∷ block_text block ++ value_text value
item_text (Delta block ver hop item) = 2 ∷ block_text block ++ to_be_bytes w64 ver ++ to_be_bytes w32 hop ++ to_be_bytes w16 item
item_text (Part slot rows) = 3 ∷ slot ∷ to_be_bytes w16 (length rows) ++ flat_map row_text rows

-- the header's 32 bytes behind the mark
abbrev pub head_text : Head → List ℕ
head_text h = h.version ∷ name_text h.name ++ prior_text h.prior ++ to_be_bytes w32 h.group ++ to_be_bytes w16 h.count

-- a Block that has more bytes than format 1 allows
abbrev pub is_long : Item → Bool
is_long (Block block None) = false
is_long (Block block (Some bytes)) = nat_lt (longest first_version) (length bytes)
is_long (Delta block ver hop item) = false
is_long (Part slot rows) = false

-- format 2 is for segments with such a Block, and for them alone
abbrev pub version_of : List Item → ℕ
version_of items = if list_any is_long items then second_version else first_version

abbrev pub head_of : Segment → Head
head_of s = record { version = version_of s.items; name = s.name; prior = s.prior; group = s.group; count = length s.items }

abbrev pub text_of : Segment → List ℕ
text_of s = mark ++ head_text (head_of s) ++ flat_map item_text s.items

-- ---- which segments have a text

abbrev pub IsPlace : Place → Type 0
IsPlace p = IsLog p.seg.name.log.0

abbrev pub IsRow : BlockId × Entry → Type 0
IsRow r = IfSome r.1.place IsPlace

-- what a text of this version may have as an item
abbrev pub IsItem : ℕ → Item → Type 0
IsItem version (Block block None) = ⊥
IsItem version (Block block (Some bytes)) = IsLength version (length bytes)
IsItem version (Delta block ver hop item) = Unit {0}
IsItem version (Part slot rows) = (slot < slot_count) × IsRowCount (length rows) × AllByRecursion IsRow rows

-- the limits and the rule on Deltas
pub record KeepsLimits (s : Segment) : Type 0 where
  pub log : IsLog s.name.log.0
  pub items : AllByRecursion (IsItem second_version) s.items
  pub others : others_in s.items ≤ most_items
  pub deltas : deltas_in s.items ≤ most_items
  pub rule : KeepsRule None 0 s.items

-- ---- the relation

-- these bytes are the text of this segment
pub record IsText (bytes : List ℕ) (s : Segment) : Type 0 where
  pub limits : KeepsLimits s
  pub spelled : bytes ≡ text_of s
