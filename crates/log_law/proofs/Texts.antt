-- A segment of items that fit is written; and so do items fit that say changes that fit, as many as a segment takes.
use Rattle.std.proofs.Common.{◌<◌, ◌≤◌, ℕ, ◌+◌, ◌*◌, ◌^◌, List, [], ◌∷◌, ◌++◌, length, Some, None, refl, arith}
use Rattle.std.specs.Prelude.{IfSome}
use Rattle.std.specs.List.{AllByRecursion}
use Rattle.xfs_base.specs.declared.block.BlockId.{BlockId}
use Rattle.xfs_base.specs.Limits.{segment_blocks}
use Rattle.segment_format.specs.declared.segment.Item.{Item}
use Rattle.segment_format.specs.declared.segment.Item.TheVariants.{Block}
use Rattle.segment_format.specs.declared.segment.Segment.{Segment}
use Rattle.segment_format.specs.Format.{second_version, IsLength, IsLog}
use Rattle.segment_format.specs.Ranges.{FitsName, FitsPrior, FitsItem, FitsRow}
use Rattle.segment_format.specs.Rule.{no_item}
use Rattle.segment_format.specs.Text.{IsItem}
use Rattle.stripe_code.specs.Stripe.{IsBytes}
use Rattle.log_flight.specs.declared.dirty.Change.{Change}
use Rattle.log_flight.specs.Items.{change_items, items_of}
use Rattle.log_flight.specs.Texts.{HasText}
use Rattle.log_flight.proofs.ItemTexts.{written_have_text}
use Rattle.log_law.specs.Events.{IsWritten}
use Rattle.log_law.proofs.TextBytes.{ItemBytes, block_item, delta_item, text_bytes}

-- ---- the segment

pub record ItemsFit (items : List Item) : Type 0 where
  pub ranges : AllByRecursion FitsItem items
  pub text : HasText items
  pub bytes : AllByRecursion ItemBytes items

pub record SegmentFits (s : Segment) : Type 0 where
  pub log : IsLog s.name.log.0
  pub name : FitsName s.name
  pub prior : FitsPrior s.prior
  pub group : s.group < 2 ^ 32
  pub items : ItemsFit s.items

pub segment_written : (s : Segment) → SegmentFits s → IsWritten s
segment_written s h = record {
  fits = record { name = h.name; prior = h.prior; group = h.group; items = h.items.ranges };
  text = record {
    limits = record { log = h.log; items = h.items.text.each; others = h.items.text.others; deltas = h.items.text.deltas; rule = h.items.text.rule };
    spelled = refl;
  };
  bytes = text_bytes s h.log h.items.bytes;
}

-- ---- the items of changes

-- a change whose version and value fit the format
pub record ChangeFits (c : BlockId × Change) : Type 0 where
  pub row : FitsRow (c.0, c.1.entry)
  pub length : IfSome c.1.value (λ bytes. IsLength second_version (length bytes))
  pub bytes : IfSome c.1.value IsBytes

ranges_of : (before : ℕ) (cs : List (BlockId × Change)) → before + 2 * length cs ≤ 48 → AllByRecursion ChangeFits cs
    → AllByRecursion FitsItem (items_of before cs)
ranges_of before [] few all = tt
ranges_of before (c ∷ cs) few all =
    elim c.1.value as
    (λ v. AllByRecursion FitsItem
    (change_items before c.0 (record { entry = c.1.entry; value = v })
    ++ items_of (before + length (change_items before c.0 (record { entry = c.1.entry; value = v }))) cs)) [
      | None ↦ ((all.0.row.0, all.0.row.1, all.0.row.2, omega arith), ranges_of (before + 1) cs (omega arith) all.1)
      | Some bytes ↦ (all.0.row.0, ((all.0.row.0, all.0.row.1, all.0.row.2, omega arith), ranges_of (before + 2) cs (omega arith) all.1))
    ]

each_of : (before : ℕ) (cs : List (BlockId × Change)) → AllByRecursion ChangeFits cs → AllByRecursion (IsItem second_version) (items_of before cs)
each_of before [] all = tt
each_of before (c ∷ cs) all =
    elim c.1.value as
    (λ v. IfSome v (λ bytes. IsItem second_version (Block c.0 (Some bytes)))
    → AllByRecursion (IsItem second_version)
    (change_items before c.0 (record { entry = c.1.entry; value = v })
    ++ items_of (before + length (change_items before c.0 (record { entry = c.1.entry; value = v }))) cs)) [
      | None ↦ λ h. (tt, each_of (before + 1) cs all.1)
      | Some bytes ↦ λ h. (h, (tt, each_of (before + 2) cs all.1))
    ] all.0.length

bytes_of : (before : ℕ) (cs : List (BlockId × Change)) → AllByRecursion ChangeFits cs → AllByRecursion ItemBytes (items_of before cs)
bytes_of before [] all = tt
bytes_of before (c ∷ cs) all =
    elim c.1.value as
    (λ v. IfSome v IsBytes
    → AllByRecursion ItemBytes
    (change_items before c.0 (record { entry = c.1.entry; value = v })
    ++ items_of (before + length (change_items before c.0 (record { entry = c.1.entry; value = v }))) cs)) [
      | None ↦ λ h. (delta_item c.0 c.1.entry.ver c.1.entry.hop no_item, bytes_of (before + 1) cs all.1)
      | Some bytes ↦ λ h. (block_item c.0 (Some bytes) h, (delta_item c.0 c.1.entry.ver c.1.entry.hop before, bytes_of (before + 2) cs all.1))
    ] all.0.bytes

pub items_fit : (cs : List (BlockId × Change)) → length cs ≤ segment_blocks → AllByRecursion ChangeFits cs → ItemsFit (items_of 0 cs)
items_fit cs few all = record {
  ranges = ranges_of 0 cs (omega arith) all;
  text = written_have_text (items_of 0 cs) cs few refl (each_of 0 cs all);
  bytes = bytes_of 0 cs all;
}
