-- The numbers of a segment are in the ranges of their types, as those of each segment that a program holds.
use Rattle.std.specs.Prelude.{◌<◌, ◌^◌, IfSome}
use Rattle.std.specs.List.{AllByRecursion}
use Rattle.xfs_base.specs.declared.block.BlockId.{BlockId}
use Rattle.xfs_base.specs.declared.entry.Entry.{Entry}
use Rattle.xfs_base.specs.declared.entry.Place.{Place}
use Rattle.xfs_base.specs.declared.segment.Pass.{Pass}
use Rattle.xfs_base.specs.declared.segment.Prior.{Prior}
use Rattle.xfs_base.specs.declared.segment.SegName.{SegName}
use Rattle.segment_format.specs.declared.segment.Item.{Item}
use Rattle.segment_format.specs.declared.segment.Item.TheVariants.{Block, Delta, Part}
use Rattle.segment_format.specs.declared.segment.Segment.{Segment}

abbrev pub FitsBlock : BlockId → Type 0
FitsBlock b = (b.ino.0 < 2 ^ 32) × (b.blk < 2 ^ 32)

abbrev pub FitsPass : Pass → Type 0
FitsPass p = (p.inc < 2 ^ 32) × (p.att < 2 ^ 32)

abbrev pub FitsName : SegName → Type 0
FitsName n = (n.seq < 2 ^ 32) × FitsPass n.pass

abbrev pub FitsPrior : Prior → Type 0
FitsPrior p = FitsPass p.pass × (p.group < 2 ^ 32)

abbrev pub FitsPlace : Place → Type 0
FitsPlace p = FitsName p.seg.name × (p.seg.group < 2 ^ 32) × (p.item < 2 ^ 16)

abbrev pub FitsRow : BlockId × Entry → Type 0
FitsRow r = FitsBlock r.0 × (r.1.ver < 2 ^ 64) × (r.1.hop < 2 ^ 32) × IfSome r.1.place FitsPlace

abbrev pub FitsItem : Item → Type 0
FitsItem (Block block value) = FitsBlock block
FitsItem (Delta block ver hop item) = FitsBlock block × (ver < 2 ^ 64) × (hop < 2 ^ 32) × (item < 2 ^ 16)
FitsItem (Part slot rows) = AllByRecursion FitsRow rows

-- logs, slots and counts are left out: the limits of a text are narrower
pub record Fits (s : Segment) : Type 0 where
  pub name : FitsName s.name
  pub prior : FitsPrior s.prior
  pub group : s.group < 2 ^ 32
  pub items : AllByRecursion FitsItem s.items
