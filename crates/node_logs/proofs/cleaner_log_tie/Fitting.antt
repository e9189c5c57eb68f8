-- That what a job of the cleaner moves fits the format: it does where the numbers of all packets that come are in the ranges of their types.
use Rattle.std.specs.List.{AllByRecursion}
use Rattle.segment_format.specs.declared.segment.Item.{Item}
use Rattle.segment_format.specs.declared.segment.Item.TheVariants.{Block}
use Rattle.segment_format.specs.declared.segment.Segment.{Segment}
use Rattle.node_logs.specs.cleaner_log_tie.Fitting.{BlockFits}

abbrev pub ItemFits : Item → Type 0
ItemFits (Block block value) = BlockFits block value
ItemFits _ = Unit {0}

-- each Block of a segment fits
abbrev pub SegmentFits : Segment → Type 0
SegmentFits s = AllByRecursion ItemFits s.items
