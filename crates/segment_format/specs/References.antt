-- How a segment is referred to.
use Rattle.xfs_base.specs.declared.segment.SegRef.{SegRef}
use Rattle.segment_format.specs.declared.segment.Segment.{Segment}

-- a segment, over its group
abbrev pub ref_of : Segment → SegRef
ref_of s = record { name = s.name; group = s.group }
