-- What a job keeps while it empties segments.
use Rattle.std.specs.Prelude.{ℕ, List}
use Rattle.group_map.specs.GroupMapState.{GroupMapState}
use Rattle.xfs_base.specs.declared.segment.SegRef.{SegRef}

pub record JobState : Type 0 where
  pub groups : GroupMapState
  -- the segments that are still to be emptied, in order
  pub left : List SegRef
  -- how many were deleted
  pub deleted : ℕ
