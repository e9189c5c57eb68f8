-- The orders of passes and of segment names, when names are one, the end of a log of which nothing is settled, and when a segment has
-- none before it.
use Rattle.std.specs.Prelude.{Bool, ◌==◌, ◌&&◌}
use Rattle.std.specs.Ordering.{is_eq, nat_cmp, ordering_then}
use Rattle.std.specs.declared.cmp.Ordering.{Ordering}
use Rattle.xfs_base.specs.declared.segment.End.{End}
use Rattle.xfs_base.specs.declared.segment.Pass.{Pass}
use Rattle.xfs_base.specs.declared.segment.Prior.{Prior}
use Rattle.xfs_base.specs.declared.segment.SegName.{SegName}
use Rattle.xfs_base.specs.declared.segment.SegRef.{SegRef}

-- by incarnation, then by attempt
abbrev pub pass_cmp : Pass → Pass → Ordering
pass_cmp a b = ordering_then (nat_cmp a.inc b.inc) (nat_cmp a.att b.att)

-- by log, then number, then pass
abbrev pub seg_cmp : SegName → SegName → Ordering
seg_cmp a b = ordering_then (nat_cmp a.log.0 b.log.0) (ordering_then (nat_cmp a.seq b.seq) (pass_cmp a.pass b.pass))

-- both are one name
abbrev pub same_name : SegName → SegName → Bool
same_name a b = is_eq (seg_cmp a b)

-- both are one segment over one group
abbrev pub same_segment : SegRef → SegRef → Bool
same_segment a b = same_name a.name b.name && (a.group == b.group)

-- nothing is settled
abbrev pub no_end : End
no_end = record { seq = 0; pass = record { inc = 0; att = 0 }; group = 0 }

-- there is no segment before: all is zero
abbrev pub names_none : Prior → Bool
names_none prior = (prior.pass.inc == 0) && ((prior.pass.att == 0) && (prior.group == 0))
