-- Where nodes refer to segments, and what is to hold of it: of the parts of checkpoints, and of the ends that owners of logs report.
use Rattle.xfs_base.specs.declared.node.NodeId.{NodeId}
use Rattle.xfs_base.specs.declared.segment.End.{End}
use Rattle.xfs_base.specs.declared.segment.SegRef.{SegRef}
use Rattle.node_tellings.specs.reference_tie.References.{References}

-- what holds of each reference by the one holds by the other
pub record Weaker (r later : References) : Type 0 where
  pub part : (seg : SegRef) → r.part seg → later.part seg
  pub end : (from : NodeId) (e : End) → r.end from e → later.end from e
