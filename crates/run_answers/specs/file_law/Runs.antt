-- In every run each node that owns a log files it segment after segment, while it serves.
use Rattle.core_world.specs.declared.any_node.AnyNode.{AnyNode}
use Rattle.world_base.specs.declared.estate.Estate.{Estate}
use Rattle.xfs_base.specs.declared.node.NodeId.{NodeId}
use Rattle.headline.specs.Filings.{FilesItsLog}

-- So it is whatever events a script's world goes through.
abbrev pub EachRunsNodesFileOn : Type 0
EachRunsNodesFileOn = (e : Estate AnyNode) (name : NodeId) → FilesItsLog e name
