-- The texts of values and names.
use Rattle.std.specs.Prelude.{ℕ, List, ◌∷◌, ◌++◌, codes, Option, Some, None}
use Rattle.std.specs.Fmt.{decimal}
use Rattle.script_text.specs.Text.{quoted}
use Rattle.script_print.specs.Printing.{text_body}
use Rattle.xfs_base.specs.declared.block.BlockId.{BlockId}
use Rattle.xfs_base.specs.declared.node.NodeId.{NodeId}
use Rattle.xfs_base.specs.declared.node.NodeId.TheVariants as nodes
use Rattle.xfs_base.specs.declared.segment.SegName.{SegName}
use Rattle.xfs_base.specs.Logs.{writer_of}

-- a text between quotes
abbrev pub quoted_text : List ℕ → List ℕ
quoted_text bytes = quoted (text_body bytes)

-- a value
abbrev pub value_text : Option (List ℕ) → List ℕ
value_text None = codes "absent"
value_text (Some bytes) = quoted_text bytes

-- a block, as `1/0`
abbrev pub block_text : BlockId → List ℕ
block_text b = decimal b.ino.0 ++ 47 ∷ decimal b.blk

-- a node, as `c1`
abbrev pub node_text : NodeId → List ℕ
node_text (nodes.Client k) = 99 ∷ decimal k
node_text (nodes.Manager k) = 109 ∷ decimal k
node_text (nodes.Server k) = 115 ∷ decimal k
node_text nodes.Cleaner = codes "cl"
node_text nodes.Registry = codes "reg"

-- a log and a number in it, as `c1.1`
abbrev pub log_seq_text : SegName → List ℕ
log_seq_text seg = node_text (writer_of seg.log.0) ++ 46 ∷ decimal seg.seq

-- a segment, as `c1.1.1.1`
abbrev pub segment_text : SegName → List ℕ
segment_text seg = log_seq_text seg ++ 46 ∷ (decimal seg.pass.inc ++ 46 ∷ decimal seg.pass.att)
