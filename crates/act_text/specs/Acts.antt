-- The lines of acts, as a journal has them.
use Rattle.std.specs.Prelude.{ℕ, List, [], ◌∷◌, ◌++◌, codes, Option, Some, None}
use Rattle.std.specs.Fmt.{decimal}
use Rattle.xfs_base.specs.declared.node.NodeId.TheVariants as nodes
use Rattle.xfs_base.specs.declared.segment.SegName.{SegName}
use Rattle.version_model.specs.declared.act.Act.{Act}
use Rattle.version_model.specs.declared.act.Act.TheVariants as acts
use Rattle.version_model.specs.declared.act.Fall.{Fall}
use Rattle.act_text.specs.Pieces.{value_text, block_text, node_text, segment_text}

-- a word of a line and the space before it
abbrev pub spaced : List ℕ → List ℕ
spaced word = 32 ∷ word

-- the segment in flight, by number and incarnation
abbrev pub flight_text : Option (ℕ × ℕ) → List ℕ
flight_text None = codes "none"
flight_text (Some p) = decimal p.0 ++ 46 ∷ decimal p.1

-- what may be lost of a block
abbrev pub fall_text : Fall → List ℕ
fall_text f = block_text f.block ++ 58 ∷ (decimal f.low ++ 58 ∷ decimal f.high)

abbrev pub falls_text : List Fall → List ℕ
falls_text [] = []
falls_text (f ∷ fs) = spaced (fall_text f) ++ falls_text fs

abbrev pub chain_text : List SegName → List ℕ
chain_text [] = []
chain_text (seg ∷ segs) = spaced (segment_text seg) ++ chain_text segs

-- a line ends with a line feed
abbrev pub line_of : List ℕ → List ℕ
line_of words = words ++ 10 ∷ []

-- an act; an answer has no line, since the lines of items tell it
abbrev pub act_text : Act → List ℕ
act_text (acts.Wrote client block value) =
    line_of (codes "a wrote " ++ node_text (nodes.Client client) ++ spaced (block_text block) ++ spaced (value_text value))
act_text (acts.Read client block ver value) =
    line_of (codes "a read " ++ node_text (nodes.Client client) ++ spaced (block_text block) ++ spaced (118 ∷ decimal ver) ++ spaced (value_text value))
act_text (acts.Synced client) = line_of (codes "a synced " ++ node_text (nodes.Client client))
act_text (acts.Fell client flight falls) =
    line_of (codes "a fell " ++ node_text (nodes.Client client) ++ spaced (flight_text flight) ++ falls_text falls)
act_text (acts.Back client chain) = line_of (codes "a back " ++ node_text (nodes.Client client) ++ chain_text chain)
act_text (acts.Lost node seg) = line_of (codes "a lost " ++ node_text node ++ spaced (segment_text seg))
act_text (acts.Filed seg) = line_of (codes "a filed " ++ segment_text seg)
act_text (acts.Dropped seg) = line_of (codes "a dropped " ++ segment_text seg)
act_text (acts.Answered node item answer) = []

abbrev pub acts_text : List Act → List ℕ
acts_text [] = []
acts_text (a ∷ rest) = act_text a ++ acts_text rest
