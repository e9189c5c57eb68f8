use Rattle.std.proofs.Common.{◌≡◌, ◌++◌, drop, filter}
use Rattle.node_base.specs.Nodes.{is_other}
use Rattle.node_base.proofs.peers.others_among.Given as goal

-- the others so far and those to come are all
abbrev pub invariant-loop-other : goal.invariant-loop-other
invariant-loop-other l = l.nodes ++ filter (is_other l.node) (drop l.other-index l.all) ≡ filter (is_other l.node) l.all
