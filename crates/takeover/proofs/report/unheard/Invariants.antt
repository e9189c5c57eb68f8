use Rattle.std.proofs.Common.{◌≡◌, ◌++◌, drop}
use Rattle.takeover.specs.Reports.{unheard}
use Rattle.takeover.proofs.report.unheard.Given as goal

-- the nodes so far and those to come are all
abbrev pub invariant-loop-node : goal.invariant-loop-node
invariant-loop-node l = l.left ++ unheard l.reports (drop l.node-index l.nodes) ≡ unheard l.reports l.nodes
