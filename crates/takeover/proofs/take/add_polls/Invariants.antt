use Rattle.std.proofs.Common.{◌≡◌, ◌++◌, drop}
use Rattle.takeover.specs.Transition.{polls}
use Rattle.takeover.proofs.take.add_polls.Given as goal

-- the questions so far and those to come are all
abbrev pub invariant-loop-node : goal.invariant-loop-node
invariant-loop-node l = l.outs ++ polls (drop l.node-index l.nodes) ≡ l.initial.outs ++ polls l.nodes
