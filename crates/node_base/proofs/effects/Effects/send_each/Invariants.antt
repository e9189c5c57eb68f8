use Rattle.std.proofs.Common.{◌≡◌, ◌++◌, drop}
use Rattle.node_base.specs.Effects.{send_each}
use Rattle.node_base.proofs.effects.Effects.send_each.Given as goal

-- what is sent so far and what is to be sent is all
abbrev pub invariant-loop-node : goal.invariant-loop-node
invariant-loop-node l = l.self ++ send_each (drop l.node-index l.nodes) l.body ≡ l.initial.self ++ send_each l.nodes l.body
