use Rattle.std.proofs.Common.{◌≡◌, ◌++◌, ◌-◌, map}
use Rattle.std.specs.List.{range_with_len}
use Rattle.node_base.specs.Nodes.{nth_client}
use Rattle.node_base.proofs.peers.add_clients.Given as goal

-- the nodes so far and those to come are all
abbrev pub invariant-loop-before : goal.invariant-loop-before
invariant-loop-before l =
    l.nodes ++ map nth_client (range_with_len l.before (l.count - l.before)) ≡ l.initial.nodes ++ map nth_client (range_with_len 0 l.count)
