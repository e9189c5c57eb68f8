use Rattle.std.proofs.Common.{◌≡◌, ◌++◌, ◌-◌, map}
use Rattle.std.specs.List.{range_with_len}
use Rattle.world_base.specs.Cluster.{node_at}
use Rattle.world_base.specs.NextWorld.{first_node, first_nodes}
use Rattle.world_base.proofs.world.first_nodes.Given as goal

-- the nodes so far and those to come are all
abbrev pub invariant-loop-place : goal.invariant-loop-place
invariant-loop-place g l =
    l.nodes ++ map (first_node g.N.Member.first l.script)
    (map (node_at l.cluster) (range_with_len l.place (l.place-end - l.place))) ≡ first_nodes g.N.Member.first l.script l.cluster
