use Rattle.std.proofs.Common.{◌≡◌, map, take}
use Rattle.core_world.specs.Serving.{is_serving}
use Rattle.run_chart.proofs.row.serving_of.Given as goal

abbrev pub invariant-loop-node : goal.invariant-loop-node
invariant-loop-node l = l.serving ≡ map is_serving (take l.node-index l.nodes)
