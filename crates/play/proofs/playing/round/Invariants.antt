use Rattle.std.proofs.Common.{◌≡◌, ◌≤◌, ◌-◌, fold, map}
use Rattle.std.specs.List.{range_with_len}
use Rattle.world_base.specs.Cluster.{node_at, nodes_of}
use Rattle.play.proofs.playing.round.Given as goal

-- the nodes so far and those to come are all
abbrev pub invariant-loop-place : goal.invariant-loop-place
invariant-loop-place g l =
    let m = g.P.Playing.manner in
    (fold m.ticks l.play (map (node_at l.cluster) (range_with_len l.place (l.place-end - l.place))) ≡ fold m.ticks l.initial.play (nodes_of l.cluster))
    × (m.unanswered l.play ≤ m.unanswered l.initial.play)
