use Rattle.std.proofs.Common.{◌≡◌, ◌≤◌}
use Rattle.world_base.specs.Schedule.{left}
use Rattle.play.specs.Manner.{goes_on}
use Rattle.play.proofs.playing.go.Given as goal

-- what has happened and what is to happen are all
abbrev pub invariant-loop-alloc : goal.invariant-loop-alloc
invariant-loop-alloc g l =
    let m = g.P.Playing.manner in
    (goes_on m (left (m.schedule l.play)) l.play ≡ goes_on m (left (m.schedule l.initial.play)) l.initial.play)
    × (m.unanswered l.play ≤ m.unanswered l.initial.play)

-- each time there is less left
abbrev pub decreases-loop-alloc : goal.decreases-loop-alloc
decreases-loop-alloc g l = left (g.P.Playing.manner.schedule l.play)
