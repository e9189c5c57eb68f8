use Rattle.std.proofs.Common.{◌≡◌, ◌+◌, length}
use Rattle.std.specs.Vec.Iter.{into_iter_items}
use Rattle.live_run.proofs.cells.left_at.Given as goal

-- those so far and those to come are as many as the seats
abbrev pub invariant-loop-seat : goal.invariant-loop-seat
invariant-loop-seat g l = length l.all.items + length (into_iter_items l.seat-iterator) ≡ length l.fn.seats.items
