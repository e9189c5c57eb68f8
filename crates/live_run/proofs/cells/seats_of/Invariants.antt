use Rattle.std.proofs.Common.{◌≡◌, ◌+◌, length}
use Rattle.std.specs.Vec.Iter.{into_iter_items}
use Rattle.live_run.proofs.cells.seats_of.Given as goal

-- the seats so far and those to come are as many as all
abbrev pub invariant-loop-one : goal.invariant-loop-one
invariant-loop-one g l = length l.seats.items + length (into_iter_items l.one-iterator) ≡ length l.fn.all.items
