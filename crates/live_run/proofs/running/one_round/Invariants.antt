use Rattle.std.proofs.Common.{◌≡◌, ◌+◌, length}
use Rattle.std.specs.Vec.Iter.{into_iter_items}
use Rattle.live_run.proofs.running.one_round.Given as goal

-- those that had their turn and those that are to have it are all
abbrev pub invariant-loop-one : goal.invariant-loop-one
invariant-loop-one g l = length l.next.items + length (into_iter_items l.one-iterator) ≡ length l.fn.all.items
