use Rattle.std.proofs.Common.{◌≡◌, ◌++◌, map}
use Rattle.std.specs.Vec.Iter.{into_iter_items}
use Rattle.log_owner.specs.Sending.{range}
use Rattle.log_owner.proofs.sending.send_ranges.Given as goal

-- what is sent so far, and the ranges to come, are all
abbrev pub invariant-loop-out : goal.invariant-loop-out
invariant-loop-out l =
    l.effects ++ map (range l.managers) (into_iter_items l.out-iterator) ≡ l.initial.effects ++ map (range l.managers) (into_iter_items l.initial.out-iterator)
