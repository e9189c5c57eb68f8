use Rattle.std.proofs.Common.{◌≡◌, ◌++◌}
use Rattle.std.specs.List.{flat_map}
use Rattle.std.specs.Vec.Iter.{into_iter_items}
use Rattle.log_owner.specs.Opening.{stored}
use Rattle.log_owner.proofs.sealing.send_sealed.Given as goal

abbrev pub invariant-loop-out : goal.invariant-loop-out
invariant-loop-out l =
    l.effects ++ flat_map stored (into_iter_items l.out-iterator) ≡ l.initial.effects ++ flat_map stored (into_iter_items l.initial.out-iterator)
