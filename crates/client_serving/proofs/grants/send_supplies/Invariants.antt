use Rattle.std.proofs.Common.{◌≡◌, ◌++◌}
use Rattle.std.specs.List.{flat_map}
use Rattle.std.specs.Vec.Iter.{into_iter_items}
use Rattle.client_serving.proofs.grants.send_supplies.Given as goal
use Rattle.client_serving.specs.Grants.{send_supply}

abbrev pub invariant-loop-out : goal.invariant-loop-out
invariant-loop-out l =
    l.effects ++ flat_map (send_supply l.forward) (into_iter_items l.out-iterator) ≡ l.initial.effects
    ++ flat_map (send_supply l.forward) (into_iter_items l.initial.out-iterator)
