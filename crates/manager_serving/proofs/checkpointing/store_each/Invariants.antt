use Rattle.std.proofs.Common.{◌≡◌, ◌++◌}
use Rattle.std.specs.List.{flat_map}
use Rattle.std.specs.Vec.Iter.{into_iter_items}
use Rattle.manager_serving.specs.Checkpoints.{checkpointing_store}
use Rattle.manager_serving.proofs.checkpointing.store_each.Given as goal

-- what is sent so far, and what is to be sent, is all
abbrev pub invariant-loop-out : goal.invariant-loop-out
invariant-loop-out l =
    l.effects ++ flat_map checkpointing_store (into_iter_items l.out-iterator) ≡ l.initial.effects ++ flat_map checkpointing_store (into_iter_items l.initial.out-iterator)
