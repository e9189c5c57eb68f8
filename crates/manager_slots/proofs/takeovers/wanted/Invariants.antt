use Rattle.std.proofs.Common.{◌≡◌, ◌++◌, filter}
use Rattle.std.specs.Vec.Iter.{into_iter_items}
use Rattle.manager_slots.specs.Takeovers.{is_wanted}
use Rattle.manager_slots.proofs.takeovers.wanted.Given as goal

-- those so far and those to come are all
abbrev pub invariant-loop-out : goal.invariant-loop-out
invariant-loop-out l =
    l.kept ++ filter (is_wanted l.polls) (into_iter_items l.out-iterator) ≡ filter (is_wanted l.polls) (into_iter_items l.initial.out-iterator)
