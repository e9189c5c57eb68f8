use Rattle.std.proofs.Common.{◌≡◌, ◌++◌}
use Rattle.std.specs.Vec.Iter.{into_iter_items}
use Rattle.world_base.proofs.turn.note_all.Given as goal

-- what was done so far and what is to come are all
abbrev pub invariant-loop-act : goal.invariant-loop-act
invariant-loop-act l = l.done ++ into_iter_items l.act-iterator ≡ l.initial.done ++ into_iter_items l.initial.act-iterator
