use Rattle.std.proofs.Common.{◌≡◌, ◌++◌}
use Rattle.std.specs.Vec.Iter.{into_iter_items}
use Rattle.checkpoint.proofs.work.queue_of.Given as goal

-- the pages so far and those to come are all
abbrev pub invariant-loop-page : goal.invariant-loop-page
invariant-loop-page l = l.queue.items ++ into_iter_items l.page-iterator ≡ into_iter_items l.initial.page-iterator
