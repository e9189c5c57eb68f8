use Rattle.std.proofs.Common.{◌≡◌, ◌++◌, drop}
use Rattle.slot_beliefs.specs.Recalls.{noted}
use Rattle.slot_beliefs.proofs.recalls.noted.Given as goal

-- the recalls so far, and those to come, are all
abbrev pub invariant-loop-recall : goal.invariant-loop-recall
invariant-loop-recall l = l.after ++ noted (drop l.recall-index l.awaited) l.client l.stamp l.end ≡ noted l.awaited l.client l.stamp l.end
