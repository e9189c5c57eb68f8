use Rattle.std.proofs.Common.{◌≡◌, ◌++◌}
use Rattle.std.specs.Vec.Iter.{into_iter_items}
use Rattle.stripe_cleaner.specs.Checks.{checks_of}
use Rattle.stripe_cleaner.proofs.checks.checks_of.Given as goal

-- the checks so far and those of the items to come are all
abbrev pub invariant-loop-item : goal.invariant-loop-item
invariant-loop-item l = l.checks ++ checks_of l.number (into_iter_items l.item-iterator) ≡ checks_of 0 (into_iter_items l.initial.item-iterator)
