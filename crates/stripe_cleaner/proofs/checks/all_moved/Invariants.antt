use Rattle.std.proofs.Common.{◌≡◌, ◌++◌, map, take, drop}
use Rattle.stripe_cleaner.specs.Checks.{moved_at}
use Rattle.stripe_cleaner.proofs.checks.all_moved.Given as goal

-- those so far are changed, and those to come are as they were
abbrev pub invariant-loop-check : goal.invariant-loop-check
invariant-loop-check l = l.check-items ≡ map moved_at (take l.check-index l.initial.check-items) ++ drop l.check-index l.initial.check-items
