use Rattle.std.proofs.Common.{◌≡◌, ◌++◌, map, take, drop}
use Rattle.stripe_cleaner.specs.Checks.{dead_at}
use Rattle.stripe_cleaner.proofs.checks.all_dead_at.Given as goal

-- those so far are changed, and those to come are as they were
abbrev pub invariant-loop-check : goal.invariant-loop-check
invariant-loop-check l = l.check-items ≡ map (dead_at l.block) (take l.check-index l.initial.check-items) ++ drop l.check-index l.initial.check-items
