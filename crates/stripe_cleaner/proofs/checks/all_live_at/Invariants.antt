use Rattle.std.proofs.Common.{◌≡◌, ◌++◌, map, take, drop}
use Rattle.stripe_cleaner.specs.Checks.{live_at}
use Rattle.stripe_cleaner.proofs.checks.all_live_at.Given as goal

-- those so far are changed, and those to come are as they were
abbrev pub invariant-loop-check : goal.invariant-loop-check
invariant-loop-check l = l.check-items ≡ map (live_at l.block l.entry) (take l.check-index l.initial.check-items) ++ drop l.check-index l.initial.check-items
