use Rattle.std.proofs.Common.{◌≡◌, ◌++◌, drop}
use Rattle.stripe_cleaner.specs.Checks.{moves}
use Rattle.stripe_cleaner.proofs.checks.moves_of.Given as goal

-- the moves so far and those to come are all
abbrev pub invariant-loop-check : goal.invariant-loop-check
invariant-loop-check l = l.all ++ moves (drop l.check-index l.checks) ≡ moves l.checks
