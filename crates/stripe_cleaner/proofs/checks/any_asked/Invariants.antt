use Rattle.std.proofs.Common.{◌≡◌, drop}
use Rattle.stripe_cleaner.specs.Checks.{any_asked}
use Rattle.stripe_cleaner.proofs.checks.any_asked.Given as goal

-- none of those so far is asked for
abbrev pub invariant-loop-check : goal.invariant-loop-check
invariant-loop-check l = any_asked (drop l.check-index l.checks) ≡ any_asked l.checks
