use Rattle.std.proofs.Common.{◌≡◌, drop}
use Rattle.stripe_cleaner.specs.Checks.{any_live}
use Rattle.stripe_cleaner.proofs.checks.any_live.Given as goal

-- none of those so far is live
abbrev pub invariant-loop-check : goal.invariant-loop-check
invariant-loop-check l = any_live (drop l.check-index l.checks) ≡ any_live l.checks
