use Rattle.std.proofs.Common.{◌≡◌, ◌++◌, drop}
use Rattle.stripe_cleaner.specs.Checks.{questions}
use Rattle.stripe_cleaner.proofs.checks.add_questions.Given as goal

-- the questions so far and those to come are all
abbrev pub invariant-loop-check : goal.invariant-loop-check
invariant-loop-check l = l.outs ++ questions l.segment (drop l.check-index l.checks) ≡ l.initial.outs ++ questions l.segment l.checks
