use Rattle.std.proofs.Common.{◌≡◌}
use Rattle.std.specs.Prelude.{fold}
use Rattle.stripe_cleaner.specs.Counting.{by_fullness_with_one, by_fullness}
use Rattle.stripe_cleaner.proofs.counting.Counting.by_fullness.Given as goal

-- the candidates to come, put to those so far, give all
abbrev pub invariant-loop-name : goal.invariant-loop-name
invariant-loop-name l = fold (by_fullness_with_one l.self.usages) l.all.entries l.name-iterator ≡ by_fullness l.self
