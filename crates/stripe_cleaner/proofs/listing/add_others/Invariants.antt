use Rattle.std.proofs.Common.{◌≡◌, ◌++◌, drop}
use Rattle.stripe_cleaner.specs.Listing.{without}
use Rattle.stripe_cleaner.proofs.listing.add_others.Given as goal

-- the others so far and those to come are all
abbrev pub invariant-loop-other : goal.invariant-loop-other
invariant-loop-other l = l.others ++ without (drop l.other-index l.numbers) l.number ≡ l.initial.others ++ without l.numbers l.number
