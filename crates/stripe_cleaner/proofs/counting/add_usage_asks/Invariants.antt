use Rattle.std.proofs.Common.{◌≡◌, ◌++◌, drop}
use Rattle.stripe_cleaner.specs.Counting.{awaited_among}
use Rattle.stripe_cleaner.specs.Transition.{usage_asks}
use Rattle.stripe_cleaner.proofs.counting.add_usage_asks.Given as goal

-- the questions so far and those to come are all
abbrev pub invariant-loop-slot : goal.invariant-loop-slot
invariant-loop-slot l =
    l.outs ++ usage_asks (awaited_among l.usages.entries (drop l.slot-index l.slots)) ≡ l.initial.outs ++ usage_asks (awaited_among l.usages.entries l.slots)
