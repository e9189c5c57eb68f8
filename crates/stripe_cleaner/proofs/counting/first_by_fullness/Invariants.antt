use Rattle.std.proofs.Common.{◌≡◌, ◌-◌, ◌++◌, map, take, length}
use Rattle.stripe_cleaner.specs.Counting.{segment_at}
use Rattle.stripe_cleaner.proofs.counting.first_by_fullness.Given as goal

-- those so far and the first of those to come are the first of all
abbrev pub invariant-loop-fullness : goal.invariant-loop-fullness
invariant-loop-fullness l =
    l.left.items ++ map segment_at (take (l.count - length l.left.items) l.fullness-iterator) ≡ map segment_at (take l.count l.by_fullness.entries)
