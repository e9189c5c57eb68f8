use Rattle.std.proofs.Common.{◌≡◌, ◌++◌}
use Rattle.std.specs.Vec.Iter.{into_iter_items}
use Rattle.journals.proofs.merged.keep_all.Given as goal

-- what was sent so far and what is to come are all
abbrev pub invariant-loop-packet : goal.invariant-loop-packet
invariant-loop-packet l = l.sent ++ into_iter_items l.packet-iterator ≡ l.initial.sent ++ into_iter_items l.initial.packet-iterator
