use Rattle.std.proofs.Common.{◌≡◌, ◌+◌, ◌*◌, ◌≤◌, drop}
use Rattle.std.specs.Prelude.{fold}
use Rattle.stripe_cleaner.specs.Counting.{live_in, live_among}
use Rattle.xfs_base.specs.Limits.{u32_end}
use Rattle.stripe_cleaner.proofs.counting.live_count.Given as goal

-- the slots to come, on the count so far, give the whole; each slot adds a number of 32 bits
abbrev pub invariant-loop-slot : goal.invariant-loop-slot
invariant-loop-slot l =
    (fold (λ sum slot. sum + live_in l.usages.entries l.name slot) l.live (drop l.slot-index l.slots) ≡ live_among l.usages.entries l.name l.slots)
    × (l.live ≤ l.slot-index * u32_end)
