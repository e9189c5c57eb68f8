use Rattle.std.proofs.Common.{◌≡◌, ◌+◌, ◌≤◌, drop}
use Rattle.log_flight.specs.Fate.{lost_count}
use Rattle.log_flight.proofs.flight.lost_count.Given as goal

-- the members counted so far and those lost of the rest are all that are lost
abbrev pub invariant-loop-member : goal.invariant-loop-member
invariant-loop-member l = (l.count + lost_count l.groups (drop l.member-index l.members) ≡ lost_count l.groups l.members) × (l.count ≤ l.member-index)
