use Rattle.std.proofs.Common.{◌≡◌, ◌++◌, drop, map}
use Rattle.segment_reading.proofs.reading.servers_of.Given as goal

abbrev pub invariant-loop-member : goal.invariant-loop-member
invariant-loop-member l = l.servers ++ map (λ m. m.server) (drop l.member-index l.members) ≡ map (λ m. m.server) l.members
