use Rattle.std.proofs.Common.{◌≡◌, ◌++◌, map, drop}
use Rattle.group_map.specs.declared.group.Member.{Member}
use Rattle.stripe_cleaner.proofs.job.servers_in.Given as goal

-- the servers so far and those to come are all
abbrev pub invariant-loop-member : goal.invariant-loop-member
invariant-loop-member l = l.servers ++ map (λ (m : Member). m.server) (drop l.member-index l.member-items) ≡ map (λ (m : Member). m.server) l.group.members
