use Rattle.std.proofs.Common.{◌≡◌, ◌++◌, drop}
use Rattle.group_map.specs.Groups.{first_members}
use Rattle.group_map.proofs.starting.members_of.Given as goal

-- the members so far and those to come are all
abbrev pub invariant-loop-server : goal.invariant-loop-server
invariant-loop-server l = l.members ++ first_members (drop l.server-index l.servers) ≡ first_members l.servers
