use Rattle.std.proofs.Common.{◌≡◌, ◌++◌, drop}
use Rattle.group_map.specs.Groups.{present_members}
use Rattle.group_map.proofs.losing.renewed.Given as goal

-- the members so far and those to come are all
abbrev pub invariant-loop-member : goal.invariant-loop-member
invariant-loop-member l = l.renewed ++ present_members l.generations (drop l.member-index l.members) ≡ present_members l.generations l.members
