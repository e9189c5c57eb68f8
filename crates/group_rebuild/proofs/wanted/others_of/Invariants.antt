use Rattle.std.proofs.Common.{◌≡◌, ◌++◌, drop}
use Rattle.group_rebuild.specs.Wanted.{others_of}
use Rattle.group_rebuild.proofs.wanted.others_of.Given as goal

-- the servers so far and those to come are all
abbrev pub invariant-loop-member : goal.invariant-loop-member
invariant-loop-member l = l.others ++ others_of l.server (drop l.member-index l.member-items) ≡ others_of l.server l.group.members
