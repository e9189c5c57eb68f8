use Rattle.std.proofs.Common.{◌≡◌, drop}
use Rattle.group_map.specs.Sizes.{bad_size}
use Rattle.group_map.proofs.starting.first_bad_size.Given as goal

-- the first bad size of the groups to come is that of all
abbrev pub invariant-loop-group : goal.invariant-loop-group
invariant-loop-group l = bad_size (drop l.group-index l.groups) ≡ bad_size l.groups
