use Rattle.std.proofs.Common.{◌≡◌, ◌++◌, map, drop}
use Rattle.group_map.specs.Groups.{retired}
use Rattle.group_map.proofs.losing.retire.Given as goal

-- the groups so far and those to come are all
abbrev pub invariant-loop-group : goal.invariant-loop-group
invariant-loop-group l = l.after ++ map (retired l.server) (drop l.group-index l.groups) ≡ map (retired l.server) l.groups
