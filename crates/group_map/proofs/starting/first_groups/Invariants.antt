use Rattle.std.proofs.Common.{◌≡◌, ◌+◌, ◌++◌, length, map, drop}
use Rattle.group_map.specs.Groups.{first_layout, numbered}
use Rattle.group_map.proofs.starting.first_groups.Given as goal

-- the groups so far and those to come are all
abbrev pub invariant-loop-group : goal.invariant-loop-group
invariant-loop-group l = record {
  count : length l.made ≡ l.group-index;
  all : l.made ++ numbered (length l.made + 1) (map first_layout (drop l.group-index l.groups)) ≡ numbered 1 (map first_layout l.groups);
}
