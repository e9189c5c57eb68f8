use Rattle.std.proofs.Common.{◌≡◌, ◌+◌, ◌≤◌, length, drop}
use Rattle.group_map.specs.Groups.{current_ids}
use Rattle.group_map.proofs.group_map.current_count.Given as goal

-- the current groups so far and those to come are all
abbrev pub invariant-loop-group : goal.invariant-loop-group
invariant-loop-group l = record {
  few : l.count ≤ l.group-index;
  all : l.count + length (current_ids (drop l.group-index l.groups)) ≡ length (current_ids l.groups);
}
