use Rattle.std.proofs.Common.{◌≡◌, ◌+◌, ◌≤◌, ◌++◌, length, drop}
use Rattle.std.specs.List.{filter}
use Rattle.group_map.specs.Groups.{is_hit, followers, numbered}
use Rattle.xfs_base.specs.Limits.{u32_end}
use Rattle.group_map.proofs.losing.follow.Given as goal

-- the groups so far and those to come are all, and their ids fit
abbrev pub invariant-loop-group : goal.invariant-loop-group
invariant-loop-group l = record {
  room : length l.after + length (filter (is_hit l.server) (drop l.group-index l.groups)) ≤ u32_end;
  all : l.after ++ numbered (length l.after + 1) (followers l.generations l.server (drop l.group-index l.groups)) ≡ l.initial.after
      ++ numbered (length l.initial.after + 1) (followers l.generations l.server l.groups);
}
