use Rattle.std.proofs.Common.{◌≡◌, ◌<◌, length, drop}
use Rattle.std.specs.Prelude.{slice_index}
use Rattle.group_map.specs.Groups.{current_ids}
use Rattle.group_map.proofs.group_map.current_at.Given as goal

-- the wanted group is still to come, with as many current ones before it as are left
abbrev pub invariant-loop-group : goal.invariant-loop-group
invariant-loop-group l = record {
  below : l.left < length (current_ids (drop l.group-index l.groups));
  here : slice_index (current_ids (drop l.group-index l.groups)) l.left ≡ slice_index (current_ids l.groups) l.fn.place;
}
