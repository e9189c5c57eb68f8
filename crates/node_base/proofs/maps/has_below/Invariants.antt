use Rattle.std.proofs.Common.{◌≡◌, ◌-◌}
use Rattle.std.specs.List.{range_with_len}
use Rattle.node_base.specs.Maps.{has_named}
use Rattle.node_base.proofs.maps.has_below.Given as goal

-- all groups so far are among the others, so all depends on those to come
abbrev pub invariant-loop-id : goal.invariant-loop-id
invariant-loop-id l = has_named l.groups l.others (range_with_len l.id (l.end - l.id)) ≡ has_named l.groups l.others (range_with_len 1 (l.end - 1))
