use Rattle.std.proofs.Common.{◌≡◌, ◌++◌, ◌-◌}
use Rattle.std.specs.List.{flat_map, range_with_len}
use Rattle.group_rebuild.specs.Transition.{awaited, if_awaited}
use Rattle.group_rebuild.proofs.rebuild.Rebuild.awaited.Given as goal

-- the servers so far and those to come are all
abbrev pub invariant-loop-before : goal.invariant-loop-before
invariant-loop-before l = l.servers ++ flat_map (if_awaited l.self) (range_with_len l.before (l.before-end - l.before)) ≡ awaited l.self
