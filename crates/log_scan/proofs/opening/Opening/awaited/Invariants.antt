use Rattle.std.proofs.Common.{◌≡◌, ◌++◌, ◌+◌, ◌-◌}
use Rattle.std.specs.Prelude.{filter}
use Rattle.std.specs.List.{range_with_len}
use Rattle.log_scan.specs.Transition.{awaits, awaited}
use Rattle.log_scan.proofs.opening.Opening.awaited.Given as goal

-- the servers so far and those to come are all
abbrev pub invariant-loop-before : goal.invariant-loop-before
invariant-loop-before l =
    l.servers ++ filter (awaits l.self.groups l.lists) (range_with_len (l.before + 1) (l.before-end - l.before)) ≡ awaited l.self.groups l.lists
