use Rattle.std.proofs.Common.{◌≡◌, ◌≤◌, min, drop}
use Rattle.xfs_base.specs.Limits.{u32_end}
use Rattle.log_scan.specs.Transition.{least_horizon}
use Rattle.log_scan.proofs.horizon.least_horizon.Given as goal

-- the least so far and that of those to come
abbrev pub invariant-loop-slot : goal.invariant-loop-slot
invariant-loop-slot l = record {
  within : l.least ≤ u32_end;
  same : min l.least (least_horizon l.log.0 (drop l.slot-index l.slots)) ≡ least_horizon l.log.0 l.slots;
}
