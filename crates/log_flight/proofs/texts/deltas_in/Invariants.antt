use Rattle.std.proofs.Common.{◌≡◌, ◌+◌, ◌≤◌, drop}
use Rattle.segment_format.specs.Rule.{deltas_in}
use Rattle.log_flight.proofs.texts.deltas_in.Given as goal

abbrev pub invariant-loop-item : goal.invariant-loop-item
invariant-loop-item l = (l.count + deltas_in (drop l.item-index l.items) ≡ deltas_in l.items) × (l.count ≤ l.item-index)
