use Rattle.std.proofs.Common.{◌≡◌, ◌+◌, ◌≤◌, drop}
use Rattle.segment_format.specs.Rule.{others_in}
use Rattle.log_flight.proofs.texts.others_in.Given as goal

abbrev pub invariant-loop-item : goal.invariant-loop-item
invariant-loop-item l = (l.count + others_in (drop l.item-index l.items) ≡ others_in l.items) × (l.count ≤ l.item-index)
