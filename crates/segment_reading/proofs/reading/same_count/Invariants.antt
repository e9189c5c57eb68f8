use Rattle.std.proofs.Common.{◌≡◌, ◌+◌, ◌≤◌, length, drop}
use Rattle.segment_reading.specs.Lost.{missing_twice}
use Rattle.segment_reading.proofs.reading.same_count.Given as goal

abbrev pub invariant-loop-pair : goal.invariant-loop-pair
invariant-loop-pair l = record {
  few : l.count ≤ l.pair-index;
  same : l.count + length (missing_twice l.before (drop l.pair-index l.now)) ≡ length (missing_twice l.before l.now);
}
