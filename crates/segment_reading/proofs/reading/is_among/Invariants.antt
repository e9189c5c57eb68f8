use Rattle.std.proofs.Common.{◌≡◌, drop}
use Rattle.std.specs.List.{list_any}
use Rattle.segment_reading.specs.Lost.{same_pair}
use Rattle.segment_reading.proofs.reading.is_among.Given as goal

-- the pair is among the rest exactly where it is among all
abbrev pub invariant-loop-other : goal.invariant-loop-other
invariant-loop-other l = list_any (same_pair l.pair) (drop l.other-index l.pairs) ≡ list_any (same_pair l.pair) l.pairs
