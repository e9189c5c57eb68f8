use Rattle.std.proofs.Common.{◌≡◌, ◌++◌, drop}
use Rattle.delta_feed.specs.Transition.{all_rows}
use Rattle.delta_feed.proofs.feed.all_rows.Given as goal

-- the rows so far and those of the segments to come are all
abbrev pub invariant-loop-segment : goal.invariant-loop-segment
invariant-loop-segment l = l.rows ++ all_rows l.slot (drop l.segment-index l.filed) ≡ all_rows l.slot l.filed
