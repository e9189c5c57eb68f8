use Rattle.std.proofs.Common.{◌≡◌, drop}
use Rattle.std.specs.Prelude.{fold}
use Rattle.log_owner.specs.Opened.{feed_one}
use Rattle.log_owner.proofs.opened.feed_all.Given as goal

-- with the segments to come it is the feed of all
abbrev pub invariant-loop-segment : goal.invariant-loop-segment
invariant-loop-segment l = fold feed_one l.feed (drop l.segment-index l.chain) ≡ fold feed_one l.initial.feed l.chain
