use Rattle.std.proofs.Common.{◌≡◌, ◌++◌, drop, map}
use Rattle.log_owner.specs.Opened.{filed}
use Rattle.log_owner.proofs.opened.file_each.Given as goal

-- the segments that are filed so far, and those to come, are all
abbrev pub invariant-loop-segment : goal.invariant-loop-segment
invariant-loop-segment l = l.effects ++ map filed (drop l.segment-index l.chain) ≡ l.initial.effects ++ map filed l.chain
