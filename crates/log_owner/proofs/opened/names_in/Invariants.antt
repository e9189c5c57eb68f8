use Rattle.std.proofs.Common.{◌≡◌, ◌++◌, drop}
use Rattle.log_owner.specs.Opened.{names_in}
use Rattle.log_owner.proofs.opened.names_in.Given as goal

-- the names so far, and those to come, are all
abbrev pub invariant-loop-segment : goal.invariant-loop-segment
invariant-loop-segment l = l.names ++ names_in (drop l.segment-index l.chain) ≡ names_in l.chain
