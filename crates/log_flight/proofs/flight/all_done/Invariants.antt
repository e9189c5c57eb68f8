use Rattle.std.proofs.Common.{◌≡◌, drop}
use Rattle.log_flight.specs.Fate.{all_done}
use Rattle.log_flight.proofs.flight.all_done.Given as goal

-- the rest is done exactly where all are
abbrev pub invariant-loop-place : goal.invariant-loop-place
invariant-loop-place l = all_done l.groups l.noted (drop l.place l.members) l.place ≡ all_done l.groups l.noted l.members 0
