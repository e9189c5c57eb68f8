use Rattle.std.proofs.Common.{◌≡◌, ◌++◌, ◌-◌, map}
use Rattle.std.specs.List.{range_with_len}
use Rattle.takeover.specs.Reports.{client_after}
use Rattle.takeover.proofs.report.polled.Given as goal

-- the clients so far and those to come are all
abbrev pub invariant-loop-before : goal.invariant-loop-before
invariant-loop-before l = l.nodes ++ map client_after (range_with_len l.before (l.clients - l.before)) ≡ map client_after (range_with_len 0 l.clients)
