use Rattle.std.proofs.Common.{◌≡◌, ◌++◌, map, drop}
use Rattle.takeover.specs.Reports.{with_client}
use Rattle.takeover.proofs.report.add_of.Given as goal

-- the beliefs so far and those to come are all
abbrev pub invariant-loop-block : goal.invariant-loop-block
invariant-loop-block l = l.beliefs ++ map (with_client l.client) (drop l.block-index l.held) ≡ l.initial.beliefs ++ map (with_client l.client) l.held
