use Rattle.std.proofs.Common.{◌≡◌, ◌++◌, drop}
use Rattle.log_scan.specs.Transition.{fences}
use Rattle.log_scan.proofs.steps.add_fences.Given as goal

-- the fences so far and those to come are all
abbrev pub invariant-loop-server : goal.invariant-loop-server
invariant-loop-server l = l.outs ++ fences (drop l.server-index l.servers) ≡ l.initial.outs ++ fences l.servers
