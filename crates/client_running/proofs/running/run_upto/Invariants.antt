use Rattle.std.proofs.Common.{◌≡◌, ◌++◌}
use Rattle.client_running.proofs.running.run_upto.Given as goal
use Rattle.client_running.specs.Running.{run_upto}

-- what was done so far, and then the calls on blocks that are left, is all
abbrev pub invariant-loop-left : goal.invariant-loop-left
invariant-loop-left l = record {
  state : (run_upto l.left l.serving).state ≡ (run_upto l.limit l.initial.serving).state;
  effects : l.effects ++ (run_upto l.left l.serving).outs ≡ l.initial.effects ++ (run_upto l.limit l.initial.serving).outs;
}

abbrev pub decreases-loop-left : goal.decreases-loop-left
decreases-loop-left l = l.left
