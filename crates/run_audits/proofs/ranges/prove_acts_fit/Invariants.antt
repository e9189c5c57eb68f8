use Rattle.std.proofs.Common.{length}
use Rattle.std.specs.List.{AllByRecursion}
use Rattle.run_audits.specs.Ranges.{FitsAct}
use Rattle.run_audits.proofs.ranges.prove_acts_fit.Given as goal

-- those that are left decide
abbrev pub invariant-loop-rest : goal.invariant-loop-rest
invariant-loop-rest l = AllByRecursion FitsAct l.rest → AllByRecursion FitsAct l.fn.acts

abbrev pub decreases-loop-rest : goal.decreases-loop-rest
decreases-loop-rest l = length l.rest
