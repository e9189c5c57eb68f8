use Rattle.std.proofs.Common.{length}
use Rattle.std.specs.List.{AllByRecursion}
use Rattle.journal_law.specs.Told.{IsFall}
use Rattle.run_audits.proofs.ranges.prove_falls_fit.Given as goal

-- those that are left decide
abbrev pub invariant-loop-rest : goal.invariant-loop-rest
invariant-loop-rest l = AllByRecursion IsFall l.rest → AllByRecursion IsFall l.fn.falls

abbrev pub decreases-loop-rest : goal.decreases-loop-rest
decreases-loop-rest l = length l.rest
