use Rattle.script_print.proofs.Runs.{Appended}
use Rattle.script_print.proofs.spelling.add_runs.Given as goal

-- what stands before a run is appended, and what is in it stands for itself
abbrev pub invariant-loop-at : goal.invariant-loop-at
invariant-loop-at l = Appended l.fn.out l.out l.bytes l.from l.at
