use Rattle.std.proofs.Common.{◌≡◌, drop}
use Rattle.file_plan.specs.Plan.{after_all}
use Rattle.file_plan.proofs.planning.plan.Given as goal

abbrev pub invariant-loop-answer : goal.invariant-loop-answer
invariant-loop-answer l = after_all l.plan (drop l.answer-index l.so_far) ≡ after_all l.initial.plan l.so_far
