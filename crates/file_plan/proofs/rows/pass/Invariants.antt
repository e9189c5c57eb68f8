use Rattle.std.proofs.Common.{length}
use Rattle.file_plan.proofs.Merging.{IsOnTheWay}
use Rattle.file_plan.proofs.rows.pass.Given as goal

abbrev pub invariant-loop-key : goal.invariant-loop-key
invariant-loop-key l = IsOnTheWay l.initial.all.items l.initial.rest.items l.name l.all.items l.rest.items

abbrev pub decreases-loop-key : goal.decreases-loop-key
decreases-loop-key l = length l.rest.items
