use Rattle.std.proofs.Common.{◌≡◌, ◌++◌}
use Rattle.std.specs.Vec.Iter.{into_iter_items}
use Rattle.file_plan.proofs.rows.with_rest.Given as goal

abbrev pub invariant-loop-row : goal.invariant-loop-row
invariant-loop-row l = l.rows.items ++ into_iter_items l.row-iterator ≡ l.initial.rows.items ++ into_iter_items l.initial.row-iterator
