use Rattle.std.specs.Vec.Iter.{into_iter_items}
use Rattle.file_plan.specs.Plan.{insert_all}
use Rattle.file_plan.proofs.Merging.{Merges}
use Rattle.file_plan.proofs.rows.insert_all.Given as goal

abbrev pub invariant-loop-name : goal.invariant-loop-name
invariant-loop-name l =
    Merges l.all.items l.rest.items (into_iter_items l.name-iterator) (insert_all l.initial.rest.items (into_iter_items l.initial.name-iterator))
