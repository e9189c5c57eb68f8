use Rattle.std.proofs.Common.{◌≡◌, ◌++◌}
use Rattle.std.specs.Vec.Iter.{into_iter_items}
use Rattle.xfs_base.specs.Steps.{steps}
use Rattle.manager_serving.specs.Checkpoints.{writer_says}
use Rattle.manager_serving.proofs.serving.Serving.writer_says_each.Given as goal

-- what is done so far, and then what is said to come, is all
abbrev pub invariant-loop-out : goal.invariant-loop-out
invariant-loop-out l =
    let rest = steps writer_says l.self (into_iter_items l.out-iterator) in
    let all = steps writer_says l.initial.self (into_iter_items l.initial.out-iterator) in
    record {
      state : rest.state ≡ all.state;
      outs : l.effects ++ rest.outs ≡ l.initial.effects ++ all.outs;
    }
