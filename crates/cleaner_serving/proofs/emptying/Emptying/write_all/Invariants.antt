use Rattle.std.proofs.Common.{◌≡◌, ◌++◌}
use Rattle.std.specs.Vec.Iter.{into_iter_items}
use Rattle.xfs_base.specs.Steps.{steps}
use Rattle.cleaner_serving.specs.EmptyingEvents.{write_one}
use Rattle.cleaner_serving.proofs.emptying.Emptying.write_all.Given as goal

-- what was done and what is to be done is all
abbrev pub invariant-loop-out : goal.invariant-loop-out
invariant-loop-out l =
    let rest = steps write_one l.self (into_iter_items l.out-iterator) in
    let all = steps write_one l.initial.self (into_iter_items l.initial.out-iterator) in
    record {
      state : rest.state ≡ all.state;
      outs : l.effects ++ rest.outs ≡ l.initial.effects ++ all.outs;
    }
