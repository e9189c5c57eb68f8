use Rattle.std.proofs.Common.{◌≡◌, ◌++◌}
use Rattle.std.specs.Vec.Iter.{into_iter_items}
use Rattle.xfs_base.specs.Steps.{steps}
use Rattle.client_serving.proofs.serving.Serving.follow.Given as goal
use Rattle.client_serving.specs.Follow.{follow_one}

abbrev pub invariant-loop-out : goal.invariant-loop-out
invariant-loop-out l =
    let rest = steps follow_one l.self (into_iter_items l.out-iterator) in
    let all = steps follow_one l.initial.self (into_iter_items l.initial.out-iterator) in
    record {
      state : rest.state ≡ all.state;
      outs : l.effects ++ rest.outs ≡ l.initial.effects ++ all.outs;
    }
