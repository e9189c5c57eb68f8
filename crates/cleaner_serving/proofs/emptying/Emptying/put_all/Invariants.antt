use Rattle.std.proofs.Common.{◌≡◌, ◌++◌}
use Rattle.std.specs.Vec.Iter.{into_iter_items}
use Rattle.xfs_base.specs.Steps.{steps}
use Rattle.cleaner_serving.specs.Jobs.{put_block}
use Rattle.cleaner_serving.proofs.emptying.Emptying.put_all.Given as goal

-- what was done and what is to be done is all
abbrev pub invariant-loop-moved : goal.invariant-loop-moved
invariant-loop-moved l =
    let rest = steps put_block l.self (into_iter_items l.moved-iterator) in
    let all = steps put_block l.initial.self (into_iter_items l.initial.moved-iterator) in
    record {
      state : rest.state ≡ all.state;
      outs : l.effects ++ rest.outs ≡ l.initial.effects ++ all.outs;
    }
