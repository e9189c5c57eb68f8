use Rattle.std.proofs.Common.{◌≡◌, ◌++◌}
use Rattle.std.specs.Prelude.{All}
use Rattle.std.specs.Vec.Iter.{into_iter_items}
use Rattle.xfs_base.specs.Steps.{steps}
use Rattle.takeover.specs.Course.{StartsSlot}
use Rattle.manager_slots.specs.Takeovers.{asker, takeovers_say}
use Rattle.manager_slots.proofs.takeovers.say_each.Given as goal

-- what is done and what is to be done is all
abbrev pub invariant-loop-out : goal.invariant-loop-out
invariant-loop-out l =
    let rest = steps (takeovers_say l.slot) (asker l.phase l.questions) (into_iter_items l.out-iterator) in
    let all = steps (takeovers_say l.slot) (asker l.initial.phase l.initial.questions) (into_iter_items l.initial.out-iterator) in
    record {
      state : rest.state ≡ all.state;
      outs : l.effects ++ rest.outs ≡ l.initial.effects ++ all.outs;
      starts : All StartsSlot (into_iter_items l.out-iterator);
    }
