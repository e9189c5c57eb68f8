use Rattle.std.specs.Vec.Iter.{into_iter_items}
use Rattle.manager_slots.specs.Takeovers.{is_wanted}
use Rattle.manager_slots.proofs.Loops.{kept_on}
use Rattle.manager_slots.proofs.takeovers.wanted.Goals as goal

pub loop-out-preserved : goal.loop-out-preserved
loop-out-preserved c =
    kept_on (is_wanted c.args.polls) c.in-Some.out (into_iter_items c.next.new.self) _ c.in-Some.ensures.steps.0 _ _ _ c.in_ok-keep.ensures c.loop-out.invariant
