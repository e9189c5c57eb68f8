use Rattle.cleaner_serving.specs.EmptyingEvents.{promise_slot}
use Rattle.cleaner_serving.proofs.Ranges.{range_state, range_outs}
use Rattle.cleaner_serving.proofs.emptying.Emptying.promise_all.Goals as goal
use Rattle.xfs_base.specs.Limits.{slot_count}

pub loop-slot-preserved : goal.loop-slot-preserved
loop-slot-preserved c =
    let e = c.in_ok-promise_slot.ensures in
    let l = c.loop-slot in
    record {
      state = range_state promise_slot l.self _ l.slot slot_count _ c.loop-slot-test.true e.state l.invariant.state;
      outs = range_outs promise_slot l.self _ l.slot slot_count l.effects _ _ c.loop-slot-test.true e.state e.effects l.invariant.outs;
    }
