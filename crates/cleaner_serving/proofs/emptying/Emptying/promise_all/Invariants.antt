use Rattle.std.proofs.Common.{◌≡◌, ◌-◌, ◌++◌}
use Rattle.std.specs.List.{range_with_len}
use Rattle.xfs_base.specs.Steps.{steps}
use Rattle.xfs_base.specs.Limits.{slot_count}
use Rattle.cleaner_serving.specs.EmptyingEvents.{promise_slot}
use Rattle.cleaner_serving.proofs.emptying.Emptying.promise_all.Given as goal

-- the slots so far and those to come are all
abbrev pub invariant-loop-slot : goal.invariant-loop-slot
invariant-loop-slot l =
    let rest = steps promise_slot l.self (range_with_len l.slot (slot_count - l.slot)) in
    let all = steps promise_slot l.initial.self (range_with_len 0 slot_count) in
    record {
      state : rest.state ≡ all.state;
      outs : l.effects ++ rest.outs ≡ l.initial.effects ++ all.outs;
    }
