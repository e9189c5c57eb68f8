use Rattle.std.proofs.Common.{◌<◌, length, get_or, arith}
use Rattle.manager_slots.specs.SlotTable.{TableAsker, table_asker, regroup_one}
use Rattle.manager_slots.proofs.Turns.{table_asker_is, table_on, effects_on}
use Rattle.manager_slots.proofs.slot_table.SlotTable.regroup_each.Goals as goal

pub loop-slot-preserved : goal.loop-slot-preserved
loop-slot-preserved c =
    let i = c.loop-slot.slot-index in
    let xs = c.args.slots.now in
    let here : c.loop-slot.slot-index < length c.args.slots.now = omega arith in
    let a : TableAsker = table_asker c.loop-slot.self c.loop-slot.questions in
    let b : TableAsker = table_asker c.regroup_one.new.self c.regroup_one.new.questions in
    let e = c.in_ok-regroup_one.ensures in
    let now = table_asker_is (regroup_one c.args.groups.now a (get_or xs i 0)).state c.regroup_one.new.self c.regroup_one.new.questions e.state e.questions in
    record {
      state = table_on (regroup_one c.args.groups.now) a b xs i 0 here now _ c.loop-slot.invariant.state;
      outs = effects_on (regroup_one c.args.groups.now) a b xs i 0 here now _ _ _ e.effects c.loop-slot.invariant.outs;
    }
