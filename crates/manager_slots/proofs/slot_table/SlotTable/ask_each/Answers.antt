use Rattle.std.proofs.Common.{◌<◌, length, get_or, arith}
use Rattle.manager_slots.specs.SlotTable.{TableAsker, table_asker, slot_table_ask}
use Rattle.manager_slots.proofs.Turns.{table_asker_is, table_on, effects_on}
use Rattle.manager_slots.proofs.slot_table.SlotTable.ask_each.Goals as goal

pub loop-slot-preserved : goal.loop-slot-preserved
loop-slot-preserved c =
    let i = c.loop-slot.slot-index in
    let xs = c.args.slots.now in
    let here : c.loop-slot.slot-index < length c.args.slots.now = omega arith in
    let a : TableAsker = table_asker c.loop-slot.self c.loop-slot.questions in
    let b : TableAsker = table_asker c.ask.new.self c.ask.new.questions in
    let e = c.in_ok-ask.ensures in
    let now = table_asker_is (slot_table_ask c.args.polls a (get_or xs i 0)).state c.ask.new.self c.ask.new.questions e.state e.questions in
    record {
      state = table_on (slot_table_ask c.args.polls) a b xs i 0 here now _ c.loop-slot.invariant.state;
      outs = effects_on (slot_table_ask c.args.polls) a b xs i 0 here now _ _ _ e.effects c.loop-slot.invariant.outs;
    }
