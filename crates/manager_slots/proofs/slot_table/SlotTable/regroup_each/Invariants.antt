use Rattle.std.proofs.Common.{◌≡◌, ◌++◌, drop}
use Rattle.xfs_base.specs.Steps.{steps}
use Rattle.manager_slots.specs.SlotTable.{table_asker, regroup_one}
use Rattle.manager_slots.proofs.slot_table.SlotTable.regroup_each.Given as goal

-- what is done so far, and then the slots to come, is all
abbrev pub invariant-loop-slot : goal.invariant-loop-slot
invariant-loop-slot l =
    let rest = steps (regroup_one l.groups) (table_asker l.self l.questions) (drop l.slot-index l.slots) in
    let all = steps (regroup_one l.groups) (table_asker l.initial.self l.initial.questions) l.slots in
    record {
      state : rest.state ≡ all.state;
      outs : l.effects ++ rest.outs ≡ l.initial.effects ++ all.outs;
    }
