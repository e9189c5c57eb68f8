use Rattle.std.proofs.Common.{◌≡◌, ◌++◌, drop}
use Rattle.xfs_base.specs.Steps.{steps}
use Rattle.manager_slots.specs.SlotTable.{table_asker, hearer, slot_table_hear}
use Rattle.manager_slots.proofs.slot_table.SlotTable.hear_each.Given as goal

-- what is done so far, and then the slots to come, is all
abbrev pub invariant-loop-news : goal.invariant-loop-news
invariant-loop-news l =
    let rest = steps (slot_table_hear (hearer l.ears l.groups)) (table_asker l.self l.questions) (drop l.news-index l.slots) in
    let all = steps (slot_table_hear (hearer l.ears l.groups)) (table_asker l.initial.self l.initial.questions) l.slots in
    record {
      state : rest.state ≡ all.state;
      outs : l.effects ++ rest.outs ≡ l.initial.effects ++ all.outs;
    }
