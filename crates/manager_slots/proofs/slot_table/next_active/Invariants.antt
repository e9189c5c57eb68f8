use Rattle.std.proofs.Common.{◌≡◌, drop, find}
use Rattle.manager_slots.specs.SlotTable.{is_next}
use Rattle.manager_slots.proofs.slot_table.next_active.Given as goal

-- the slot that is looked for is among those to come
abbrev pub invariant-loop-slot : goal.invariant-loop-slot
invariant-loop-slot l = find (is_next l.phases l.from) (drop l.slot-index l.slots) ≡ find (is_next l.phases l.from) l.slots
