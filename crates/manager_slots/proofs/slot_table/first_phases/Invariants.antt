use Rattle.std.proofs.Common.{◌≡◌, ◌++◌, drop, map}
use Rattle.manager_slots.specs.SlotTable.{first_phase}
use Rattle.manager_slots.proofs.slot_table.first_phases.Given as goal

-- the slots so far and those to come are all
abbrev pub invariant-loop-slot : goal.invariant-loop-slot
invariant-loop-slot l = l.phases ++ map (first_phase l.number l.entries) (drop l.slot-index l.slots) ≡ map (first_phase l.number l.entries) l.slots
