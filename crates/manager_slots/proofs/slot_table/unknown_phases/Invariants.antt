use Rattle.std.proofs.Common.{◌≡◌, ◌++◌, drop, map}
use Rattle.manager_slots.specs.SlotTable.{unknown_phase}
use Rattle.manager_slots.proofs.slot_table.unknown_phases.Given as goal

-- the slots so far and those to come are all
abbrev pub invariant-loop-slot : goal.invariant-loop-slot
invariant-loop-slot l = l.phases ++ map unknown_phase (drop l._slot-index l.slots) ≡ map unknown_phase l.slots
