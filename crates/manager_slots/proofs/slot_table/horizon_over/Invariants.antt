use Rattle.std.proofs.Common.{◌≡◌, ◌++◌, drop, map}
use Rattle.manager_slots.specs.SlotTable.{next_of}
use Rattle.manager_slots.proofs.slot_table.horizon_over.Given as goal

-- the numbers so far and those to come are all
abbrev pub invariant-loop-log : goal.invariant-loop-log
invariant-loop-log l = l.horizon ++ map (next_of l.slot) (drop l.log-index l.logs) ≡ map (next_of l.slot) l.logs
