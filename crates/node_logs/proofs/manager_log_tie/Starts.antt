-- A manager at its start is seen in the opening of the small world of its log.
use Rattle.std.proofs.Common.{ℕ, ◌==◌, refl, sym, ap, arith}
use Rattle.client_log.specs.LogState.{log_start}
use Rattle.group_map.specs.Groups as groups
use Rattle.manager_map.specs.Slots.{manager_map_start, entry_at}
use Rattle.manager_slots.specs.declared.slot_phase.SlotPhase.TheVariants as phase
use Rattle.manager_slots.specs.Lasting.{log_of}
use Rattle.manager_slots.specs.Slots.{first_active}
use Rattle.manager_slots.specs.SlotTable.{first_phase, slot_table_first}
use Rattle.xfs_base.proofs.Booleans.{by_test}
use Rattle.xfs_base.specs.Blocks.{slot_of}
use Rattle.xfs_base.specs.declared.segment.LogId.{LogId}
use Rattle.log_law.specs.Net.{no_end}
use Rattle.log_law.specs.Net.{Owner as owner}
use Rattle.node_logs.specs.manager_log_tie.Fitting.{SlotFits, TableFits}
use Rattle.node_logs.specs.manager_log_tie.OwnerEvents.{ManagerStarts}
use Rattle.node_logs.proofs.manager_log_tie.Written.{anew_written}
use Rattle.node_logs.proofs.manager_log_tie.Phases.{its_number_is_log}

-- nothing is in the index of a slot that is managed from the start on
slots_start : (j managers : ℕ) → TableFits (slot_table_first j managers)
slots_start j managers = (one 0, (one 1, (one 2, (one 3, (one 4, (one 5, (one 6, (one 7, tt))))))))
  where
    one : (slot : ℕ) → SlotFits (first_phase j (manager_map_start managers) slot)
    one slot = by_test SlotFits ((entry_at (manager_map_start managers) (slot_of slot)).manager == j) first_active (phase.Away 1) (λ t. tt) (λ t. tt)

pub manager_starts : ManagerStarts
manager_starts g j fact setup works ids = record {
  lasts = record { number = refl; small = omega arith; asks = λ k. refl };
  inc = refl;
  log = record {
    owner = ap (λ (l : LogId). owner.Serving (log_start l 1 no_end (groups.group_map_start setup.servers setup.groups))) fact;
    own = record { log = sym fact; flight = tt };
  };
  written = anew_written (log_of j) 1 (groups.group_map_start setup.servers setup.groups) (its_number_is_log j) (omega arith) ids;
  writer = tt;
  index = slots_start j setup.managers;
}
