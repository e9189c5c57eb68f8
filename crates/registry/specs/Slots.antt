-- The slots of the manager map, all at once.
use Rattle.std.specs.Prelude.{ℕ, Bool, List, ◌==◌, ◌||◌, not, nat_lt, fold, if◌then◌else◌}
use Rattle.std.specs.List.{list_all}
use Rattle.xfs_base.specs.Blocks.{slot_of}
use Rattle.xfs_base.specs.Limits.{u32_end}
use Rattle.manager_map.specs.declared.entry.SlotEntry.{SlotEntry}
use Rattle.manager_map.specs.Slots.{entry_at, manager_map_advance}
pub use Rattle.xfs_base.specs.Limits.{all_slots}

-- what the slot has that the low 3 bits of this number name
abbrev pub entry_of : List SlotEntry → ℕ → SlotEntry
entry_of entries slot = entry_at entries (slot_of slot)

-- the slot is given to its manager again, where that is this one
unfoldable pub raise_one : ℕ → List SlotEntry → ℕ → List SlotEntry
raise_one manager entries slot =
    if (entry_of entries slot).manager == manager then (if nat_lt 7 slot then entries else manager_map_advance entries slot manager) else entries

-- each slot of this manager is given to it again
abbrev pub raised : ℕ → List SlotEntry → List SlotEntry
raised manager entries = fold (raise_one manager) entries all_slots

abbrev pub can_rise_one : ℕ → List SlotEntry → ℕ → Bool
can_rise_one manager entries slot = not ((entry_of entries slot).manager == manager) || nat_lt (entry_of entries slot).epoch u32_end

-- each slot of this manager has a next epoch
abbrev pub can_rise : ℕ → List SlotEntry → Bool
can_rise manager entries = list_all (can_rise_one manager entries) all_slots
