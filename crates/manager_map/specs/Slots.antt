-- The manager map, as the entries of its slots in order.
use Rattle.std.specs.Prelude.{ℕ, ◌+◌, ◌%◌, List, map, if◌then◌else◌, nat_lt, slice_get, slice_set, unwrap_or}
use Rattle.std.specs.List.{range_with_len}
use Rattle.xfs_base.specs.Limits.{u32_end, slot_count}
use Rattle.manager_map.specs.declared.entry.SlotEntry.{SlotEntry}

-- where a slot starts: epoch 1, and the managers in turn
abbrev pub first_entry : ℕ → ℕ → SlotEntry
first_entry managers slot = record { epoch = 1; manager = slot % managers + 1 }

-- the entries of slots 0 to 7 as they start
abbrev pub manager_map_start : ℕ → List SlotEntry
manager_map_start managers = map (first_entry managers) (range_with_len 0 slot_count)

-- what a slot has; a slot that there isn't has epoch 0 and manager 0
abbrev pub entry_at : List SlotEntry → ℕ → SlotEntry
entry_at slots slot = unwrap_or (slice_get slots slot) (record { epoch = 0; manager = 0 })

-- the entry with its next epoch and this manager; the last epoch has no next, and its entry stays
abbrev pub next_entry : SlotEntry → ℕ → SlotEntry
next_entry entry manager =
    if nat_lt entry.epoch u32_end then record { epoch = entry.epoch + 1; manager = manager } else entry

-- the map once this slot is given to this manager
abbrev pub manager_map_advance : List SlotEntry → ℕ → ℕ → List SlotEntry
manager_map_advance slots slot manager = slice_set slots slot (next_entry (entry_at slots slot) manager)
