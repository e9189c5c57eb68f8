-- To which epoch of which manager each slot is promised.
use Rattle.std.specs.Prelude.{ℕ, ◌+◌, ◌%◌, ◌==◌, nat_lt, List, map, fold, replicate, slice_get, slice_set, unwrap_or, if◌then◌else◌}
use Rattle.std.specs.List.{range_with_len}
use Rattle.xfs_base.specs.declared.news.SlotNews.{SlotNews}
use Rattle.xfs_base.specs.declared.node.NodeId.{NodeId}
use Rattle.xfs_base.specs.declared.node.NodeId.TheVariants.{Manager}
use Rattle.xfs_base.specs.Limits.{slot_count}
use Rattle.log_owner.specs.declared.promised.Managers.{Managers}
use Rattle.log_owner.specs.declared.promised.Promised.{Promised}

-- the manager of a slot; the first one where there is no such slot
abbrev pub manager_of : Managers → ℕ → NodeId
manager_of m slot = Manager (unwrap_or (slice_get m.numbers slot) 1)

-- a slot has this manager
abbrev pub managers_set : Managers → ℕ → ℕ → Managers
managers_set m slot manager = if nat_lt slot slot_count then record { numbers = slice_set m.numbers slot manager } else m

-- at the start the managers have the slots in turn
abbrev pub first_number : ℕ → ℕ → ℕ
first_number managers slot = if managers == 0 then 1 else slot % managers + 1

abbrev pub managers_start : ℕ → Managers
managers_start managers = record { numbers = map (first_number managers) (range_with_len 0 slot_count) }

-- at the start each slot is at epoch 1
abbrev pub promised_start : ℕ → Promised
promised_start managers = record { epochs = replicate slot_count 1; managers = managers_start managers }

-- the epoch of a slot; 0 where there is no such slot
abbrev pub epoch_of : Promised → ℕ → ℕ
epoch_of p slot = unwrap_or (slice_get p.epochs slot) 0

-- a slot is promised to this epoch of this manager
abbrev pub promise_to : Promised → ℕ → ℕ → ℕ → Promised
promise_to p slot epoch manager =
    if nat_lt slot slot_count
    then record { epochs = slice_set p.epochs slot epoch; managers = managers_set p.managers slot manager }
    else p

-- what maps say of a slot
abbrev pub promise : Promised → SlotNews → Promised
promise p news = promise_to p news.slot news.epoch news.manager

-- what maps say of slots
abbrev pub promised_of : List SlotNews → Promised
promised_of slots = fold promise (promised_start 1) slots
