-- Counters of a quiet run are far below their ends.
use Rattle.std.proofs.Common.{◌≡◌, ℕ, suc, ◌+◌, ◌<◌, ◌≤◌, true, arith}
use Rattle.node_base.specs.Room.{has_long_room}
use Rattle.token_manager.specs.SlotState.{SlotState}
use Rattle.xfs_base.specs.declared.setup.Setup.{Setup}
use Rattle.xfs_base.specs.Limits.{u32_end, u64_end}
use Rattle.quiet_law.specs.Drained.{IsCalm, IsLow}
use Rattle.quiet_nodes.proofs.Rooms.{HaveTurns}
use Rattle.quiet_nodes.proofs.Tests.{le_test}

pub long_room : (k n : ℕ) → k < 40000 → IsLow k n → has_long_room n ≡ true
long_room k n few low = le_test n _ (omega arith)

pub below_long : (k n : ℕ) → k < 40000 → IsLow k n → n + 1 < u64_end
below_long k n few low = omega arith

pub below_short : (k n : ℕ) → k < 40000 → IsLow k n → n + 1 < u32_end
below_short k n few low = omega arith

pub low_next : (k n : ℕ) → IsLow k n → IsLow (suc k) (n + 1)
low_next k n low = omega arith

pub low_room_next : (k n : ℕ) → k < 40000 → IsLow k n → n + 1 ≤ 4294901759
low_room_next k n few low = omega arith

-- calm slots have turns left
pub calm_turns : (setup : Setup) (k : ℕ) (slots : ℕ → SlotState) → k < 40000 → ((i : ℕ) → i < 8 → IsCalm setup k (slots i)) → HaveTurns slots
calm_turns setup k slots few calm i within = (let c = calm i within in record { epoch = c.epoch; turn = long_room k (slots i).turn few c.turn_low })
