-- Counters.
use Rattle.std.specs.Prelude.{ℕ, ◌+◌, ◌-◌, ◌^◌, min}
use Rattle.xfs_base.specs.Limits.{u32_end}

-- one more, or the end of the counter
abbrev pub risen : ℕ → ℕ
risen n = min (n + 1) u32_end

-- the number of the slot after this one
abbrev pub slot_after : ℕ → ℕ
slot_after n = min (n + 1) (2 ^ 8 - 1)
