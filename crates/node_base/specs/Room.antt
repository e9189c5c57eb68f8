-- How far a counter stands below its end.
use Rattle.std.specs.Prelude.{ℕ, ◌-◌, Bool, nat_le}
use Rattle.xfs_base.specs.Limits.{u32_end, counter_room, u64_end}

-- whether a counter is at least 65,536 below its end
abbrev pub has_room : ℕ → Bool
has_room counter = nat_le counter (u32_end - counter_room)

abbrev pub has_long_room : ℕ → Bool
has_long_room counter = nat_le counter (u64_end - counter_room)
