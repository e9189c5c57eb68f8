-- When a fault may be answered.
use Rattle.std.specs.Prelude.{ℕ, ◌+◌, ◌≤◌, min, Result, OnErr}
use Rattle.xfs_base.specs.Limits.{u64_end}

-- one more, but for a count that stands at the end of u64
abbrev pub next_count : ℕ → ℕ
next_count n = min (n + 1) u64_end

-- a count rose, or stands at the end of u64
abbrev pub Rose : ℕ → ℕ → Type 0
Rose before now = next_count before ≤ now

-- the count does not fall, and rose where the call failed
pub record CountsFaults {T E : Type 0} (before now : ℕ) (result : Result T E) : Type 0 where
  pub later : before ≤ now
  pub failed : OnErr result (Rose before now)
