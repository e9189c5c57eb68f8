-- What the value of a block may be.
use Rattle.std.specs.Prelude.{ℕ, ◌≤◌, List, length, Option, Some, None}
use Rattle.xfs_base.specs.Limits.{max_value}

-- Absent, or 1 to 8,192 bytes
abbrev pub IsValue : Option (List ℕ) → Type 0
IsValue None = Unit {0}
IsValue (Some bytes) = (1 ≤ length bytes) × (length bytes ≤ max_value)
