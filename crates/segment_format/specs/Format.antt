-- What sets the two segment formats apart, and the limits of both.
use Rattle.std.specs.Prelude.{ℕ, ◌≤◌, Bool, false, List, [], ◌∷◌, nat_le, ◌==◌, ◌&&◌, if◌then◌else◌}
use Rattle.xfs_base.specs.Limits.{max_value, segment_blocks, log_count}

-- the version byte of format 1, and of format 2, which has longer Blocks
abbrev pub first_version : ℕ
first_version = 1

abbrev pub second_version : ℕ
second_version = 2

-- the most bytes of a Block in format 1
abbrev pub short_block : ℕ
short_block = 4096

-- the most bytes of a Block in a text of this version
abbrev pub longest : ℕ → ℕ
longest version = if version == first_version then short_block else max_value

-- how many bytes the header has
abbrev pub header_length : ℕ
header_length = 35

-- the most items that are Block or Part, and the most that are Delta
abbrev pub most_items : ℕ
most_items = segment_blocks

-- the three bytes that begin each segment: x F S
abbrev pub mark : List ℕ
mark = 0x78 ∷ 0x46 ∷ 0x53 ∷ []

abbrev pub is_mark : List ℕ → Bool
is_mark (x ∷ f ∷ s ∷ rest) = (x == 0x78) && (f == 0x46) && (s == 0x53)
is_mark bytes = false

-- n is from lo to hi: the test, and the fact
abbrev pub is_within : ℕ → ℕ → ℕ → Bool
is_within lo hi n = nat_le lo n && nat_le n hi

abbrev pub IsWithin : ℕ → ℕ → ℕ → Type 0
IsWithin lo hi n = (lo ≤ n) × (n ≤ hi)

-- a log is 1 to 13
abbrev pub is_log : ℕ → Bool
is_log n = is_within 1 log_count n

abbrev pub IsLog : ℕ → Type 0
IsLog n = IsWithin 1 log_count n

-- a version is 1 or 2
abbrev pub is_version : ℕ → Bool
is_version n = is_within first_version second_version n

abbrev pub IsVersion : ℕ → Type 0
IsVersion n = IsWithin first_version second_version n

-- a Block in a text of this version has 1 to so many bytes
abbrev pub is_length : ℕ → ℕ → Bool
is_length version n = is_within 1 (longest version) n

abbrev pub IsLength : ℕ → ℕ → Type 0
IsLength version n = IsWithin 1 (longest version) n

-- a Part has 1 to 128 rows
abbrev pub is_row_count : ℕ → Bool
is_row_count n = is_within 1 128 n

abbrev pub IsRowCount : ℕ → Type 0
IsRowCount n = IsWithin 1 128 n
