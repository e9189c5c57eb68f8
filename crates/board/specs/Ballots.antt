-- Whose a ballot is, and which a board takes next.
use Rattle.std.specs.Prelude.{ℕ, ◌+◌, ◌-◌, ◌%◌, ◌==◌, if◌then◌else◌}

-- the board that a ballot belongs to: 1, 2, 3, 1 and so on
abbrev pub owner_of : ℕ → ℕ
owner_of ballot = (ballot - 1) % 3 + 1

-- the least ballot of a board above what it promised
abbrev pub next_ballot : ℕ → ℕ → ℕ
next_ballot number promised =
    if owner_of (promised + 1) == number then promised + 1 else (if owner_of (promised + 2) == number then promised + 2 else promised + 3)
