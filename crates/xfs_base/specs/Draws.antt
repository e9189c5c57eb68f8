-- Numbers that are drawn one after the other from a first one.
use Rattle.std.specs.Prelude.{ℕ, ◌+◌, ◌*◌, ◌/◌, ◌%◌}

-- the number that follows a number
abbrev pub next_number : ℕ → ℕ
next_number x = (x * 1103515245 + 12345) % 2147483648

-- what is drawn at a number
abbrev pub drawn : ℕ → ℕ
drawn x = x / 65536
