-- The phases of a log's owner, by rank: in the order in which a restart goes through them.
use Rattle.std.specs.Prelude.{ℕ}

-- it is down
abbrev pub down : ℕ
down = 0

-- it gathers lists of what servers hold
abbrev pub gathering : ℕ
gathering = 1

-- it reads back what it has picked
abbrev pub reading : ℕ
reading = 2

-- it writes its opening segment
abbrev pub writing : ℕ
writing = 3

-- it serves
abbrev pub serving : ℕ
serving = 4
