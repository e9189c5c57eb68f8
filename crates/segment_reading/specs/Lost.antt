-- What it means that a segment is lost: in two rounds, one after the other, more than the parity makes good of the same pairs
-- of a server and its generation were Missing; and the reader's question after the second was answered alike.
use Rattle.std.specs.Prelude.{ℕ, Bool, ◌==◌, ◌&&◌, nat_lt, List, length, filter}
use Rattle.std.specs.List.{list_any}

-- one server in one generation
abbrev pub same_pair : ℕ × ℕ → ℕ × ℕ → Bool
same_pair a b = (a.0 == b.0) && (a.1 == b.1)

-- the pairs of a round that were Missing in the one before too
abbrev pub missing_twice : List (ℕ × ℕ) → List (ℕ × ℕ) → List (ℕ × ℕ)
missing_twice before now = filter (λ pair. list_any (same_pair pair) before) now

-- more of them than the parity makes good
abbrev pub are_gone : ℕ → List (ℕ × ℕ) → List (ℕ × ℕ) → Bool
are_gone parity before now = nat_lt parity (length (missing_twice before now))
