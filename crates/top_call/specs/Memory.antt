-- A source and a sink in memory, as contracts see them.
use Rattle.std.specs.Prelude.{ℕ, Bool, ◌==◌, List, min, if◌then◌else◌}
use Rattle.std.specs.List.{list_any}
use Rattle.xfs_base.specs.Causes.{next_count}

-- what is left, the most that a call gives, the calls that fail, the calls and the faults so far
pub record Supply : Type 0 where
  pub left : List ℕ
  pub piece : ℕ
  pub fails : List ℕ
  pub calls : ℕ
  pub faults : ℕ

-- what was written, the room that is left, the most that a call takes, the calls that fail and that take nothing, the calls
-- and the faults so far
pub record Store : Type 0 where
  pub written : List ℕ
  pub room : ℕ
  pub piece : ℕ
  pub fails : List ℕ
  pub empties : List ℕ
  pub calls : ℕ
  pub faults : ℕ

-- a list names a call
abbrev pub is_named : ℕ → List ℕ → Bool
is_named call names = list_any (λ n. n == call) names

-- how many bytes of a piece of this length a sink's next call takes, unless it fails
abbrev pub taken_of : Store → ℕ → ℕ
taken_of s length = if is_named (next_count s.calls) s.empties then 0 else min (min s.room length) s.piece
