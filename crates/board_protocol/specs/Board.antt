-- One board. C is the type of commands.
use Rattle.std.specs.Prelude.{ℕ, List}

pub record Board (C : Type 0) : Type 0 where
  -- 1: it is up
  pub up : ℕ
  pub promised : ℕ
  -- the ballot and the list that it accepted last
  pub ballot : ℕ
  pub list : List C
  -- commands that it was offered
  pub waiting : List C
  -- 1: it leads
  pub leads : ℕ
  -- as a leader: for each other board the length, plus one, that it is known to have accepted of this ballot; 0: none yet
  pub known : ℕ → ℕ
  -- as a leader: the length that is done
  pub done : ℕ
  -- the commands that it has applied, in order
  pub applied : List C
