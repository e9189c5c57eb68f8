-- The packets between boards. C is the type of commands.
use Rattle.std.specs.Prelude.{ℕ, List}

-- Prepare: the owner of the ballot asks for promises.
pub record Prepare : Type 0 where
  pub ballot : ℕ

-- Promised: this board has promised the ballot; the ballot and the list that it accepted last.
pub record Promised (C : Type 0) : Type 0 where
  pub from : ℕ
  pub ballot : ℕ
  pub last : ℕ
  pub list : List C

-- Install: the whole list of the ballot's leader.
pub record Install (C : Type 0) : Type 0 where
  pub ballot : ℕ
  pub list : List C

-- Append: the command that follows the first `place` ones in the list of the ballot's leader, so its length n is place + 1.
pub record Append (C : Type 0) : Type 0 where
  pub ballot : ℕ
  pub place : ℕ
  pub command : C

-- Accepted: this board has accepted so much of the list of the ballot's leader.
pub record Accepted : Type 0 where
  pub from : ℕ
  pub ballot : ℕ
  pub length : ℕ
