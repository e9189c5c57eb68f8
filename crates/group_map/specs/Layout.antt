-- What a group is made of, apart from its id.
use Rattle.std.specs.Prelude.{ℕ, List}
use Rattle.group_map.specs.declared.group.Member.{Member}

pub record Layout : Type 0 where
  -- the servers, each at its generation
  pub members : List Member
  -- how many fragments of a stripe are parity
  pub parity : ℕ
