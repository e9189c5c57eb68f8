-- A stripe group map as contracts see it.
use Rattle.std.specs.Prelude.{ℕ, List}
use Rattle.group_map.specs.declared.group.Group.{Group}

pub record GroupMapState : Type 0 where
  -- how many servers there are; they are numbered from 1
  pub servers : ℕ
  -- the generation of each server, in order of number
  pub generations : List ℕ
  -- all groups that were ever made, in order of id
  pub groups : List Group
