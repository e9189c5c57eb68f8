-- What is true of every stripe group map.
use Rattle.std.specs.Prelude.{◌≡◌, ℕ, ◌+◌, ◌≤◌, IsTrue, List, [], ◌∷◌, All, length, map, nat_eq}
use Rattle.std.specs.List.{list_any, IsDistinct}
use Rattle.xfs_base.specs.Limits.{u32_end}
use Rattle.group_map.specs.declared.group.Group.{Group}
use Rattle.group_map.specs.declared.group.Member.{Member}
use Rattle.group_map.specs.GroupMapState.{GroupMapState}
use Rattle.group_map.specs.Sizes.{IsParity, is_group_size}
use Rattle.group_map.specs.Groups.{generation_at}

-- a server of this many, which are numbered from 1
abbrev pub IsServer : ℕ → ℕ → Type 0
IsServer servers s = (1 ≤ s) × (s ≤ servers)

-- the parity and the members of a group: as many as a group of that parity may have, servers that exist and that differ
pub record IsStripe (servers parity : ℕ) (members : List Member) : Type 0 where
  pub one_or_two : IsParity parity
  pub size : IsTrue (is_group_size parity (length members))
  pub exist : All (λ m. IsServer servers m.server) members
  pub differ : IsDistinct nat_eq (map (λ m. m.server) members)

-- the ids count up from this one
abbrev pub IsNumbered : ℕ → List Group → Type 0
IsNumbered id [] = Unit {0}
IsNumbered id (g ∷ gs) = (g.id ≡ id) × IsNumbered (id + 1) gs

-- while a group is current its members are at the generations that these servers have now
abbrev pub IsPresent : List ℕ → Group → Type 0
IsPresent generations g = IsTrue g.current → All (λ m. m.generation ≡ generation_at generations m.server) g.members

-- there is a generation for each server, ids count from 1, each group is one of servers that exist and
-- differ, as many as its parity allows, each current one has its members at their present generations, and one group at least is current
pub record IsGroupMap (state : GroupMapState) : Type 0 where
  pub each_server : length state.generations ≡ state.servers
  pub by_id : IsNumbered 1 state.groups
  pub few : length state.groups ≤ u32_end
  pub stripes : All (λ g. IsStripe state.servers g.parity g.members) state.groups
  pub present : All (IsPresent state.generations) state.groups
  pub current : IsTrue (list_any (λ g. g.current) state.groups)
