-- What a stripe group map answers, and what a loss of a server makes of it.
use Rattle.std.specs.Prelude.{ℕ, ◌+◌, ◌-◌, ◌%◌, Bool, true, List, [], ◌∷◌, ◌++◌, Option, Some, None, ◌==◌, ◌&&◌, not, length, map, filter, find, replicate, slice_index, slice_set}
use Rattle.std.specs.List.{list_any}
use Rattle.group_map.specs.declared.group.Group.{Group}
use Rattle.group_map.specs.declared.group.Member.{Member}
use Rattle.group_map.specs.GroupMapState.{GroupMapState}
use Rattle.group_map.specs.Layout.{Layout}
use Rattle.xfs_base.specs.declared.setup.GroupSetup.{GroupSetup}

-- the group of this id, where there is one
abbrev pub group_of : GroupMapState → ℕ → Option Group
group_of state id = find (λ g. g.id == id) state.groups

-- the group of this id, where groups are known and it is among them
abbrev pub known_group : Option GroupMapState → ℕ → Option Group
known_group None id = None
known_group (Some state) id = group_of state id

-- the generation of a server among these
abbrev pub generation_at : List ℕ → ℕ → ℕ
generation_at generations server = slice_index generations (server - 1)

-- the ids of the current groups, in order
abbrev pub current_ids : List Group → List ℕ
current_ids groups = map (λ g. g.id) (filter (λ g. g.current) groups)

-- the current group at place (log + seq) mod the number of current groups
abbrev pub group_map_choose : List Group → ℕ → ℕ → ℕ
group_map_choose groups log seq = slice_index (current_ids groups) ((log + seq) % length (current_ids groups))

-- current groups of these layouts, with ids from this one on
abbrev pub numbered : ℕ → List Layout → List Group
numbered id [] = []
numbered id (layout ∷ rest) = record { id = id; members = layout.members; parity = layout.parity; current = true } ∷ numbered (id + 1) rest

-- these servers at generation 1
abbrev pub first_members : List ℕ → List Member
first_members servers = map (λ s. record { server = s; generation = 1 }) servers

-- the group of a setup, with its servers at generation 1
abbrev pub first_layout : GroupSetup → Layout
first_layout g = record { members = first_members g.servers; parity = g.parity }

-- the map at first: ids from 1, all generations 1, all groups current
abbrev pub group_map_start : ℕ → List GroupSetup → GroupMapState
group_map_start servers groups = record { servers = servers; generations = replicate servers 1; groups = numbered 1 (map first_layout groups) }

abbrev pub has_server : ℕ → Group → Bool
has_server server g = list_any (λ m. m.server == server) g.members

-- whether a loss of the server ends the group
abbrev pub is_hit : ℕ → Group → Bool
is_hit server g = g.current && has_server server g

-- the group after the loss: it stays current only where it does not have the server
abbrev pub retired : ℕ → Group → Group
retired server g = record { id = g.id; members = g.members; parity = g.parity; current = g.current && not (has_server server g) }

-- the same servers at these generations
abbrev pub present_members : List ℕ → List Member → List Member
present_members generations members = map (λ m. record { server = m.server; generation = generation_at generations m.server }) members

-- the group that follows: the same servers at these generations, and the same parity
abbrev pub present_layout : List ℕ → Group → Layout
present_layout generations g = record { members = present_members generations g.members; parity = g.parity }

-- for each group that the loss ends, the group that follows it
abbrev pub followers : List ℕ → ℕ → List Group → List Layout
followers generations server groups = map (present_layout generations) (filter (is_hit server) groups)

abbrev pub generations_after : List ℕ → ℕ → ℕ → List ℕ
generations_after generations server generation = slice_set generations (server - 1) generation

-- the map after a loss of the server: it is at the new generation, and each current group that has it
-- is obsolete and followed, in order of id, by a new one of the same servers at their generations
abbrev pub after_loss : GroupMapState → ℕ → ℕ → GroupMapState
after_loss state server generation = record {
  servers = state.servers;
  generations = generations_after state.generations server generation;
  groups = map (retired server) state.groups
      ++ numbered (length state.groups + 1) (followers (generations_after state.generations server generation) server state.groups);
}
