-- A segment in flight: over which group it begins, which answers are of it, and what is noted of it.
use Rattle.std.specs.Prelude.{ℕ, Bool, true, false, ◌==◌, ◌&&◌, nat_lt, List, [], length, replicate, slice_index_or, slice_set, unwrap_or}
use Rattle.xfs_base.specs.declared.segment.Prior.{Prior}
use Rattle.xfs_base.specs.declared.segment.SegName.{SegName}
use Rattle.segment_format.specs.declared.segment.Item.{Item}
use Rattle.segment_format.specs.declared.segment.Segment.{Segment}
use Rattle.xfs_base.specs.Segments.{same_name}
use Rattle.group_map.specs.declared.group.Group.{Group}
use Rattle.group_map.specs.declared.group.Member.{Member}
use Rattle.group_map.specs.GroupMapState.{GroupMapState}
use Rattle.group_map.specs.Groups.{group_of, group_map_choose}

-- a segment that isn't settled
pub record FlightState : Type 0 where
  pub segment : Segment
  -- the group over which it is striped
  pub group : Group
  -- for each place whether its server is known to hold the fragment
  pub noted : List Bool

-- the most members that a group has
abbrev pub most_members : ℕ
most_members = 8

-- nothing is known to be held
abbrev pub none_noted : List Bool
none_noted = replicate most_members false

abbrev pub is_noted : List Bool → ℕ → Bool
is_noted noted place = slice_index_or noted place false

-- ---- beginning a segment

-- no group: no map is without a current one
abbrev pub no_group : Group
no_group = record { id = 0; members = []; parity = 1; current = false }

-- the group that the map chooses for a segment
unfoldable pub group_for : GroupMapState → ℕ → ℕ → Group
group_for groups log seq = unwrap_or (group_of groups (group_map_choose groups.groups log seq)) no_group

-- a segment over the group, of which nothing is noted
abbrev pub flown : SegName → Prior → List Item → Group → FlightState
flown name prior items group = record { segment = record { name = name; prior = prior; group = group.id; items = items }; group = group; noted = none_noted }

-- ---- answers

abbrev pub no_member : Member
no_member = record { server = 0; generation = 0 }

-- whether there is a member at the place, and of this generation
abbrev pub is_member : List Member → ℕ → ℕ → Bool
is_member members index generation = nat_lt index (length members) && (generation == (slice_index_or members index no_member).generation)

-- whether a Stored is of the flight, by name, place and generation
abbrev pub is_of : FlightState → SegName → ℕ → ℕ → Bool
is_of f name index generation = same_name name f.segment.name && is_member f.group.members index generation

abbrev pub flight_note : FlightState → ℕ → FlightState
flight_note f index = record f { noted = slice_set f.noted index true }

-- the server and the generation of the member at a place
abbrev pub server_of : List Member → ℕ → ℕ
server_of members place = (slice_index_or members place no_member).server

abbrev pub generation_of : List Member → ℕ → ℕ
generation_of members place = (slice_index_or members place no_member).generation
