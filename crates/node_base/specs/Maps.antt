-- When a node takes maps, and what it knows then.
use Rattle.std.specs.Prelude.{ℕ, ◌-◌, Bool, true, false, ◌==◌, ◌&&◌, ◌||◌, nat_lt, if◌then◌else◌, List, [], ◌∷◌, Option, Some, None, is_some}
use Rattle.std.specs.Cmp.Lexicographic.{pointwise}
use Rattle.std.specs.List.{list_all, range_with_len}
use Rattle.group_map.specs.declared.group.Group.{Group}
use Rattle.group_map.specs.declared.group.Member.{Member}
use Rattle.group_map.specs.Groups.{group_of}
use Rattle.group_map.specs.GroupMapState.{GroupMapState}
use Rattle.wire_msg.specs.declared.registry.News.{News}
use Rattle.xfs_base.specs.declared.news.SlotNews.{SlotNews}
use Rattle.xfs_base.specs.declared.segment.Prior.{Prior}
use Rattle.xfs_base.specs.Segments.{names_none}
use Rattle.xfs_base.specs.Limits.{u32_end}
use Rattle.node_base.specs.declared.maps.Maps.{Maps}

abbrev pub is_in : Option GroupMapState → ℕ → Bool
is_in None id = false
is_in (Some groups) id = is_some (group_of groups id)

-- a group of this id is known
abbrev pub knows : Maps → ℕ → Bool
knows maps id = is_in maps.groups id

-- there is no prior, or one in a group that is known
abbrev pub knows_prior : Maps → Prior → Bool
knows_prior maps prior = names_none prior || knows maps prior.group

abbrev pub is_older : Maps → News → Bool
is_older maps news = nat_lt maps.version news.version

abbrev pub same_member : Member → Member → Bool
same_member a b = (a.server == b.server) && (a.generation == b.generation)

abbrev pub same_group : Group → Group → Bool
same_group a b = (a.parity == b.parity) && pointwise same_member a.members b.members

abbrev pub has_it : Group → Option Group → Bool
has_it g None = false
has_it g (Some other) = same_group g other

-- a group that an id names is among others, and so are the rest; an id that names none is the last that counts
abbrev pub has_next : GroupMapState → Option Group → Bool → Bool
has_next others None rest = true
has_next others (Some g) rest = has_it g (group_of others g.id) && rest

abbrev pub has_named : GroupMapState → GroupMapState → List ℕ → Bool
has_named groups others [] = true
has_named groups others (id ∷ ids) = has_next others (group_of groups id) (has_named groups others ids)

-- ids count from 1
unfoldable pub has_below : GroupMapState → GroupMapState → ℕ → Bool
has_below groups others end = has_named groups others (range_with_len 1 (end - 1))

-- each group of these is among others, with the same members
unfoldable pub has_all : GroupMapState → GroupMapState → Bool
has_all groups others = has_below groups others u32_end

abbrev pub keeps : Option GroupMapState → GroupMapState → Bool
keeps None newer = true
keeps (Some groups) newer = has_all groups newer

-- the maps are of as many servers, and keep what is known
abbrev pub extends : Maps → GroupMapState → Bool
extends maps newer = (newer.servers == maps.servers) && keeps maps.groups newer

-- the parts of all slots are in groups of these
abbrev pub has_parts : Option GroupMapState → List SlotNews → Bool
has_parts groups slots = list_all (λ slot. list_all (λ part. is_in groups part.group) slot.parts) slots

-- whether maps may be taken: the parts of their slots are in groups that are known then
abbrev pub fits : Maps → News → Bool
fits maps news = if is_older maps news then extends maps news.groups && has_parts (Some news.groups) news.slots else has_parts maps.groups news.slots

-- newer maps are taken
abbrev pub maps_take : Maps → News → Maps
maps_take maps news = if is_older maps news then record maps { version = news.version; groups = Some news.groups } else maps

-- those of the setup
abbrev pub maps_start : GroupMapState → Maps
maps_start groups = record { version = 1; servers = groups.servers; groups = Some groups }

-- those of a node that starts again
abbrev pub forgotten : ℕ → Maps
forgotten servers = record { version = 0; servers = servers; groups = None }
