-- What servers hold, by the groups of the registry: each member of a group holds its fragment of a segment, or its server has lost its disk since.
use Rattle.std.specs.Prelude.{◌≡◌, ◌⊎◌, ◌<◌, ℕ, Option, Some, None, length}
use Rattle.core_world.specs.declared.any_node.AnyNode.{AnyNode}
use Rattle.core_world.specs.declared.any_node.AnyNode.TheVariants as any
use Rattle.fragment_store.specs.ShelfState.{ShelfState, held_at}
use Rattle.group_map.specs.declared.group.Group.{Group}
use Rattle.group_map.specs.GroupMapState.{GroupMapState}
use Rattle.group_map.specs.Groups.{known_group as group_in}
use Rattle.log_flight.specs.Flights.{generation_of, server_of}
use Rattle.segment_format.specs.declared.segment.Segment.{Segment}
use Rattle.stripe_code.specs.Fragments.{fragment_of}
use Rattle.world_base.specs.declared.world.World.{World}
use Rattle.xfs_base.specs.declared.fragment.Fragment.{Fragment}
use Rattle.xfs_base.specs.declared.node.NodeId.TheVariants as nodes
use Rattle.headline.specs.Moments.{node_named}

abbrev pub shelf_of : Option AnyNode → Option ShelfState
shelf_of None = None
shelf_of (Some (any.Client node)) = None
shelf_of (Some (any.Manager node)) = None
shelf_of (Some (any.Server node)) = Some node.shelf
shelf_of (Some (any.Cleaner node)) = None
shelf_of (Some (any.Registry node)) = None

-- the shelf of a server
abbrev pub shelf_at : World AnyNode → ℕ → Option ShelfState
shelf_at w v = shelf_of (node_named w (nodes.Server v))

abbrev pub groups_of : Option AnyNode → Option GroupMapState
groups_of None = None
groups_of (Some (any.Client node)) = None
groups_of (Some (any.Manager node)) = None
groups_of (Some (any.Server node)) = None
groups_of (Some (any.Cleaner node)) = None
groups_of (Some (any.Registry node)) = Some node.board.groups

-- the group of this id, by the registry's map
abbrev pub group_at : World AnyNode → ℕ → Option Group
group_at w id = group_in (groups_of (node_named w nodes.Registry)) id

-- the fragment of a segment for the member at a place of a group
abbrev pub piece : Segment → Group → ℕ → Fragment
piece s group place = fragment_of s (length group.members) group.parity place

-- a shelf holds the fragment for this member, or its server has lost its disk since the group was made
abbrev pub HoldsOrLost : Segment → Group → ℕ → Option ShelfState → Type 0
HoldsOrLost s group place None = ⊥
HoldsOrLost s group place (Some shelf) = (held_at shelf.held s.name ≡ Some (piece s group place)) ⊎ (generation_of group.members place < shelf.generation)

-- each member of the group holds its fragment of the segment, or its server has lost its disk since
abbrev pub IsKept : World AnyNode → Segment → Group → Type 0
IsKept w s group = (place : ℕ) → place < length group.members → HoldsOrLost s group place (shelf_at w (server_of group.members place))
