-- What is filed, what is stored, and what is torn: when more members of a segment's group lack their fragment than its parity makes good.
use Rattle.std.specs.List.{count_by}
use Rattle.std.specs.Prelude.{◌≡◌, ◌<◌, ℕ, Bool, true, false, nat_lt, Option, Some, None, is_none}
use Rattle.core_world.specs.declared.any_node.AnyNode.{AnyNode}
use Rattle.fragment_store.specs.ShelfState.{ShelfState, held_at}
use Rattle.group_map.specs.declared.group.Group.{Group}
use Rattle.group_map.specs.declared.group.Member.{Member}
use Rattle.segment_format.specs.declared.segment.Segment.{Segment}
use Rattle.segment_format.specs.References.{ref_of}
use Rattle.token_protocol.specs.Basics.{In}
use Rattle.version_model.specs.declared.act.Act.TheVariants as act
use Rattle.world_base.specs.declared.estate.Estate.{Estate}
use Rattle.world_base.specs.declared.world.World.{World}
use Rattle.xfs_base.specs.declared.segment.SegName.{SegName}
use Rattle.xfs_base.specs.declared.segment.SegRef.{SegRef}
use Rattle.headline.specs.Logs.{IsThere, Role, did, log_by}
use Rattle.headline.specs.Moments.{moment}
use Rattle.headline.specs.Segments.{IsText, NotDeleted}
use Rattle.headline.specs.Servers.{IsKept, group_at, shelf_at}

-- The segment had been filed: an owner of a log of the run, a client, the cleaner or a manager, told so in the events up to this count.
pub record WasFiled (e : Estate AnyNode) (count : ℕ) (name : SegName) : Type 0 where
  pub owner : Role
  pub there : IsThere e.script.setup.clients e.script.setup.managers owner
  pub acted : In (act.Filed name) (did e (log_by owner) count)

-- a shelf has no fragment of a segment; one that isn't there has none
abbrev pub lacks : Option ShelfState → SegName → Bool
lacks None name = true
lacks (Some shelf) name = is_none (held_at shelf.held name)

module _ (e : Estate AnyNode) where
  -- More members of a segment's group lack their fragment than its parity makes good, and no server was told to delete it.
  pub record IsTornAt (count : ℕ) (segment : SegRef) : Type 0 where
    pub group : Group
    pub striped : group_at e.world segment.group ≡ Some group
    pub torn : group.parity < count_by (λ m. lacks (shelf_at (moment e count) m.server) segment.name) group.members
    pub kept : NotDeleted (moment e count) segment.name

-- the server of a member has lost its disk since the group was made
abbrev pub has_lost_disk : Member → Option ShelfState → Bool
has_lost_disk member None = false
has_lost_disk member (Some shelf) = nat_lt member.generation shelf.generation

-- how many members of a group have lost their disk since it was made
abbrev pub disks_lost : World AnyNode → Group → ℕ
disks_lost w group = count_by (λ m. has_lost_disk m (shelf_at w m.server)) group.members

-- The segment of this name, over its group, one of the registry's: whatever is held under the name, or was sent under it to be stored or as what is held, is
-- a fragment of this segment, cut for this group. Each member holds its fragment, or has lost its disk since the group was made; and where the segment is
-- torn, more have lost their disk than the parity makes good (the 1996 paper, on RAID).
pub record IsStored (e : Estate AnyNode) (count : ℕ) (name : SegName) : Type 0 where
  pub segment : Segment
  pub named : segment.name ≡ name
  pub group : Group
  pub striped : group_at e.world segment.group ≡ Some group
  pub text : IsText (moment e count) name segment group
  pub kept : IsKept (moment e count) segment group
  pub disks : IsTornAt e count (ref_of segment) → group.parity < disks_lost (moment e count) group

-- so it is of what is read under this name over this group: the name and the group are those of the one segment that is stored
pub record IsStoredAs (e : Estate AnyNode) (count : ℕ) (read : SegRef) : Type 0 where
  pub stored : IsStored e count read.name
  pub over : ref_of stored.segment ≡ read
