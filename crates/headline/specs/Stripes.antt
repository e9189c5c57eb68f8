-- What was filed is read back: while no more members of its group lack their fragment than the parity makes good, what the others hold joins to the segment's
-- text, which decodes to the segment (the 1996 paper, on RAID).
use Rattle.std.specs.Prelude.{◌≡◌, ◌<◌, ◌≤◌, ◌-◌, ℕ, List, Option, Some, None, Ok, length, map}
use Rattle.core_world.specs.declared.any_node.AnyNode.{AnyNode}
use Rattle.fragment_store.specs.ShelfState.{ShelfState, held_at}
use Rattle.group_map.specs.declared.group.Group.{Group}
use Rattle.group_map.specs.declared.group.Member.{Member}
use Rattle.log_flight.specs.Flights.{server_of}
use Rattle.segment_format.specs.declared.segment.Segment.{Segment}
use Rattle.segment_format.specs.ReadingItems.{answer_of}
use Rattle.segment_format.specs.Text.{text_of}
use Rattle.stripe_code.specs.Joined.{HasLengths, too_many, joined, missing_from}
use Rattle.stripe_code.specs.Stripe.{IsCut, part_len}
use Rattle.token_protocol.specs.Basics.{In}
use Rattle.version_model.specs.declared.act.Act.TheVariants as act
use Rattle.world_base.specs.declared.estate.Estate.{Estate}
use Rattle.world_base.specs.declared.world.World.{World}
use Rattle.xfs_base.specs.declared.fragment.Fragment.{Fragment}
use Rattle.xfs_base.specs.declared.segment.SegName.{SegName}
use Rattle.headline.specs.Moments.{moment}
use Rattle.headline.specs.Segments.{IsText}
use Rattle.headline.specs.Servers.{group_at, shelf_at}

-- what a shelf holds under a name; one that isn't there holds nothing
abbrev pub held_on : Option ShelfState → SegName → Option Fragment
held_on None name = None
held_on (Some shelf) name = held_at shelf.held name

-- its bytes
abbrev pub bytes_in : Option Fragment → Option (List ℕ)
bytes_in None = None
bytes_in (Some f) = Some f.bytes

module _ (w : World AnyNode) (name : SegName) where
  -- what the server of a member holds of a segment
  abbrev pub part_held : Member → Option (List ℕ)
  part_held m = bytes_in (held_on (shelf_at w m.server) name)

  abbrev pub parts_held : Group → List (Option (List ℕ))
  parts_held group = map part_held group.members

  -- how many members hold nothing under its name
  abbrev pub lacking : Group → ℕ
  lacking group = length (missing_from 0 (parts_held group))

  -- What a server holds under the name has the index of the place of that server in the group.
  abbrev pub AreAtTheirPlaces : Group → Type 0
  AreAtTheirPlaces group =
      (place : ℕ) (f : Fragment) → place < length group.members → held_on (shelf_at w (server_of group.members place)) name ≡ Some f → f.meta.index ≡ place

-- Of a segment over its group: what the members hold, each at its place, is what `join` asks for, of the length that each fragment says; it refuses none of it,
-- and gives the segment's text; and by that text `decode` gives the segment.
pub record IsReadBack (w : World AnyNode) (s : Segment) (group : Group) : Type 0 where
  pub size : IsCut (length (parts_held w s.name group)) group.parity
  pub long : (v : ℕ) (f : Fragment) → held_on (shelf_at w v) s.name ≡ Some f → f.meta.len ≡ length (text_of s)
  pub lengths : HasLengths (part_len (length (text_of s)) (length (parts_held w s.name group) - group.parity)) (parts_held w s.name group)
  pub enough : too_many group.parity (missing_from 0 (parts_held w s.name group)) ≡ None
  pub joins : joined (parts_held w s.name group) group.parity (length (text_of s)) ≡ text_of s
  pub decodes : answer_of (text_of s) ≡ Ok s

-- A segment of this name, over a group of the registry's, by its map at the end of the run: whatever is held or was sent under its name is a fragment of it, at
-- each server that of its place, and while no more members lack theirs than the parity makes good, it is read back.
pub record IsKeptReadable (end w : World AnyNode) (s : Segment) (name : SegName) : Type 0 where
  pub named : s.name ≡ name
  pub group : Group
  pub striped : group_at end s.group ≡ Some group
  pub text : IsText w name s group
  pub placed : AreAtTheirPlaces w name group
  pub back : lacking w name group ≤ group.parity → IsReadBack w s group

-- So it is at each moment of a run of each segment that was acted to be filed up to there: of a client's log, the cleaner's or a manager's, and it is one
-- segment throughout the run.
pub record FiledIsReadBack (e : Estate AnyNode) : Type 0 where
  pub text : SegName → Segment
  pub each : (count : ℕ) (name : SegName) → In (act.Filed name) (moment e count).acts → IsKeptReadable e.world (moment e count) (text name) name
