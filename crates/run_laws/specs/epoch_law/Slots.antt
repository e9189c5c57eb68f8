-- A moment of a run of the nodes to which both small worlds of a slot stand, that of its tokens and that of its index: where a manager is active in the index's
-- one is in that of tokens.
use Rattle.std.specs.Prelude.{◌≡◌, ℕ, Bool, List, None, Some, slice_get, slice_set}
use Rattle.core_world.specs.AnyNode.{any_step}
use Rattle.core_world.specs.declared.any_node.AnyNode.{AnyNode}
use Rattle.index_tie.specs.Net as index
use Rattle.headline.specs.Filed.{Texts}
use Rattle.node_slots.specs.node_tie.RegistryEvents.{RegistrySound}
use Rattle.segment_format.specs.declared.segment.Segment.{Segment}
use Rattle.token_law.specs.Net as tokens
use Rattle.version_model.specs.declared.act.Act.{Act}
use Rattle.wire_msg.specs.declared.packet.Do.{Do}
use Rattle.wire_msg.specs.declared.packet.Packet.{Packet}
use Rattle.world_base.specs.Cluster.{place_of}
use Rattle.world_base.specs.declared.cluster.Cluster.{Cluster}
use Rattle.run_laws.specs.world_index.Owes.{Makes}
use Rattle.run_laws.specs.world_index.Standing as places
use Rattle.run_laws.specs.world_law.Standing as owners
use Rattle.xfs_base.specs.declared.node.NodeId.{NodeId}

-- where no manager is active in the small world of tokens none is in that of the index
abbrev pub SameSlots : tokens.Net → index.Net → Type 0
SameSlots t i = (e : ℕ) → t.slots e ≡ None → i.slots e ≡ None

module _ (logs : Bool) (k : Cluster) (part : ℕ) (texts : Texts) (first : ℕ → ℕ → Segment) (nodes : List AnyNode) (sent : List Packet) (acts : List Act) where
  -- a moment of a run to which both stand, whether or not logs keep their word
  pub record BothStand (t : owners.Scene) (i : places.Scene) : Type 0 where
    pub tokens : owners.Stands logs k part nodes sent acts RegistrySound t
    pub index : places.Stands k part texts first nodes sent RegistrySound i
    pub same : SameSlots t.net i.net

-- The node of this name takes its step, and both small worlds go on: no slot leaves that of tokens, which stands to the moment after it, and that of the index
-- is what such an event makes of it.
module _ (logs : Bool) (k : Cluster) (part : ℕ) (texts : Texts) (nodes : List AnyNode) (place : ℕ) (what : Do) (sent : List Packet) (acts : List Act) where
  pub record BothGo (name : NodeId) (node : AnyNode) (t next : owners.Scene) (n m : index.Net) : Type 0 where
    pub placed : place_of k name ≡ Some place
    pub stands : slice_get nodes place ≡ Some node
    pub tokens : owners.Stands logs k part (slice_set nodes place (any_step node what).node) sent acts RegistrySound next
    pub leaves : (e : ℕ) → next.net.slots e ≡ None → t.net.slots e ≡ None
    pub index : Makes part texts n m name node what

-- At the start the same epoch has a manager in both.
abbrev pub SlotsStartSame : Type 0
SlotsStartSame = (first : ℕ → ℕ → Segment) → SameSlots tokens.opening (index.opening first)

-- After an event the same epochs have managers where they had before.
abbrev pub SlotsStaySame : Type 0
SlotsStaySame =
    (logs : Bool) (k : Cluster) (part : ℕ) (texts : Texts) (nodes : List AnyNode) (place : ℕ) (what : Do) (sent : List Packet) (acts : List Act) (name : NodeId)
    (node : AnyNode) (t next : owners.Scene) (n m : index.Net) → SameSlots t.net n
    → BothGo logs k part texts nodes place what sent acts name node t next n m → SameSlots next.net m
