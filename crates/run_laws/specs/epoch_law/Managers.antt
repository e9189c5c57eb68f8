-- What tokens give an event of a manager in the small world of the index: news give it no epoch at which anybody was active, and no other manager holds an
-- epoch that it holds or is given.
use Rattle.std.specs.Prelude.{◌≡◌, ℕ, Bool, List, Some}
use Rattle.core_world.specs.declared.any_node.AnyNode.{AnyNode}
use Rattle.headline.specs.Filed.{Texts}
use Rattle.segment_format.specs.declared.segment.Segment.{Segment}
use Rattle.version_model.specs.declared.act.Act.{Act}
use Rattle.wire_msg.specs.declared.packet.Do.{Do}
use Rattle.wire_msg.specs.declared.packet.Do.TheVariants.{Deliver}
use Rattle.wire_msg.specs.declared.packet.Packet.{Packet}
use Rattle.world_base.specs.Cluster.{place_of}
use Rattle.world_base.specs.declared.cluster.Cluster.{Cluster}
use Rattle.run_laws.specs.world_index.Owes.{TokensGive}
use Rattle.run_laws.specs.world_index.Standing as places
use Rattle.run_laws.specs.world_law.Standing as owners
use Rattle.headline.specs.Moments.{node_in}
use Rattle.xfs_base.specs.declared.node.NodeId.{NodeId}
use Rattle.run_laws.specs.epoch_law.Slots.{BothStand}

-- what comes to the node of this name was sent, and to it
abbrev pub Brought : Cluster → ℕ → owners.Scene → NodeId → Do → Type 0
Brought k part t name what = (q : Packet) → what ≡ Deliver q → owners.Fact k part t q × (q.to ≡ name)

-- At a moment to which both small worlds stand tokens give an event of each node what it is to be given of them.
abbrev pub TokensAreGiven : Type 0
TokensAreGiven =
    (logs : Bool) (k : Cluster) (part : ℕ) (texts : Texts) (first : ℕ → ℕ → Segment) (nodes : List AnyNode) (sent : List Packet) (acts : List Act)
    (t : owners.Scene) (i : places.Scene) (name : NodeId) (node : AnyNode) (what : Do) → BothStand logs k part texts first nodes sent acts t i
    → node_in nodes (place_of k name) ≡ Some node → Brought k part t name what → TokensGive part k.managers (places.holder part i) i.net name node what
