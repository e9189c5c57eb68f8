-- A run, moment by moment: the world after its first so many events, a node there, and what an event adds to what was acted and to what was sent.
use Rattle.std.specs.List.{fold}
use Rattle.std.specs.Prelude.{ℕ, List, Option, Some, None, drop, length, slice_get, take}
use Rattle.core_world.specs.AnyNode.{any_start, any_step}
use Rattle.core_world.specs.declared.any_node.AnyNode.{AnyNode}
use Rattle.version_model.specs.declared.act.Act.{Act}
use Rattle.wire_msg.specs.declared.packet.Packet.{Packet}
use Rattle.world_base.specs.Cluster.{place_of}
use Rattle.world_base.specs.declared.estate.Estate.{Estate}
use Rattle.world_base.specs.declared.event.Event.{Event}
use Rattle.world_base.specs.declared.world.World.{World}
use Rattle.world_base.specs.NextWorld.{next_world, start_world}
use Rattle.xfs_base.specs.declared.node.NodeId.{NodeId}

-- the world after the first so many events of a run
abbrev pub moment : Estate AnyNode → ℕ → World AnyNode
moment e count = fold (next_world any_step) (start_world any_start e.script) (take count e.events)

abbrev pub node_in : List AnyNode → Option ℕ → Option AnyNode
node_in nodes None = None
node_in nodes (Some place) = slice_get nodes place

-- the node of a name, where the world has it
abbrev pub node_named : World AnyNode → NodeId → Option AnyNode
node_named w name = node_in w.nodes (place_of w.cluster name)

-- the acts that an event adds
abbrev pub acts_in : World AnyNode → Event → List Act
acts_in w event = drop (length w.acts) (next_world any_step w event).acts

-- the packets that an event adds
abbrev pub sent_in : World AnyNode → Event → List Packet
sent_in w event = drop (length w.sent) (next_world any_step w event).sent
