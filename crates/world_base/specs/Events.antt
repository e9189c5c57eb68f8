-- Events: what happens to one node at one moment.
use Rattle.wire_msg.specs.declared.packet.Do.{Do}
use Rattle.wire_msg.specs.declared.packet.Do.TheVariants as whats
use Rattle.xfs_base.specs.declared.node.NodeId.{NodeId}
use Rattle.world_base.specs.declared.event.Event.{Event}
use Rattle.world_base.specs.declared.event.Event.TheVariants.{Begin, Deliver, Tick}

-- the node to which an event happens: a packet comes to the node that it is for
abbrev pub node_of : Event → NodeId
node_of (Begin node) = node
node_of (Deliver packet) = packet.to
node_of (Tick node) = node

-- what happens to it
abbrev pub what_of : Event → Do
what_of (Begin node) = whats.Begin
what_of (Deliver packet) = whats.Deliver packet
what_of (Tick node) = whats.Tick

-- that this happens to a node
abbrev pub event_of : NodeId → Do → Event
event_of node whats.Begin = Begin node
event_of node (whats.Deliver packet) = Deliver packet
event_of node whats.Tick = Tick node
