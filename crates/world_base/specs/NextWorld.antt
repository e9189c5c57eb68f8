-- The next world: what one event makes of the world of all nodes. How a node takes an event is its transition.
use Rattle.std.specs.Prelude.{ℕ, ◌+◌, ◌^◌, max, nat_lt, ◌&&◌, List, [], ◌++◌, length, map, slice_get, slice_index, slice_set, replicate, Option, Some, None, if◌then◌else◌}
use Rattle.script_text.specs.declared.script.Script.{Script}
use Rattle.version_model.specs.declared.work.Work.{Work}
use Rattle.wire_msg.specs.declared.packet.Do.{Do}
use Rattle.wire_msg.specs.declared.packet.Do.TheVariants.{Begin, Deliver, Tick}
use Rattle.wire_msg.specs.declared.packet.Packet.{Packet}
use Rattle.wire_msg.specs.NodeStep.{NodeStep}
use Rattle.xfs_base.specs.declared.node.NodeId.{NodeId}
use Rattle.xfs_base.specs.declared.setup.Setup.{Setup}
use Rattle.world_base.specs.declared.cluster.Cluster.{Cluster}
use Rattle.world_base.specs.declared.event.Event.{Event}
use Rattle.version_model.specs.declared.act.Act.{Act}
use Rattle.world_base.specs.declared.world.World.{World}
use Rattle.world_base.specs.Cluster.{cluster_of, node_count, nodes_of, place_of}
use Rattle.world_base.specs.Events.{node_of, what_of}
use Rattle.world_base.specs.Items.{items_of}

-- a clock, where it is none past the end of all clocks
abbrev pub clock_at_most : ℕ → Option ℕ
clock_at_most clock = if nat_lt clock (2 ^ 64) then Some clock else None

-- the clock of an event of a node with this clock: one more than the greater of that and the clock of the packet that comes
abbrev pub clock_after : ℕ → Do → Option ℕ
clock_after clock Begin = clock_at_most (clock + 1)
clock_after clock (Deliver packet) = clock_at_most (max clock packet.clock + 1)
clock_after clock Tick = clock_at_most (clock + 1)

-- a packet is sent with the clock of the event that sends it
abbrev pub sent_at : ℕ → Packet → Packet
sent_at clock packet = record packet { clock = clock }

-- the world before the first event of a script: each node with the items that are its own, and nothing sent or done
module _ {N : Type 0} (first : NodeId → Setup → List Work → N) where
  abbrev pub first_node : Script → NodeId → N
  first_node script node = first node script.setup (items_of script.lines node)

  abbrev pub first_nodes : Script → Cluster → List N
  first_nodes script cluster = map (first_node script) (nodes_of cluster)

  unfoldable pub start_world : Script → World N
  start_world script = record {
    cluster = cluster_of script.setup;
    nodes = first_nodes script (cluster_of script.setup);
    clocks = replicate (node_count (cluster_of script.setup)) 0;
    sent = [];
    acts = [];
  }

-- the clock of an event of the node at a place; none where there is no such node
abbrev pub clock_at : {N : Type 0} → World N → ℕ → Do → Option ℕ
clock_at w place what = if nat_lt place (length w.nodes) && nat_lt place (length w.clocks) then clock_after (slice_index w.clocks place) what else None

-- what a turn leaves: all nodes, in their order, what is sent, with clock 0, and what is done
pub record Turn (N : Type 0) : Type 0 where
  pub nodes : List N
  pub packets : List Packet
  pub acts : List Act

module _ {N : Type 0} (step : N → Do → NodeStep N) where
  -- the nodes after this one, which stands at a place, had its turn, and what it sends and does
  abbrev pub turn_by : List N → ℕ → Do → Option N → Turn N
  turn_by nodes place what None = record { nodes = nodes; packets = []; acts = [] }
  turn_by nodes place what (Some node) = record {
    nodes = slice_set nodes place (step node what).node;
    packets = (step node what).packets;
    acts = (step node what).acts;
  }

  unfoldable pub turn_of : List N → ℕ → Do → Turn N
  turn_of nodes place what = turn_by nodes place what (slice_get nodes place)

  -- the world after a turn at this clock: the node at a place is another, and what it sent and did stands behind all that was
  -- sent and done before
  abbrev pub after_turn : World N → ℕ → ℕ → Turn N → World N
  after_turn w place clock turn = record {
    cluster = w.cluster;
    nodes = turn.nodes;
    clocks = slice_set w.clocks place clock;
    sent = w.sent ++ map (sent_at clock) turn.packets;
    acts = w.acts ++ turn.acts;
  }

  -- nothing happens where the run has no such node, or where the clock of the event would pass the end of all clocks
  abbrev pub turned : World N → ℕ → Do → Option ℕ → World N
  turned w place what None = w
  turned w place what (Some clock) = after_turn w place clock (turn_of w.nodes place what)

  unfoldable pub happen_at : World N → ℕ → Do → World N
  happen_at w place what = turned w place what (clock_at w place what)

  abbrev pub at_place : World N → Do → Option ℕ → World N
  at_place w what None = w
  at_place w what (Some place) = happen_at w place what

  -- this happens to a node
  unfoldable pub world_happen : World N → NodeId → Do → World N
  world_happen w node what = at_place w what (place_of w.cluster node)

  -- the next world
  abbrev pub next_world : World N → Event → World N
  next_world w event = world_happen w (node_of event) (what_of event)
