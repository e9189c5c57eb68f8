-- The runs of a script: what may happen, in any order; and what is a whole run.
use Rattle.std.specs.Prelude.{◌≡◌, ℕ, List, [], ◌∷◌, length, filter, slice_get, Option, Some, None}
use Rattle.std.specs.List.{filter_map}
use Rattle.node_base.specs.Setups.{IsSetup}
use Rattle.script_text.specs.declared.script.Line.{Line}
use Rattle.script_text.specs.declared.script.Script.{Script}
use Rattle.version_model.specs.declared.work.Work.{Work}
use Rattle.wire_msg.specs.declared.packet.Do.{Do}
use Rattle.wire_msg.specs.declared.packet.Packet.{Packet}
use Rattle.wire_msg.specs.NodeStep.{NodeStep}
use Rattle.xfs_base.specs.declared.node.NodeId.{NodeId}
use Rattle.xfs_base.specs.declared.setup.Setup.{Setup}
use Rattle.xfs_base.specs.Nodes.{same_node}
use Rattle.world_base.specs.declared.estate.Estate.{Estate}
use Rattle.world_base.specs.declared.event.Event.{Event}
use Rattle.world_base.specs.declared.event.Event.TheVariants.{Begin, Deliver, Tick}
use Rattle.world_base.specs.declared.world.World.{World}
use Rattle.world_base.specs.Items.{items_of}
use Rattle.world_base.specs.NextWorld.{next_world, start_world}

-- a packet is one of those that were sent
abbrev pub WasSent : List Packet → Packet → Type 0
WasSent sent packet = (place : ℕ) × (slice_get sent place ≡ Some packet)

-- whether an event may happen in a world: a packet comes only after it was sent, but late, often or never; a node may begin its
-- next item, and time may pass at it, at any moment
abbrev pub MayHappen : {N : Type 0} → World N → Event → Type 0
MayHappen w (Begin node) = Unit {0}
MayHappen w (Deliver packet) = WasSent w.sent packet
MayHappen w (Tick node) = Unit {0}

module _ {N : Type 0} (step : N → Do → NodeStep N) where
  -- these events lead from one world to another: each may happen in the world that it meets, and makes the next world of it
  abbrev pub Leads : World N → List Event → World N → Type 0
  Leads w [] end = w ≡ end
  Leads w (event ∷ events) end = MayHappen w event × Leads (next_world step w event) events end

  -- these events are a run of a script that ends in a world
  abbrev pub IsRun : (NodeId → Setup → List Work → N) → Script → List Event → World N → Type 0
  IsRun first script events end = Leads (start_world first script) events end

-- the node whose item an event begins
abbrev pub begin_of : Event → Option NodeId
begin_of (Begin node) = Some node
begin_of (Deliver packet) = None
begin_of (Tick node) = None

-- the nodes that began items, in order
abbrev pub begun_in : List Event → List NodeId
begun_in events = filter_map begin_of events

-- how many items of a node were begun
abbrev pub begins_of : NodeId → List Event → ℕ
begins_of node events = length (filter (λ begun. same_node begun node) (begun_in events))

-- each node begins its items, each once and none left out: a Begin takes the next one
abbrev pub BeginsAll : List Line → List Event → Type 0
BeginsAll lines events = (node : NodeId) → begins_of node events ≡ length (items_of lines node)

-- A whole run, by however many threads: of its script's setup a run can be started; its events lead from the start of the script to its world; and each node
-- begins its items in their order, each once, and none is left out.
pub record IsWholeRun {N : Type 0} (step : N → Do → NodeStep N) (first : NodeId → Setup → List Work → N) (e : Estate N) : Type 0 where
  pub setup : IsSetup e.script.setup
  pub one_run : IsRun step first e.script e.events e.world
  pub complete : BeginsAll e.script.lines e.events
