-- The runs of a script with boards: what may happen, in any order. Packets are never taken out, so each may come late, often or never.
use Rattle.std.specs.Prelude.{◌≡◌, ℕ, List, [], ◌∷◌, Some, slice_get}
use Rattle.std.specs.List.{fold}
use Rattle.script_text.specs.declared.script.Script.{Script}
use Rattle.version_model.specs.declared.work.Work.{Work}
use Rattle.wire_msg.specs.declared.packet.Do.{Do}
use Rattle.wire_msg.specs.declared.packet.Do.TheVariants.{Begin, Deliver, Tick}
use Rattle.wire_msg.specs.NodeStep.{NodeStep}
use Rattle.xfs_base.specs.declared.node.NodeId.{NodeId}
use Rattle.xfs_base.specs.declared.node.NodeId.TheVariants.{Registry}
use Rattle.xfs_base.specs.declared.setup.Setup.{Setup}
use Rattle.xfs_base.specs.Steps.{Stepped}
use Rattle.world_base.specs.declared.event.Event.{Event}
use Rattle.world_base.specs.declared.world.World.{World}
use Rattle.world_base.specs.Events.{node_of}
use Rattle.world_base.specs.NextWorld.{next_world, start_world}
use Rattle.world_base.specs.Runs.{MayHappen, WasSent}
use Rattle.board.specs.declared.packet.BoardPacket.{BoardPacket}
use Rattle.board_world.specs.declared.board_event.BoardEvent.{BoardEvent}
use Rattle.board_world.specs.declared.board_event.BoardEvent.TheVariants.{Far, Offer, Mail, Beat, Stop, Start}
use Rattle.board_world.specs.NextBoards.{BoardsState, boards_start, boards_take}

-- a packet is one of those that boards said to each other
abbrev pub WasMailed : List BoardPacket → BoardPacket → Type 0
WasMailed mail packet = (place : ℕ) × (slice_get mail place ≡ Some packet)

-- a packet of a board comes only after it was sent
abbrev pub MayMail : BoardsState → BoardEvent → Type 0
MayMail w (Far event) = Unit {0}
MayMail w (Offer number what item) = Unit {0}
MayMail w (Mail packet) = WasMailed w.mail packet
MayMail w (Beat number) = Unit {0}
MayMail w (Stop number) = Unit {0}
MayMail w (Start number) = Unit {0}

-- in all of these events each packet of a board that comes was sent
abbrev pub MailCame : BoardsState → List BoardEvent → Type 0
MailCame w [] = Unit {0}
MailCame w (event ∷ events) = MayMail w event × MailCame (boards_take w event).state events

-- The boards, and the world of all nodes, in which the one registry takes what is chosen.
pub record Together (N : Type 0) : Type 0 where
  pub boards : BoardsState
  pub world : World N

-- a packet that is offered was sent, to the registry
abbrev pub MayOffer : {N : Type 0} → World N → Do → Type 0
MayOffer w Begin = Unit {0}
MayOffer w (Deliver packet) = WasSent w.sent packet × (packet.to ≡ Registry)
MayOffer w Tick = Unit {0}

-- whether an event may come: far from the boards one that may happen in the world, to a node that isn't the registry
abbrev pub MayCome : {N : Type 0} → Together N → BoardEvent → Type 0
MayCome t (Far event) = MayHappen t.world event × (node_of event ≡ Registry → ⊥)
MayCome t (Offer number what item) = MayOffer t.world what
MayCome t (Mail packet) = WasMailed t.boards.mail packet
MayCome t (Beat number) = Unit {0}
MayCome t (Stop number) = Unit {0}
MayCome t (Start number) = Unit {0}

module _ {N : Type 0} (step : N → Do → NodeStep N) where
  -- what an event stands for happens in the world
  abbrev pub by_events : World N → Stepped BoardsState Event → Together N
  by_events w made = record { boards = made.state; world = fold (next_world step) w made.outs }

  abbrev pub next_together : Together N → BoardEvent → Together N
  next_together t event = by_events t.world (boards_take t.boards event)

  -- these events lead from one moment to another: each may come at the moment that it meets
  abbrev pub BoardsLead : Together N → List BoardEvent → Together N → Type 0
  BoardsLead t [] end = t ≡ end
  BoardsLead t (event ∷ events) end = MayCome t event × BoardsLead (next_together t event) events end

  -- before the first event of a script
  abbrev pub first_together : (NodeId → Setup → List Work → N) → Script → Together N
  first_together first script = record { boards = boards_start script; world = start_world first script }

  -- these events are a run of a script with boards, which ends so
  abbrev pub IsBoardRun : (NodeId → Setup → List Work → N) → Script → List BoardEvent → Together N → Type 0
  IsBoardRun first script events end = BoardsLead (first_together first script) events end
