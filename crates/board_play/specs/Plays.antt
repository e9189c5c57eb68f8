-- The play of a script with three boards in the registry's place: a function of the script. It goes by the schedule by which `run` plays: each item is
-- begun at its line, and the schedule says what happens after it.
use Rattle.std.specs.Prelude.{ℕ, ◌+◌, ◌-◌, min, Bool, true, false, if◌then◌else◌, List, [], ◌∷◌, ◌++◌, length, drop, fold, map, slice_get, Option, Some, None}
use Rattle.std.specs.List.{range_with_len}
use Rattle.script_text.specs.declared.script.Script.{Script}
use Rattle.version_model.specs.declared.work.Work.{Work}
use Rattle.version_model.specs.declared.work.Work.TheVariants as works
use Rattle.wire_msg.specs.declared.packet.Do.{Do}
use Rattle.wire_msg.specs.declared.packet.Do.TheVariants as whats
use Rattle.wire_msg.specs.declared.packet.Packet.{Packet}
use Rattle.wire_msg.specs.NodeStep.{NodeStep}
use Rattle.xfs_base.specs.declared.node.NodeId.{NodeId}
use Rattle.xfs_base.specs.declared.node.NodeId.TheVariants.{Registry}
use Rattle.xfs_base.specs.declared.setup.Setup.{Setup}
use Rattle.xfs_base.specs.Limits.{u32_end}
use Rattle.xfs_base.specs.Nodes.{same_node}
use Rattle.world_base.specs.declared.estate.Estate.{Estate}
use Rattle.world_base.specs.declared.event.Event.TheVariants.{Begin, Tick}
use Rattle.world_base.specs.Events.{event_of}
use Rattle.world_base.specs.Items.{actor_of}
use Rattle.world_base.specs.NextWorld.{start_world}
use Rattle.world_base.specs.Schedule.{ScheduleState, item_begun, repeated, schedule_start, schedule_take}
use Rattle.play.specs.Manner.{Manner, play_line}
use Rattle.play.specs.Plays.{answers, send_since}
use Rattle.board.specs.declared.packet.BoardPacket.{BoardPacket}
use Rattle.board_world.specs.declared.board_event.BoardEvent.{BoardEvent}
use Rattle.board_world.specs.declared.board_event.BoardEvent.TheVariants.{Far, Offer, Mail, Beat, Stop, Start}
use Rattle.board_world.specs.BoardRuns.{Together, by_events}
use Rattle.board_world.specs.NextBoards.{BoardsState, boards_start, is_up, boards_take}
use Rattle.board_play.specs.declared.estate.BoardEstate.{BoardEstate}
use Rattle.board_play.specs.declared.player.Player.{Player}
use Rattle.board_play.specs.declared.sent.Sender.{Sender}
use Rattle.board_play.specs.declared.sent.Sender.TheVariants as senders
use Rattle.board_play.specs.declared.sent.Sent.{Sent}

-- ---- what was sent

-- the packet of this sender that stands at a place
abbrev pub sent_at : Sender → ℕ → Sent
sent_at sender place = record { sender = sender; place = place }

-- what a sender sent since it had sent so much
abbrev pub send_by : Sender → ℕ → ℕ → List Sent
send_by sender before now = map (sent_at sender) (range_with_len before (now - before))

-- what nodes sent, where the event happened to one of them: what the one registry sends is on its way once a board's registry sends it
abbrev pub send_far : BoardEvent → ℕ → ℕ → List Sent
send_far (Far event) before now = send_by senders.Nodes before now
send_far event before now = []

-- what went out by an event: of the nodes, of the boards' registries, and of the boards
abbrev pub sent_more : {N : Type 0} → BoardEvent → Together N → Together N → List Sent
sent_more event old new =
    send_far event (length old.world.sent) (length new.world.sent)
    ++ (send_by senders.Registries (length old.boards.handed) (length new.boards.handed)
    ++ send_by senders.Boards (length old.boards.mail) (length new.boards.mail))

-- ---- the play's parts

abbrev pub together : {N : Type 0} → Player N → Together N
together p = record { boards = p.boards; world = p.world }

-- The play after an event which made this, and by which these events of the nodes happened, and these packets went out: the schedule has what was sent, and what
-- was answered is no longer unanswered.
abbrev pub with_event : {N : Type 0} → Player N → BoardEvent → Together N → List Sent → Player N
with_event p event made more = record {
  boards = made.boards;
  world = made.world;
  happened = p.happened ++ event ∷ [];
  events = p.events ++ (boards_take p.boards event).outs;
  sent = p.sent ++ more;
  schedule = send_since p.schedule (length p.sent) (length (p.sent ++ more));
  unanswered = p.unanswered - answers (drop (length p.world.acts) made.world.acts);
  offered = p.offered;
}

abbrev pub with_schedule : {N : Type 0} → Player N → ScheduleState → Player N
with_schedule p schedule = record {
  boards = p.boards;
  world = p.world;
  happened = p.happened;
  events = p.events;
  sent = p.sent;
  schedule = schedule;
  unanswered = p.unanswered;
  offered = p.offered;
}

abbrev pub with_one_more : {N : Type 0} → Player N → Player N
with_one_more p = record {
  boards = p.boards;
  world = p.world;
  happened = p.happened;
  events = p.events;
  sent = p.sent;
  schedule = p.schedule;
  unanswered = p.unanswered + 1;
  offered = p.offered;
}

-- the next item of the registry is offered; they are counted up to the end of such numbers
abbrev pub with_offer : {N : Type 0} → Player N → Player N
with_offer p = record {
  boards = p.boards;
  world = p.world;
  happened = p.happened;
  events = p.events;
  sent = p.sent;
  schedule = p.schedule;
  unanswered = p.unanswered;
  offered = min (p.offered + 1) u32_end;
}

-- a line that is no item is told to the schedule
abbrev pub player_tell : {N : Type 0} → Player N → Work → Player N
player_tell p work = with_schedule p (schedule_take work p.unanswered p.schedule)

-- the schedule knows that an item was begun
abbrev pub item_told : {N : Type 0} → Player N → Player N
item_told p = with_schedule p (item_begun p.unanswered p.schedule)

-- the packet of this number was delivered
abbrev pub delivery_told : {N : Type 0} → ℕ → Player N → Player N
delivery_told number p = with_schedule p (repeated p.schedule number)

-- ---- which event it is

-- the least board that is up
abbrev pub least_up : BoardsState → Option ℕ
least_up w = if is_up w 1 then Some 1 else if is_up w 2 then Some 2 else if is_up w 3 then Some 3 else None

abbrev pub offer_to : Option ℕ → Do → ℕ → Option BoardEvent
offer_to None what item = None
offer_to (Some board) what item = Some (Offer board what item)

-- What happens to a node: to the registry it is offered, at the least board that is up; where none is it is dropped.
abbrev pub event_at : BoardsState → NodeId → Do → Option BoardEvent
event_at w node what = if same_node node Registry then offer_to (least_up w) what 0 else Some (Far (event_of node what))

-- a packet comes to the node that it is for
abbrev pub delivery : BoardsState → Option Packet → Option BoardEvent
delivery w None = None
delivery w (Some packet) = event_at w packet.to (whats.Deliver packet)

-- a packet of a board comes to another
abbrev pub mailing : Option BoardPacket → Option BoardEvent
mailing None = None
mailing (Some packet) = Some (Mail packet)

-- what was sent comes
abbrev pub coming : {N : Type 0} → Together N → Sender → ℕ → Option BoardEvent
coming t senders.Nodes place = delivery t.boards (slice_get t.world.sent place)
coming t senders.Registries place = delivery t.boards (slice_get t.boards.handed place)
coming t senders.Boards place = mailing (slice_get t.boards.mail place)

-- what a line asks of a board
abbrev pub board_event : Work → Option BoardEvent
board_event (works.BoardStop board) = Some (Stop board)
board_event (works.BoardStart board) = Some (Start board)
board_event work = None

-- ---- the play

module _ {N : Type 0} (step : N → Do → NodeStep N) where
  -- what an event makes of all
  abbrev pub made_by : Player N → BoardEvent → Together N
  made_by p event = by_events step p.world (boards_take p.boards event)

  -- an event happens
  unfoldable pub player_happen : Player N → BoardEvent → Player N
  player_happen p event = with_event p event (made_by p event) (sent_more event (together p) (made_by p event))

  abbrev pub happen_where : Player N → Option BoardEvent → Player N
  happen_where p None = p
  happen_where p (Some event) = player_happen p event

  -- the next item of the registry is offered, by its number
  abbrev pub player_offer : Player N → Player N
  player_offer p = happen_where (with_offer p) (offer_to (least_up p.boards) whats.Begin (with_offer p).offered)

  abbrev pub begin_at : Player N → NodeId → Player N
  begin_at p node = if same_node node Registry then player_offer p else player_happen p (Far (Begin node))

  -- a node begins its next item; the registry's is offered
  unfoldable pub player_begin : Player N → NodeId → Player N
  player_begin p node = item_told (begin_at (with_one_more p) node)

  -- a packet that was sent is delivered
  abbrev pub delivers : Player N → ℕ → Option Sent → Player N
  delivers p number None = p
  delivers p number (Some sent) = delivery_told number (happen_where p (coming (together p) sent.sender sent.place))

  unfoldable pub delivered : Player N → ℕ → Player N
  delivered p number = delivers p number (slice_get p.sent number)

  -- time passes at a board that is up
  unfoldable pub player_beat : Player N → ℕ → Player N
  player_beat p board = if is_up p.boards board then player_happen p (Beat board) else p

  abbrev pub beat_all : Player N → Player N
  beat_all p = player_beat (player_beat (player_beat p 1) 2) 3

  -- time passes at a node; in the registry's place at each board
  unfoldable pub ticks : Player N → NodeId → Player N
  ticks p node = if same_node node Registry then beat_all p else player_happen p (Far (Tick node))

  abbrev pub opens_for : Player N → Work → Option NodeId → Player N
  opens_for p work None = player_tell p work
  opens_for p work (Some node) = player_begin p node

  abbrev pub opens_by : Player N → Work → Option BoardEvent → Player N
  opens_by p work None = opens_for p work (actor_of work)
  opens_by p work (Some event) = player_tell (player_happen p event) work

  -- an item is begun at its line, and a board stops or starts at its line; any other line is told to the schedule
  unfoldable pub opens : Player N → Work → Player N
  opens p work = opens_by p work (board_event work)

  -- how it goes by the schedule
  abbrev pub manner_of : Manner (Player N)
  manner_of = record {
    schedule = λ p. p.schedule;
    with_schedule = with_schedule;
    unanswered = λ p. p.unanswered;
    cluster = λ p. p.world.cluster;
    delivered = delivered;
    ticks = ticks;
    opens = opens;
  }

-- the play before the first line
abbrev pub player_start : {N : Type 0} → (NodeId → Setup → List Work → N) → Script → Player N
player_start first script = record {
  boards = boards_start script;
  world = start_world first script;
  happened = [];
  events = [];
  sent = [];
  schedule = schedule_start;
  unanswered = 0;
  offered = 0;
}

-- the play of a script, line by line
unfoldable pub player_play : {N : Type 0} → (N → Do → NodeStep N) → (NodeId → Setup → List Work → N) → Script → Player N
player_play step first script = fold (play_line (manner_of step)) (player_start first script) script.lines

-- the estate that a play leaves, of the run that it stands for, and what happened to nodes and boards
abbrev pub into_estate : {N : Type 0} → Script → Player N → BoardEstate N
into_estate script p = record { estate = record { script = script; events = p.events; world = p.world }; events = p.happened }

-- the run that a script determines, with boards
abbrev pub estate_of : {N : Type 0} → (N → Do → NodeStep N) → (NodeId → Setup → List Work → N) → Script → BoardEstate N
estate_of step first script = into_estate script (player_play step first script)
