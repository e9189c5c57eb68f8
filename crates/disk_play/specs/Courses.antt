-- The play of a script with servers that stop and keep their disk: a function of the script. It is played as by one thread, but that a server may stop
-- within a change of its shelf, and takes no event then until it is started; and each change of a shelf is made on the disk of its server too.
use Rattle.std.specs.Prelude.{ℕ, ◌-◌, nat_lt, Bool, true, false, not, ◌||◌, ◌==◌, if◌then◌else◌, List, [], ◌∷◌, ◌++◌, drop, length, fold, replicate, slice_get, slice_set, Option, Some, None}
use Rattle.std.specs.List.{count_by}
use Rattle.disk_shelf.specs.declared.ask.Ask.{Ask}
use Rattle.disk_shelf.specs.declared.ask.Ask.TheVariants as asks
use Rattle.disk_shelf.specs.Kept.{Kept}
use Rattle.disk_shelf.specs.MemDisk.{MemState}
use Rattle.disk_shelf.specs.Stops.{is_answered, is_there, passes_after}
use Rattle.fragment_store.specs.ShelfState.{ShelfState}
use Rattle.play.specs.declared.player.Player.{Player}
use Rattle.play.specs.Manner.{Manner, play_line}
use Rattle.play.specs.Plays.{answers, delivery_told, player_happen, send_since, player_start, told_of, with_event, with_one_more, with_schedule}
use Rattle.script_text.specs.declared.script.Script.{Script}
use Rattle.shelved_nodes.specs.Asking.{asked}
use Rattle.version_model.specs.declared.act.Act.{Act}
use Rattle.version_model.specs.declared.act.Act.TheVariants as acts
use Rattle.version_model.specs.declared.work.Work.{Work}
use Rattle.version_model.specs.declared.work.Work.TheVariants as works
use Rattle.wire_msg.specs.declared.packet.Do.{Do}
use Rattle.wire_msg.specs.declared.packet.Packet.{Packet}
use Rattle.wire_msg.specs.NodeStep.{NodeStep}
use Rattle.world_base.specs.declared.event.Event.{Event}
use Rattle.world_base.specs.declared.event.Event.TheVariants.{Begin, Deliver, Tick}
use Rattle.world_base.specs.declared.estate.Estate.{Estate}
use Rattle.world_base.specs.declared.world.World.{World}
use Rattle.world_base.specs.Cluster.{place_of}
use Rattle.world_base.specs.Events.{node_of, what_of}
use Rattle.world_base.specs.Items.{actor_of}
use Rattle.world_base.specs.NextWorld.{next_world, start_world}
use Rattle.world_base.specs.Schedule.{item_begun}
use Rattle.xfs_base.specs.declared.node.NodeId.{NodeId}
use Rattle.xfs_base.specs.declared.node.NodeId.TheVariants as nodes
use Rattle.xfs_base.specs.declared.setup.Setup.{Setup}
use Rattle.xfs_base.specs.Nodes.{same_node}
use Rattle.disk_play.specs.declared.course.Course.{Course}
use Rattle.disk_play.specs.declared.course.Seat.{Seat}
use Rattle.disk_play.specs.declared.stop.Fate.{Fate}
use Rattle.disk_play.specs.declared.stop.Fate.TheVariants.{Answered, Unanswered, Lost}
use Rattle.disk_play.specs.declared.stop.Stop.{Stop}
use Rattle.disk_play.specs.Disks.{OnDisk, change_at, changed, new_disk, on_disks, welcome_of, welcomed_by}

-- ---- stops

-- a server that runs, and for which no stop waits; and one that is stopped
abbrev pub running : Stop
running = record { stopped = false; passes = None }

abbrev pub down : Stop
down = record { stopped = true; passes = None }

-- the writes and syncs of a store, a fence and a deletion count for a stop
abbrev pub counts : Ask → Bool
counts (asks.Store fragment generation) = true
counts (asks.Fence log pass) = true
counts (asks.Delete name) = true
counts call = false

-- how many writes and syncs of a change a stop that waits lets pass
abbrev pub passes_for : Stop → Ask → Option ℕ
passes_for stop call = if counts call then stop.passes else None

-- a server after a change of its shelf: stopped, where too few were left, or with so many less
abbrev pub stop_after : Stop → Ask → Stop
stop_after stop call =
    if not (counts call) then stop
    else if not (is_answered stop.passes) then down
    else record { stopped = stop.stopped; passes = passes_after stop.passes }

abbrev pub seat_with : ℕ → Option Stop → Option Seat
seat_with place None = None
seat_with place (Some stop) = Some (record { place = place; stop = stop })

-- where a server stands among the servers, and its stops; none where there is no such server
abbrev pub seat_of : List Stop → NodeId → Option Seat
seat_of stops (nodes.Server number) = if nat_lt 0 number then seat_with (number - 1) (slice_get stops (number - 1)) else None
seat_of stops node = None

abbrev pub fate_by : Bool → Bool → Fate
fate_by true there = Answered
fate_by false true = Unanswered
fate_by false false = Lost

-- what of an event counts, that makes this change of the shelf
abbrev pub fate_for : Stop → Option Ask → Fate
fate_for stop None = Answered
fate_for stop (Some call) = fate_by (is_answered (passes_for stop call)) (is_there (passes_for stop call))

abbrev pub stop_for : Stop → Option Ask → Stop
stop_for stop None = stop
stop_for stop (Some call) = stop_after stop call

-- what an event makes of the disk of a server under its stop, by the change of the shelf
abbrev pub disk_after : Stop → Do → Option Ask → OnDisk → OnDisk
disk_after stop what None k = welcomed_by (welcome_of what) k
disk_after stop what (Some call) k = changed (passes_for stop call) call k

-- ---- items

abbrev pub is_begin_of : NodeId → Event → Bool
is_begin_of node (Begin actor) = same_node actor node
is_begin_of node event = false

abbrev pub is_answer_of : NodeId → Act → Bool
is_answer_of node (acts.Answered actor item answer) = same_node actor node
is_answer_of node act = false

-- ---- the course of a play

-- a course, and the disks of the servers, in their order
pub record Deck (N : Type 0) : Type 0 where
  pub course : Course N
  pub disks : List OnDisk

module _ {N : Type 0} where
  abbrev pub on_course : (Course N → Course N) → Deck N → Deck N
  on_course change d = record { course = change d.course; disks = d.disks }

  -- as a play keeps them, the disks in the shelves of which they are
  abbrev pub deck_of : Course N → List (Kept MemState) → Deck N
  deck_of c shelves = record { course = c; disks = on_disks shelves }

  abbrev pub with_player : Course N → Player N → Course N
  with_player c p = record { player = p; stops = c.stops }

  abbrev pub with_stop : Course N → ℕ → Stop → Course N
  with_stop c place stop = record { player = c.player; stops = slice_set c.stops place stop }

  -- an event of which no packet goes out
  abbrev pub with_event_unsent : Player N → Event → World N → Player N
  with_event_unsent p event world = with_schedule (with_event p event world) p.schedule

  -- what an event leaves of the play, by what of it counts
  abbrev pub player_by : Fate → Player N → Event → World N → Player N
  player_by Answered p event world = with_event p event world
  player_by Unanswered p event world = with_event_unsent p event world
  player_by Lost p event world = p

  -- an event of a server that runs made this world, with this change of the shelf
  abbrev pub took : Course N → Seat → Event → World N → Option Ask → Course N
  took c seat event world call =
      with_stop (with_player c (player_by (fate_for seat.stop call) c.player event world)) seat.place (stop_for seat.stop call)

  -- what was sent since there was so much goes out
  abbrev pub course_send : Course N → ℕ → Course N
  course_send c sent = with_player c (with_schedule c.player (send_since c.player.schedule sent (length c.player.world.sent)))

  -- an event that made this world stands behind the others, and what was answered since is no longer unanswered
  abbrev pub course_note : Course N → Event → ℕ → Course N
  course_note c event done = with_player c
      (record {
        world = c.player.world;
        events = c.player.events ++ event ∷ [];
        schedule = c.player.schedule;
        unanswered = c.player.unanswered - answers (drop done c.player.world.acts);
      })

  abbrev pub with_world : Course N → World N → Course N
  with_world c world =
      with_player c (record { world = world; events = c.player.events; schedule = c.player.schedule; unanswered = c.player.unanswered })

  -- a stopped server is started; one that runs stays as it is
  abbrev pub woken_at : Course N → Option Seat → Course N
  woken_at c None = c
  woken_at c (Some seat) = if seat.stop.stopped then with_stop c seat.place running else c

  unfoldable pub course_wake : Course N → NodeId → Course N
  course_wake c node = woken_at c (seat_of c.stops node)

  -- how many items of a node were begun and have no answer
  abbrev pub unanswered_of : NodeId → Player N → ℕ
  unanswered_of node p = count_by (is_begin_of node) p.events - count_by (is_answer_of node) p.world.acts

  -- a stop is to come after so many writes and syncs: not where the server is stopped, or an item of it is unanswered
  abbrev pub stops_at : Course N → NodeId → ℕ → Option Seat → Course N
  stops_at c node passes None = c
  stops_at c node passes (Some seat) =
      if seat.stop.stopped || not (unanswered_of node c.player == 0) then c
      else with_stop c seat.place (record { stopped = false; passes = Some passes })

  -- a server is started, and no stop waits for it
  abbrev pub started_at : Course N → Option Seat → Course N
  started_at c None = c
  started_at c (Some seat) = with_stop c seat.place running

  -- and the queue is drained, unless the packets are held back
  abbrev pub course_drain : Course N → Course N
  course_drain c = with_player c (with_schedule c.player (item_begun c.player.unanswered c.player.schedule))

  abbrev pub one_more : Course N → Course N
  one_more c = with_player c (with_one_more c.player)

  abbrev pub delivery_noted : ℕ → Course N → Course N
  delivery_noted number c = with_player c (delivery_told number c.player)

  abbrev pub course_take : Course N → Work → Course N
  course_take c work = with_player c (told_of c.player work)

  -- a line that is no item
  unfoldable pub course_tell : Course N → Work → Course N
  course_tell c (works.ServerStop server passes) =
      course_take (stops_at c (nodes.Server server) passes (seat_of c.stops (nodes.Server server))) (works.ServerStop server passes)
  course_tell c (works.ServerStart server) = course_drain (started_at c (seat_of c.stops (nodes.Server server)))
  course_tell c work = course_take c work

-- the shelf of a node; none where there is no such node, or it keeps none
abbrev pub kept_by : {N : Type 0} → (N → Option ShelfState) → Option N → Option ShelfState
kept_by shelf_of None = None
kept_by shelf_of (Some node) = shelf_of node

abbrev pub kept_at : {N : Type 0} → (N → Option ShelfState) → List N → Option ℕ → Option ShelfState
kept_at shelf_of nodes None = None
kept_at shelf_of nodes (Some place) = kept_by shelf_of (slice_get nodes place)

abbrev pub shelf_at : {N : Type 0} → (N → Option ShelfState) → World N → NodeId → Option ShelfState
shelf_at shelf_of w node = kept_at shelf_of w.nodes (place_of w.cluster node)

-- the change of a shelf by an event
abbrev pub asked_of : Do → Option ShelfState → Option ShelfState → Option Ask
asked_of what (Some old) (Some new) = asked what old new
asked_of what old new = None

-- what of an event counts that made this world
abbrev pub course_settle : {N : Type 0} → (N → Do → NodeStep N) → (NodeId → Setup → List Work → N) → Script → Fate → Course N → Event → ℕ → ℕ → Course N
course_settle step first script Answered c event sent done = course_note (course_send c sent) event done
course_settle step first script Unanswered c event sent done = course_note c event done
course_settle step first script Lost c event sent done = with_world c (fold (next_world step) (start_world first script) c.player.events)

-- before the first line all servers run, each with an empty disk
abbrev pub course_on : {N : Type 0} → (NodeId → Setup → List Work → N) → Script → Course N
course_on first script = record { player = player_start first script; stops = replicate script.setup.servers running }

abbrev pub starts_on : {N : Type 0} → (NodeId → Setup → List Work → N) → Script → Deck N
starts_on first script = record { course = course_on first script; disks = replicate script.setup.servers new_disk }

module _ {N : Type 0} (step : N → Do → NodeStep N) (shelf_of : N → Option ShelfState) where
  -- the change of a server's shelf that an event makes
  abbrev pub asked_at : Course N → Event → Option Ask
  asked_at c event = asked_of (what_of event) (shelf_at shelf_of c.player.world (node_of event)) (shelf_at shelf_of (next_world step c.player.world event) (node_of event))

  -- an event of a server that runs: of the course, and of the disks
  abbrev pub course_at : Course N → Seat → Event → Course N
  course_at c seat event = took c seat event (next_world step c.player.world event) (asked_at c event)

  abbrev pub disks_at : Deck N → Seat → Event → List OnDisk
  disks_at d seat event = change_at (disk_after seat.stop (what_of event) (asked_at d.course event)) seat.place d.disks

  abbrev pub happens_at : Deck N → Seat → Event → Deck N
  happens_at d seat event = record { course = course_at d.course seat event; disks = disks_at d seat event }

  -- a stopped server takes no event
  abbrev pub happens_to : Deck N → Option Seat → Event → Deck N
  happens_to d None event = on_course (λ c. with_player c (player_happen step c.player event)) d
  happens_to d (Some seat) event = if seat.stop.stopped then d else happens_at d seat event

  -- an event happens
  unfoldable pub happens_on : Deck N → Event → Deck N
  happens_on d event = happens_to d (seat_of d.course.stops (node_of event)) event

  -- a node begins its next item; one that is stopped is started first
  unfoldable pub begins_on : Deck N → NodeId → Deck N
  begins_on d node = on_course course_drain (happens_on (on_course (λ c. one_more (course_wake c node)) d) (Begin node))

  -- a packet that was sent is delivered, also to a server that is stopped, which doesn't take it
  abbrev pub delivers_on : Deck N → ℕ → Option Packet → Deck N
  delivers_on d number None = d
  delivers_on d number (Some packet) = on_course (delivery_noted number) (happens_on d (Deliver packet))

  unfoldable pub delivered_on : Deck N → ℕ → Deck N
  delivered_on d number = delivers_on d number (slice_get d.course.player.world.sent number)

  -- time passes at a node that isn't stopped
  unfoldable pub ticks_on : Deck N → NodeId → Deck N
  ticks_on d node = happens_on d (Tick node)

  abbrev pub opens_on_for : Deck N → Work → Option NodeId → Deck N
  opens_on_for d work None = on_course (λ c. course_tell c work) d
  opens_on_for d work (Some node) = begins_on d node

  -- an item is begun at its line; any other line stops or starts a server, or is told to the schedule
  unfoldable pub opens_on : Deck N → Work → Deck N
  opens_on d work = opens_on_for d work (actor_of work)

  -- how it goes by the schedule
  abbrev pub manner_on : Manner (Deck N)
  manner_on = record {
    schedule = λ d. d.course.player.schedule;
    with_schedule = λ d schedule. on_course (λ c. with_player c (with_schedule c.player schedule)) d;
    unanswered = λ d. d.course.player.unanswered;
    cluster = λ d. d.course.player.world.cluster;
    delivered = delivered_on;
    ticks = ticks_on;
    opens = opens_on;
  }

  -- the play of a script, line by line
  unfoldable pub played_on : (NodeId → Setup → List Work → N) → Script → Deck N
  played_on first script = fold (play_line manner_on) (starts_on first script) script.lines

  -- the run that a script determines, with servers that stop, and the world in which it ends
  abbrev pub disk_estate_of : (NodeId → Setup → List Work → N) → Script → Estate N
  disk_estate_of first script =
      record { script = script; events = (played_on first script).course.player.events; world = (played_on first script).course.player.world }

  -- and the disks
  abbrev pub disks_of : (NodeId → Setup → List Work → N) → Script → List OnDisk
  disks_of first script = (played_on first script).disks
