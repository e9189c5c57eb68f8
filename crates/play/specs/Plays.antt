-- The play of a script on one thread: a function of the script. Each item is begun at its line, and the schedule says what
-- happens after it. How a node takes an event is its transition.
use Rattle.std.specs.Prelude.{ℕ, ◌+◌, ◌-◌, Bool, true, false, List, [], ◌∷◌, ◌++◌, length, drop, slice_get, Option, Some, None}
use Rattle.std.specs.List.{count_by, filter_map, fold, range_with_len}
use Rattle.script_text.specs.declared.script.Line.{Line}
use Rattle.script_text.specs.declared.script.Script.{Script}
use Rattle.version_model.specs.declared.act.Act.{Act}
use Rattle.version_model.specs.declared.act.Act.TheVariants as acts
use Rattle.version_model.specs.declared.work.Work.{Work}
use Rattle.wire_msg.specs.declared.packet.Do.{Do}
use Rattle.wire_msg.specs.declared.packet.Packet.{Packet}
use Rattle.wire_msg.specs.NodeStep.{NodeStep}
use Rattle.xfs_base.specs.declared.node.NodeId.{NodeId}
use Rattle.xfs_base.specs.declared.setup.Setup.{Setup}
use Rattle.world_base.specs.declared.estate.Estate.{Estate}
use Rattle.world_base.specs.declared.event.Event.{Event}
use Rattle.world_base.specs.declared.event.Event.TheVariants.{Begin, Deliver, Tick}
use Rattle.world_base.specs.declared.world.World.{World}
use Rattle.world_base.specs.Items.{actor_of}
use Rattle.world_base.specs.NextWorld.{next_world, start_world}
use Rattle.world_base.specs.Schedule.{Going, ScheduleState, item_begun, repeated, schedule_send, schedule_start, schedule_take}
use Rattle.play.specs.declared.player.Player.{Player}
use Rattle.play.specs.Manner.{Manner}
use Rattle.play.specs.Manner as manners

abbrev pub is_answer : Act → Bool
is_answer (acts.Answered node item answer) = true
is_answer act = false

-- how many of these acts answer an item
abbrev pub answers : List Act → ℕ
answers acts = count_by is_answer acts

-- the packets that were sent since there were so many are handed to the schedule, by their numbers
unfoldable pub send_since : ScheduleState → ℕ → ℕ → ScheduleState
send_since schedule before now = fold schedule_send schedule (range_with_len before (now - before))

-- the play after an event that made this world: the schedule has what was sent, and what was answered is no longer unanswered
abbrev pub with_event : {N : Type 0} → Player N → Event → World N → Player N
with_event p event world = record {
  world = world;
  events = p.events ++ event ∷ [];
  schedule = send_since p.schedule (length p.world.sent) (length world.sent);
  unanswered = p.unanswered - answers (drop (length p.world.acts) world.acts);
}

abbrev pub with_schedule : {N : Type 0} → Player N → ScheduleState → Player N
with_schedule p schedule = record { world = p.world; events = p.events; schedule = schedule; unanswered = p.unanswered }

abbrev pub with_one_more : {N : Type 0} → Player N → Player N
with_one_more p = record { world = p.world; events = p.events; schedule = p.schedule; unanswered = p.unanswered + 1 }

-- a line that is no item is told to the schedule
abbrev pub told_of : {N : Type 0} → Player N → Work → Player N
told_of p work = with_schedule p (schedule_take work p.unanswered p.schedule)

-- the schedule knows that an item was begun
abbrev pub item_told : {N : Type 0} → Player N → Player N
item_told p = with_schedule p (item_begun p.unanswered p.schedule)

-- the packet of this number was delivered
abbrev pub delivery_told : {N : Type 0} → ℕ → Player N → Player N
delivery_told number p = with_schedule p (repeated p.schedule number)

module _ {N : Type 0} (step : N → Do → NodeStep N) where
  -- an event happens: it makes the next world
  unfoldable pub player_happen : Player N → Event → Player N
  player_happen p event = with_event p event (next_world step p.world event)

  -- a node begins its next item
  unfoldable pub player_begin : Player N → NodeId → Player N
  player_begin p node = item_told (player_happen (with_one_more p) (Begin node))

  -- a packet that was sent is delivered
  abbrev pub delivers : Player N → ℕ → Option Packet → Player N
  delivers p number None = p
  delivers p number (Some packet) = delivery_told number (player_happen p (Deliver packet))

  unfoldable pub delivered : Player N → ℕ → Player N
  delivered p number = delivers p number (slice_get p.world.sent number)

  -- time passes at a node
  unfoldable pub ticks : Player N → NodeId → Player N
  ticks p node = player_happen p (Tick node)

  abbrev pub opens_for : Player N → Work → Option NodeId → Player N
  opens_for p work None = told_of p work
  opens_for p work (Some node) = player_begin p node

  -- an item is begun at its line; any other line is told to the schedule
  unfoldable pub opens : Player N → Work → Player N
  opens p work = opens_for p work (actor_of work)

  -- how it goes by the schedule
  abbrev pub manner_of : Manner (Player N)
  manner_of = record {
    schedule = λ p. p.schedule;
    with_schedule = with_schedule;
    unanswered = λ p. p.unanswered;
    cluster = λ p. p.world.cluster;
    delivered = delivered;
    ticks = ticks;
    opens = opens;
  }

  abbrev pub rounded : Player N → Player N
  rounded p = manners.playing_round manner_of p

  abbrev pub goes_by : Player N → Going → Player N
  goes_by p going = manners.goes_by manner_of p going

  abbrev pub goes_on : ℕ → Player N → Player N
  goes_on count p = manners.goes_on manner_of count p

  abbrev pub goes_out : Player N → Player N
  goes_out p = manners.playing_go manner_of p

  abbrev pub plays_line : Player N → Line → Player N
  plays_line p line = manners.play_line manner_of p line

-- the play before the first line
abbrev pub player_start : {N : Type 0} → (NodeId → Setup → List Work → N) → Script → Player N
player_start first script = record { world = start_world first script; events = []; schedule = schedule_start; unanswered = 0 }

-- the play of a script, line by line
unfoldable pub player_play : {N : Type 0} → (N → Do → NodeStep N) → (NodeId → Setup → List Work → N) → Script → Player N
player_play step first script = fold (plays_line step) (player_start first script) script.lines

-- the nodes whose items the lines of a script are, in order
abbrev pub actors_of : List Line → List NodeId
actors_of lines = filter_map (λ line. actor_of line.work) lines

-- the estate that a play leaves
abbrev pub left_by : {N : Type 0} → Script → Player N → Estate N
left_by script p = record { script = script; events = p.events; world = p.world }

-- the run that a script determines, and the world in which it ends
abbrev pub estate_of : {N : Type 0} → (N → Do → NodeStep N) → (NodeId → Setup → List Work → N) → Script → Estate N
estate_of step first script = left_by script (player_play step first script)
