-- What an event makes of the cleaner.
use Rattle.std.specs.Prelude.{ℕ, ◌+◌, Bool, true, false, ◌&&◌, nat_lt, if◌then◌else◌, List, [], ◌∷◌, ◌++◌, Option, Some, None}
use Rattle.cleaner_serving.specs.declared.emptying.Emptying.{Emptying}
use Rattle.cleaner_serving.specs.EmptyingEvents.{emptying_start, emptying_back, on_clean, on_packet, on_tick, emptying_has_room}
use Rattle.cleaner_serving.specs.Jobs.{Done}
use Rattle.cleaner_job.specs.declared.lasting.Lasting.{Lasting}
use Rattle.cleaner_job.specs.Lasting.{lasting_has_room}
use Rattle.cleaner_job.specs.Starting.{cleaner_log}
use Rattle.log_owner.specs.declared.ended.Owner.{Owner}
use Rattle.log_owner.specs.declared.opened.Opened.{Opened}
use Rattle.log_owner.specs.declared.opened.Progress.{Progress}
use Rattle.log_owner.specs.declared.opened.Progress.TheVariants as progress
use Rattle.log_owner.specs.declared.opening.Opening as openings
use Rattle.log_owner.specs.Opening as opening
use Rattle.log_owner.specs.Opening.{Went}
use Rattle.log_owner.specs.Sending.{push_all}
use Rattle.group_map.specs.Groups as groups
use Rattle.node_base.specs.Beginning.{items_start, next_item, items_begin, work_at, items_wait, items_answer, answers_unanswered}
use Rattle.node_base.specs.declared.effects.Effect.{Effect}
use Rattle.node_base.specs.declared.effects.Effect.TheVariants.{Answer as Answers}
use Rattle.node_base.specs.declared.items.Items.{Items}
use Rattle.node_base.specs.declared.peers.Peers.{Peers}
use Rattle.node_base.specs.Effects.{packets_of, acts_of}
use Rattle.node_base.specs.Nodes.{peers_of}
use Rattle.node_base.specs.Shape.{is_well_formed}
use Rattle.version_model.specs.declared.answer.Answer.{Answer}
use Rattle.version_model.specs.declared.answer.Answer.TheVariants as answer
use Rattle.version_model.specs.declared.work.Work.{Work}
use Rattle.version_model.specs.declared.work.Work.TheVariants as work
use Rattle.wire_msg.specs.declared.packet.Do.{Do}
use Rattle.wire_msg.specs.declared.packet.Do.TheVariants.{Begin, Deliver, Tick}
use Rattle.wire_msg.specs.declared.packet.Packet.{Packet}
use Rattle.wire_msg.specs.NodeStep.{NodeStep}
use Rattle.xfs_base.specs.declared.node.NodeId.TheVariants.{Cleaner as TheCleaner}
use Rattle.xfs_base.specs.declared.setup.Setup.{Setup}
use Rattle.xfs_base.specs.Limits.{u32_end}
use Rattle.xfs_base.specs.Steps.{Stepped, still, saying}
use Rattle.cleaner_node.specs.declared.cleaner.Cleaner.{Cleaner}
use Rattle.cleaner_node.specs.declared.cleaner.Phase.{Phase}
use Rattle.cleaner_node.specs.declared.cleaner.Phase.TheVariants.{Down, Opening, Serving}
use Rattle.cleaner_node.specs.declared.cleaner.Wish.{Wish}
use Rattle.cleaner_node.specs.declared.cleaner.Wish.TheVariants.{Crash, Restart, Clean}

-- the phase of the cleaner after an event, and what the event has it do
abbrev pub Went_to : Type 0
Went_to = Stepped Phase Effect

-- whether the cleaner serves: it neither is down nor opens its log
abbrev pub is_serving : Phase → Bool
is_serving (Down kept) = false
is_serving (Opening kept o) = false
is_serving (Serving e) = true

-- what a cleaner has that opens its log
abbrev pub opening_of : Phase → Option (Lasting × openings.Opening)
opening_of (Down kept) = None
opening_of (Opening kept o) = Some (kept, o)
opening_of (Serving e) = None

-- it serves on
abbrev pub serves_on : Done → Went_to
serves_on d = record { state = Serving d.state; outs = d.outs }

-- ---- the start

abbrev pub first_life : List Work → Lasting
first_life works = record { inc = 1; questions = record { last = 0 }; items = items_start works }

-- the cleaner at the start of a run: its log is empty
abbrev pub cleaner_start : Setup → List Work → Cleaner
cleaner_start setup works =
    record {
      peers = peers_of setup;
      phase = Serving (emptying_start (first_life works) setup.managers (groups.group_map_start setup.servers setup.groups));
    }

-- ---- crash and restart

-- Crash: the item that is open is cut, and all is lost but what outlives it.
unfoldable pub crash : Lasting → ℕ → Went_to
crash l number =
    record {
      state = Down (record l { items = items_answer l.items });
      outs = answers_unanswered l.items.unanswered answer.Cut ++ Answers number answer.Done ∷ [];
    }

-- the next incarnation, whose restart is not answered yet
abbrev pub next_life : Lasting → ℕ → Lasting
next_life l number = record l { inc = if nat_lt l.inc u32_end then l.inc + 1 else l.inc; items = items_wait l.items number }

abbrev pub owner_of : Lasting → Owner
owner_of l = record { log = cleaner_log; inc = l.inc }

-- ---- the end of an opening

-- all slots are told of the log, and the restart is answered
abbrev pub say_back : Emptying → Done
say_back e =
    record {
      state = record e { lasting = record e.lasting { items = items_answer e.lasting.items } };
      outs = push_all e.promised.managers e.feed ++ answers_unanswered e.lasting.items.unanswered answer.Done;
    }

-- the log is open
abbrev pub back : Lasting → Opened → Went_to
back l o = serves_on (say_back (emptying_back l o))

unfoldable pub after_opening : Lasting → Progress → Went_to
after_opening l (progress.Opening o) = still (Opening l o)
after_opening l (progress.Opened o) = back l o
after_opening l (progress.Lost seg) =
    record { state = Down (record l { items = items_answer l.items }); outs = answers_unanswered l.items.unanswered (answer.Lost seg) }

abbrev pub opened_on : Lasting → Went → Went_to
opened_on l w = saying w.effects (after_opening (record l { questions = w.questions }) w.progress)

-- Restart: the log is opened again, as a client opens its log.
abbrev pub restart_in : ℕ → Lasting → Went_to
restart_in servers l =
    let q = (opening.on_start (owner_of l) servers l.questions).questions in
    record {
      state = Opening (record l { questions = q }) (opening.at_first (owner_of l) servers l.questions);
      outs = (opening.on_start (owner_of l) servers l.questions).effects;
    }

unfoldable pub restart : ℕ → Lasting → ℕ → Went_to
restart servers l number = restart_in servers (next_life l number)

-- ---- the next item begins

abbrev pub wish_in : Work → Wish
wish_in (work.Crash node) = Crash
wish_in (work.Restart node) = Restart
wish_in (work.Clean count) = Clean count
wish_in _ = Clean 0

abbrev pub wish_of : Option Work → Wish
wish_of None = Clean 0
wish_of (Some asked) = wish_in asked

abbrev pub cleaner_answer : Phase → ℕ → Answer → Went_to
cleaner_answer phase number a = record { state = phase; outs = Answers number a ∷ [] }

abbrev pub down_wishes : ℕ → Lasting → ℕ → Wish → Went_to
down_wishes servers l number Restart = restart servers l number
down_wishes servers l number Crash = cleaner_answer (Down l) number answer.Down
down_wishes servers l number (Clean count) = cleaner_answer (Down l) number answer.Down

abbrev pub opening_wishes : Lasting → openings.Opening → ℕ → Wish → Went_to
opening_wishes l o number Crash = crash l number
opening_wishes l o number Restart = cleaner_answer (Opening l o) number answer.Up
opening_wishes l o number (Clean count) = cleaner_answer (Opening l o) number answer.Down

abbrev pub serving_wishes : Emptying → ℕ → Wish → Went_to
serving_wishes e number Crash = crash e.lasting number
serving_wishes e number Restart = cleaner_answer (Serving e) number answer.Up
serving_wishes e number (Clean count) = serves_on (on_clean e number count)

abbrev pub lasting_of : Phase → Lasting
lasting_of (Down l) = l
lasting_of (Opening l o) = l
lasting_of (Serving e) = e.lasting

abbrev pub begun_life : Lasting → Lasting
begun_life l = record l { items = items_begin l.items }

abbrev pub wish_at : Items → ℕ → Wish
wish_at items number = wish_of (work_at items number)

abbrev pub down_at : ℕ → Lasting → Option ℕ → Went_to
down_at servers l None = still (Down l)
down_at servers l (Some number) = down_wishes servers l number (wish_at l.items number)

abbrev pub opening_at : Lasting → openings.Opening → Option ℕ → Went_to
opening_at l o None = still (Opening l o)
opening_at l o (Some number) = opening_wishes l o number (wish_at l.items number)

abbrev pub serving_at : Emptying → Option ℕ → Went_to
serving_at e None = still (Serving e)
serving_at e (Some number) = serving_wishes e number (wish_at e.lasting.items number)

abbrev pub begin_down : ℕ → Lasting → Went_to
begin_down servers l = down_at servers (begun_life l) (next_item l.items)

abbrev pub begin_opening : Lasting → openings.Opening → Went_to
begin_opening l o = opening_at (begun_life l) o (next_item l.items)

abbrev pub begin_serving : Emptying → Went_to
begin_serving e = serving_at (record e { lasting = begun_life e.lasting }) (next_item e.lasting.items)

-- Begin
unfoldable pub on_begin : ℕ → Phase → Went_to
on_begin servers (Down l) = begin_down servers l
on_begin servers (Opening l o) = begin_opening l o
on_begin servers (Serving e) = begin_serving e

-- ---- packets and time

-- a cleaner that is down takes no packet
unfoldable pub cleaner_hear : Phase → Packet → Went_to
cleaner_hear (Down l) packet = still (Down l)
cleaner_hear (Opening l o) packet = opened_on l (opening.opening_take o l.questions packet)
cleaner_hear (Serving e) packet = serves_on (on_packet e packet)

unfoldable pub on_deliver : Peers → Phase → Packet → Went_to
on_deliver peers phase packet = if is_well_formed peers packet then cleaner_hear phase packet else still phase

unfoldable pub on_time : Phase → Went_to
on_time (Down l) = still (Down l)
on_time (Opening l o) = opened_on l (opening.on_tick o l.questions)
on_time (Serving e) = serves_on (on_tick e)

abbrev pub happens : Peers → Phase → Do → Went_to
happens peers phase Begin = on_begin peers.servers phase
happens peers phase (Deliver packet) = on_deliver peers phase packet
happens peers phase Tick = on_time phase

-- ---- the transition

-- each counter is at least 65,536 below its end
abbrev pub phase_has_room : Phase → Bool
phase_has_room (Down l) = lasting_has_room l
phase_has_room (Opening l o) = lasting_has_room l && opening.opening_has_room o
phase_has_room (Serving e) = emptying_has_room e

-- the event is taken where each counter is far from its end
abbrev pub takes : Peers → Phase → Do → Went_to
takes peers phase what = if phase_has_room phase then happens peers phase what else still phase

abbrev pub seen : Cleaner → Went_to → NodeStep Cleaner
seen cleaner w = record { node = record cleaner { phase = w.state }; packets = packets_of TheCleaner w.outs; acts = acts_of TheCleaner w.outs }

abbrev pub cleaner_step : Cleaner → Do → NodeStep Cleaner
cleaner_step cleaner what = seen cleaner (takes cleaner.peers cleaner.phase what)
