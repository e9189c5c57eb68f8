-- What an event makes of a client.
use Rattle.std.specs.Prelude.{ℕ, Bool, true, false, ◌&&◌, if◌then◌else◌, [], ◌∷◌, ◌++◌, Option, Some, None}
use Rattle.client_node.specs.declared.beginning.Wish.TheVariants as wish
use Rattle.client_node.specs.declared.beginning.Wish.{Wish}
use Rattle.client_node.specs.declared.client.Client.{Client}
use Rattle.client_node.specs.declared.phase.Phase.TheVariants.{Down, Opening, Serving as Serves}
use Rattle.client_node.specs.declared.phase.Phase.{Phase}
use Rattle.client_node.specs.Crash.{falls}
use Rattle.client_serving.specs.declared.lasting.Lasting.{Lasting}
use Rattle.client_serving.specs.declared.serving.Serving.{Serving}
use Rattle.client_running.specs.Opens.{opens}
use Rattle.client_serving.specs.Lasting.{live_on}
use Rattle.client_serving.specs.Packets.{serving_take, on_tick}
use Rattle.client_node.specs.Room.{serving_has_room}
use Rattle.client_running.specs.Running.{run}
use Rattle.client_serving.specs.Sends.{Done}
use Rattle.client_node.specs.Serving.{serves_again}
use Rattle.log_owner.specs.declared.ended.Owner.{Owner}
use Rattle.log_owner.specs.declared.opened.Opened.{Opened}
use Rattle.log_owner.specs.declared.opened.Progress.{Progress}
use Rattle.log_owner.specs.declared.opened.Progress.TheVariants as progress
use Rattle.log_owner.specs.declared.opening.Opening as openings
use Rattle.log_owner.specs.Opening as opening
use Rattle.log_owner.specs.Opening.{Went}
use Rattle.log_owner.specs.Sending.{push_all}
use Rattle.node_base.specs.Beginning.{next_item, items_begin, work_at, items_answer, answers_unanswered}
use Rattle.node_base.specs.declared.effects.Effect.{Effect}
use Rattle.node_base.specs.declared.effects.Effect.TheVariants.{Answer as Answers, Does}
use Rattle.node_base.specs.declared.peers.Peers.{Peers}
use Rattle.node_base.specs.Effects.{packets_of, acts_of}
use Rattle.node_base.specs.Room.{has_room}
use Rattle.node_base.specs.Shape.{is_well_formed}
use Rattle.version_model.specs.declared.act.Act.TheVariants.{Back}
use Rattle.version_model.specs.declared.answer.Answer.{Answer}
use Rattle.version_model.specs.declared.answer.Answer.TheVariants as answer
use Rattle.version_model.specs.declared.work.Work.{Work}
use Rattle.version_model.specs.declared.work.Work.TheVariants as work
use Rattle.wire_msg.specs.declared.packet.Do.{Do}
use Rattle.wire_msg.specs.declared.packet.Do.TheVariants.{Begin, Deliver, Tick}
use Rattle.wire_msg.specs.declared.packet.Packet.{Packet}
use Rattle.wire_msg.specs.NodeStep.{NodeStep}
use Rattle.xfs_base.specs.declared.node.NodeId.TheVariants.{Client as AClient}
use Rattle.xfs_base.specs.Steps.{Stepped, still, saying}

-- whether a client serves: it neither is down nor opens its log
abbrev pub is_serving : Phase → Bool
is_serving (Down l) = false
is_serving (Opening l o) = false
is_serving (Serves s) = true

-- the phase of a client after an event, and what the event has it do
abbrev pub Went_to : Type 0
Went_to = Stepped Phase Effect

-- ---- crash

-- Crash: the item that is open is cut, and all is lost but what outlives it.
abbrev pub cut : Lasting → ℕ → Went_to
cut l number =
    record {
      state = Down (record l { items = items_answer l.items });
      outs = answers_unanswered l.items.unanswered answer.Cut ++ Answers number answer.Done ∷ [];
    }

-- ---- restart

abbrev pub owner_of : Lasting → Owner
owner_of l = record { log = record { 0 = l.number }; inc = l.inc }

-- Restart: the log is opened again, by a new question for the maps.
abbrev pub restart : ℕ → Lasting → Went_to
restart servers l =
    let w = opening.on_start (owner_of l) servers l.questions in
    record { state = Opening (record l { questions = w.questions }) (opening.at_first (owner_of l) servers l.questions); outs = w.effects }

-- ---- the end of an opening

abbrev pub served : Lasting → ℕ → Opened → Serving
served l capacity o = serves_again (record l { items = items_answer l.items }) capacity o.maps o.promised o.log o.feed

-- Back: the client serves again, and tells all slots of its log.
abbrev pub back : Lasting → ℕ → Opened → Went_to
back l capacity o =
    record {
      state = Serves (served l capacity o);
      outs = Does (Back l.number o.chain) ∷ push_all o.promised.managers o.feed ++ answers_unanswered l.items.unanswered answer.Done;
    }

abbrev pub phase_after : Lasting → ℕ → Progress → Went_to
phase_after l capacity (progress.Opening o) = still (Opening l o)
phase_after l capacity (progress.Opened o) = back l capacity o
phase_after l capacity (progress.Lost seg) =
    record { state = Down (record l { items = items_answer l.items }); outs = answers_unanswered l.items.unanswered (answer.Lost seg) }

abbrev pub opened_on : Lasting → ℕ → Went → Went_to
opened_on l capacity w = saying w.effects (phase_after (record l { questions = w.questions }) capacity w.progress)

-- ---- the next item begins

abbrev pub answers : Phase → ℕ → Answer → Went_to
answers phase number a = record { state = phase; outs = Answers number a ∷ [] }

abbrev pub serves_on : Done → Went_to
serves_on d = record { state = Serves d.state; outs = d.outs }

abbrev pub wish_of : Option Work → Wish
wish_of None = wish.Call
wish_of (Some (work.Crash node)) = wish.Crash
wish_of (Some (work.Restart node)) = wish.Restart
wish_of (Some other) = wish.Call

-- what an item asks for
abbrev pub wish_at : Lasting → ℕ → Wish
wish_at l number = wish_of (work_at l.items number)

abbrev pub down_begins : ℕ → Lasting → ℕ → Wish → Went_to
down_begins servers l number wish.Restart = restart servers (live_on l number)
down_begins servers l number wish.Crash = answers (Down l) number answer.Down
down_begins servers l number wish.Call = answers (Down l) number answer.Down

abbrev pub opening_begins : Lasting → openings.Opening → ℕ → Wish → Went_to
opening_begins l o number wish.Crash = cut l number
opening_begins l o number wish.Restart = answers (Opening l o) number answer.Up
opening_begins l o number wish.Call = answers (Opening l o) number answer.Down

-- what it may lose is acted, and then it is down
abbrev pub serving_crashes : Serving → ℕ → Went_to
serving_crashes s number = saying (falls s ∷ []) (cut s.lasting number)

abbrev pub serving_begins : Serving → ℕ → Wish → Went_to
serving_begins s number wish.Crash = serving_crashes s number
serving_begins s number wish.Restart = answers (Serves s) number answer.Up
serving_begins s number wish.Call = serves_on (opens s number)

abbrev pub lasting_of : Phase → Lasting
lasting_of (Down l) = l
lasting_of (Opening l o) = l
lasting_of (Serves s) = s.lasting

-- what a client has that opens its log
abbrev pub opening_of : Phase → Option (Lasting × openings.Opening)
opening_of (Down l) = None
opening_of (Opening l o) = Some (l, o)
opening_of (Serves s) = None

-- the phase, once its next item is begun
abbrev pub with_begun : Phase → Phase
with_begun (Down l) = Down (record l { items = items_begin l.items })
with_begun (Opening l o) = Opening (record l { items = items_begin l.items }) o
with_begun (Serves s) = Serves (record s { lasting = record s.lasting { items = items_begin s.lasting.items } })

abbrev pub item_begins : ℕ → Phase → ℕ → Wish → Went_to
item_begins servers (Down l) number wish = down_begins servers l number wish
item_begins servers (Opening l o) number wish = opening_begins l o number wish
item_begins servers (Serves s) number wish = serving_begins s number wish

abbrev pub begins_item : ℕ → Phase → Option ℕ → Went_to
begins_item servers phase None = still phase
begins_item servers phase (Some number) = (let p = with_begun phase in item_begins servers p number (wish_at (lasting_of p) number))

-- Begin
unfoldable pub on_begin : ℕ → Phase → Went_to
on_begin servers phase = begins_item servers phase (next_item (lasting_of phase).items)

-- ---- packets and time

-- the open call is looked at once, at the end of the event
abbrev pub then_runs : Done → Went_to
then_runs d = serves_on (saying d.outs (run d.state))

unfoldable pub on_deliver : ℕ → Phase → Packet → Went_to
on_deliver capacity (Down l) packet = still (Down l)
on_deliver capacity (Opening l o) packet = opened_on l capacity (opening.opening_take o l.questions packet)
on_deliver capacity (Serves s) packet = then_runs (serving_take s packet)

unfoldable pub client_tick : ℕ → Phase → Went_to
client_tick capacity (Down l) = still (Down l)
client_tick capacity (Opening l o) = opened_on l capacity (opening.on_tick o l.questions)
client_tick capacity (Serves s) = then_runs (on_tick s)

-- a packet that is not well formed is dropped
abbrev pub client_deliver : Peers → ℕ → Phase → Packet → Went_to
client_deliver peers capacity phase packet = if is_well_formed peers packet then on_deliver capacity phase packet else still phase

-- what an event makes of a phase
abbrev pub on_event : Peers → ℕ → Phase → Do → Went_to
on_event peers capacity phase Begin = on_begin peers.servers phase
on_event peers capacity phase (Deliver packet) = client_deliver peers capacity phase packet
on_event peers capacity phase Tick = client_tick capacity phase

abbrev pub happens : Client → Do → Went_to
happens c what = on_event c.peers c.cache c.phase what

-- ---- the ends of counters

abbrev pub phase_has_room : Phase → Bool
phase_has_room (Down l) = true
phase_has_room (Opening l o) = opening.opening_has_room o
phase_has_room (Serves s) = serving_has_room s

-- each counter is at least 65,536 below its end
abbrev pub client_has_room : Client → Bool
client_has_room c = has_room (lasting_of c.phase).inc && (has_room (lasting_of c.phase).questions.last && phase_has_room c.phase)

-- ---- the transition

abbrev pub stepped : Client → Went_to → NodeStep Client
stepped c w =
    record {
      node = record c { phase = w.state };
      packets = packets_of (AClient (lasting_of c.phase).number) w.outs;
      acts = acts_of (AClient (lasting_of c.phase).number) w.outs;
    }

-- an event is taken; where a counter isn't at least 65,536 below its end, it changes nothing
abbrev pub takes : Client → Do → Went_to
takes c what = if client_has_room c then happens c what else still c.phase

-- what an event makes of a client
abbrev pub client_step : Client → Do → NodeStep Client
client_step c what = stepped c (takes c what)
