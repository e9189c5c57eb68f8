-- A client that serves asks for its call: at the start, when it serves again, and after each event.
use Rattle.std.proofs.Common.{◌≡◌, ℕ, false, [], ◌∷◌, Option, Some, None, is_none, is_some, replicate, refl, sym, ap, subst}
use Rattle.client_node.specs.declared.client.Client.{Client}
use Rattle.client_node.specs.declared.phase.Phase.TheVariants.{Down, Opening, Serving as Serves}
use Rattle.client_node.specs.declared.phase.Phase.{Phase}
use Rattle.client_node.specs.Phases.{Went_to, phase_after, begins_item, client_has_room, client_deliver, down_begins, happens, item_begins, lasting_of, on_begin, on_deliver, client_tick, opened_on, opening_begins, served, serving_begins, wish_of, with_begun}
use Rattle.client_call.specs.declared.call.Going.{Going}
use Rattle.client_serving.specs.declared.lasting.Lasting.{Lasting}
use Rattle.client_serving.specs.declared.serving.Serving.{Serving}
use Rattle.client_running.specs.Opens.{begin_call, call_at, opens}
use Rattle.client_serving.specs.Lasting.{lasting_start}
use Rattle.client_serving.specs.Packets.{serving_take, on_tick}
use Rattle.client_running.specs.Running.{running_go_on}
use Rattle.client_serving.specs.Sends.{Done, gives}
use Rattle.client_node.specs.Serving.{serves_first}
use Rattle.group_map.specs.GroupMapState.{GroupMapState}
use Rattle.group_map.specs.Groups as groups
use Rattle.log_owner.specs.declared.opened.Opened.{Opened}
use Rattle.log_owner.specs.declared.opened.Progress.{Progress}
use Rattle.log_owner.specs.declared.opened.Progress.TheVariants as progress
use Rattle.log_owner.specs.declared.opening.Opening as openings
use Rattle.log_owner.specs.Opening as opening
use Rattle.log_owner.specs.Opening.{Went}
use Rattle.node_base.specs.Beginning.{items_begin, is_left, next_item, items_wait, work_at}
use Rattle.node_base.specs.declared.effects.Effect.TheVariants.{Answer as Answers}
use Rattle.node_base.specs.declared.items.Items.{Items}
use Rattle.node_base.specs.declared.peers.Peers.{Peers}
use Rattle.node_base.specs.Shape.{is_well_formed}
use Rattle.version_model.specs.declared.answer.Answer.TheVariants as answer
use Rattle.version_model.specs.declared.work.Work.{Work}
use Rattle.version_model.specs.declared.work.Work.TheVariants as work
use Rattle.wire_msg.specs.declared.packet.Do.{Do}
use Rattle.wire_msg.specs.declared.packet.Do.TheVariants.{Begin, Deliver, Tick}
use Rattle.wire_msg.specs.declared.packet.Packet.{Packet}
use Rattle.xfs_base.specs.Steps.{still}
use Rattle.xfs_base.proofs.Booleans.{by_test, contrary}
use Rattle.xfs_base.specs.Limits.{slot_count}
use Rattle.node_slots.specs.node_tie.Asks.{AsksForCall, needed}
use Rattle.node_slots.specs.node_tie.AskingEvents.{EventsKeepAsking, PhaseAsks, StartsAsking}
use Rattle.node_slots.proofs.node_tie.AsksInputs.{AsksAs, tokens_start-asks}
use Rattle.node_slots.proofs.node_tie.AsksFrames.{asks_as, asks_none, kept, open_in}
use Rattle.node_slots.proofs.node_tie.AsksPackets.{serving_take-asks, on_tick-asks}
use Rattle.node_slots.proofs.node_tie.AsksCalls.{running_go_on-asks, run-asks}

abbrev WentAsks : Went_to → Type 0
WentAsks w = PhaseAsks w.state

-- ---- a client that begins to serve asks for nothing, and has no call

pub serves_first-asks : (l : Lasting) (managers capacity : ℕ) (maps : GroupMapState) → AsksForCall (serves_first l managers capacity maps)
serves_first-asks l managers capacity maps = asks_none (serves_first l managers capacity maps) (tokens_start-asks None 1 (replicate slot_count 1)) (λ none. refl)

pub first_asks : StartsAsking
first_asks number setup works = serves_first-asks (lasting_start number works) setup.managers setup.cache (groups.group_map_start setup.servers setup.groups)

pub served-asks : (l : Lasting) (capacity : ℕ) (o : Opened) → AsksForCall (served l capacity o)
served-asks l capacity o = asks_none (served l capacity o) (tokens_start-asks None l.inc o.promised.epochs) (λ none. refl)

phase_after-asks : (l : Lasting) (capacity : ℕ) (p : Progress) → WentAsks (phase_after l capacity p)
phase_after-asks l capacity (progress.Opening o) = tt
phase_after-asks l capacity (progress.Opened o) = served-asks l capacity o
phase_after-asks l capacity (progress.Lost seg) = tt

opened_on-asks : (l : Lasting) (capacity : ℕ) (w : Went) → WentAsks (opened_on l capacity w)
opened_on-asks l capacity w = phase_after-asks (record l { questions = w.questions }) capacity w.progress

-- ---- the next item begins

is_none_at : (o : Option ℕ) → is_some o ≡ false → o ≡ None
is_none_at None h = refl
is_none_at (Some number) h = contrary (sym h)

begin_call-asks : (s : Serving) (number : ℕ) (g : Option Going) → AsksForCall s → s.call ≡ None → AsksForCall (begin_call s number g).state
begin_call-asks s number None p closed = p
begin_call-asks s number (Some going) p closed =
    let t : Serving = record s { lasting = record s.lasting { items = items_wait s.lasting.items number } } in
    let d : Done = running_go_on t going in
    let a : AsksAs None s.tokens = subst (λ c. AsksAs (needed c) s.tokens) closed (asks_as s p) in
    run-asks d.state (running_go_on-asks t going a closed (λ none. contrary (ap is_none none)))

opens-asks : (s : Serving) (number : ℕ) → AsksForCall s → AsksForCall (opens s number).state
unfolding opens
opens-asks s number p =
    by_test (λ (d : Done). AsksForCall d.state) (is_some (open_in s)) (gives s (Answers number answer.Busy ∷ []))
    (begin_call s number (call_at s number (work_at s.lasting.items number)))
    (λ t. p) (λ t. begin_call-asks s number (call_at s number (work_at s.lasting.items number)) p (p.waits (is_none_at (open_in s) t)))

items_begin-waits : (items : Items) → (items_begin items).unanswered ≡ items.unanswered
items_begin-waits items = by_test (λ (i : Items). i.unanswered ≡ items.unanswered) (is_left items) _ items (λ t. refl) (λ t. refl)

with_begun-asks : (phase : Phase) → PhaseAsks phase → PhaseAsks (with_begun phase)
with_begun-asks (Down l) p = tt
with_begun-asks (Opening l o) p = tt
with_begun-asks (Serves s) p =
    kept s (record s { lasting = record s.lasting { items = items_begin s.lasting.items } })
    (λ a. record { asks = a; call = refl; item = items_begin-waits s.lasting.items }) p

down_begins-asks : (servers : ℕ) (l : Lasting) (number : ℕ) (w : Option Work) → WentAsks (down_begins servers l number (wish_of w))
down_begins-asks servers l number None = tt
down_begins-asks servers l number (Some (work.Crash node)) = tt
down_begins-asks servers l number (Some (work.Restart node)) = tt
down_begins-asks servers l number (Some other) = tt

opening_begins-asks : (l : Lasting) (o : openings.Opening) (number : ℕ) (w : Option Work) → WentAsks (opening_begins l o number (wish_of w))
opening_begins-asks l o number None = tt
opening_begins-asks l o number (Some (work.Crash node)) = tt
opening_begins-asks l o number (Some (work.Restart node)) = tt
opening_begins-asks l o number (Some other) = tt

serving_begins-asks : (s : Serving) (number : ℕ) (w : Option Work) → AsksForCall s → WentAsks (serving_begins s number (wish_of w))
serving_begins-asks s number None p = opens-asks s number p
serving_begins-asks s number (Some (work.Crash node)) p = tt
serving_begins-asks s number (Some (work.Restart node)) p = p
serving_begins-asks s number (Some other) p = opens-asks s number p

item_begins-asks : (servers : ℕ) (phase : Phase) (number : ℕ) (w : Option Work) → PhaseAsks phase → WentAsks (item_begins servers phase number (wish_of w))
item_begins-asks servers (Down l) number w p = down_begins-asks servers l number w
item_begins-asks servers (Opening l o) number w p = opening_begins-asks l o number w
item_begins-asks servers (Serves s) number w p = serving_begins-asks s number w p

begins_item-asks : (servers : ℕ) (phase : Phase) (number : Option ℕ) → PhaseAsks phase → WentAsks (begins_item servers phase number)
begins_item-asks servers phase None p = p
begins_item-asks servers phase (Some number) p =
    (let b : Phase = with_begun phase in item_begins-asks servers b number (work_at (lasting_of b).items number) (with_begun-asks phase p))

on_begin-asks : (servers : ℕ) (phase : Phase) → PhaseAsks phase → WentAsks (on_begin servers phase)
unfolding on_begin
on_begin-asks servers phase p = begins_item-asks servers phase (next_item (lasting_of phase).items) p

-- ---- packets and time

on_deliver-asks : (capacity : ℕ) (phase : Phase) (packet : Packet) → PhaseAsks phase → WentAsks (on_deliver capacity phase packet)
unfolding on_deliver
on_deliver-asks capacity (Down l) packet p = tt
on_deliver-asks capacity (Opening l o) packet p = opened_on-asks l capacity (opening.opening_take o l.questions packet)
on_deliver-asks capacity (Serves s) packet p = run-asks (serving_take s packet).state (serving_take-asks s p packet)

client_tick-asks : (capacity : ℕ) (phase : Phase) → PhaseAsks phase → WentAsks (client_tick capacity phase)
unfolding client_tick
client_tick-asks capacity (Down l) p = tt
client_tick-asks capacity (Opening l o) p = opened_on-asks l capacity (opening.on_tick o l.questions)
client_tick-asks capacity (Serves s) p = run-asks (on_tick s).state (on_tick-asks s p)

client_deliver-asks : (peers : Peers) (capacity : ℕ) (phase : Phase) (packet : Packet) → PhaseAsks phase → WentAsks (client_deliver peers capacity phase packet)
client_deliver-asks peers capacity phase packet p =
    by_test WentAsks (is_well_formed peers packet) (on_deliver capacity phase packet) (still phase) (λ t. on_deliver-asks capacity phase packet p) (λ t. p)

happens-asks : (client : Client) (what : Do) → PhaseAsks client.phase → WentAsks (happens client what)
happens-asks client Begin p = on_begin-asks client.peers.servers client.phase p
happens-asks client (Deliver packet) p = client_deliver-asks client.peers client.cache client.phase packet p
happens-asks client Tick p = client_tick-asks client.cache client.phase p

-- each event keeps that a client that serves asks for its call
pub phase_asks : EventsKeepAsking
phase_asks client what p = by_test WentAsks (client_has_room client) (happens client what) (still client.phase) (λ t. happens-asks client what p) (λ t. p)
