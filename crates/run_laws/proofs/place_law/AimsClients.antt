-- What each event makes of a client: its reading is of the place of its fetch.
use Rattle.std.proofs.Common.{ℕ, Option, Some, None, is_some, [], ◌∷◌, ◌≡◌}
use Rattle.client_node.specs.declared.client.Client.{Client}
use Rattle.client_node.specs.declared.phase.Phase.TheVariants.{Down, Opening, Serving as Serves}
use Rattle.client_node.specs.declared.phase.Phase.{Phase}
use Rattle.client_node.specs.Phases.{Went_to, phase_after, opened_on, wish_of, down_begins, opening_begins, serving_begins, lasting_of, begins_item, on_begin, on_deliver, client_tick, client_deliver, happens, client_has_room}
use Rattle.client_call.specs.declared.call.Going.{Going}
use Rattle.client_serving.specs.declared.lasting.Lasting.{Lasting}
use Rattle.client_serving.specs.declared.serving.Serving.{Serving}
use Rattle.client_running.specs.Opens.{begin_call, call_at, opens}
use Rattle.client_running.specs.Running.{running_go_on}
use Rattle.client_serving.specs.Sends.{Done, gives}
use Rattle.log_owner.specs.declared.opened.Progress.{Progress}
use Rattle.log_owner.specs.declared.opened.Progress.TheVariants as progress
use Rattle.log_owner.specs.declared.opening.Opening as openings
use Rattle.log_owner.specs.Opening as opening
use Rattle.log_owner.specs.Opening.{Went}
use Rattle.node_base.specs.Beginning.{next_item, items_begin, work_at, items_wait}
use Rattle.node_base.specs.declared.effects.Effect.TheVariants.{Answer as Answers}
use Rattle.node_base.specs.declared.peers.Peers.{Peers}
use Rattle.node_base.specs.Shape.{is_well_formed}
use Rattle.version_model.specs.declared.answer.Answer.TheVariants as answer
use Rattle.version_model.specs.declared.work.Work.{Work}
use Rattle.version_model.specs.declared.work.Work.TheVariants as work
use Rattle.wire_msg.specs.declared.packet.Do.{Do}
use Rattle.wire_msg.specs.declared.packet.Do.TheVariants.{Begin, Deliver, Tick}
use Rattle.wire_msg.specs.declared.packet.Packet.{Packet}
use Rattle.xfs_base.proofs.Booleans.{by_test}
use Rattle.xfs_base.specs.Steps.{still}
use Rattle.run_laws.specs.place_law.Fetches.{ClientsKeepSo, ClientsStartSo, PhaseReadsItsFetch, ReadsItsFetch}
use Rattle.run_laws.proofs.place_law.Aims.{its_none}
use Rattle.run_laws.proofs.place_law.AimsReads.{Aimed, AnyGoingNew, begun_new}
use Rattle.run_laws.proofs.place_law.AimsServing as serving

abbrev Goes : Went_to → Type 0
Goes w = PhaseReadsItsFetch w.state

aimed_so : (s : Serving) → ReadsItsFetch s → Aimed None s
aimed_so s h = record { other = its_none s.tokens; own = h }

-- ---- openings

phase_after_so : (l : Lasting) (capacity : ℕ) (p : Progress) → Goes (phase_after l capacity p)
phase_after_so l capacity (progress.Opening o) = tt
phase_after_so l capacity (progress.Opened o) = λ r at f fact block fetch. absurd (let clash : None ≡ Some r = fact in cc)
phase_after_so l capacity (progress.Lost seg) = tt

opened_on_so : (l : Lasting) (capacity : ℕ) (w : Went) → Goes (opened_on l capacity w)
opened_on_so l capacity w = phase_after_so (record l { questions = w.questions }) capacity w.progress

-- ---- the next item begins

begins_so : (s : Serving) (number : ℕ) (going : Option Going) → AnyGoingNew going → Aimed None s → Aimed None (begin_call s number going).state
begins_so s number None fact h = h
begins_so s number (Some x) fact h =
    let t : Serving = record s { lasting = record s.lasting { items = items_wait s.lasting.items number } } in
    serving.run_so (running_go_on t x).state (serving.running_go_on_so t x fact (record { other = h.other; own = h.own }))

call_begun : (s : Serving) (number : ℕ) (wanted : Option Work) → AnyGoingNew (call_at s number wanted)
call_begun s number None = tt
call_begun s number (Some w) = begun_new w number s.lasting.number

opens_so : (s : Serving) (number : ℕ) → Aimed None s → Aimed None (opens s number).state
unfolding opens
opens_so s number h =
    by_test (λ (d : Done). Aimed None d.state) (is_some s.lasting.items.unanswered) (gives s (Answers number answer.Busy ∷ []))
    (begin_call s number (call_at s number (work_at s.lasting.items number))) (λ _. h)
    (λ _. begins_so s number (call_at s number (work_at s.lasting.items number)) (call_begun s number (work_at s.lasting.items number)) h)

down_so : (servers number : ℕ) (l : Lasting) (wanted : Option Work) → Goes (down_begins servers l number (wish_of wanted))
down_so servers number l (Some (work.Restart node)) = tt
down_so servers number l (Some _) = tt
down_so servers number l None = tt

opening_so : (l : Lasting) (o : openings.Opening) (number : ℕ) (wanted : Option Work) → Goes (opening_begins l o number (wish_of wanted))
opening_so l o number (Some (work.Crash node)) = tt
opening_so l o number (Some (work.Restart node)) = tt
opening_so l o number (Some _) = tt
opening_so l o number None = tt

serving_so : (s : Serving) (number : ℕ) (wanted : Option Work) → Aimed None s → Goes (serving_begins s number (wish_of wanted))
serving_so s number (Some (work.Crash node)) h = tt
serving_so s number (Some (work.Restart node)) h = h.own
serving_so s number (Some _) h = (opens_so s number h).own
serving_so s number None h = (opens_so s number h).own

item_so : (servers : ℕ) (p : Phase) (item : Option ℕ) → PhaseReadsItsFetch p → Goes (begins_item servers p item)
item_so servers p None h = h
item_so servers (Down l) (Some number) h = down_so servers number (record l { items = items_begin l.items }) (work_at (items_begin l.items) number)
item_so servers (Opening l o) (Some number) h = opening_so (record l { items = items_begin l.items }) o number (work_at (items_begin l.items) number)
item_so servers (Serves s) (Some number) h =
    let t : Serving = record s { lasting = record s.lasting { items = items_begin s.lasting.items } } in
    serving_so t number (work_at (items_begin s.lasting.items) number) (aimed_so t h)

-- ---- the events

on_begin_so : (servers : ℕ) (p : Phase) → PhaseReadsItsFetch p → Goes (on_begin servers p)
unfolding on_begin
on_begin_so servers p h = item_so servers p (next_item (lasting_of p).items) h

on_deliver_so : (capacity : ℕ) (p : Phase) (packet : Packet) → PhaseReadsItsFetch p → Goes (on_deliver capacity p packet)
unfolding on_deliver
on_deliver_so capacity (Down l) packet h = tt
on_deliver_so capacity (Opening l o) packet h = opened_on_so l capacity (opening.opening_take o l.questions packet)
on_deliver_so capacity (Serves s) packet h = (serving.packet_so s packet (aimed_so s h)).own

client_deliver_so : (peers : Peers) (capacity : ℕ) (p : Phase) (packet : Packet) → PhaseReadsItsFetch p → Goes (client_deliver peers capacity p packet)
client_deliver_so peers capacity p packet h =
    by_test Goes (is_well_formed peers packet) (on_deliver capacity p packet) (still p) (λ _. on_deliver_so capacity p packet h) (λ _. h)

client_tick_so : (capacity : ℕ) (p : Phase) → PhaseReadsItsFetch p → Goes (client_tick capacity p)
unfolding client_tick
client_tick_so capacity (Down l) h = tt
client_tick_so capacity (Opening l o) h = opened_on_so l capacity (opening.on_tick o l.questions)
client_tick_so capacity (Serves s) h = (serving.time_so s (aimed_so s h)).own

happens_so : (client : Client) (what : Do) → PhaseReadsItsFetch client.phase → Goes (happens client what)
happens_so client Begin h = on_begin_so client.peers.servers client.phase h
happens_so client (Deliver packet) h = client_deliver_so client.peers client.cache client.phase packet h
happens_so client Tick h = client_tick_so client.cache client.phase h

pub clients_keep_so : ClientsKeepSo
clients_keep_so client what h =
    by_test Goes (client_has_room client) (happens client what) (still client.phase) (λ _. happens_so client what h) (λ _. h)

pub clients_start_so : ClientsStartSo
clients_start_so number setup works = λ r at f fact block fetch. absurd (let clash : None ≡ Some r = fact in cc)
