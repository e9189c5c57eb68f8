-- What each event makes of a client: what it reads came, and its maps are as said; and what its reading ends with is joined of what came.
use Rattle.std.proofs.Common.{ℕ, Option, Some, None, is_some, [], ◌∷◌}
use Rattle.client_node.specs.declared.client.Client.{Client}
use Rattle.client_node.specs.declared.phase.Phase.TheVariants.{Down, Opening, Serving as Serves}
use Rattle.client_node.specs.declared.phase.Phase.{Phase}
use Rattle.client_node.specs.Phases.{client_step, Went_to, phase_after, opened_on, wish_of, down_begins, opening_begins, serving_begins, lasting_of, begins_item, on_begin, on_deliver, client_tick, client_deliver, happens, client_has_room, takes}
use Rattle.client_call.specs.declared.call.Going.{Going}
use Rattle.client_call.specs.Reads.{reading_in}
use Rattle.client_serving.specs.declared.lasting.Lasting.{Lasting}
use Rattle.client_serving.specs.declared.serving.Serving.{Serving}
use Rattle.client_running.specs.Opens.{begin_call, call_at, opens}
use Rattle.client_running.specs.Running.{running_go_on}
use Rattle.client_serving.specs.Sends.{Done, gives}
use Rattle.log_owner.specs.declared.opened.Progress.{Progress}
use Rattle.log_owner.specs.declared.opened.Progress.TheVariants as progress
use Rattle.log_owner.specs.declared.opening.Opening as openings
use Rattle.log_owner.specs.Opening as opening
use Rattle.log_owner.specs.Opening.{Went}
use Rattle.node_base.specs.Beginning.{next_item, items_begin, work_at, items_wait}
use Rattle.node_base.specs.declared.effects.Effect.TheVariants.{Answer as Answers}
use Rattle.node_base.specs.declared.peers.Peers.{Peers}
use Rattle.node_base.specs.Shape.{is_well_formed}
use Rattle.version_model.specs.declared.answer.Answer.TheVariants as answer
use Rattle.version_model.specs.declared.work.Work.{Work}
use Rattle.version_model.specs.declared.work.Work.TheVariants as work
use Rattle.wire_msg.specs.declared.packet.Do.{Do}
use Rattle.wire_msg.specs.declared.packet.Do.TheVariants.{Begin, Deliver, Tick}
use Rattle.wire_msg.specs.declared.packet.Packet.{Packet}
use Rattle.xfs_base.proofs.Booleans.{by_test}
use Rattle.xfs_base.specs.Steps.{still}
use Rattle.node_tellings.specs.reading_tie.Arrivals.{answered_in, cut_by}
use Rattle.node_tellings.proofs.reading_tie.Arrivals.{BodyBrought, DoBrought}
use Rattle.node_tellings.specs.reading_tie.Came.{Came, Striped}
use Rattle.node_tellings.proofs.reading_tie.Came.{CameMore, StripedMore}
use Rattle.node_tellings.specs.reading_tie.ClientReads.{ServesSo, PhaseHolds, ClientHolds, ClientStarts, ClientHoldsRise, ClientEventsKeep, ClientsReadWhatCame}
use Rattle.node_tellings.proofs.reading_tie.Arriving.{do_brought, answered_more}
use Rattle.node_tellings.proofs.reading_tie.ServingWalk as serving
use Rattle.node_tellings.proofs.reading_tie.ServingWalk.{heard_reads}
use Rattle.client_serving.specs.Packets as packets
use Rattle.node_moves.proofs.client_walk.Calls as calls
use Rattle.node_moves.proofs.client_walk.Frames as steps
use Rattle.node_moves.proofs.client_walk.Laws.{Walk}
use Rattle.node_moves.proofs.client_walk.Packets as packets_go
use Rattle.node_moves.proofs.client_walk.Readings as readings
use Rattle.node_tellings.proofs.reading_tie.Openings as maps
use Rattle.node_tellings.proofs.reading_tie.Readings.{any_rises, maps_rise}

module _ (came : Came) (striped : Striped) where
  abbrev PhaseSo : Phase → Type 0
  PhaseSo p = PhaseHolds came striped p

  abbrev Goes : Went_to → Type 0
  Goes w = PhaseSo w.state

  -- ---- openings

  phase_after_so : (l : Lasting) (capacity : ℕ) (p : Progress) → maps.ProgressSo came striped p → Goes (phase_after l capacity p)
  phase_after_so l capacity (progress.Opening o) h = h
  phase_after_so l capacity (progress.Opened o) h = record { maps = h; reading = tt }
  phase_after_so l capacity (progress.Lost seg) h = tt

  opened_on_so : (l : Lasting) (capacity : ℕ) (w : Went) → maps.ProgressSo came striped w.progress → Goes (opened_on l capacity w)
  opened_on_so l capacity w h = phase_after_so (record l { questions = w.questions }) capacity w.progress h

  -- ---- the next item begins

  abbrev its_walk : Walk
  its_walk = serving.walk came striped

  -- what goes so by the walk stands
  gone : (d : Done) → steps.Goes steps.Any steps.Any (serving.At came striped) d → ServesSo came striped d.state
  gone d p = (steps.gone steps.Any (serving.At came striped) d p).0

  begins_so : (s : Serving) (number : ℕ) (going : Option Going) → readings.CallSo (serving.Known came striped) going → ServesSo came striped s
      → ServesSo came striped (begin_call s number going).state
  begins_so s number None fact h = h
  begins_so s number (Some x) fact h =
      let t : Serving = record s { lasting = record s.lasting { items = items_wait s.lasting.items number } } in
      gone (packets_go.and_runs its_walk (running_go_on t x)) (packets_go.runs_after its_walk (running_go_on t x)
      (calls.running_go_on_so its_walk t x fact h))

  call_begun : (s : Serving) (number : ℕ) (wanted : Option Work) → readings.CallSo (serving.Known came striped) (call_at s number wanted)
  call_begun s number None = tt
  call_begun s number (Some w) = readings.begun_so (serving.Known came striped) w number s.lasting.number

  opens_so : (s : Serving) (number : ℕ) → ServesSo came striped s → ServesSo came striped (opens s number).state
  unfolding opens
  opens_so s number h =
      by_test (λ (d : Done). ServesSo came striped d.state) (is_some s.lasting.items.unanswered) (gives s (Answers number answer.Busy ∷ []))
      (begin_call s number (call_at s number (work_at s.lasting.items number))) (λ _. h)
      (λ _. begins_so s number (call_at s number (work_at s.lasting.items number)) (call_begun s number (work_at s.lasting.items number)) h)

  down_so : (servers number : ℕ) (l : Lasting) (wanted : Option Work) → Goes (down_begins servers l number (wish_of wanted))
  down_so servers number l (Some (work.Restart node)) = tt
  down_so servers number l (Some _) = tt
  down_so servers number l None = tt

  opening_so : (l : Lasting) (o : openings.Opening) (number : ℕ) (wanted : Option Work) → PhaseSo (Opening l o)
      → Goes (opening_begins l o number (wish_of wanted))
  opening_so l o number (Some (work.Crash node)) h = tt
  opening_so l o number (Some (work.Restart node)) h = h
  opening_so l o number (Some _) h = h
  opening_so l o number None h = h

  serving_so : (s : Serving) (number : ℕ) (wanted : Option Work) → ServesSo came striped s → Goes (serving_begins s number (wish_of wanted))
  serving_so s number (Some (work.Crash node)) h = tt
  serving_so s number (Some (work.Restart node)) h = h
  serving_so s number (Some _) h = opens_so s number h
  serving_so s number None h = opens_so s number h

  item_so : (servers : ℕ) (p : Phase) (item : Option ℕ) → PhaseSo p → Goes (begins_item servers p item)
  item_so servers p None h = h
  item_so servers (Down l) (Some number) h = down_so servers number (record l { items = items_begin l.items }) (work_at (items_begin l.items) number)
  item_so servers (Opening l o) (Some number) h = opening_so (record l { items = items_begin l.items }) o number (work_at (items_begin l.items) number) h
  item_so servers (Serves s) (Some number) h =
      serving_so (record s { lasting = record s.lasting { items = items_begin s.lasting.items } }) number (work_at (items_begin s.lasting.items) number) h

  -- ---- the events

  on_begin_so : (servers : ℕ) (p : Phase) → PhaseSo p → Goes (on_begin servers p)
  unfolding on_begin
  on_begin_so servers p h = item_so servers p (next_item (lasting_of p).items) h

  on_deliver_so : (capacity : ℕ) (p : Phase) (packet : Packet) → BodyBrought came striped packet.from packet.body → PhaseSo p
      → Goes (on_deliver capacity p packet)
  unfolding on_deliver
  on_deliver_so capacity (Down l) packet fact h = tt
  on_deliver_so capacity (Opening l o) packet fact h =
      opened_on_so l capacity (opening.opening_take o l.questions packet) (maps.packet_so came striped o l.questions packet fact h)
  on_deliver_so capacity (Serves s) packet fact h =
      gone (packets_go.and_runs its_walk (packets.serving_take s packet))
      (packets_go.packet_so its_walk s packet (serving.hears came striped packet.from packet.body fact) h tt)

  client_deliver_so : (peers : Peers) (capacity : ℕ) (p : Phase) (packet : Packet) → BodyBrought came striped packet.from packet.body → PhaseSo p
      → Goes (client_deliver peers capacity p packet)
  client_deliver_so peers capacity p packet fact h =
      by_test Goes (is_well_formed peers packet) (on_deliver capacity p packet) (still p) (λ _. on_deliver_so capacity p packet fact h) (λ _. h)

  client_tick_so : (capacity : ℕ) (p : Phase) → PhaseSo p → Goes (client_tick capacity p)
  unfolding client_tick
  client_tick_so capacity (Down l) h = tt
  client_tick_so capacity (Opening l o) h = opened_on_so l capacity (opening.on_tick o l.questions) (maps.time_so came striped o l.questions h)
  client_tick_so capacity (Serves s) h =
      gone (packets_go.and_runs its_walk (packets.on_tick s)) (packets_go.time_so its_walk s h)

  happens_so : (client : Client) (what : Do) → DoBrought came striped what → PhaseSo client.phase → Goes (happens client what)
  happens_so client Begin fact h = on_begin_so client.peers.servers client.phase h
  happens_so client (Deliver packet) fact h = client_deliver_so client.peers client.cache client.phase packet fact h
  happens_so client Tick fact h = client_tick_so client.cache client.phase h

  takes_so : (client : Client) (what : Do) → DoBrought came striped what → PhaseSo client.phase → Goes (takes client what)
  takes_so client what fact h =
      by_test Goes (client_has_room client) (happens client what) (still client.phase) (λ _. happens_so client what fact h) (λ _. h)

  -- ---- of whatever came

  pub any_client_keeps : (client : Client) (what : Do) → ClientHolds came striped client → DoBrought came striped what
      → ClientHolds came striped (client_step client what).node
  any_client_keeps client what h fact = takes_so client what fact h

module _ (came later : Came) (striped more : Striped) (grows : CameMore came later) (widens : StripedMore striped more) where
  pub phase_rises : (p : Phase) → PhaseHolds came striped p → PhaseHolds later more p
  phase_rises (Down l) h = tt
  phase_rises (Opening l o) h = maps_rise came later striped more grows widens o.known.maps.groups h
  phase_rises (Serves s) h = record {
    maps = maps_rise came later striped more grows widens s.maps.groups h.maps;
    reading = any_rises came later striped more grows widens (reading_in s.call) h.reading;
  }

-- ---- the laws

pub client_starts : ClientStarts
client_starts packets to cuts number setup works known = record { maps = known; reading = tt }

pub client_rises : ClientHoldsRise
client_rises packets more to cuts client grows h =
    phase_rises (answered_in packets to) (answered_in more to) (cut_by cuts) (cut_by cuts) (answered_more packets more to grows)
    (λ id members parity fact. fact) client.phase h

pub client_keeps : ClientEventsKeep
client_keeps packets to cuts client what h fact = any_client_keeps (answered_in packets to) (cut_by cuts) client what h (do_brought packets to cuts what fact)

pub clients_read : ClientsReadWhatCame
clients_read packets to cuts s ask server told segment h fact e =
    heard_reads (answered_in packets to) (cut_by cuts) (reading_in s.call) s.maps.groups ask server told segment h.reading fact e
