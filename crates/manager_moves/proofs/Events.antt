-- Each event of a manager is made of moves: the one walk through all that can happen to it.
use Rattle.std.proofs.Common.{◌≡◌, ℕ, ◌==◌, true, false, List, [], ◌∷◌, Option, Some, None, refl, ap}
use Rattle.std.specs.List.{slice_get}
use Rattle.client_log.specs.declared.input.In.TheVariants as log_in
use Rattle.manager_node.specs.declared.phase.Phase.{Phase}
use Rattle.manager_node.specs.declared.phase.Phase.TheVariants.{Down, Waiting, Serving as Serves}
use Rattle.manager_node.specs.Events.{happens, manager_deliver, on_event, on_packet, on_time, on_waiting, on_welcome, takes_welcome}
use Rattle.manager_node.specs.Phases.{Went_to, begin_down, begin_serving, begin_waiting, crash, down_item, down_wish, lasting_of, phase_has_room, restart, serves, serving_item, serving_wish, waiting_item, waiting_wish, wish_at, with_begun}
use Rattle.manager_serving.specs.Checkpoints.{Done}
use Rattle.manager_serving.specs.declared.serving.Serving.{Serving}
use Rattle.manager_serving.specs.Serving as serving
use Rattle.manager_serving.specs.Serving.{again, ask_for_maps, asker_of, client_in, fed_log, on_body, on_check, on_deltas, on_fitting_news, on_found, on_gave, on_missing, on_news, on_report, on_tick, on_usage_ask, on_want, serving_hear, with_asker}
use Rattle.manager_slots.specs.declared.lasting.Lasting.{Lasting as Life}
use Rattle.manager_slots.specs.declared.slot_phase.SlotPhase.{SlotPhase}
use Rattle.manager_slots.specs.declared.slot_phase.SlotPhase.TheVariants as phase
use Rattle.manager_slots.specs.Slots.{fetch_of}
use Rattle.manager_slots.specs.SlotTable as table
use Rattle.manager_slots.specs.SlotTable.{all_slots, in_taken, put_asker, usage_in}
use Rattle.manager_slots.specs.Takeovers as takeovers
use Rattle.manager_slots.specs.Takeovers.{asker, outs_of}
use Rattle.manager_slots.specs.Tokens as tokens
use Rattle.log_owner.specs.Sending.{server_in}
use Rattle.node_base.specs.Beginning.{answers_unanswered, next_item, work_at}
use Rattle.node_base.specs.declared.effects.Effect.{Effect}
use Rattle.node_base.specs.declared.peers.Peers.{Peers}
use Rattle.node_base.specs.Known.{names_known_groups}
use Rattle.node_base.specs.Maps.{forgotten}
use Rattle.node_base.specs.Shape.{is_well_formed}
use Rattle.takeover.specs.declared.input.In.{In as TakeIn}
use Rattle.takeover.specs.declared.input.In.TheVariants as take_in
use Rattle.version_model.specs.declared.answer.Answer.TheVariants as answer
use Rattle.version_model.specs.declared.work.Work.{Work}
use Rattle.version_model.specs.declared.work.Work.TheVariants as work
use Rattle.wire_msg.specs.declared.body.Body.{Body}
use Rattle.wire_msg.specs.declared.body.Body.TheVariants as body
use Rattle.wire_msg.specs.declared.cleaning.UsageAsk.{UsageAsk}
use Rattle.wire_msg.specs.declared.deltas.Deltas.{Deltas}
use Rattle.wire_msg.specs.declared.packet.Do.{Do}
use Rattle.wire_msg.specs.declared.packet.Do.TheVariants.{Begin, Deliver, Tick}
use Rattle.wire_msg.specs.declared.packet.Packet.{Packet}
use Rattle.wire_msg.specs.declared.storage.Found.{Found}
use Rattle.wire_msg.specs.declared.storage.Missing.{Missing}
use Rattle.wire_msg.specs.declared.tokens.Gave.{Gave}
use Rattle.wire_msg.specs.declared.tokens.Want.{Want}
use Rattle.xfs_base.proofs.Alls.{all_append}
use Rattle.xfs_base.proofs.Booleans.{by_test}
use Rattle.xfs_base.specs.Blocks.{slot_of}
use Rattle.xfs_base.specs.declared.segment.LogId.{LogId}
use Rattle.xfs_base.specs.Steps.{still}
use Rattle.node_moves.specs.server_moves.Moves.{Brought, Came, news_in}
use Rattle.wire_msg.specs.declared.registry.News.{News}
use Rattle.manager_moves.proofs.Slots.{Goes, asks_again, at_slot, checks_go, in_table, recalls, reports_go, tokens_go, wants_go}
use Rattle.manager_moves.proofs.Writing.{ack_goes, checkpoint_goes, fitting_goes, log_goes, news_goes, tells_again, unanswered_said}
use Rattle.manager_moves.specs.Moves.{ManagerEventsAreMoves, Moves, Said, Tells, Turn}
use Rattle.manager_moves.specs.Moves.Fed.{DeltasCame, GaveCame}
use Rattle.manager_moves.specs.Moves.Moves.{Notes, Rests, Says, Then}
use Rattle.manager_moves.specs.Moves.Said.{AnswersItem, Counts, Greets}
use Rattle.manager_moves.specs.Moves.Tells.{AbsenceCame, FragmentCame}
use Rattle.manager_moves.specs.Moves.Turn.{Falls, Learns, ServesOn, Wakes}
use Rattle.manager_moves.specs.Moves.Written.{AckCame, LogTicks}

module _ (what : Do) where
  abbrev TurnsTo : Serving → Done → Type 0
  TurnsTo s d = Turn what (Serves s) (Serves d.state) d.outs

  -- ---- an answer to a takeover

  module _ (s : Serving) (ask : ℕ) (given : ℕ → TakeIn) (tells : (own : ℕ) → Tells what ask own (given own)) where
    take_turn : (k own : ℕ) → table.fetch_at s.slots ask k ≡ Some own → TurnsTo s (serving.serving_take s k (given own))
    unfolding serving.serving_take table.slot_table_take takeovers.takeovers_take outs_of takeovers.say_each
    take_turn k own out = by (slice_get s.slots k) refl out
      where
        by_phase : (p : SlotPhase) → slice_get s.slots k ≡ Some p → fetch_of p ask ≡ Some own
            → TurnsTo s (with_asker s (put_asker (asker_of s) k (takeovers.takeovers_take (asker p s.lasting.questions) k (given own))))
        by_phase (phase.Taking x) at out = Learns s k x (given own) (record { ask = ask; own = own; tells = tells own; asked = out; here = at })
        by_phase (phase.Away epoch) at out = absurd cc
        by_phase (phase.Active a) at out = absurd cc
        by_phase (phase.Broken epoch seg) at out = absurd cc

        by : (o : Option SlotPhase) → slice_get s.slots k ≡ o → table.fetch_one ask o ≡ Some own
            → TurnsTo s (with_asker s (in_taken (asker_of s) k (λ one. takeovers.takeovers_take one k (given own)) o))
        by None at out = absurd cc
        by (Some p) at out = by_phase p at out

    answer_turn : (ks : List ℕ) → TurnsTo s (serving.answered_by s (table.fetch_among s.slots ask ks) given)
    answer_turn [] = ServesOn (Rests s)
    answer_turn (k ∷ ks) = by (answer_turn ks) (table.fetch_at s.slots ask k) refl
      where
        by : TurnsTo s (serving.answered_by s (table.fetch_among s.slots ask ks) given) → (o : Option ℕ) → table.fetch_at s.slots ask k ≡ o
            → TurnsTo s (serving.answered_by s (table.first_fetch k o (table.fetch_among s.slots ask ks)) given)
        by more None at = more
        by more (Some own) at = take_turn k own at

  -- ---- a packet

  module _ (packet : Packet) (event : what ≡ Deliver packet) where
    came : (said : Body) → packet.body ≡ said → Came what packet said
    came said says = record { event = event; says = says }

    brought : (news : News) → news_in packet.body ≡ Some news → Brought what packet news
    brought news brings = record { event = event; brings = brings }

    found_turn : (s : Serving) (m : Found) → packet.body ≡ body.Fragment m → TurnsTo s (on_found s (server_in packet.from) m)
    unfolding on_found
    found_turn s m says = by (server_in packet.from) refl
      where
        by : (server : Option ℕ) → server_in packet.from ≡ server → TurnsTo s (on_found s server m)
        by None from = ServesOn (Rests s)
        by (Some server) from =
            answer_turn s m.ask (λ own. take_in.Got own server m.generation m.fragment)
            (λ own. FragmentCame packet own server m (came (body.Fragment m) says) from) all_slots

    missing_turn : (s : Serving) (m : Missing) → packet.body ≡ body.Missing m → TurnsTo s (on_missing s (server_in packet.from) m)
    unfolding on_missing
    missing_turn s m says = by (server_in packet.from) refl
      where
        by : (server : Option ℕ) → server_in packet.from ≡ server → TurnsTo s (on_missing s server m)
        by None from = ServesOn (Rests s)
        by (Some server) from =
            answer_turn s m.ask (λ own. take_in.Missing own server m.generation)
            (λ own. AbsenceCame packet own server m (came (body.Missing m) says) from) all_slots

    want_goes : (s : Serving) (m : Want) → packet.body ≡ body.Want m → Goes what s (on_want s (client_in packet.from) m)
    unfolding on_want table.on_want
    want_goes s m says = by (client_in packet.from) refl
      where
        by : (o : Option ℕ) → client_in packet.from ≡ o → Goes what s (on_want s o m)
        by None from = Rests s
        by (Some client) from =
            in_table what s (slot_of m.block.ino.0) (λ p. tokens.on_want p client m)
            (wants_go what s.maps.groups packet client m (came (body.Want m) says) from)

    gave_goes : (s : Serving) (m : Gave) → packet.body ≡ body.Gave m → Goes what s (on_gave s (client_in packet.from) m)
    unfolding on_gave table.on_gave
    gave_goes s m says = by (client_in packet.from) refl
      where
        by : (o : Option ℕ) → client_in packet.from ≡ o → Goes what s (on_gave s o m)
        by None from = Rests s
        by (Some client) from =
            in_table what s (slot_of m.block.ino.0) (λ p. tokens.on_gave p client m)
            (tokens_go what s.maps.groups _ (tokens.gave_input client m) (GaveCame packet client m (came (body.Gave m) says) from))

    deltas_go : (s : Serving) (m : Deltas) → packet.body ≡ body.Deltas m → Goes what s (on_deltas s (fed_log packet.from) m)
    unfolding on_deltas table.on_deltas
    deltas_go s m says = by (fed_log packet.from) refl
      where
        by : (o : Option LogId) → fed_log packet.from ≡ o → Goes what s (on_deltas s o m)
        by None from = Rests s
        by (Some owner) from =
            in_table what s m.slot (λ p. tokens.on_deltas p owner m)
            (tokens_go what s.maps.groups m.slot (tokens.deltas_input owner m) (DeltasCame packet owner m (came (body.Deltas m) says) from))

    usage_goes : (s : Serving) (m : UsageAsk) → Goes what s (on_usage_ask s m)
    unfolding on_usage_ask table.on_usage_ask tokens.on_usage_ask
    usage_goes s m = by (slice_get s.slots m.slot)
      where
        by_phase : (p : SlotPhase) → Moves what s s (tokens.on_usage_ask p m)
        by_phase (phase.Active a) = Says s _ (Counts _)
        by_phase (phase.Away epoch) = Rests s
        by_phase (phase.Taking t) = Rests s
        by_phase (phase.Broken epoch seg) = Rests s

        by : (o : Option SlotPhase) → Moves what s s (usage_in m o)
        by None = Rests s
        by (Some p) = by_phase p

    body_turn : (s : Serving) (clients : ℕ) (said : Body) → packet.body ≡ said → TurnsTo s (on_body s clients packet.from said)
    unfolding on_report table.on_report on_check table.on_check
    body_turn s clients (body.MapNews news) says = ServesOn (fitting_goes what packet news (brought news (ap news_in says)) s clients)
    body_turn s clients (body.Welcome m) says =
        by_test (TurnsTo s) (m.inc == s.lasting.inc) (on_fitting_news s clients m.news) (still s)
        (λ _. ServesOn (fitting_goes what packet m.news (brought m.news (ap news_in says)) s clients)) (λ _. ServesOn (Rests s))
    body_turn s clients (body.Want m) says = ServesOn (want_goes s m says)
    body_turn s clients (body.Gave m) says = ServesOn (gave_goes s m says)
    body_turn s clients (body.Deltas m) says = ServesOn (deltas_go s m says)
    body_turn s clients (body.Check m) says =
        ServesOn (in_table what s (slot_of m.block.ino.0) (λ p. tokens.on_check p m) (checks_go what s.maps.groups packet m (came (body.Check m) says)))
    body_turn s clients (body.UsageAsk m) says = ServesOn (usage_goes s m)
    body_turn s clients (body.Report m) says =
        ServesOn (at_slot what s m.slot (λ one. takeovers.on_report one packet.from m)
        (reports_go what s.maps.groups packet m (came (body.Report m) says)) (slice_get s.slots m.slot) refl)
    body_turn s clients (body.Fragment m) says = found_turn s m says
    body_turn s clients (body.Missing m) says = missing_turn s m says
    body_turn s clients (body.Stored m) says =
        ServesOn (log_goes what s (log_in.Acked m.name m.index m.generation) (AckCame packet m (came (body.Stored m) says)))
    body_turn s clients (body.CkptAck m) says = ServesOn (ack_goes what s m)
    body_turn s clients _ says = ServesOn (Rests s)

    packet_turn : (s : Serving) (clients : ℕ) → TurnsTo s (serving_hear s clients packet)
    unfolding serving_hear ask_for_maps
    packet_turn s clients =
        by_test (TurnsTo s) (names_known_groups s.maps packet.body) (on_body s clients packet.from packet.body) (ask_for_maps s)
        (λ _. body_turn s clients packet.body refl)
        (λ _. ServesOn (Then (Notes s (ask_for_maps s).state refl refl refl refl refl refl) (Says (ask_for_maps s).state _ (Greets _ _))))

  -- ---- time

  tick_goes : (s : Serving) → Goes what s (on_tick s)
  unfolding on_tick
  tick_goes s =
      Then (Then (Then (Then (recalls what s) (asks_again what _ true)) (asks_again what _ false)) (log_goes what _ log_in.Tick LogTicks)) (tells_again what _)

  -- ---- an item, and whether it serves or not

  abbrev Turns : Phase → Went_to → Type 0
  Turns p w = Turn what p w.state w.outs

  crashes_turn : (p : Phase) (life : Life) (number : ℕ) → life.number ≡ (lasting_of p).number → Turns p (crash life number)
  unfolding crash
  crashes_turn p life number same =
      Falls p _ _ tt same
      (all_append Said (answers_unanswered life.items.unanswered answer.Cut) _ (unanswered_said life.items.unanswered answer.Cut)
      (AnswersItem number answer.Done, tt))

  down_turn : (life : Life) → Turns (Down life) (begin_down life)
  unfolding begin_down restart
  down_turn life = by (next_item life.items)
    where
      by_wish : (number : ℕ) (asked : Option Work) → Turns (Down life) (down_wish (with_begun life) number (wish_at asked))
      by_wish number None = Falls _ _ _ tt refl (AnswersItem number _, tt)
      by_wish number (Some (work.Restart node)) = Falls _ _ _ tt refl (AnswersItem number _, (Greets _ _, tt))
      by_wish number (Some _) = Falls _ _ _ tt refl (AnswersItem number _, tt)

      by : (item : Option ℕ) → Turns (Down life) (down_item (with_begun life) item)
      by None = Falls _ _ _ tt refl tt
      by (Some number) = by_wish number (work_at (with_begun life).items number)

  waiting_turn : (life : Life) (hello : ℕ) → Turns (Waiting life hello) (begin_waiting life hello)
  unfolding begin_waiting
  waiting_turn life hello = by (next_item life.items)
    where
      by_wish : (number : ℕ) (asked : Option Work) → Turns (Waiting life hello) (waiting_wish (with_begun life) hello number (wish_at asked))
      by_wish number None = Falls _ _ _ tt refl (AnswersItem number _, tt)
      by_wish number (Some (work.Crash node)) = crashes_turn _ (with_begun life) number refl
      by_wish number (Some _) = Falls _ _ _ tt refl (AnswersItem number _, tt)

      by : (item : Option ℕ) → Turns (Waiting life hello) (waiting_item (with_begun life) hello item)
      by None = Falls _ _ _ tt refl tt
      by (Some number) = by_wish number (work_at (with_begun life).items number)

  begin_turn : (s : Serving) → Turns (Serves s) (begin_serving s)
  unfolding begin_serving
  begin_turn s = by (next_item s.lasting.items)
    where
      goes : (t : Serving) (o : List Effect) → Moves what (record s { lasting = with_begun s.lasting }) t o → Turn what (Serves s) (Serves t) o
      goes t o m = ServesOn (Then (Notes s (record s { lasting = with_begun s.lasting }) refl refl refl refl refl refl) m)

      by_wish : (number : ℕ) (asked : Option Work) → Turns (Serves s) (serving_wish (record s { lasting = with_begun s.lasting }) number (wish_at asked))
      by_wish number None = goes _ _ (checkpoint_goes what _ number)
      by_wish number (Some (work.Crash node)) = crashes_turn _ (with_begun s.lasting) number refl
      by_wish number (Some (work.Restart node)) = goes _ _ (Says _ _ (AnswersItem number _))
      by_wish number (Some _) = goes _ _ (checkpoint_goes what _ number)

      by : (item : Option ℕ) → Turns (Serves s) (serving_item (record s { lasting = with_begun s.lasting }) item)
      by None = goes _ _ (Rests _)
      by (Some number) = by_wish number (work_at (with_begun s.lasting).items number)

  -- ---- all events

  stays_turn : (p : Phase) → Turns p (still p)
  stays_turn (Down life) = Falls _ _ _ tt refl tt
  stays_turn (Waiting life hello) = Falls _ _ _ tt refl tt
  stays_turn (Serves s) = ServesOn (Rests s)

  welcome_turn : (peers : Peers) (packet : Packet) → what ≡ Deliver packet → (life : Life) (hello : ℕ) (said : Body) → packet.body ≡ said
      → Turns (Waiting life hello) (on_waiting peers life hello said)
  unfolding on_welcome
  welcome_turn peers packet event life hello (body.Welcome m) says =
      let s : Serving = again life (forgotten peers.servers) m.news.groups in
      by_test (Turns (Waiting life hello)) (takes_welcome peers life hello m) (serves (on_news s peers.clients m.news)) (still (Waiting life hello))
      (λ _. Wakes life hello refl refl (record { same = refl; its = refl; boot = refl; end = refl; flight = refl })
      (news_goes what packet m.news (brought packet event m.news (ap news_in says)) s peers.clients))
      (λ _. stays_turn (Waiting life hello))
  welcome_turn peers packet event life hello _ says = stays_turn (Waiting life hello)

  event_turn : (peers : Peers) (p : Phase) (now : Do) → what ≡ now → Turns p (on_event peers p now)
  unfolding manager_deliver on_time
  event_turn peers (Down life) Begin event = down_turn life
  event_turn peers (Waiting life hello) Begin event = waiting_turn life hello
  event_turn peers (Serves s) Begin event = begin_turn s
  event_turn peers p (Deliver packet) event =
      by_test (Turns p) (is_well_formed peers packet) (on_packet peers p packet) (still p) (λ _. gets p) (λ _. stays_turn p)
    where
      gets : (q : Phase) → Turns q (on_packet peers q packet)
      gets (Down life) = stays_turn (Down life)
      gets (Waiting life hello) = welcome_turn peers packet event life hello packet.body refl
      gets (Serves s) = packet_turn packet event s peers.clients
  event_turn peers p Tick event = passes p
    where
      passes : (q : Phase) → Turns q (on_time q)
      passes (Down life) = stays_turn (Down life)
      passes (Waiting life hello) = Falls _ _ _ tt refl (Greets _ _, tt)
      passes (Serves s) = ServesOn (tick_goes s)

pub manager_events_are_moves : ManagerEventsAreMoves
unfolding happens
manager_events_are_moves m what =
    by_test (Turns what m.phase) (phase_has_room m.phase) (on_event m.peers m.phase what) (still m.phase) (λ _. event_turn what m.peers m.phase what refl)
    (λ _. stays_turn what m.phase)
