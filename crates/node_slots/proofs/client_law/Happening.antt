-- Each event keeps a fact of a client that asks for its call: so it holds after any events.
use Rattle.std.proofs.Common.{◌≡◌, inl, ℕ, Bool, true, ◌&&◌, List, [], ◌∷◌, Option, Some, None, is_some, sym, subst}
use Rattle.client_log.specs.LogState as logs
use Rattle.client_log.specs.LogState.{LogState}
use Rattle.client_node.specs.declared.client.Client.{Client}
use Rattle.client_node.specs.declared.phase.Phase.TheVariants.{Down, Opening, Serving as Serves}
use Rattle.client_node.specs.declared.phase.Phase.{Phase}
use Rattle.client_node.specs.Phases.{Went_to, phase_after, begins_item, client_has_room, client_step, down_begins, happens, item_begins, lasting_of, on_begin, on_deliver, on_event, client_tick, opened_on, opening_begins, owner_of, phase_has_room, serving_begins, takes, wish_of, with_begun}
use Rattle.client_node.specs.Serving.{cached_upto, empty_end}
use Rattle.client_node.specs.Starting.{client_start}
use Rattle.client_call.specs.declared.call.Going.{Going}
use Rattle.client_serving.specs.declared.lasting.Lasting.{Lasting}
use Rattle.client_serving.specs.declared.serving.Serving.{Serving}
use Rattle.client_running.specs.Opens.{begin_call, call_at, opens}
use Rattle.client_serving.specs.Lasting.{live_on}
use Rattle.client_serving.specs.Packets.{serving_take, on_tick}
use Rattle.client_node.specs.Room.{serving_has_room, tokens_room}
use Rattle.client_running.specs.Running.{running_go_on, run}
use Rattle.client_serving.specs.Sends as client
use Rattle.client_serving.specs.Sends.{gives}
use Rattle.coop_cache.specs.CacheState as cache
use Rattle.group_map.specs.Groups as groups
use Rattle.group_map.specs.GroupMapState.{GroupMapState}
use Rattle.log_owner.specs.declared.ended.Owner.{Owner}
use Rattle.log_owner.specs.declared.opened.Progress.{Progress}
use Rattle.log_owner.specs.declared.opened.Progress.TheVariants as progress
use Rattle.log_owner.specs.declared.opening.Opening as openings
use Rattle.log_owner.specs.Opening as opening
use Rattle.log_owner.specs.Opening.{Went, log_has_room}
use Rattle.node_base.specs.Beginning.{next_item, items_wait, work_at}
use Rattle.node_base.specs.declared.effects.Effect.TheVariants.{Answer as Answers}
use Rattle.node_base.specs.declared.questions.Questions.{Questions}
use Rattle.node_base.specs.Room.{has_room}
use Rattle.node_base.specs.Shape.{is_well_formed}
use Rattle.token_client.specs.State.{tokens_start}
use Rattle.version_model.specs.declared.answer.Answer.TheVariants as answer
use Rattle.version_model.specs.declared.work.Work.{Work}
use Rattle.version_model.specs.declared.work.Work.TheVariants as work
use Rattle.wire_msg.specs.declared.body.Body.{Body}
use Rattle.wire_msg.specs.declared.body.Body.TheVariants as body
use Rattle.wire_msg.specs.declared.packet.Do.{Do}
use Rattle.wire_msg.specs.declared.packet.Do.TheVariants.{Begin, Deliver, Tick}
use Rattle.wire_msg.specs.declared.packet.Packet.{Packet}
use Rattle.std.specs.List.{AllByRecursion}
use Rattle.xfs_base.specs.declared.block.BlockId.{BlockId}
use Rattle.xfs_base.specs.declared.segment.LogId.{LogId}
use Rattle.xfs_base.specs.declared.setup.Setup.{Setup}
use Rattle.xfs_base.specs.Steps.{still}
use Rattle.xfs_base.proofs.Booleans.{and_first, and_second, by_test}
use Rattle.node_slots.specs.node_tie.Asks.{AsksForCall}
use Rattle.node_slots.specs.node_tie.AskingEvents.{PhaseAsks}
use Rattle.node_slots.proofs.node_tie.AsksEvents.{first_asks, phase_asks}
use Rattle.node_slots.proofs.node_tie.AsksPackets.{serving_take-asks, on_tick-asks}
use Rattle.node_slots.specs.client_law.Maps.{BringsMaps, DoBrings}
use Rattle.node_slots.specs.client_law.Events.{HoldsAfterAnyEvents, WhereItServes, after_events}
use Rattle.node_slots.proofs.client_law.Arriving.{KeptOrFresh}
use Rattle.node_slots.proofs.client_law.Calls.{running_go_on-same, run-keeps}
use Rattle.node_slots.proofs.client_law.Sounding.{running_go_on-sound}
use Rattle.node_slots.proofs.client_law.Keeping.{At, Fact, Keeps, Sound}
use Rattle.node_slots.proofs.client_law.Packets.{Arrives, serving_take-keeps, on_tick-keeps}

-- where an opening stands: it is still so, or its log is open, and so
abbrev pub OpensSo : (openings.Opening → Type 0) → (LogState → Type 0) → Progress → Type 0
OpensSo O E (progress.Opening o) = O o
OpensSo O E (progress.Opened d) = E d.log
OpensSo O E (progress.Lost seg) = Unit {0}

-- what holds of an opening at its begin, and stays, so that this holds of the log that it opens
pub record Reopens (M : GroupMapState → Type 0) (O : openings.Opening → Type 0) (E : LogState → Type 0) : Type 0 where
  pub first : (owner : Owner) (servers : ℕ) (q : Questions) → O (opening.at_first owner servers q)
  pub packet : (o : openings.Opening) (q : Questions) (p : Packet) → BringsMaps M p.body → O o → OpensSo O E (opening.opening_take o q p).progress
  pub tick : (o : openings.Opening) (q : Questions) → O o → OpensSo O E (opening.on_tick o q).progress

-- where the log of a client that begins to serve is so, the fact holds
abbrev pub Starts : Fact → (LogState → Type 0) → Type 0
Starts B E = (inc : ℕ) (epochs : List ℕ) (l : LogState) (capacity : ℕ) → E l → B (tokens_start inc epochs) l (cache.cache_start (cached_upto capacity))

-- what an event brings to a client that serves
abbrev pub ArrivesTo : (BlockId → Type 0) → Phase → Do → Type 0
ArrivesTo A (Serves s) (Deliver packet) = Arrives A s packet.body
ArrivesTo A _ _ = Unit {0}

module _ (A : BlockId → Type 0) (M : GroupMapState → Type 0) (B : Fact) (P : ℕ → Fact) (Q : BlockId → Fact) (k : Keeps A M B P Q) where
  -- ---- a client that serves

  begin : (s : Serving) → serving_has_room s ≡ true → At B s → At (P 1) s
  begin s room h =
      let further : Bool = log_has_room s.log && tokens_room s in
      let one : (has_room s.tokens.req && further) ≡ true = and_second (has_room s.maps.version) (has_room s.tokens.req && further) room in
      let two : log_has_room s.log ≡ true = and_first (log_has_room s.log) (tokens_room s) (and_second (has_room s.tokens.req) further one) in
      k.begins s.tokens s.log s.cache h (and_first (has_room s.log.end.seq) _ two)

  end : (s : Serving) → At (P 0) s → At B s
  end s h = k.ends s.tokens s.log s.cache h

  run-so : (s : Serving) → AsksForCall s → KeptOrFresh A M B P Q k s → At B (run s).state
  run-so s asks h = end (run s).state (run-keeps A M B P Q k s asks.sound h)

  begin_call-so : (s : Serving) (number : ℕ) (g : Option Going) → Sound s → At (P 0) s → At B (begin_call s number g).state
  begin_call-so s number None sound h = end s h
  begin_call-so s number (Some going) sound h =
      let t : Serving = record s { lasting = record s.lasting { items = items_wait s.lasting.items number } } in
      let d : client.Done = running_go_on t going in
      end (run d.state).state (run-keeps A M B P Q k d.state (running_go_on-sound t going sound) (inl (running_go_on-same A M B P Q k t going h)))

  opens-so : (s : Serving) (number : ℕ) → Sound s → At (P 0) s → At B (opens s number).state
  unfolding opens
  opens-so s number sound h =
      by_test (λ (d : client.Done). At B d.state) (is_some s.lasting.items.unanswered) (gives s (Answers number answer.Busy ∷ []))
      (begin_call s number (call_at s number (work_at s.lasting.items number)))
      (λ t. end s h) (λ t. begin_call-so s number (call_at s number (work_at s.lasting.items number)) sound h)

  serving_begins-so : (s : Serving) (number : ℕ) (w : Option Work) → Sound s → At (P 0) s → WhereItServes (At B) (serving_begins s number (wish_of w)).state
  serving_begins-so s number (Some (work.Crash node)) sound h = tt
  serving_begins-so s number (Some (work.Restart node)) sound h = end s h
  serving_begins-so s number None sound h = opens-so s number sound h
  serving_begins-so s number (Some other) sound h = opens-so s number sound h

  begun-so : (servers : ℕ) (s : Serving) (number : Option ℕ) → serving_has_room s ≡ true → AsksForCall s → At B s
      → WhereItServes (At B) (begins_item servers (Serves s) number).state
  begun-so servers s None room asks h = h
  begun-so servers s (Some number) room asks h =
      let b : Lasting = lasting_of (with_begun (Serves s)) in
      serving_begins-so (record s { lasting = b }) number (work_at b.items number) asks.sound (k.less s.tokens s.log s.cache (begin s room h))

  event-so : (client : Client) (s : Serving) (what : Do) → ArrivesTo A (Serves s) what → DoBrings M what → serving_has_room s ≡ true → AsksForCall s → At B s
      → WhereItServes (At B) (on_event client.peers client.cache (Serves s) what).state
  unfolding on_begin on_deliver client_tick
  event-so client s Begin arrives brings room asks h = begun-so client.peers.servers s (next_item s.lasting.items) room asks h
  event-so client s (Deliver packet) arrives brings room asks h =
      by_test (λ (w : Went_to). WhereItServes (At B) w.state) (is_well_formed client.peers packet) (on_deliver client.cache (Serves s) packet)
      (still (Serves s))
      (λ t. run-so (serving_take s packet).state (serving_take-asks s asks packet) (serving_take-keeps A M B P Q k s asks (begin s room h) packet arrives brings))
      (λ t. h)
  event-so client s Tick arrives brings room asks h =
      run-so (on_tick s).state (on_tick-asks s asks) (inl (on_tick-keeps A M B P Q k s asks (begin s room h)))

  -- where it served before an event, and serves after it, the fact holds still
  pub serves-so : (client : Client) (s : Serving) (what : Do) → client.phase ≡ Serves s → ArrivesTo A (Serves s) what → DoBrings M what → AsksForCall s
      → At B s → WhereItServes (At B) (takes client what).state
  serves-so client s what fact arrives brings asks h =
      by_test (λ (w : Went_to). WhereItServes (At B) w.state) (client_has_room client) (happens client what) (still client.phase)
      (λ t. subst (λ p. WhereItServes (At B) (on_event client.peers client.cache p what).state) (sym fact)
      (event-so client s what arrives brings
      (subst (λ p. phase_has_room p ≡ true) fact
      (and_second (has_room (lasting_of client.phase).questions.last) (phase_has_room client.phase) (and_second (has_room (lasting_of client.phase).inc) _ t)))
      asks h))
      (λ t. subst (WhereItServes (At B)) (sym fact) h)

  module _ (O : openings.Opening → Type 0) (E : LogState → Type 0) (r : Reopens M O E) (starts : Starts B E) where
    abbrev pub PhaseHolds : Phase → Type 0
    PhaseHolds (Down l) = Unit {0}
    PhaseHolds (Opening l o) = O o
    PhaseHolds (Serves s) = At B s

    abbrev WentSo : Went_to → Type 0
    WentSo w = PhaseHolds w.state

    -- ---- openings

    phase_after-so : (l : Lasting) (capacity : ℕ) (p : Progress) → OpensSo O E p → WentSo (phase_after l capacity p)
    phase_after-so l capacity (progress.Opening o) h = h
    phase_after-so l capacity (progress.Opened d) h = starts l.inc d.promised.epochs d.log capacity h
    phase_after-so l capacity (progress.Lost seg) h = tt

    opened_on-so : (l : Lasting) (capacity : ℕ) (w : Went) → OpensSo O E w.progress → WentSo (opened_on l capacity w)
    opened_on-so l capacity w h = phase_after-so (record l { questions = w.questions }) capacity w.progress h

    -- ---- the next item begins

    down_begins-so : (servers : ℕ) (l : Lasting) (number : ℕ) (w : Option Work) → WentSo (down_begins servers l number (wish_of w))
    down_begins-so servers l number (Some (work.Restart node)) = r.first (owner_of (live_on l number)) servers (live_on l number).questions
    down_begins-so servers l number (Some (work.Crash node)) = tt
    down_begins-so servers l number None = tt
    down_begins-so servers l number (Some other) = tt

    opening_begins-so : (l : Lasting) (o : openings.Opening) (number : ℕ) (w : Option Work) → O o → WentSo (opening_begins l o number (wish_of w))
    opening_begins-so l o number (Some (work.Crash node)) h = tt
    opening_begins-so l o number (Some (work.Restart node)) h = h
    opening_begins-so l o number None h = h
    opening_begins-so l o number (Some other) h = h

    serving_item-so : (s : Serving) (number : ℕ) (w : Option Work) → Sound s → At (P 0) s → WentSo (serving_begins s number (wish_of w))
    serving_item-so s number (Some (work.Crash node)) sound h = tt
    serving_item-so s number (Some (work.Restart node)) sound h = end s h
    serving_item-so s number None sound h = opens-so s number sound h
    serving_item-so s number (Some other) sound h = opens-so s number sound h

    item_begins-so : (servers : ℕ) (phase : Phase) (number : ℕ) → phase_has_room phase ≡ true → PhaseAsks phase → PhaseHolds phase
        → WentSo (item_begins servers (with_begun phase) number (wish_of (work_at (lasting_of (with_begun phase)).items number)))
    item_begins-so servers (Down l) number room asks h =
        down_begins-so servers (lasting_of (with_begun (Down l))) number (work_at (lasting_of (with_begun (Down l))).items number)
    item_begins-so servers (Opening l o) number room asks h =
        opening_begins-so (lasting_of (with_begun (Opening l o))) o number (work_at (lasting_of (with_begun (Opening l o))).items number) h
    item_begins-so servers (Serves s) number room asks h =
        let b : Lasting = lasting_of (with_begun (Serves s)) in
        serving_item-so (record s { lasting = b }) number (work_at b.items number) asks.sound (k.less s.tokens s.log s.cache (begin s room h))

    begins_item-so : (servers : ℕ) (phase : Phase) (number : Option ℕ) → phase_has_room phase ≡ true → PhaseAsks phase → PhaseHolds phase
        → WentSo (begins_item servers phase number)
    begins_item-so servers phase None room asks h = h
    begins_item-so servers phase (Some number) room asks h = item_begins-so servers phase number room asks h

    on_begin-so : (servers : ℕ) (phase : Phase) → phase_has_room phase ≡ true → PhaseAsks phase → PhaseHolds phase → WentSo (on_begin servers phase)
    unfolding on_begin
    on_begin-so servers phase room asks h = begins_item-so servers phase (next_item (lasting_of phase).items) room asks h

    -- ---- packets and time

    on_deliver-so : (capacity : ℕ) (phase : Phase) (packet : Packet) → ArrivesTo A phase (Deliver packet) → BringsMaps M packet.body → phase_has_room phase ≡ true
        → PhaseAsks phase → PhaseHolds phase
        → WentSo (on_deliver capacity phase packet)
    unfolding on_deliver
    on_deliver-so capacity (Down l) packet arrives brings room asks h = tt
    on_deliver-so capacity (Opening l o) packet arrives brings room asks h =
        opened_on-so l capacity (opening.opening_take o l.questions packet) (r.packet o l.questions packet brings h)
    on_deliver-so capacity (Serves s) packet arrives brings room asks h =
        run-so (serving_take s packet).state (serving_take-asks s asks packet) (serving_take-keeps A M B P Q k s asks (begin s room h) packet arrives brings)

    client_tick-so : (capacity : ℕ) (phase : Phase) → phase_has_room phase ≡ true → PhaseAsks phase → PhaseHolds phase → WentSo (client_tick capacity phase)
    unfolding client_tick
    client_tick-so capacity (Down l) room asks h = tt
    client_tick-so capacity (Opening l o) room asks h = opened_on-so l capacity (opening.on_tick o l.questions) (r.tick o l.questions h)
    client_tick-so capacity (Serves s) room asks h = run-so (on_tick s).state (on_tick-asks s asks) (inl (on_tick-keeps A M B P Q k s asks (begin s room h)))

    happens-so : (client : Client) (what : Do) → ArrivesTo A client.phase what → DoBrings M what → phase_has_room client.phase ≡ true → PhaseAsks client.phase
        → PhaseHolds client.phase → WentSo (happens client what)
    happens-so client Begin arrives brings room asks h = on_begin-so client.peers.servers client.phase room asks h
    happens-so client (Deliver packet) arrives brings room asks h =
        by_test WentSo (is_well_formed client.peers packet) (on_deliver client.cache client.phase packet) (still client.phase)
        (λ t. on_deliver-so client.cache client.phase packet arrives brings room asks h) (λ t. h)
    happens-so client Tick arrives brings room asks h = client_tick-so client.cache client.phase room asks h

    pub takes-so : (client : Client) (what : Do) → ArrivesTo A client.phase what → DoBrings M what → PhaseAsks client.phase → PhaseHolds client.phase
        → WentSo (takes client what)
    takes-so client what arrives brings asks h =
        by_test WentSo (client_has_room client) (happens client what) (still client.phase)
        (λ t. happens-so client what arrives brings (and_second (has_room (lasting_of client.phase).questions.last) (phase_has_room client.phase)
        (and_second (has_room (lasting_of client.phase).inc) _ t)) asks h)
        (λ t. h)

    module _ (each : (phase : Phase) (what : Do) → ArrivesTo A phase what) where
      after-so : (client : Client) (events : List Do) → AllByRecursion (DoBrings M) events → PhaseAsks client.phase → PhaseHolds client.phase
          → PhaseHolds (after_events client events).phase
      after-so client [] brings asks h = h
      after-so client (what ∷ rest) brings asks h =
          after-so (client_step client what).node rest brings.1 (phase_asks client what asks) (takes-so client what (each client.phase what) brings.0 asks h)

      serves_so : (phase : Phase) → PhaseHolds phase → WhereItServes (At B) phase
      serves_so (Down l) h = tt
      serves_so (Opening l o) h = tt
      serves_so (Serves s) h = h

      -- it holds after events that bring such maps, where the log of a client at the start is so
      pub always_where : (number : ℕ) (setup : Setup) (works : List Work) (events : List Do)
          → E (logs.log_start (record { 0 = number }) 1 empty_end (groups.group_map_start setup.servers setup.groups)) → AllByRecursion (DoBrings M) events
          → WhereItServes (At B) (after_events (client_start number setup works) events).phase
      always_where number setup works events first brings =
          let l : LogState = logs.log_start (record { 0 = number }) 1 empty_end (groups.group_map_start setup.servers setup.groups) in
          serves_so (after_events (client_start number setup works) events).phase
          (after-so (client_start number setup works) events brings (first_asks number setup works) (starts 1 _ l setup.cache first))

-- ---- whatever comes

abbrev pub AnyBlock : BlockId → Type 0
AnyBlock b = Unit {0}

abbrev pub AnyMap : GroupMapState → Type 0
AnyMap g = Unit {0}

any_arrives : (s : Serving) (m : Body) → Arrives AnyBlock s m
any_arrives s (body.Grant m) = tt
any_arrives s (body.Supply m) = tt
any_arrives s (body.Fragment m) = λ block may. tt
any_arrives s (body.Missing m) = λ block may. tt
any_arrives s _ = tt

pub arrives_any : (phase : Phase) (what : Do) → ArrivesTo AnyBlock phase what
arrives_any (Serves s) (Deliver packet) = any_arrives s packet.body
arrives_any _ _ = tt

any_brings : (m : Body) → BringsMaps AnyMap m
any_brings (body.MapNews m) = tt
any_brings (body.Welcome m) = tt
any_brings _ = tt

pub brings_any : (what : Do) → DoBrings AnyMap what
brings_any Begin = tt
brings_any (Deliver packet) = any_brings packet.body
brings_any Tick = tt

pub all_brings : (events : List Do) → AllByRecursion (DoBrings AnyMap) events
all_brings [] = tt
all_brings (what ∷ rest) = (brings_any what, all_brings rest)

-- what whatever comes keeps holds after any events
pub always : (B : Fact) (P : ℕ → Fact) (Q : BlockId → Fact) → Keeps AnyBlock AnyMap B P Q → (O : openings.Opening → Type 0) (E : LogState → Type 0)
    → Reopens AnyMap O E
    → Starts B E → ((l : LogId) (map : GroupMapState) → E (logs.log_start l 1 empty_end map)) → HoldsAfterAnyEvents (At B)
always B P Q k O E r starts first number setup works events =
    always_where AnyBlock AnyMap B P Q k O E r starts arrives_any number setup works events
    (first (record { 0 = number }) (groups.group_map_start setup.servers setup.groups)) (all_brings events)

-- what follows from what holds where a client serves holds there
pub where_weaker : (F G : Serving → Type 0) → ((s : Serving) → F s → G s) → (phase : Phase) → WhereItServes F phase → WhereItServes G phase
where_weaker F G f (Down l) p = tt
where_weaker F G f (Opening l o) p = tt
where_weaker F G f (Serves s) p = f s p

pub after_weaker : (F G : Serving → Type 0) → ((s : Serving) → F s → G s) → HoldsAfterAnyEvents F → HoldsAfterAnyEvents G
after_weaker F G f h number setup works events =
    where_weaker F G f (after_events (client_start number setup works) events).phase (h number setup works events)
