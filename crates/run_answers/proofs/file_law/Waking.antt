-- A manager that doesn't serve files nothing, nor does it in the event by which it serves again: nothing of its new log is settled in that one.
use Rattle.std.proofs.Common.{◌≡◌, ◌≤◌, ℕ, suc, List, [], ◌∷◌, Option, Some, None, refl, sym, ap, subst, ◌∙◌, arith}
use Rattle.client_log.specs.declared.input.In.TheVariants as log_in
use Rattle.client_log.specs.declared.output.Out.{Out as LogOut}
use Rattle.client_log.specs.LogState.{LogState}
use Rattle.client_log.specs.Transition.{looked_at, on_maps}
use Rattle.client_log.specs.Transition as log
use Rattle.group_map.specs.GroupMapState.{GroupMapState}
use Rattle.log_flight.specs.Flights.{FlightState}
use Rattle.manager_moves.proofs.Events.{manager_events_are_moves}
use Rattle.manager_moves.specs.Moves.{Turn}
use Rattle.manager_moves.specs.Moves.Turn.{Falls, Learns, ServesOn, Wakes}
use Rattle.manager_node.specs.declared.manager.Manager.{Manager}
use Rattle.manager_node.specs.declared.phase.Phase.{Phase}
use Rattle.manager_node.specs.declared.phase.Phase.TheVariants.{Down, Waiting, Serving as Serves}
use Rattle.manager_node.specs.Events.{happens, manager_deliver, on_event, on_packet, on_time, on_waiting, on_welcome, takes_welcome}
use Rattle.manager_node.specs.Phases.{Went_to, begin_down, begin_waiting, crash, down_item, down_wish, lasting_of, phase_has_room, restart, serves, waiting_item, waiting_wish, wish_at, with_begun}
use Rattle.manager_serving.specs.Checkpoints.{Done, log_says_each, serving_write}
use Rattle.manager_serving.specs.declared.serving.Serving.{Serving}
use Rattle.manager_serving.specs.Serving.{again, hear_slots, hears_with, on_newer, on_news, regroups}
use Rattle.manager_slots.specs.declared.lasting.Lasting.{Lasting as Life}
use Rattle.node_base.specs.Beginning.{next_item, work_at}
use Rattle.node_base.specs.declared.effects.Effect.{Effect}
use Rattle.node_base.specs.declared.peers.Peers.{Peers}
use Rattle.node_base.specs.Effects.{acts_of}
use Rattle.node_base.specs.Maps.{forgotten, is_older, maps_take}
use Rattle.node_base.specs.Shape.{is_well_formed}
use Rattle.version_model.specs.declared.act.Act.{Act}
use Rattle.version_model.specs.declared.act.Act.TheVariants as act
use Rattle.version_model.specs.declared.work.Work.{Work}
use Rattle.version_model.specs.declared.work.Work.TheVariants as work
use Rattle.wire_msg.specs.declared.body.Body.{Body}
use Rattle.wire_msg.specs.declared.body.Body.TheVariants as body
use Rattle.wire_msg.specs.declared.packet.Do.{Do}
use Rattle.wire_msg.specs.declared.packet.Do.TheVariants.{Begin, Deliver, Tick}
use Rattle.wire_msg.specs.declared.packet.Packet.{Packet}
use Rattle.wire_msg.specs.declared.registry.News.{News}
use Rattle.xfs_base.proofs.Booleans.{by_test}
use Rattle.xfs_base.specs.declared.news.SlotNews.{SlotNews}
use Rattle.xfs_base.specs.declared.node.NodeId.TheVariants as nodes
use Rattle.xfs_base.specs.declared.segment.End.{End}
use Rattle.xfs_base.specs.declared.segment.LogId.{LogId}
use Rattle.xfs_base.specs.Steps.{still}
use Rattle.run_answers.proofs.file_law.Acts.{nothing_filed}
use Rattle.run_answers.proofs.file_law.Lines.{Flies}
use Rattle.run_answers.proofs.file_law.Managing.{Goes, all_said_none, moves_file, own}
use Rattle.headline.specs.Filings.{FilesNothing, FilesOn, filed_last, managers_log}

no_log : (l : LogState) → None ≡ Some l → ⊥
no_log l fact = cc

-- ---- what is filed in order, and ends where it began, is nothing

later : (log : LogId) (inc before : ℕ) (acts : List Act) → FilesOn log inc before acts → before ≤ filed_last before acts
later log inc before [] on = omega arith
later log inc before (act.Filed name ∷ acts) on =
    let next : name.seq ≡ suc before = on.0.number in
    let more : name.seq ≤ filed_last name.seq acts = later log inc name.seq acts on.1 in
    omega arith
later log inc before (_ ∷ acts) on = later log inc before acts on

none_between : (log : LogId) (inc before : ℕ) (acts : List Act) → FilesOn log inc before acts → filed_last before acts ≡ before → FilesNothing acts
none_between log inc before [] on same = tt
none_between log inc before (act.Filed name ∷ acts) on same =
    let next : name.seq ≡ suc before = on.0.number in
    let more : name.seq ≤ filed_last name.seq acts = later log inc name.seq acts on.1 in
    let ends : filed_last name.seq acts ≡ before = same in
    omega arith
none_between log inc before (_ ∷ acts) on same = none_between log inc before acts on same

-- ---- its log, where it comes to serve, ends where it began

abbrev IsFresh : Phase → Type 0
IsFresh (Down life) = Unit {0}
IsFresh (Waiting life hello) = Unit {0}
IsFresh (Serves s) = s.log.end.seq ≡ 0

hears_log : (s : Serving) (clients : ℕ) (slots : List SlotNews) → (hear_slots s clients slots).state.log ≡ s.log
unfolding hear_slots
hears_log s clients slots = by s.maps.groups
  where
    by : (o : Option GroupMapState) → (hears_with s clients slots o).state.log ≡ s.log
    by None = refl
    by (Some groups) = refl

-- where nothing is in flight the groups are noted alone
maps_rest : (s : LogState) (groups : GroupMapState) → s.flight ≡ None → on_maps s groups ≡ still {O = LogOut} (record s { groups = groups })
unfolding on_maps
maps_rest s groups none =
    let t : LogState = record s { groups = groups } in
    subst (λ (o : Option FlightState). elim o [ None ↦ still {O = LogOut} t | Some f ↦ looked_at s t f ] ≡ still {O = LogOut} t) (sym none) refl

write_end : (s : Serving) (groups : GroupMapState) → s.log.flight ≡ None → (serving_write s (log_in.Maps groups)).state.log.end ≡ s.log.end
unfolding serving_write log_says_each
write_end s groups none =
    ap (λ (r : log.Done). (log_says_each (record s { log = r.state }) r.outs).state.log.end) (maps_rest s.log groups none)

newer_end : (s : Serving) (clients : ℕ) (news : News) → s.log.end.seq ≡ 0 → s.log.flight ≡ None → (on_newer s clients news).state.log.end.seq ≡ 0
unfolding on_newer regroups
newer_end s clients news ends none =
    let a : Serving = (regroups s news.groups).state in
    let b : Serving = (hear_slots a clients news.slots).state in
    let same : b.log ≡ s.log = hears_log a clients news.slots in
    ap (λ (x : End). x.seq) (write_end b news.groups (ap (λ (l : LogState). l.flight) same ∙ none)) ∙ (ap (λ (l : LogState). l.end.seq) same ∙ ends)

news_end : (s : Serving) (clients : ℕ) (news : News) → s.log.end.seq ≡ 0 → s.log.flight ≡ None → (on_news s clients news).state.log.end.seq ≡ 0
unfolding on_news
news_end s clients news ends none =
    let t : Serving = record s { maps = maps_take s.maps news } in
    by_test (λ (d : Done). d.state.log.end.seq ≡ 0) (is_older s.maps news) (on_newer t clients news) (hear_slots s clients news.slots)
    (λ _. newer_end t clients news ends none) (λ _. ap (λ (l : LogState). l.end.seq) (hears_log s clients news.slots) ∙ ends)

-- ---- an event before which it doesn't serve

down_fresh : (life : Life) → IsFresh (begin_down life).state
unfolding begin_down restart
down_fresh life = by (next_item life.items)
  where
    by_wish : (number : ℕ) (asked : Option Work) → IsFresh (down_wish (with_begun life) number (wish_at asked)).state
    by_wish number None = tt
    by_wish number (Some (work.Restart node)) = tt
    by_wish number (Some (work.Crash node)) = tt
    by_wish number (Some _) = tt

    by : (item : Option ℕ) → IsFresh (down_item (with_begun life) item).state
    by None = tt
    by (Some number) = by_wish number (work_at (with_begun life).items number)

waiting_fresh : (life : Life) (hello : ℕ) → IsFresh (begin_waiting life hello).state
unfolding begin_waiting crash
waiting_fresh life hello = by (next_item life.items)
  where
    by_wish : (number : ℕ) (asked : Option Work) → IsFresh (waiting_wish (with_begun life) hello number (wish_at asked)).state
    by_wish number None = tt
    by_wish number (Some (work.Restart node)) = tt
    by_wish number (Some (work.Crash node)) = tt
    by_wish number (Some _) = tt

    by : (item : Option ℕ) → IsFresh (waiting_item (with_begun life) hello item).state
    by None = tt
    by (Some number) = by_wish number (work_at (with_begun life).items number)

welcome_fresh : (peers : Peers) (life : Life) (hello : ℕ) (said : Body) → IsFresh (on_waiting peers life hello said).state
unfolding on_welcome
welcome_fresh peers life hello (body.Welcome m) =
    let s : Serving = again life (forgotten peers.servers) m.news.groups in
    by_test (λ (w : Went_to). IsFresh w.state) (takes_welcome peers life hello m) (serves (on_news s peers.clients m.news)) (still (Waiting life hello))
    (λ _. news_end s peers.clients m.news refl refl) (λ _. tt)
welcome_fresh peers life hello _ = tt

stays_fresh : (p : Phase) → managers_log p ≡ None → IsFresh p
stays_fresh (Down life) none = tt
stays_fresh (Waiting life hello) none = tt
stays_fresh (Serves s) none = absurd (no_log s.log (sym none))

packet_fresh : (peers : Peers) (p : Phase) (packet : Packet) → managers_log p ≡ None → IsFresh (on_packet peers p packet).state
packet_fresh peers (Down life) packet none = tt
packet_fresh peers (Waiting life hello) packet none = welcome_fresh peers life hello packet.body
packet_fresh peers (Serves s) packet none = absurd (no_log s.log (sym none))

event_fresh : (peers : Peers) (p : Phase) (what : Do) → managers_log p ≡ None → IsFresh (on_event peers p what).state
unfolding manager_deliver on_time
event_fresh peers (Serves s) what none = absurd (no_log s.log (sym none))
event_fresh peers (Down life) Begin none = down_fresh life
event_fresh peers (Waiting life hello) Begin none = waiting_fresh life hello
event_fresh peers (Down life) Tick none = tt
event_fresh peers (Waiting life hello) Tick none = tt
event_fresh peers p (Deliver packet) none =
    by_test (λ (w : Went_to). IsFresh w.state) (is_well_formed peers packet) (on_packet peers p packet) (still p) (λ _. packet_fresh peers p packet none)
    (λ _. stays_fresh p none)

turn_files : (what : Do) (p q : Phase) (o : List Effect) → Turn what p q o → managers_log p ≡ None → IsFresh q
    → FilesNothing (acts_of (nodes.Manager (lasting_of p).number) o)
turn_files what p q o (ServesOn {s = s} {t = t} m) none is = absurd (no_log s.log (sym none))
turn_files what p q o (Learns s k x given a) none is = absurd (no_log s.log (sym none))
turn_files what p q o (Falls a b m down number said) none is = nothing_filed (nodes.Manager (lasting_of p).number) o (all_said_none o said)
turn_files what p q o (Wakes life asking {s = s} {t = t} fresh unknown new m) none is =
    let n : ℕ = life.number in
    let g : Goes n life.inc 0 t o =
    moves_file n what life.inc 0 s t o m (record {
      number = ap (λ (k : Life). k.number) new.same;
      line = record {
        its = new.its;
        boot = new.boot;
        flies = subst (λ (f : Option FlightState). Flies (own n) life.inc s.log.end.seq f) (sym new.flight) tt;
      };
      ends = new.end;
      boots = ap (λ (k : Life). k.inc) new.same;
    }) in
    none_between (own n) life.inc 0 (acts_of (nodes.Manager n) o) g.files.each (g.files.last ∙ (sym g.state.ends ∙ is))

pub manager_files : (m : Manager) (what : Do) → managers_log m.phase ≡ None
    → FilesNothing (acts_of (nodes.Manager (lasting_of m.phase).number) (happens m what).outs)
unfolding happens
manager_files m what none =
    turn_files what m.phase (happens m what).state (happens m what).outs (manager_events_are_moves m what) none
    (by_test (λ (w : Went_to). IsFresh w.state) (phase_has_room m.phase) (on_event m.peers m.phase what) (still m.phase) (λ _. event_fresh m.peers m.phase what none)
    (λ _. stays_fresh m.phase none))
