-- Each event of a manager is a list of things that happen in the small world of one slot's index.
use Rattle.std.proofs.Common.{◌≡◌, ℕ, ◌+◌, ◌==◌, ◌<◌, ◌&&◌, true, inl, inr, ⊎_elim, List, [], ◌∷◌, ◌++◌, length, Option, Some, None, refl, sym, ap, subst, ◌∙◌}
use Rattle.std.proofs.lemmas.Bool.{eqb-true}
use Rattle.std.proofs.lemmas.List.Elements.{All-from_recursion}
use Rattle.xfs_base.proofs.Booleans.{by_test, and_first}
use Rattle.xfs_base.specs.Steps.{still}
use Rattle.xfs_base.specs.Limits.{slot_count}
use Rattle.index_tie.specs.Net.{Net}
use Rattle.index_tie.specs.Net.Runs.{Begun}
use Rattle.manager_node.specs.Events.{takes_welcome, on_welcome, on_waiting, on_packet, manager_deliver, on_time, on_event, happens}
use Rattle.manager_node.specs.Phases.{Went_to, lasting_of, phase_has_room, serves, crash, restart, wish_at, down_wish, waiting_wish, serving_wish, with_begun, down_item, waiting_item, serving_item, begin_down, begin_waiting, begin_serving, on_begin}
use Rattle.manager_slots.specs.Lasting.{log_of}
use Rattle.manager_slots.specs.SlotTable.{Table, slot_table_unknown}
use Rattle.manager_slots.specs.Slots.{epoch_of}
use Rattle.manager_serving.specs.Checkpoints.{Done, on_checkpoint}
use Rattle.manager_serving.specs.Serving.{again, serving_begin as serving_begun, no_end, on_news, serving_hear, on_tick}
use Rattle.checkpoint.specs.Transition.{writer_start as writer_started}
use Rattle.client_log.specs.LogState.{log_start as log_started}
use Rattle.manager_node.specs.declared.phase.Phase.{Phase}
use Rattle.manager_node.specs.declared.phase.Phase.TheVariants.{Down, Waiting, Serving as Serves}
use Rattle.manager_slots.specs.declared.lasting.Lasting.{Lasting as Kept}
use Rattle.manager_serving.specs.declared.serving.Serving.{Serving}
use Rattle.group_map.specs.GroupMapState.{GroupMapState}
use Rattle.node_base.specs.Beginning.{is_left, next_item, work_at, answers_unanswered, items_begin}
use Rattle.node_base.specs.Maps.{fits, forgotten}
use Rattle.node_base.specs.Shape.{is_well_formed}
use Rattle.node_base.specs.declared.effects.Effect.{Effect}
use Rattle.node_base.specs.declared.effects.Effect.TheVariants.{Answer as Answers}
use Rattle.node_base.specs.declared.items.Items.{Items}
use Rattle.node_base.specs.declared.maps.Maps.{Maps}
use Rattle.node_base.specs.declared.peers.Peers.{Peers}
use Rattle.node_slots.specs.node_tie.ManagerEvents.{HeldAt, Names, NamedBy}
use Rattle.headline.specs.Managers.{phase_at}
use Rattle.version_model.specs.declared.answer.Answer.{Answer}
use Rattle.version_model.specs.declared.answer.Answer.TheVariants as answer
use Rattle.version_model.specs.declared.work.Work.{Work}
use Rattle.version_model.specs.declared.work.Work.TheVariants as work
use Rattle.wire_msg.specs.declared.body.Body.{Body}
use Rattle.wire_msg.specs.declared.body.Body.TheVariants as body
use Rattle.wire_msg.specs.declared.packet.Do.{Do}
use Rattle.wire_msg.specs.declared.packet.Do.TheVariants.{Begin, Deliver, Tick}
use Rattle.wire_msg.specs.declared.packet.Packet.{Packet as Sent}
use Rattle.wire_msg.specs.declared.registry.Welcome.{Welcome}
use Rattle.node_slots.specs.node_index_tie.ManagerEvents.{PhaseAgrees, ServingAgrees, ManagerAgrees, AllNewsGets, WaitingGets, PacketGets, EventGets, WritesTexts, ManagerGoes, ManagerEventGoes}
use Rattle.node_slots.specs.node_index_tie.Pages.{FlightIsText}
use Rattle.node_slots.specs.node_index_tie.Sight.{Questions, ManagerDoes}
use Rattle.headline.specs.Filed.{AreTexts, Texts}
use Rattle.node_slots.proofs.node_tie.SlotTables.{unknown_at}
use Rattle.node_slots.proofs.node_index_tie.Hearing.{MayEnd, tick_serves, hears_serves, news_serves}
use Rattle.node_slots.proofs.node_index_tie.Moves.{Brought, AllDone, some_none}
use Rattle.node_slots.proofs.node_index_tie.Serving.{Of, checkpoint_serves}

-- the event may end a takeover
abbrev MayEndBy : Do → Type 0
MayEndBy (Deliver packet) = MayEnd packet.body
MayEndBy Begin = Unit {0}
MayEndBy Tick = Unit {0}

module _ (part : ℕ) (texts : Texts) (questions : Questions) (exists : part < slot_count) (j : ℕ) (n : Net) where
  abbrev Goes : Phase → Do → Went_to → Type 0
  Goes p what w = ManagerGoes part texts questions j n p what w

  abbrev brings : Do → Brought
  brings what = record { names = λ e. Names part j e what; ends = MayEndBy what }

  -- it serves on
  to_serving : (s : Serving) (what : Do) (d : Done) → FlightIsText texts d.state.log → Of part texts questions exists (brings what) n s d
      → Goes (Serves s) what (serves d)
  to_serving s what d text h = record {
    next = h.next;
    runs = h.runs;
    agrees = (h.agrees, text);
    rest = h.grows.rest;
    slots = h.slots;
    came = λ e none. ⊎_elim (λ free. inl free) (λ low. inr (refl, low)) (h.came e none);
    stay = h.grows.stay;
    entered = λ e z some none. (h.enters e z some none).1;
    grows = h.grows.sent;
    does = All-from_recursion (ManagerDoes part questions h.next) d.outs h.does;
  }

  -- it serves no more, or not yet
  to_quiet : (p q : Phase) (what : Do) (outs : List Effect) → ManagerAgrees part texts n q → AllDone part texts questions n outs
      → Goes p what (record { state = q; outs = outs })
  to_quiet p q what outs agrees done = record {
    next = n;
    runs = Begun;
    agrees = agrees;
    rest = refl;
    slots = λ e _ _. refl;
    came = λ e none. inl none;
    stay = λ e h. h;
    entered = λ e z some none. absurd (some_none z (sym some ∙ none));
    grows = λ x fact. fact;
    does = All-from_recursion (ManagerDoes part questions n) outs done;
  }

  to_itself : (p : Phase) (what : Do) → ManagerAgrees part texts n p → Goes p what (still p)
  to_itself p what agrees = to_quiet p p what [] agrees tt

  -- ---- crash, restart, and answers

  answers_all : (o : Option ℕ) (a : Answer) (number : ℕ) (b : Answer) → AllDone part texts questions n (answers_unanswered o a ++ Answers number b ∷ [])
  answers_all None a number b = (tt, tt)
  answers_all (Some x) a number b = (tt, (tt, tt))

  crash_goes : (p : Phase) (what : Do) (kept : Kept) (number : ℕ) → Goes p what (crash kept number)
  unfolding crash
  crash_goes p what kept number = to_quiet p _ what _ tt (answers_all kept.items.unanswered answer.Cut number answer.Done)

  restart_goes : (p : Phase) (what : Do) (kept : Kept) (number : ℕ) → Goes p what (restart kept number)
  unfolding restart
  restart_goes p what kept number = to_quiet p _ what _ tt (tt, (tt, tt))

  -- ---- the next item

  down_goes : (p : Phase) (kept : Kept) (number : ℕ) (o : Option Work) → Goes p Begin (down_wish kept number (wish_at o))
  down_goes p kept number None = to_quiet p (Down kept) Begin _ tt (tt, tt)
  down_goes p kept number (Some (work.Restart node)) = restart_goes p Begin kept number
  down_goes p kept number (Some _) = to_quiet p (Down kept) Begin _ tt (tt, tt)

  waiting_goes : (p : Phase) (kept : Kept) (hello number : ℕ) (o : Option Work) → Goes p Begin (waiting_wish kept hello number (wish_at o))
  waiting_goes p kept hello number None = to_quiet p (Waiting kept hello) Begin _ tt (tt, tt)
  waiting_goes p kept hello number (Some (work.Crash node)) = crash_goes p Begin kept number
  waiting_goes p kept hello number (Some _) = to_quiet p (Waiting kept hello) Begin _ tt (tt, tt)

  -- what is to do is begun, and what is open stays so
  same_open : (items : Items) → (items_begin items).unanswered ≡ items.unanswered
  same_open items = by_test (λ (x : Items). x.unanswered ≡ items.unanswered) (is_left items) (record items { begun = items.begun + 1 }) items (λ _. refl)
      (λ _. refl)

  begun_agrees : (s : Serving) → ServingAgrees part texts n s → ServingAgrees part texts n (record s { lasting = with_begun s.lasting })
  begun_agrees s agrees = record {
    eight = agrees.eight;
    given = agrees.given;
    here = agrees.here;
    writer = agrees.writer;
    closed = λ none. agrees.closed (sym (same_open s.lasting.items) ∙ none);
    done = agrees.done;
  }

  serving_goes : (s : Serving) (number : ℕ) (o : Option Work) → ServingAgrees part texts n s → FlightIsText texts s.log
      → WritesTexts part texts questions j n (serving_wish (record s { lasting = with_begun s.lasting }) number (wish_at o)).state
      → Goes (Serves s) Begin (serving_wish (record s { lasting = with_begun s.lasting }) number (wish_at o))
  serving_goes s number o agrees text writes = by o writes
    where
      checkpoint : FlightIsText texts (on_checkpoint (record s { lasting = with_begun s.lasting }) number).state.log
          → Goes (Serves s) Begin (serves (on_checkpoint (record s { lasting = with_begun s.lasting }) number))
      checkpoint writes =
          let r : Serving = record s { lasting = with_begun s.lasting } in
          to_serving s Begin (on_checkpoint r number) writes (checkpoint_serves part texts questions exists (brings Begin) n r number
          (begun_agrees s agrees))

      by : (o : Option Work) → WritesTexts part texts questions j n (serving_wish (record s { lasting = with_begun s.lasting }) number (wish_at o)).state
          → Goes (Serves s) Begin (serving_wish (record s { lasting = with_begun s.lasting }) number (wish_at o))
      by None writes = checkpoint writes
      by (Some (work.Crash node)) writes = crash_goes (Serves s) Begin (with_begun s.lasting) number
      by (Some (work.Restart node)) writes = to_quiet (Serves s) (Serves (record s { lasting = with_begun s.lasting })) Begin _ (begun_agrees s agrees, text)
          (tt, tt)
      by (Some _) writes = checkpoint writes

  begin_goes : (p : Phase) → ManagerAgrees part texts n p → WritesTexts part texts questions j n (on_begin p).state → Goes p Begin (on_begin p)
  unfolding begin_down begin_waiting begin_serving
  begin_goes (Down kept) agrees writes = by (next_item kept.items)
    where
      by : (o : Option ℕ) → Goes (Down kept) Begin (down_item (with_begun kept) o)
      by None = to_quiet (Down kept) (Down (with_begun kept)) Begin [] tt tt
      by (Some number) = down_goes (Down kept) (with_begun kept) number (work_at (with_begun kept).items number)
  begin_goes (Waiting kept hello) agrees writes = by (next_item kept.items)
    where
      by : (o : Option ℕ) → Goes (Waiting kept hello) Begin (waiting_item (with_begun kept) hello o)
      by None = to_quiet (Waiting kept hello) (Waiting (with_begun kept) hello) Begin [] tt tt
      by (Some number) = waiting_goes (Waiting kept hello) (with_begun kept) hello number (work_at (with_begun kept).items number)
  begin_goes (Serves s) agrees writes = by (next_item s.lasting.items) writes
    where
      by : (o : Option ℕ) → WritesTexts part texts questions j n (serving_item (record s { lasting = with_begun s.lasting }) o).state
          → Goes (Serves s) Begin (serving_item (record s { lasting = with_begun s.lasting }) o)
      by None writes = to_quiet (Serves s) (Serves (record s { lasting = with_begun s.lasting })) Begin [] (begun_agrees s agrees.0, agrees.1) tt
      by (Some number) writes = serving_goes s number (work_at (with_begun s.lasting).items number) agrees.0 agrees.1 writes

  -- ---- time

  time_goes : (p : Phase) → ManagerAgrees part texts n p → AreTexts texts n.filed → WritesTexts part texts questions j n (on_time p).state
      → Goes p Tick (on_time p)
  unfolding on_time
  time_goes (Down kept) agrees filed writes = to_itself (Down kept) Tick agrees
  time_goes (Waiting kept ask) agrees filed writes = to_quiet (Waiting kept ask) (Waiting kept ask) Tick _ tt (tt, tt)
  time_goes (Serves s) agrees filed writes = to_serving s Tick (on_tick s) writes
      (tick_serves part texts questions exists (brings Tick) n s agrees.0 filed agrees.1)

  -- ---- packets

  -- a log and a writer that have begun
  pub begun_agreed : (kept : Kept) (maps : Maps) (slots : Table) (groups : GroupMapState) → length slots ≡ slot_count
      → PhaseAgrees part texts n
      (record { log = log_started (log_of kept.number) kept.inc no_end groups; given = []; writer = writer_started (log_of kept.number) }) (phase_at slots part)
      → ServingAgrees part texts n (serving_begun kept maps slots groups)
  begun_agreed kept maps slots groups eight here = record {
    eight = eight;
    given = [];
    here = here;
    writer = record {
      same_log = refl;
      named = λ f fact. absurd (some_none f (sym fact));
      nothing_waits = refl;
      idle = λ _. refl;
      answered = λ e fact. refl;
      work = λ w fact of. absurd (some_none w (sym fact));
    };
    closed = λ _. (refl, refl);
    done = tt;
  }

  -- the Welcome that it awaited: it serves
  opens_goes : (peers : Peers) (kept : Kept) (hello : ℕ) (packet : Sent) (welcome : Welcome) → kept.number ≡ j → AreTexts texts n.filed
      → packet.body ≡ body.Welcome welcome → WaitingGets part texts questions j n kept.inc (body.Welcome welcome)
      → takes_welcome peers kept hello welcome ≡ true
      → FlightIsText texts (on_news (again kept (forgotten peers.servers) welcome.news.groups) peers.clients welcome.news).state.log
      → Goes (Waiting kept hello) (Deliver packet) (serves (on_news (again kept (forgotten peers.servers) welcome.news.groups) peers.clients welcome.news))
  opens_goes peers kept hello packet welcome number filed fact gets takes writes =
      let what : Do = Deliver packet in
      let answered : (welcome.inc == kept.inc) && (welcome.ask == hello) ≡ true = and_first ((welcome.inc == kept.inc) && (welcome.ask == hello))
      (fits (forgotten peers.servers) welcome.news) takes in
      let same_inc : welcome.inc ≡ kept.inc = eqb-true welcome.inc kept.inc (and_first (welcome.inc == kept.inc) (welcome.ask == hello) answered) in
      let s : Serving = again kept (forgotten peers.servers) welcome.news.groups in
      let none : epoch_of (phase_at slot_table_unknown part) ≡ 0 = ap epoch_of (unknown_at part) in
      let h = news_serves part texts questions exists (record { names = λ e. Names part j e what; ends = ⊥ }) j (λ no. no) n s peers.clients welcome.news number
      (begun_agreed kept (forgotten peers.servers) slot_table_unknown welcome.news.groups refl (subst (PhaseAgrees part texts n _) (sym (unknown_at part)) tt))
      filed (λ f there. absurd (some_none f (sym there)))
      (subst (λ k. AllNewsGets part texts questions j n k welcome.news.slots) (sym none) (gets same_inc))
      (λ x there of ours. subst (NamedBy part j x.epoch) (sym fact) (x, there, of, refl, ours)) in
      record {
        next = h.next;
        runs = h.runs;
        agrees = (h.agrees, writes);
        rest = h.grows.rest;
        slots = λ e other not_named. h.slots e (λ at. subst (λ p. HeldAt p e) (unknown_at part) at) not_named;
        came = λ e none. ⊎_elim (λ free. inl free) (λ low. inr (refl, low)) (h.came e none);
        stay = h.grows.stay;
        entered = λ e z some none. (h.enters e z some none).1;
        grows = h.grows.sent;
        does = All-from_recursion (ManagerDoes part questions h.next) _ h.does;
      }

  waiting_gets : (peers : Peers) (kept : Kept) (hello : ℕ) (packet : Sent) (b : Body) → kept.number ≡ j → AreTexts texts n.filed → packet.body ≡ b
      → WaitingGets part texts questions j n kept.inc b
      → WritesTexts part texts questions j n (on_waiting peers kept hello b).state
      → Goes (Waiting kept hello) (Deliver packet) (on_waiting peers kept hello b)
  unfolding on_welcome
  waiting_gets peers kept hello packet (body.Welcome welcome) number filed fact gets writes =
      by_test (λ (w : Went_to). WritesTexts part texts questions j n w.state → Goes (Waiting kept hello) (Deliver packet) w)
      (takes_welcome peers kept hello welcome)
      (serves (on_news (again kept (forgotten peers.servers) welcome.news.groups) peers.clients welcome.news)) (still (Waiting kept hello))
      (λ takes text. opens_goes peers kept hello packet welcome number filed fact gets takes text) (λ _ _. to_itself (Waiting kept hello) (Deliver packet) tt)
      writes
  waiting_gets peers kept hello packet _ number filed fact gets writes = to_itself (Waiting kept hello) (Deliver packet) tt

  packet_goes : (peers : Peers) (p : Phase) (packet : Sent) → (lasting_of p).number ≡ j → ManagerAgrees part texts n p → AreTexts texts n.filed
      → PacketGets part texts questions j n p packet → WritesTexts part texts questions j n (on_packet peers p packet).state
      → Goes p (Deliver packet) (on_packet peers p packet)
  packet_goes peers (Down kept) packet number agrees filed gets writes = to_itself (Down kept) (Deliver packet) tt
  packet_goes peers (Waiting kept hello) packet number agrees filed gets writes = waiting_gets peers kept hello packet packet.body number filed refl gets
      writes
  packet_goes peers (Serves s) packet number agrees filed gets writes =
      to_serving s (Deliver packet) (serving_hear s peers.clients packet) writes
      (hears_serves part texts questions exists (brings (Deliver packet)) j n s peers.clients packet number agrees.0 filed agrees.1 gets
      (λ e fact. fact) ((λ x. x), (λ x. x)))

  deliver_goes : (peers : Peers) (p : Phase) (packet : Sent) → (lasting_of p).number ≡ j → ManagerAgrees part texts n p → AreTexts texts n.filed
      → PacketGets part texts questions j n p packet → WritesTexts part texts questions j n (manager_deliver peers p packet).state
      → Goes p (Deliver packet) (manager_deliver peers p packet)
  unfolding manager_deliver
  deliver_goes peers p packet number agrees filed gets writes =
      by_test (λ (w : Went_to). WritesTexts part texts questions j n w.state → Goes p (Deliver packet) w) (is_well_formed peers packet)
      (on_packet peers p packet) (still p)
      (λ _ text. packet_goes peers p packet number agrees filed gets text) (λ _ _. to_itself p (Deliver packet) agrees) writes

  event_goes : (peers : Peers) (p : Phase) (what : Do) → (lasting_of p).number ≡ j → ManagerAgrees part texts n p → AreTexts texts n.filed
      → EventGets part texts questions j n p what → WritesTexts part texts questions j n (on_event peers p what).state
      → Goes p what (on_event peers p what)
  event_goes peers p Begin number agrees filed gets writes = begin_goes p agrees writes
  event_goes peers p (Deliver packet) number agrees filed gets writes = deliver_goes peers p packet number agrees filed gets writes
  event_goes peers p Tick number agrees filed gets writes = time_goes p agrees filed writes

pub manager_event_goes : ManagerEventGoes
unfolding happens
manager_event_goes part texts questions j n m what exists number agrees owed =
    by_test (λ (w : Went_to). WritesTexts part texts questions j n w.state → ManagerGoes part texts questions j n m.phase what w) (phase_has_room m.phase)
    (on_event m.peers m.phase what) (still m.phase)
    (λ _ text. event_goes part texts questions exists j n m.peers m.phase what number agrees owed.filed owed.gets text)
    (λ _ _. to_itself part texts questions exists j n m.phase what agrees) owed.writes
