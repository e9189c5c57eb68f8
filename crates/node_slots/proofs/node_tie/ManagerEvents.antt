-- Each event of a manager is a list of things that happen in the small world.
use Rattle.std.proofs.Common.{◌≡◌, ◌⊎◌, ℕ, ◌+◌, ◌==◌, ◌≤◌, ◌<◌, true, false, ◌&&◌, List, [], ◌∷◌, ◌++◌, Bool, inl, inr, ⊎_elim, Option, Some, None, refl, sym, ap, subst, ◌∙◌, arith}
use Rattle.std.specs.Prelude.{nat_lt}
use Rattle.std.specs.List.{All}
use Rattle.std.proofs.lemmas.Bool.{eqb-true}
use Rattle.std.proofs.lemmas.Bool.Decides.{nat_tests}
use Rattle.std.proofs.lemmas.List.Elements.{All-from_recursion}
use Rattle.xfs_base.proofs.Booleans.{by_test, contrary, and_first, and_second}
use Rattle.xfs_base.specs.Steps.{still}
use Rattle.xfs_base.specs.declared.node.NodeId.TheVariants.{Manager}
use Rattle.xfs_base.proofs.Alls.{all_append}
use Rattle.xfs_base.specs.Limits.{slot_count}
use Rattle.node_base.specs.Beginning.{next_item, work_at, answers_unanswered}
use Rattle.node_base.specs.Maps.{fits, forgotten}
use Rattle.node_base.specs.Room.{has_room}
use Rattle.node_base.specs.Shape.{is_well_formed}
use Rattle.node_base.specs.Effects.{acts_of}
use Rattle.node_base.specs.declared.effects.Effect.{Effect}
use Rattle.node_base.specs.declared.effects.Effect.TheVariants.{Answer as Answers}
use Rattle.node_base.specs.declared.peers.Peers.{Peers}
use Rattle.token_law.specs.Net.{Net, Runs, acted}
use Rattle.token_law.specs.Net.Runs.{Begun}
use Rattle.token_manager.specs.SlotState.{SlotState}
use Rattle.version_model.specs.declared.answer.Answer.TheVariants as answer
use Rattle.version_model.specs.declared.work.Work.{Work}
use Rattle.version_model.specs.declared.work.Work.TheVariants as work
use Rattle.wire_msg.specs.declared.body.Body.{Body}
use Rattle.wire_msg.specs.declared.body.Body.TheVariants as body
use Rattle.wire_msg.specs.declared.packet.Do.{Do}
use Rattle.wire_msg.specs.declared.packet.Do.TheVariants.{Begin, Deliver, Tick}
use Rattle.wire_msg.specs.declared.packet.Packet.{Packet as Sent}
use Rattle.wire_msg.specs.declared.registry.Welcome.{Welcome}
use Rattle.manager_node.specs.Events.{takes_welcome, on_welcome, on_waiting, on_packet, manager_deliver, on_time, on_event, happens}
use Rattle.manager_node.specs.Phases.{lasting_of, phase_has_room, serves, crash, restart, wish_at, down_wish, waiting_wish, serving_wish, with_begun, down_item, waiting_item, serving_item, begin_down, begin_waiting, begin_serving, on_begin}
use Rattle.manager_node.specs.declared.phase.Phase.{Phase}
use Rattle.manager_node.specs.declared.phase.Phase.TheVariants.{Down, Waiting, Serving as Serves}
use Rattle.manager_slots.specs.Lasting.{lasting_answer}
use Rattle.manager_slots.specs.Numbers.{risen}
use Rattle.manager_slots.specs.SlotTable.{slot_table_unknown}
use Rattle.manager_slots.specs.Slots.{epoch_of}
use Rattle.manager_slots.specs.declared.lasting.Lasting.{Lasting as Kept}
use Rattle.manager_slots.specs.declared.slot_phase.SlotPhase.{SlotPhase}
use Rattle.manager_slots.specs.declared.slot_phase.SlotPhase.TheVariants as phase
use Rattle.manager_serving.specs.Checkpoints.{Done, on_checkpoint}
use Rattle.manager_serving.specs.Serving.{again, on_news, serving_hear, on_tick}
use Rattle.manager_serving.specs.declared.serving.Serving.{Serving}
use Rattle.node_slots.specs.node_tie.Sight.{ManagerDoes}
use Rattle.node_slots.specs.node_tie.ManagerEvents.{TakingAt, HeldAt, PhaseAgrees, OtherAgrees, TableAgrees, ManagerAgrees, epoch_in, AllNewsGets, WaitingGets, EventGets, NamedBy, Names, is_serving, is_waiting, ManagerGoes, ManagerEventGoes}
use Rattle.headline.specs.Managers.{phase_at, slot_in}
use Rattle.node_slots.proofs.node_tie.SlotTables.{unknown_at}
use Rattle.node_slots.proofs.node_tie.ManagerActive.{some_none}
use Rattle.node_slots.proofs.node_tie.ManagerCheckpoints.{answers_done, quiet_checkpoint}
use Rattle.node_slots.proofs.node_tie.SmallWorld.{neutral_acts, runs_through, says_all}
use Rattle.node_slots.proofs.node_tie.ManagerFrames.{manager_on}
use Rattle.node_slots.proofs.node_tie.ManagerMoves.{AllDone, DoesAt, stays_same}
use Rattle.node_slots.proofs.node_tie.ManagerHears.{WentOf, went_serving, went_opening, went_hears}
use Rattle.node_slots.proofs.node_tie.ManagerServes.{Of, serves_quiet, serves_tick}

taking_is : (p : SlotPhase) (e : ℕ) → TakingAt p e → epoch_of p ≡ e
taking_is (phase.Taking t) e h = h
taking_is _ e h = absurd h

nothing_enters : {A : Type 0} (n : Net) (e : ℕ) (z : SlotState) → n.slots e ≡ Some z → n.slots e ≡ None → A
nothing_enters n e z some none = absurd (some_none z (sym some ∙ none))

module _ (logs : Bool) (members part limit j : ℕ) (n : Net) where
  all_of : (life : ℕ) (outs : List Effect) → AllDone logs members part limit life n outs → All (ManagerDoes part n.sent limit life) outs
  all_of life outs h = All-from_recursion (ManagerDoes part n.sent limit life) outs h

  -- what it acts changes no history, and is done last
  abbrev done : Net → List Effect → Net
  done m outs = acted m (acts_of (Manager j) outs)

  done_runs : (life : ℕ) (m : Net) (outs : List Effect) → Runs logs members part n m → AllDone logs members part limit life m outs
      → Runs logs members part n (done m outs)
  done_runs life m outs runs does =
      runs_through n m (done m outs) runs
      (says_all logs members part m (acts_of (Manager j) outs)
      (neutral_acts (Manager j) (DoesAt logs members part limit life m) (λ a neutral. neutral) outs does))

  done_agrees : (m : Net) (outs : List Effect) (p : Phase) → ManagerAgrees members part m j p → ManagerAgrees members part (done m outs) j p
  done_agrees m outs p agrees = manager_on members part m (done m outs) (λ x fact. fact) (omega arith) j p (λ e held. refl) agrees

  done_acts : (m : Net) (outs : List Effect) → m.acts ≡ n.acts → (done m outs).acts ≡ n.acts ++ acts_of (Manager j) outs
  done_acts m outs same = ap (λ acts. acts ++ acts_of (Manager j) outs) same

  -- it doesn't serve then: it has nothing of the slot
  to_rest : (p q : Phase) (what : Do) (outs : List Effect) → ManagerAgrees members part (done n outs) j q → slot_in part q ≡ phase.Away 0
      → is_serving q ≡ false → (lasting_of p).inc ≤ (lasting_of q).inc
      → (is_waiting q ≡ true → is_waiting p ≡ false → (lasting_of p).inc < (lasting_of q).inc)
      → ((lasting_of q).inc ≡ (lasting_of p).inc) ⊎ (is_waiting q ≡ true) → AllDone logs members part limit (lasting_of q).inc n outs
      → ManagerGoes logs members part limit j n p what (record { state = q; outs = outs })
  to_rest p q what outs agrees away rests later restarts lives does = record {
    next = done n outs;
    runs = done_runs (lasting_of q).inc n outs Begun does;
    agrees = agrees;
    tokens = refl;
    up = refl;
    books = refl;
    acts = refl;
    slots = λ e other. refl;
    changed = λ e. inl refl;
    entered = λ e z some none. nothing_enters n e z some none;
    taken = λ e h. absurd (subst (λ (s : SlotPhase). HeldAt s e) away h);
    rises = λ _ fact. contrary (sym rests ∙ fact);
    within = subst (λ (s : SlotPhase). epoch_of s ≤ limit) (sym away) (omega arith);
    grows = λ x fact. fact;
    does = all_of (lasting_of q).inc outs does;
    later = later;
    restarts = restarts;
    opens = λ fact. contrary (sym rests ∙ fact);
    lives = lives;
  }

  -- it is down
  to_down : (p : Phase) (what : Do) (kept : Kept) (outs : List Effect) → kept.number ≡ j → kept.inc ≡ (lasting_of p).inc
      → AllDone logs members part limit kept.inc n outs → ManagerGoes logs members part limit j n p what (record { state = Down kept; outs = outs })
  to_down p what kept outs number lives does =
      to_rest p (Down kept) what outs number refl refl (omega arith) (λ fact. contrary fact) (inl lives) does

  -- it awaits its Welcome
  to_waiting : (p : Phase) (what : Do) (kept : Kept) (hello : ℕ) (outs : List Effect) → kept.number ≡ j → (lasting_of p).inc ≤ kept.inc
      → (is_waiting p ≡ false → (lasting_of p).inc < kept.inc) → AllDone logs members part limit kept.inc n outs
      → ManagerGoes logs members part limit j n p what (record { state = Waiting kept hello; outs = outs })
  to_waiting p what kept hello outs number later new does =
      to_rest p (Waiting kept hello) what outs number refl refl later (λ _. new) (inr refl) does

module _ (logs : Bool) (members part limit j : ℕ) (exists : part < slot_count) (n : Net) where
  -- it serves on
  to_serving : (s : Serving) (what : Do) (d : Done) → s.lasting.number ≡ j
      → WentOf logs members part limit s.lasting.inc exists j (λ e. Names part j e what) n s d
      → ManagerGoes logs members part limit j n (Serves s) what (serves d)
  to_serving s what d number h = record {
    next = done logs members part limit j n h.next d.outs;
    runs = done_runs logs members part limit j n s.lasting.inc h.next d.outs h.goes.runs h.goes.does;
    agrees = done_agrees logs members part limit j n h.next d.outs (Serves d.state) (record { number = h.numbered ∙ number; table = h.agrees });
    tokens = h.goes.tokens;
    up = h.goes.up;
    books = h.goes.books;
    acts = done_acts logs members part limit j n h.next d.outs h.goes.acts;
    slots = h.goes.slots;
    changed = h.goes.changed;
    entered = λ e z some none. let t = h.goes.entered e z some none in let at = taking_is (phase_at s.slots part) e t.0 in let up = h.goes.rises in
        (t.0, refl, omega arith, t.1);
    taken = λ e k. ⊎_elim (λ was. inl (was, h.lives)) (λ new. inr (new.0, new.1)) (h.goes.held e k);
    rises = λ _ _. h.goes.rises;
    within = h.within;
    grows = h.goes.grows;
    does = subst (λ life. All (ManagerDoes part h.next.sent limit life) d.outs) (sym h.lives)
        (All-from_recursion (ManagerDoes part h.next.sent limit s.lasting.inc) d.outs h.goes.does);
    later = let same = h.lives in omega arith;
    restarts = λ fact. contrary fact;
    opens = λ _ fact. contrary (sym fact);
    lives = inl h.lives;
  }

  serves_on : (s : Serving) (what : Do) (d : Done) → s.lasting.number ≡ j → epoch_of (phase_at s.slots part) ≤ limit
      → Of logs members part limit s.lasting.inc exists n s d → ManagerGoes logs members part limit j n (Serves s) what (serves d)
  serves_on s what d number low h =
      to_serving s what d number (went_serving logs members part limit s.lasting.inc exists j (λ e. Names part j e what) n s d low h)

  -- nothing is made of the event
  to_itself : (p : Phase) (what : Do) → ManagerAgrees members part n j p → epoch_in part p ≤ limit → ManagerGoes logs members part limit j n p what (still p)
  to_itself (Down kept) what agrees low = to_down logs members part limit j n (Down kept) what kept [] agrees refl tt
  to_itself (Waiting kept hello) what agrees low = to_waiting logs members part limit j n (Waiting kept hello) what kept hello [] agrees (omega arith)
      (λ fact. contrary (sym fact)) tt
  to_itself (Serves s) what agrees low =
      serves_on s what (still s) agrees.number low (serves_quiet logs members part limit s.lasting.inc exists n s.lasting.number s.lasting.inc s.slots (still s)
      (record { number = refl; lives = refl; stays = stays_same logs members part limit s.lasting.inc n (phase_at s.slots part) [] tt; agrees = agrees.table }))

  -- ---- crash and restart

  crash_goes : (p : Phase) (what : Do) (kept : Kept) (number : ℕ) → kept.number ≡ j → kept.inc ≡ (lasting_of p).inc
      → ManagerGoes logs members part limit j n p what (crash kept number)
  unfolding crash
  crash_goes p what kept number is_j later =
      to_down logs members part limit j n p what (lasting_answer kept) _ is_j later
      (all_append (DoesAt logs members part limit kept.inc n) (answers_unanswered kept.items.unanswered answer.Cut) (Answers number answer.Done ∷ [])
      (answers_done logs members part limit kept.inc exists n kept.items.unanswered answer.Cut) (tt, tt))

  rises_by_one : (inc : ℕ) → has_room inc ≡ true → inc < risen inc
  rises_by_one inc h = grind (arith, nat_tests)

  restart_goes : (p : Phase) (what : Do) (kept : Kept) (number : ℕ) → kept.number ≡ j → (lasting_of p).inc ≤ kept.inc → has_room kept.inc ≡ true
      → ManagerGoes logs members part limit j n p what (restart kept number)
  unfolding restart
  restart_goes p what kept number is_j later room =
      let up = rises_by_one kept.inc room in
      to_waiting logs members part limit j n p what _ _ _ is_j (omega arith) (λ _. omega arith) (tt, ((omega arith), tt))

  -- ---- the next item

  down_goes : (p : Phase) (kept : Kept) (number : ℕ) (o : Option Work) → kept.number ≡ j → kept.inc ≡ (lasting_of p).inc → has_room kept.inc ≡ true
      → ManagerGoes logs members part limit j n p Begin (down_wish kept number (wish_at o))
  down_goes p kept number None is_j later room = to_down logs members part limit j n p Begin kept _ is_j later (tt, tt)
  down_goes p kept number (Some (work.Restart node)) is_j later room = restart_goes p Begin kept number is_j (omega arith) room
  down_goes p kept number (Some _) is_j later room = to_down logs members part limit j n p Begin kept _ is_j later (tt, tt)

  waiting_goes : (p : Phase) (kept : Kept) (hello number : ℕ) (o : Option Work) → kept.number ≡ j → kept.inc ≡ (lasting_of p).inc → is_waiting p ≡ true
      → ManagerGoes logs members part limit j n p Begin (waiting_wish kept hello number (wish_at o))
  waiting_goes p kept hello number None is_j later was = to_waiting logs members part limit j n p Begin kept hello _ is_j (omega arith)
      (λ no. contrary (sym no ∙ was)) (tt, tt)
  waiting_goes p kept hello number (Some (work.Crash node)) is_j later was = crash_goes p Begin kept number is_j later
  waiting_goes p kept hello number (Some _) is_j later was = to_waiting logs members part limit j n p Begin kept hello _ is_j (omega arith)
      (λ no. contrary (sym no ∙ was)) (tt, tt)

  -- it serves on, with what it is to do changed
  serving_answers : (s : Serving) (items : Kept) (outs : List Effect) → s.lasting.number ≡ j → epoch_of (phase_at s.slots part) ≤ limit
      → TableAgrees members part n s.slots → items.number ≡ s.lasting.number → items.inc ≡ s.lasting.inc → AllDone logs members part limit s.lasting.inc n outs
      → ManagerGoes logs members part limit j n (Serves s) Begin (record { state = Serves (record s { lasting = items }); outs = outs })
  serving_answers s items outs is_j low agrees number lives done =
      serves_on s Begin (record { state = record s { lasting = items }; outs = outs }) is_j low
      (serves_quiet logs members part limit s.lasting.inc exists n s.lasting.number s.lasting.inc s.slots _
      (record {
        number = number;
        lives = lives;
        stays = stays_same logs members part limit s.lasting.inc n (phase_at s.slots part) outs done;
        agrees = agrees;
      }))

  serving_goes : (s : Serving) (number : ℕ) (o : Option Work) → s.lasting.number ≡ j → epoch_of (phase_at s.slots part) ≤ limit
      → TableAgrees members part n s.slots
      → ManagerGoes logs members part limit j n (Serves s) Begin (serving_wish (record s { lasting = with_begun s.lasting }) number (wish_at o))
  serving_goes s number o is_j low agrees = by o
    where
      checkpoint : ManagerGoes logs members part limit j n (Serves s) Begin (serves (on_checkpoint (record s { lasting = with_begun s.lasting }) number))
      checkpoint =
          let r : Serving = record s { lasting = with_begun s.lasting } in
          serves_on s Begin (on_checkpoint r number) is_j low
          (serves_quiet logs members part limit s.lasting.inc exists n s.lasting.number s.lasting.inc s.slots (on_checkpoint r number)
          (quiet_checkpoint logs members part limit s.lasting.inc exists n r number agrees))

      by : (o : Option Work) → ManagerGoes logs members part limit j n (Serves s) Begin
          (serving_wish (record s { lasting = with_begun s.lasting }) number (wish_at o))
      by None = checkpoint
      by (Some (work.Crash node)) = crash_goes (Serves s) Begin (with_begun s.lasting) number is_j refl
      by (Some (work.Restart node)) = serving_answers s (with_begun s.lasting) _ is_j low agrees refl refl (tt, tt)
      by (Some _) = checkpoint

  begin_goes : (p : Phase) → ManagerAgrees members part n j p → epoch_in part p ≤ limit → phase_has_room p ≡ true
      → ManagerGoes logs members part limit j n p Begin (on_begin p)
  unfolding begin_down begin_waiting begin_serving
  begin_goes (Down kept) agrees low room = by (next_item kept.items)
    where
      by : (o : Option ℕ) → ManagerGoes logs members part limit j n (Down kept) Begin (down_item (with_begun kept) o)
      by None = to_down logs members part limit j n (Down kept) Begin (with_begun kept) [] agrees refl tt
      by (Some number) = down_goes (Down kept) (with_begun kept) number (work_at (with_begun kept).items number) agrees refl
          (and_first (has_room kept.inc) (has_room kept.questions.last) room)
  begin_goes (Waiting kept hello) agrees low room = by (next_item kept.items)
    where
      by : (o : Option ℕ) → ManagerGoes logs members part limit j n (Waiting kept hello) Begin (waiting_item (with_begun kept) hello o)
      by None =
          to_waiting logs members part limit j n (Waiting kept hello) Begin (with_begun kept) hello [] agrees (omega arith) (λ fact. contrary (sym fact)) tt
      by (Some number) = waiting_goes (Waiting kept hello) (with_begun kept) hello number (work_at (with_begun kept).items number) agrees refl refl
  begin_goes (Serves s) agrees low room = by (next_item s.lasting.items)
    where
      by : (o : Option ℕ) → ManagerGoes logs members part limit j n (Serves s) Begin (serving_item (record s { lasting = with_begun s.lasting }) o)
      by None = serving_answers s (with_begun s.lasting) [] agrees.number low agrees.table refl refl tt
      by (Some number) = serving_goes s number (work_at (with_begun s.lasting).items number) agrees.number low agrees.table

  -- ---- time

  time_goes : (p : Phase) → ManagerAgrees members part n j p → epoch_in part p ≤ limit → ManagerGoes logs members part limit j n p Tick (on_time p)
  unfolding on_time
  time_goes (Down kept) agrees low = to_itself (Down kept) Tick agrees low
  time_goes (Waiting kept ask) agrees low = to_waiting logs members part limit j n (Waiting kept ask) Tick kept ask _ agrees (omega arith)
      (λ fact. contrary (sym fact)) ((omega arith), tt)
  time_goes (Serves s) agrees low =
      serves_on s Tick (on_tick s) agrees.number low (serves_tick logs members part limit s.lasting.inc exists n s agrees.table low)

  -- ---- packets

  unknown_agrees : TableAgrees members part n slot_table_unknown
  unknown_agrees = record {
    eight = refl;
    here = subst (PhaseAgrees members part n) (sym (unknown_at part)) tt;
    there = λ k other. subst (OtherAgrees k) (sym (unknown_at k)) tt;
  }

  -- the Welcome that it awaited: it serves
  opens_goes : (clients : ℕ) (peers : Peers) (kept : Kept) (hello : ℕ) (packet : Sent) (welcome : Welcome) → members ≡ peers.clients + 1 → kept.number ≡ j
      → packet.body ≡ body.Welcome welcome → WaitingGets part limit j n kept.inc (body.Welcome welcome)
      → takes_welcome peers kept hello welcome ≡ true → ManagerGoes logs members part limit j n (Waiting kept hello) (Deliver packet)
      (serves (on_news (again kept (forgotten peers.servers) welcome.news.groups) peers.clients welcome.news))
  opens_goes clients peers kept hello packet welcome many is_j fact gets takes =
      let what : Do = Deliver packet in
      let answered : (welcome.inc == kept.inc) && (welcome.ask == hello) ≡ true = and_first ((welcome.inc == kept.inc) && (welcome.ask == hello))
      (fits (forgotten peers.servers) welcome.news) takes in
      let same_inc : welcome.inc ≡ kept.inc = eqb-true welcome.inc kept.inc (and_first (welcome.inc == kept.inc) (welcome.ask == hello) answered) in
      let same_ask : welcome.ask ≡ hello = eqb-true welcome.ask hello (and_second (welcome.inc == kept.inc) (welcome.ask == hello) answered) in
      let g = gets same_inc in
      let s : Serving = again kept (forgotten peers.servers) welcome.news.groups in
      let none : epoch_of (phase_at slot_table_unknown part) ≡ 0 = ap epoch_of (unknown_at part) in
      let h = went_opening logs members part limit kept.inc exists j (λ e. Names part j e what) n s peers.clients welcome.news unknown_agrees (omega arith)
      (record {
        number = is_j;
        many = sym many;
        gets = subst (λ k. AllNewsGets part limit j n k welcome.news.slots) (sym none) g.slots;
        names = λ news there of ours. subst (NamedBy part j news.epoch) (sym fact) (news, there, of, refl, ours);
      }) (newer welcome.news.version g.newer) in
      let d = on_news s peers.clients welcome.news in
      record {
        next = done logs members part limit j n h.next d.outs;
        runs = done_runs logs members part limit j n kept.inc h.next d.outs h.goes.runs h.goes.does;
        agrees = done_agrees logs members part limit j n h.next d.outs (Serves d.state) (record { number = h.numbered ∙ is_j; table = h.agrees });
        tokens = h.goes.tokens;
        up = h.goes.up;
        books = h.goes.books;
        acts = done_acts logs members part limit j n h.next d.outs h.goes.acts;
        slots = λ e other. h.goes.slots e (λ held. other (subst (λ p. HeldAt p e) (unknown_at part) held));
        changed = h.goes.changed;
        entered = λ e z some no. absurd (subst (λ p. TakingAt p e) (unknown_at part) (h.goes.entered e z some no).0);
        taken = λ e k. ⊎_elim (λ was. absurd (subst (λ p. HeldAt p e) (unknown_at part) was)) (λ new. let above = new.1 in inr (new.0, omega arith))
            (h.goes.held e k);
        rises = λ was _. contrary was;
        within = h.within;
        grows = h.goes.grows;
        does = subst (λ life. All (ManagerDoes part h.next.sent limit life) d.outs) (sym h.lives)
            (All-from_recursion (ManagerDoes part h.next.sent limit kept.inc) d.outs h.goes.does);
        later = let same = h.lives in omega arith;
        restarts = λ fact. contrary fact;
        opens = λ _ _. record {
          kept = kept;
          hello = hello;
          packet = packet;
          welcome = welcome;
          was = refl;
          gets = refl;
          bears = fact;
          inc = same_inc;
          ask = same_ask;
          life = h.lives;
          above = h.above refl;
        };
        lives = inl h.lives;
      }
    where
      newer : (v : ℕ) → 0 < v → nat_lt 0 v ≡ true
      newer v pos = grind (arith, nat_tests)

  waits_on : (kept : Kept) (hello : ℕ) (packet : Sent) → kept.number ≡ j
      → ManagerGoes logs members part limit j n (Waiting kept hello) (Deliver packet) (still (Waiting kept hello))
  waits_on kept hello packet is_j = to_waiting logs members part limit j n (Waiting kept hello) (Deliver packet) kept hello [] is_j (omega arith)
      (λ fact. contrary (sym fact)) tt

  waiting_gets : (peers : Peers) (kept : Kept) (hello : ℕ) (packet : Sent) (b : Body) → members ≡ peers.clients + 1 → kept.number ≡ j → packet.body ≡ b
      → WaitingGets part limit j n kept.inc b → ManagerGoes logs members part limit j n (Waiting kept hello) (Deliver packet) (on_waiting peers kept hello b)
  unfolding on_welcome
  waiting_gets peers kept hello packet (body.Welcome welcome) many is_j fact gets =
      by_test (ManagerGoes logs members part limit j n (Waiting kept hello) (Deliver packet)) (takes_welcome peers kept hello welcome)
      (serves (on_news (again kept (forgotten peers.servers) welcome.news.groups) peers.clients welcome.news)) (still (Waiting kept hello))
      (λ takes. opens_goes peers.clients peers kept hello packet welcome many is_j fact gets takes) (λ _. waits_on kept hello packet is_j)
  waiting_gets peers kept hello packet _ many is_j fact gets = waits_on kept hello packet is_j

  packet_goes : (peers : Peers) (p : Phase) (packet : Sent) → members ≡ peers.clients + 1 → ManagerAgrees members part n j p → epoch_in part p ≤ limit
      → EventGets logs part limit j n members p (Deliver packet) → ManagerGoes logs members part limit j n p (Deliver packet) (on_packet peers p packet)
  packet_goes peers (Down kept) packet many agrees low gets = to_itself (Down kept) (Deliver packet) agrees low
  packet_goes peers (Waiting kept hello) packet many agrees low gets = waiting_gets peers kept hello packet packet.body many agrees refl gets
  packet_goes peers (Serves s) packet many agrees low gets =
      to_serving s (Deliver packet) (serving_hear s peers.clients packet) agrees.number
      (went_hears logs members part limit s.lasting.inc exists j (λ e. Names part j e (Deliver packet)) n s peers.clients packet agrees.number refl
      (sym many) agrees.table low gets (λ e fact. fact))

  deliver_goes : (peers : Peers) (p : Phase) (packet : Sent) → members ≡ peers.clients + 1 → ManagerAgrees members part n j p → epoch_in part p ≤ limit
      → EventGets logs part limit j n members p (Deliver packet) → ManagerGoes logs members part limit j n p (Deliver packet) (manager_deliver peers p packet)
  unfolding manager_deliver
  deliver_goes peers p packet many agrees low gets =
      by_test (ManagerGoes logs members part limit j n p (Deliver packet)) (is_well_formed peers packet) (on_packet peers p packet) (still p)
      (λ _. packet_goes peers p packet many agrees low gets) (λ _. to_itself p (Deliver packet) agrees low)

  event_goes : (peers : Peers) (p : Phase) (what : Do) → members ≡ peers.clients + 1 → ManagerAgrees members part n j p → epoch_in part p ≤ limit
      → EventGets logs part limit j n members p what → phase_has_room p ≡ true → ManagerGoes logs members part limit j n p what (on_event peers p what)
  event_goes peers p Begin many agrees low gets room = begin_goes p agrees low room
  event_goes peers p (Deliver packet) many agrees low gets room = deliver_goes peers p packet many agrees low gets
  event_goes peers p Tick many agrees low gets room = time_goes p agrees low

pub manager_event_goes : ManagerEventGoes
unfolding happens
manager_event_goes logs members part limit j n m what exists many agrees low gets =
    by_test (ManagerGoes logs members part limit j n m.phase what) (phase_has_room m.phase) (on_event m.peers m.phase what) (still m.phase)
    (λ room. event_goes logs members part limit j exists n m.peers m.phase what many agrees low gets room)
    (λ _. to_itself logs members part limit j exists n m.phase what agrees low)
