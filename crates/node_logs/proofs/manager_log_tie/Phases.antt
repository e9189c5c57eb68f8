-- Each event of a manager is a run of the small world of its log.
use Rattle.std.proofs.Common.{◌≡◌, ◌<◌, ◌≤◌, ℕ, ◌+◌, ◌^◌, true, List, [], ◌∷◌, ◌++◌, Option, Some, None, refl, sym, ap, subst, ◌∙◌, arith}
use Rattle.std.specs.Prelude.{All, min}
use Rattle.std.proofs.lemmas.Bool.Decides.{nat_tests}
use Rattle.std.proofs.lemmas.List.Elements.{All-nil, All-cons, All-append}
use Rattle.client_log.specs.LogState.{log_start}
use Rattle.group_map.specs.GroupMapState.{GroupMapState}
use Rattle.manager_node.specs.declared.manager.Manager.{Manager}
use Rattle.manager_node.specs.declared.phase.Phase.{Phase}
use Rattle.manager_node.specs.declared.phase.Phase.TheVariants.{Down, Waiting, Serving as Serves}
use Rattle.manager_node.specs.Events.{takes_welcome, on_welcome, on_waiting, on_packet, manager_deliver, on_time, on_event, happens}
use Rattle.manager_node.specs.Phases.{Went_to, lasting_of, phase_has_room, serves, crash, restart, wish_at, manager_answer, down_wish, waiting_wish, serving_wish, with_begun, down_item, waiting_item, serving_item, begin_down, begin_waiting, begin_serving, on_begin}
use Rattle.manager_slots.specs.declared.lasting.Lasting.{Lasting as Kept}
use Rattle.manager_slots.specs.Lasting.{log_of, lasting_has_room}
use Rattle.manager_slots.specs.Numbers.{risen}
use Rattle.manager_serving.specs.Checkpoints.{Done, on_checkpoint}
use Rattle.manager_serving.specs.declared.serving.Serving.{Serving}
use Rattle.manager_serving.specs.Serving.{again, on_news, serving_hear, on_tick}
use Rattle.node_base.specs.Beginning.{next_item, work_at, answers_unanswered}
use Rattle.node_base.specs.declared.effects.Effect.{Effect}
use Rattle.node_base.specs.declared.effects.Effect.TheVariants.{Send, Answer as Answers, Lose, Does}
use Rattle.node_base.specs.declared.peers.Peers.{Peers}
use Rattle.node_base.specs.Effects.{act_of, acts_of, packets_of}
use Rattle.node_base.specs.Maps.{forgotten}
use Rattle.node_base.specs.Room.{has_room}
use Rattle.node_base.specs.Shape.{is_well_formed}
use Rattle.segment_format.specs.Format.{IsLog}
use Rattle.version_model.specs.declared.answer.Answer.{Answer}
use Rattle.version_model.specs.declared.answer.Answer.TheVariants as answer
use Rattle.version_model.specs.declared.work.Work.{Work}
use Rattle.version_model.specs.declared.work.Work.TheVariants as work
use Rattle.wire_msg.specs.declared.body.Body.{Body}
use Rattle.wire_msg.specs.declared.body.Body.TheVariants as body
use Rattle.wire_msg.specs.declared.packet.Do.{Do}
use Rattle.wire_msg.specs.declared.packet.Do.TheVariants.{Begin, Deliver, Tick}
use Rattle.wire_msg.specs.declared.packet.Packet as packets
use Rattle.wire_msg.specs.declared.registry.Welcome.{Welcome}
use Rattle.xfs_base.proofs.Booleans.{by_test, and_first}
use Rattle.xfs_base.specs.declared.node.NodeId.{NodeId}
use Rattle.xfs_base.specs.declared.node.NodeId.TheVariants as nodes
use Rattle.xfs_base.specs.declared.segment.LogId.{LogId}
use Rattle.xfs_base.specs.Steps.{still}
use Rattle.xfs_base.proofs.Alls.{all_append}
use Rattle.xfs_base.specs.Limits.{block_logs, log_count, most_managers}
use Rattle.xfs_base.specs.Logs.{cleaners_number}
use Rattle.log_protocol.specs.Tables.{In}
use Rattle.log_tie.specs.Setting.{Setting}
use Rattle.log_law.specs.Net.{Net, no_end}
use Rattle.log_law.specs.Net.{Owner as owner}
use Rattle.log_law.specs.Net.Packet.{MapSent}
use Rattle.log_law.specs.Events.{Runs}
use Rattle.log_law.specs.Events.Runs.{Begun, On}
use Rattle.node_logs.proofs.node_log_tie.Lists.{packets_all}
use Rattle.node_logs.specs.node_log_tie.Sight.{AllSeen, BodySeen, PacketSeen}
use Rattle.node_logs.specs.node_log_tie.Sight.Question.{OfMaps}
use Rattle.node_logs.proofs.client_log_tie.Frames.{grown_still, grown_on}
use Rattle.node_logs.specs.client_log_tie.ClientEvents.{ActSeen, Grown, OfItsLog}
use Rattle.node_logs.specs.client_log_tie.Owner.{Scene}
use Rattle.node_logs.specs.client_log_tie.Texts.{MapFits}
use Rattle.node_logs.specs.manager_log_tie.Fitting.{InRange}
use Rattle.node_logs.specs.manager_log_tie.Owner.{its_asker, Lasts, IsDown, Awaits, Stands, ManagerAgrees}
use Rattle.node_logs.specs.manager_log_tie.OwnerEvents.{ManagerOwed, ManagerTakes}
use Rattle.node_logs.proofs.manager_log_tie.Checkpointing.{checkpoint_so}
use Rattle.node_logs.proofs.manager_log_tie.Frames.{ManagerDoes, AllDone, Goes, all_aside, says_seen, says_own, says_fits}
use Rattle.node_logs.proofs.manager_log_tie.Renewed.{SameElse, Fall, fall_of, Renewed, renewed}
use Rattle.node_logs.proofs.manager_log_tie.Serving.{news_so, packet_so, time_so}
use Rattle.node_logs.proofs.manager_log_tie.SlotPhases.{answers_aside}
use Rattle.node_logs.proofs.manager_log_tie.Written.{anew_written}

-- ---- numbers

rises : (k : ℕ) → has_room k ≡ true → k < risen k
rises k room = grind (arith, nat_tests)

risen_small : (k : ℕ) → risen k < 2 ^ 32
risen_small k = grind (arith, nat_tests)

its_high : (j : ℕ) → 0 < j → block_logs < block_logs + min j most_managers
its_high j some = grind (arith, nat_tests)

pub its_number_is_log : (j : ℕ) → IsLog (block_logs + min j most_managers)
its_number_is_log j = (low j, high j)
  where
    low : (j : ℕ) → 1 ≤ block_logs + min j most_managers
    low j = omega arith

    high : (j : ℕ) → block_logs + min j most_managers ≤ log_count
    high j = grind (arith, nat_tests)

module _ (g : Setting) (j : ℕ) (fact : g.log ≡ log_of j) where
  -- the small world runs on to one in which the manager is seen so, and all that it does is seen
  pub record Went (w : Scene) (d : Went_to) : Type 0 where
    pub next : Scene
    pub grown : Grown g w next
    pub agrees : ManagerAgrees g j next d.state
    pub does : AllDone g j next d.outs

  -- ---- where the small world stands still

  plain_so : (w : Scene) (p : Phase) (outs : List Effect) → ManagerAgrees g j w p → AllDone g j w outs → Went w (record { state = p; outs = outs })
  plain_so w p outs sees does = record { next = w; grown = grown_still g w; agrees = sees; does = does }

  still_so : (w : Scene) (p : Phase) → ManagerAgrees g j w p → Went w (still p)
  still_so w p sees = plain_so w p [] sees tt

  manager_answer_so : (w : Scene) (p : Phase) (number : ℕ) (a : Answer) → ManagerAgrees g j w p → Went w (manager_answer p number a)
  manager_answer_so w p number a sees = plain_so w p (Answers number a ∷ []) sees (tt, tt)

  serves_so : (w : Scene) (d : Done) → Goes g j w d → Went w (serves d)
  serves_so w d p = record { next = p.next; grown = p.grown; agrees = p.stands; does = p.does }

  -- ---- crashes

  grown_by : (w : Scene) (net : Net) → SameElse w.net net → Runs g w.net net → Grown g w (record w { net = net })
  grown_by w net same runs = record {
    runs = runs;
    sent = λ p among. subst (In p) (sym same.sent) among;
    filed = λ name among. subst (In name) (sym same.filed) among;
    shelves = same.shelves;
    registry = same.registry;
    low = same.low;
    dropped = same.dropped;
    asked = λ k some. refl;
  }

  crash_said : (w : Scene) (kept : Kept) (number : ℕ) → AllDone g j w (answers_unanswered kept.items.unanswered answer.Cut ++ Answers number answer.Done ∷ [])
  crash_said w kept number =
      all_append (ManagerDoes g j w) (answers_unanswered kept.items.unanswered answer.Cut) (Answers number answer.Done ∷ [])
      (all_aside g j w _ (answers_aside kept.items.unanswered answer.Cut)) (tt, tt)

  -- one that serves takes the owner with it
  falls_so : (w : Scene) (s : Serving) (number : ℕ) → Stands g j w s → Went w (crash s.lasting number)
  unfolding crash
  falls_so w s number h =
      let f : Fall g w.net = fall_of g w.net in
      let v : Scene = record w { net = f.net } in
      record {
        next = v;
        grown = grown_by w f.net f.same (On Begun f.happens);
        agrees = record {
          lasts = record { number = h.lasts.number; small = h.lasts.small; asks = h.lasts.asks };
          inc = (let x = f.inc in let y = h.inc in omega arith);
          owner = f.down;
        };
        does = crash_said v s.lasting number;
      }

  -- the owner of one that awaits its Welcome is down already
  gives_up_so : (w : Scene) (kept : Kept) (number : ℕ) → Awaits g j w kept → Went w (crash kept number)
  unfolding crash
  gives_up_so w kept number h =
      plain_so w _ _
      (record {
        lasts = record { number = h.lasts.number; small = h.lasts.small; asks = h.lasts.asks };
        inc = (let x = h.inc in omega arith);
        owner = h.owner;
      })
      (crash_said w kept number)

  -- ---- restarts

  restart_so : (w : Scene) (kept : Kept) (number : ℕ) → IsDown g j w kept → has_room kept.inc ≡ true → Went w (restart kept number)
  unfolding restart
  restart_so w kept number h room =
      plain_so w _ _
      (record {
        lasts = record { number = h.lasts.number; small = risen_small kept.inc; asks = h.lasts.asks };
        inc = (let x = h.inc in let y = rises kept.inc room in omega arith);
        owner = h.owner;
      })
      (tt, (tt, tt))

  -- ---- the next item

  down_kept : (w : Scene) (kept : Kept) → IsDown g j w kept → IsDown g j w (with_begun kept)
  down_kept w kept h = record { lasts = record { number = h.lasts.number; small = h.lasts.small; asks = h.lasts.asks }; inc = h.inc; owner = h.owner }

  waiting_kept : (w : Scene) (kept : Kept) → Awaits g j w kept → Awaits g j w (with_begun kept)
  waiting_kept w kept h = record { lasts = record { number = h.lasts.number; small = h.lasts.small; asks = h.lasts.asks }; inc = h.inc; owner = h.owner }

  serving_kept : (w : Scene) (s : Serving) → Stands g j w s → Stands g j w (record s { lasting = with_begun s.lasting })
  serving_kept w s h = record {
    lasts = record { number = h.lasts.number; small = h.lasts.small; asks = h.lasts.asks };
    inc = h.inc;
    log = h.log;
    written = h.written;
    writer = h.writer;
    index = h.index;
  }

  down_so : (w : Scene) (kept : Kept) (number : ℕ) (asked : Option Work) → IsDown g j w kept → has_room kept.inc ≡ true
      → Went w (down_wish kept number (wish_at asked))
  down_so w kept number (Some (work.Restart node)) h room = restart_so w kept number h room
  down_so w kept number (Some (work.Crash node)) h room = manager_answer_so w (Down kept) number answer.Down h
  down_so w kept number (Some _) h room = manager_answer_so w (Down kept) number answer.Down h
  down_so w kept number None h room = manager_answer_so w (Down kept) number answer.Down h

  waiting_so : (w : Scene) (kept : Kept) (hello number : ℕ) (asked : Option Work) → Awaits g j w kept → Went w (waiting_wish kept hello number (wish_at asked))
  waiting_so w kept hello number (Some (work.Crash node)) h = gives_up_so w kept number h
  waiting_so w kept hello number (Some (work.Restart node)) h = manager_answer_so w (Waiting kept hello) number answer.Up h
  waiting_so w kept hello number (Some _) h = manager_answer_so w (Waiting kept hello) number (answer.Count 0) h
  waiting_so w kept hello number None h = manager_answer_so w (Waiting kept hello) number (answer.Count 0) h

  checkpoints_so : (w : Scene) (s : Serving) (number : ℕ) → Stands g j w s → Went w (serves (on_checkpoint s number))
  checkpoints_so w s number h = serves_so w (on_checkpoint s number) (checkpoint_so g j fact w s number h)

  serving_so : (w : Scene) (s : Serving) (number : ℕ) (asked : Option Work) → Stands g j w s → Went w (serving_wish s number (wish_at asked))
  serving_so w s number (Some (work.Crash node)) h = falls_so w s number h
  serving_so w s number (Some (work.Restart node)) h = manager_answer_so w (Serves s) number answer.Up h
  serving_so w s number (Some _) h = checkpoints_so w s number h
  serving_so w s number None h = checkpoints_so w s number h

  begins_so : (w : Scene) (p : Phase) → ManagerAgrees g j w p → has_room (lasting_of p).inc ≡ true → Went w (on_begin p)
  unfolding begin_down begin_waiting begin_serving
  begins_so w (Down kept) h room = by (next_item kept.items)
    where
      by : (o : Option ℕ) → Went w (down_item (with_begun kept) o)
      by None = still_so w (Down (with_begun kept)) (down_kept w kept h)
      by (Some number) = down_so w (with_begun kept) number (work_at (with_begun kept).items number) (down_kept w kept h) room
  begins_so w (Waiting kept hello) h room = by (next_item kept.items)
    where
      by : (o : Option ℕ) → Went w (waiting_item (with_begun kept) hello o)
      by None = still_so w (Waiting (with_begun kept) hello) (waiting_kept w kept h)
      by (Some number) = waiting_so w (with_begun kept) hello number (work_at (with_begun kept).items number) (waiting_kept w kept h)
  begins_so w (Serves s) h room = by (next_item s.lasting.items)
    where
      t : Serving
      t = record s { lasting = with_begun s.lasting }

      by : (o : Option ℕ) → Went w (serving_item t o)
      by None = still_so w (Serves t) (serving_kept w s h)
      by (Some number) = serving_so w t number (work_at t.lasting.items number) (serving_kept w s h)

  -- ---- packets

  module _ (some : 0 < j) (doubts : g.doubts ≡ true) where
    its_log_high : block_logs < g.log.0
    its_log_high = subst (λ (l : LogId). cleaners_number < l.0) (sym fact) (its_high j some)

    -- the log begins anew
    anew_so : (w : Scene) (kept : Kept) (peers : Peers) (m : GroupMapState) (r : Renewed g its_log_high doubts m w.net kept.inc) → Lasts g j w kept → MapFits m
        → Stands g j (record w { net = r.net }) (again kept (forgotten peers.servers) m)
    anew_so w kept peers m r lasts fit = record {
      lasts = record { number = lasts.number; small = lasts.small; asks = lasts.asks };
      inc = r.inc;
      log = record {
        owner = r.owner ∙ ap (λ (l : LogId). owner.Serving (log_start l kept.inc no_end m)) its_log;
        own = record { log = sym its_log; flight = tt };
      };
      written = anew_written (log_of kept.number) kept.inc m (its_number_is_log kept.number) lasts.small fit;
      writer = tt;
      index = (tt, (tt, (tt, (tt, (tt, (tt, (tt, (tt, tt))))))));
    }
      where
        its_log : g.log ≡ log_of kept.number
        its_log = fact ∙ ap log_of (sym lasts.number)

    welcome_so : (w : Scene) (peers : Peers) (kept : Kept) (hello : ℕ) (m : Welcome) → Awaits g j w kept → In (MapSent m.news.groups) w.net.sent
        → MapFits m.news.groups
        → Went w (on_welcome peers kept hello m)
    unfolding on_welcome
    welcome_so w peers kept hello m h came fit =
        let s : Serving = again kept (forgotten peers.servers) m.news.groups in
        let r : Renewed g its_log_high doubts m.news.groups w.net kept.inc = renewed g its_log_high doubts m.news.groups w.net kept.inc h.inc h.owner came in
        let v : Scene = record w { net = r.net } in
        let grown : Grown g w v = grown_by w r.net r.same r.runs in
        let p : Goes g j v (on_news s peers.clients m.news) =
        news_so g j fact v s peers.clients m.news (anew_so w kept peers m.news.groups r h.lasts fit) (grown.sent _ came) fit in
        by_test (Went w) (takes_welcome peers kept hello m) (serves (on_news s peers.clients m.news)) (still (Waiting kept hello))
        (λ t. record { next = p.next; grown = grown_on g w v p.next grown p.grown; agrees = p.stands; does = p.does })
        (λ t. still_so w (Waiting kept hello) h)

    waits_so : (w : Scene) (peers : Peers) (kept : Kept) (hello : ℕ) (from : NodeId) (said : Body) → Awaits g j w kept
        → BodySeen g (its_asker j w) w.net from (nodes.Manager j) said → InRange said
        → Went w (on_waiting peers kept hello said)
    waits_so w peers kept hello from (body.Welcome m) h seen fit = welcome_so w peers kept hello m h seen.map fit
    waits_so w peers kept hello from _ h seen fit = still_so w (Waiting kept hello) h

    heard_so : (w : Scene) (peers : Peers) (p : Phase) (packet : packets.Packet) → ManagerAgrees g j w p
        → BodySeen g (its_asker j w) w.net packet.from (nodes.Manager j) packet.body → InRange packet.body
        → Went w (on_packet peers p packet)
    heard_so w peers (Down kept) packet h seen fit = still_so w (Down kept) h
    heard_so w peers (Waiting kept hello) packet h seen fit = waits_so w peers kept hello packet.from packet.body h seen fit
    heard_so w peers (Serves s) packet h seen fit = serves_so w (serving_hear s peers.clients packet) (packet_so g j fact w s peers.clients packet h seen fit)

    -- ---- all events

    passes_so : (w : Scene) (p : Phase) → ManagerAgrees g j w p → Went w (on_time p)
    unfolding on_time
    passes_so w (Down kept) h = still_so w (Down kept) h
    passes_so w (Waiting kept ask) h = plain_so w (Waiting kept ask) _ h (tt, tt)
    passes_so w (Serves s) h = serves_so w (on_tick s) (time_so g j fact w s h)

    event_so : (w : Scene) (peers : Peers) (p : Phase) (what : Do) → ManagerAgrees g j w p → ManagerOwed g j w what → has_room (lasting_of p).inc ≡ true
        → Went w (on_event peers p what)
    unfolding manager_deliver
    event_so w peers p Begin h owed room = begins_so w p h room
    event_so w peers p (Deliver packet) h owed room =
        by_test (Went w) (is_well_formed peers packet) (on_packet peers p packet) (still p)
        (λ t. heard_so w peers p packet h (subst (λ to. BodySeen g (its_asker j w) w.net packet.from to packet.body) owed.own owed.seen) owed.fits)
        (λ t. still_so w p h)
    event_so w peers p Tick h owed room = passes_so w p h

    inc_room : (p : Phase) → phase_has_room p ≡ true → has_room (lasting_of p).inc ≡ true
    inc_room (Down kept) t = and_first (has_room kept.inc) (has_room kept.questions.last) t
    inc_room (Waiting kept hello) t = and_first (has_room kept.inc) (has_room kept.questions.last) t
    inc_room (Serves s) t = and_first (has_room s.lasting.inc) (has_room s.lasting.questions.last) (and_first (lasting_has_room s.lasting) _ t)

    happens_so : (w : Scene) (m : Manager) (what : Do) → ManagerAgrees g j w m.phase → ManagerOwed g j w what → Went w (happens m what)
    unfolding happens
    happens_so w m what h owed =
        by_test (Went w) (phase_has_room m.phase) (on_event m.peers m.phase what) (still m.phase)
        (λ t. event_so w m.peers m.phase what h owed (inc_room m.phase t)) (λ t. still_so w m.phase h)

-- ---- what it does, as packets and acts

module _ (g : Setting) (j number : ℕ) (own : number ≡ j) (w : Scene) where
  one_acted : (e : Effect) → ManagerDoes g j w e → All (ActSeen w) (act_of (nodes.Manager number) e)
  one_acted (Send to said) h = All-nil (ActSeen w)
  one_acted (Answers item a) h = All-cons (ActSeen w) _ [] tt (All-nil (ActSeen w))
  one_acted (Lose seg) h = All-cons (ActSeen w) _ [] tt (All-nil (ActSeen w))
  one_acted (Does act) h = All-cons (ActSeen w) act [] h (All-nil (ActSeen w))

  all_acted : (es : List Effect) → AllDone g j w es → All (ActSeen w) (acts_of (nodes.Manager number) es)
  all_acted [] h = All-nil (ActSeen w)
  all_acted (e ∷ es) h = All-append (ActSeen w) (act_of (nodes.Manager number) e) (acts_of (nodes.Manager number) es) (one_acted e h.0) (all_acted es h.1)

  all_sent : ((k : ℕ) → w.asked k ≡ OfMaps) → (es : List Effect) → AllDone g j w es → AllSeen g (its_asker j w) w.net (packets_of (nodes.Manager number) es)
  all_sent asks es h =
      packets_all (PacketSeen g (its_asker j w) w.net) (ManagerDoes g j w) (nodes.Manager number)
      (λ to said does. subst (λ k. BodySeen g (its_asker j w) w.net (nodes.Manager k) to said) (sym own) (says_seen g j w asks to said does)) es h

  -- what it stores is of its log
  all_own : (es : List Effect) → AllDone g j w es → All (λ (p : packets.Packet). OfItsLog g p.body) (packets_of (nodes.Manager number) es)
  all_own es h =
      packets_all (λ (p : packets.Packet). OfItsLog g p.body) (ManagerDoes g j w) (nodes.Manager number) (λ to said does. says_own g j w to said does) es h

  -- the numbers of what it sends are in range
  all_fit : (es : List Effect) → AllDone g j w es → All (λ (p : packets.Packet). InRange p.body) (packets_of (nodes.Manager number) es)
  all_fit es h =
      packets_all (λ (p : packets.Packet). InRange p.body) (ManagerDoes g j w) (nodes.Manager number) (λ to said does. says_fits g j w to said does) es h

lasts_of : (g : Setting) (j : ℕ) (w : Scene) (p : Phase) → ManagerAgrees g j w p → Lasts g j w (lasting_of p)
lasts_of g j w (Down kept) h = h.lasts
lasts_of g j w (Waiting kept hello) h = h.lasts
lasts_of g j w (Serves s) h = h.lasts

pub manager_takes : ManagerTakes
manager_takes g j fact some doubts w m what h owed =
    let d : Went g j fact w (happens m what) = happens_so g j fact some doubts w m what h owed in
    let number : ℕ = (lasting_of m.phase).number in
    let own : number ≡ j = (lasts_of g j w m.phase h).number in
    record {
      next = d.next;
      grown = d.grown;
      agrees = d.agrees;
      sends = all_sent g j number own d.next (lasts_of g j d.next (happens m what).state d.agrees).asks (happens m what).outs d.does;
      acts = all_acted g j number own d.next (happens m what).outs d.does;
      own = all_own g j number own d.next (happens m what).outs d.does;
      fits = all_fit g j number own d.next (happens m what).outs d.does;
    }
