-- Each event of a client is a run of the small world of its log.
use Rattle.std.proofs.Common.{◌≡◌, ◌<◌, ℕ, suc, ◌+◌, ◌&&◌, true, false, cond, List, [], ◌∷◌, ◌++◌, Option, Some, None, is_some, nat_lt, refl, sym, ap, subst, ◌∙◌, inl, inr, arith}
use Rattle.std.proofs.lemmas.Bool.Decides.{nat_tests}
use Rattle.std.proofs.lemmas.List.Elements.{All-nil, All-cons, All-append}
use Rattle.client_node.specs.declared.client.Client.{Client}
use Rattle.client_node.specs.declared.phase.Phase.TheVariants.{Down, Opening, Serving as Serves}
use Rattle.client_node.specs.declared.phase.Phase.{Phase}
use Rattle.client_node.specs.Phases.{owner_of, takes, Went_to, cut, restart, phase_after, opened_on, answers, serves_on, wish_of, down_begins, opening_begins, serving_begins, lasting_of, begins_item, on_begin, on_deliver, client_tick, client_deliver, happens, phase_has_room, client_has_room}
use Rattle.client_call.specs.declared.call.Going.{Going}
use Rattle.client_node.specs.Crash.{falls}
use Rattle.client_serving.specs.declared.lasting.Lasting.{Lasting}
use Rattle.client_serving.specs.declared.serving.Serving.{Serving}
use Rattle.client_running.specs.Opens.{begin_call, call_at, opens}
use Rattle.client_serving.specs.Lasting.{live_on}
use Rattle.client_serving.specs.Packets as packets
use Rattle.client_running.specs.Running.{running_go_on}
use Rattle.client_serving.specs.Sends.{Done, gives}
use Rattle.log_owner.specs.declared.opened.Opened.{Opened}
use Rattle.log_owner.specs.declared.opened.Progress.{Progress}
use Rattle.log_owner.specs.declared.opened.Progress.TheVariants as progress
use Rattle.log_owner.specs.declared.opening.Opening as openings
use Rattle.log_owner.specs.Opening as opening
use Rattle.log_owner.specs.Opening.{Went}
use Rattle.log_owner.specs.Sending.{hello, push_all}
use Rattle.log_scan.specs.declared.input.In.TheVariants as scan_in
use Rattle.log_scan.specs.ScanState.{ScanState, scan_start}
use Rattle.log_scan.specs.Transition as scan
use Rattle.node_base.specs.Asking.{next_ask}
use Rattle.node_base.specs.Beginning.{next_item, work_at, items_begin, items_wait, items_answer, answers_unanswered}
use Rattle.node_base.specs.declared.effects.Effect.{Effect}
use Rattle.node_base.specs.declared.effects.Effect.TheVariants.{Answer as Answers, Does}
use Rattle.node_base.specs.declared.peers.Peers.{Peers}
use Rattle.node_base.specs.declared.questions.Questions.{Questions}
use Rattle.node_base.specs.Room.{has_room}
use Rattle.node_base.specs.Shape.{is_log, is_well_formed}
use Rattle.version_model.specs.declared.act.Act.TheVariants.{Back}
use Rattle.version_model.specs.declared.answer.Answer.{Answer}
use Rattle.version_model.specs.declared.answer.Answer.TheVariants as answer
use Rattle.version_model.specs.declared.work.Work.{Work}
use Rattle.version_model.specs.declared.work.Work.TheVariants as work
use Rattle.wire_msg.specs.declared.packet.Do.{Do}
use Rattle.wire_msg.specs.declared.packet.Do.TheVariants.{Begin, Deliver, Tick}
use Rattle.wire_msg.specs.declared.packet.Packet as wire
use Rattle.xfs_base.proofs.Booleans.{by_test, and_first, and_second, contrary}
use Rattle.xfs_base.specs.declared.segment.LogId.{LogId}
use Rattle.xfs_base.specs.Limits.{u32_end}
use Rattle.xfs_base.specs.Steps.{still, saying}
use Rattle.log_protocol.specs.Tables.{In, put}
use Rattle.log_tie.specs.Setting.{Setting}
use Rattle.log_law.specs.Net.{Net}
use Rattle.log_law.specs.Net.{Owner as owner}
use Rattle.log_law.specs.Net.Packet.{HelloSent}
use Rattle.log_law.specs.Events.{Happens as happen}
use Rattle.log_law.specs.Events.Runs.{Begun, On}
use Rattle.log_law.specs.Restarts.{is_down, is_serving}
use Rattle.node_logs.specs.node_log_tie.Sight.{AskedBy}
use Rattle.node_logs.specs.node_log_tie.Sight.Question.{OfOpening}
use Rattle.node_logs.specs.client_log_tie.Owner.{Scene, asker, LastsAs, ClientAgrees, SeesLog}
use Rattle.client_log.specs.LogState.{LogState}
use Rattle.node_logs.specs.client_log_tie.Texts.{StaysWritten}
use Rattle.node_logs.specs.opening_law.Questions.{AsksOn, ProgressAsks}
use Rattle.node_logs.proofs.node_log_tie.OwnerFalls.{Fall, fall_of}
use Rattle.node_logs.proofs.opening_law.Asking.{packet_few, starts_few, tick_few}
use Rattle.node_logs.specs.client_log_tie.ClientEvents.{StageWritten, StageTells, PhaseWritten, PhaseOwed, PacketOwed, ClientOwed, FliesInBoot, Grown, NeverHasLog, has_log}
use Rattle.node_logs.specs.client_log_tie.Puts.{PutsOwn}
use Rattle.node_logs.proofs.client_log_tie.Boots.{same_boot, stage_away, stage_up, log_up}
use Rattle.node_logs.proofs.client_log_tie.Puts.{took_nothing}
use Rattle.node_logs.proofs.client_log_tie.Frames.{ClientDoes, ClientDid}
use Rattle.node_logs.proofs.client_log_tie.Frames as frames
use Rattle.node_logs.proofs.client_log_tie.OpeningEvents as events
use Rattle.node_logs.proofs.client_log_tie.OpeningLog.{IsLost, ProgressSeen, WentTo}
use Rattle.node_logs.proofs.client_log_tie.Owed.{StageOwed, in_range, owed_so}
use Rattle.node_logs.proofs.client_log_tie.Questions.{ask_rises, put_here, put_keeps, put_fresh}
use Rattle.node_logs.proofs.client_log_tie.ServingCalls as calls
use Rattle.node_logs.proofs.client_log_tie.ServingPackets as serving
use Rattle.node_logs.proofs.client_log_tie.ServingTokens as tokens
use Rattle.node_logs.proofs.client_log_tie.Straight.{down_straight, once_straight, served_straight}

next_inc : (k : ℕ) → has_room k ≡ true → cond (nat_lt k u32_end) (k + 1) k ≡ suc k
next_inc k room = grind (arith, nat_tests)

module _ (g : Setting) (c : ℕ) (fact : g.log ≡ record { 0 = c }) (small : is_log c ≡ true) (w : Scene) where
  abbrev Goes : Went_to → Type 0
  Goes x = ClientDid g c w x.state x.outs

  -- ---- where the small world stands still

  plain_so : (p : Phase) (outs : List Effect) → ClientAgrees g c w p → PhaseWritten p → frames.Plain g c outs → ClientDid g c w p outs
  plain_so p outs sees written plain =
      record {
        next = w;
        grown = frames.grown_still g w;
        agrees = sees;
        written = written;
        does = plain w;
        flies = inr (refl, refl);
        straight = once_straight g w.net w.net (frames.grown_still g w).runs (frames.still_once g w);
        puts = λ s owns serves. took_nothing PutsOwn w.net s owns;
      }

  still_so : (p : Phase) → ClientAgrees g c w p → PhaseWritten p → Goes (still p)
  still_so p sees written = plain_so p [] sees written (tokens.plain_nothing g c)

  answers_so : (p : Phase) (number : ℕ) (a : Answer) → ClientAgrees g c w p → PhaseWritten p → Goes (answers p number a)
  answers_so p number a sees written = plain_so p (Answers number a ∷ []) sees written (tokens.plain_one g c _ (λ v. tt))

  -- ---- falls

  abbrev fallen : Scene → Scene
  fallen v = record v { net = (fall_of g v.net).net }

  fallen_grown : (v : Scene) → Grown g v (fallen v)
  fallen_grown v =
      let f : Fall g v.net = fall_of g v.net in
      record {
        runs = On Begun f.happens;
        sent = λ p among. subst (In p) (sym f.sent) among;
        filed = λ name among. subst (In name) (sym f.filed) among;
        shelves = f.shelves;
        registry = f.registry;
        low = f.low;
        dropped = f.dropped;
        asked = λ k some. refl;
      }

  fallen_never : (v : Scene) → NeverHasLog (fallen_grown v).runs
  unfolding fallen_grown
  fallen_never v = (ap has_log (fall_of g v.net).down, tt)

  -- one that fell
  fallen_agrees : (v : Scene) (l : Lasting) → LastsAs g c v l → ClientAgrees g c (fallen v) (Down l)
  fallen_agrees v l lasts = (record { number = lasts.number; inc = (fall_of g v.net).inc ∙ lasts.inc; fresh = lasts.fresh }, (fall_of g v.net).down)

  falls_so : (l : Lasting) (outs : List Effect) → LastsAs g c w l → frames.Plain g c outs → ClientDid g c w (Down l) outs
  falls_so l outs lasts plain = record {
    next = fallen w;
    grown = fallen_grown w;
    agrees = fallen_agrees w l lasts;
    written = tt;
    does = plain (fallen w);
    flies = inr ((fall_of g w.net).flown, (fall_of g w.net).filed);
    straight = down_straight g w.net (fallen w).net (fallen_grown w).runs (fallen_never w) (fall_of g w.net).down;
    puts = λ s owns serves. contrary (sym (ap is_serving (fall_of g w.net).down) ∙ serves);
  }

  crash_said : (l : Lasting) (number : ℕ) → frames.Plain g c (cut l number).outs
  crash_said l number v =
      All-append (ClientDoes g c v) (answers_unanswered l.items.unanswered answer.Cut) (Answers number answer.Done ∷ [])
      (tokens.plain_answers g c l.items.unanswered answer.Cut v)
      (tokens.plain_one g c (Answers number answer.Done) (λ u. tt) v)

  crashes_so : (l : Lasting) (number : ℕ) → LastsAs g c w l → Goes (cut l number)
  crashes_so l number lasts = falls_so (record l { items = items_answer l.items }) (cut l number).outs lasts (crash_said l number)

  -- ---- restarts

  restarts_so : (servers number : ℕ) (l : Lasting) → LastsAs g c w l → w.net.owner ≡ owner.Down → has_room l.inc ≡ true → has_room l.questions.last ≡ true
      → Goes (restart servers (live_on l number))
  unfolding scan.on_tick
  restarts_so servers number l lasts down room asks_room =
      let q : Questions = l.questions in
      let up : w.net.inc ≡ l.inc = lasts.inc in
      let inc : suc w.net.inc ≡ (live_on l number).inc = ap (λ k. suc k) up ∙ sym (next_inc l.inc room) in
      let log : g.log ≡ record { 0 = l.number } = fact ∙ ap (λ (k : ℕ). record { 0 = k }) (sym lasts.number) in
      let rises : q.last < next_ask q = ask_rises q asks_room in
      let first : ScanState = scan_start g.log (suc w.net.inc) in
      let risen : Net = record w.net { inc = suc w.net.inc; owner = owner.Opening first } in
      let v : Scene = record {
        net = record risen { owner = owner.Opening first; sent = HelloSent (suc w.net.inc) 1 ∷ w.net.sent; picked = 1 };
        asked = put w.asked (next_ask q) (OfOpening 1);
      } in
      record {
        next = v;
        grown = record {
          runs = On (On Begun (happen.Restarts down)) (happen.Opens first scan_in.Tick refl tt tt);
          sent = λ p among. inr among;
          filed = λ name among. among;
          shelves = refl;
          registry = refl;
          low = refl;
          dropped = refl;
          asked = put_keeps w.asked (next_ask q) (OfOpening 1) (lasts.fresh (next_ask q) rises);
        };
        agrees = (
          record { number = lasts.number; inc = inc; fresh = put_fresh w.asked (next_ask q) (OfOpening 1) q.last rises lasts.fresh },
          record {
            owner = ap (λ z. owner.Opening (scan_start z (suc w.net.inc))) log ∙ ap (λ k. owner.Opening (scan_start (record { 0 = l.number }) k)) inc;
            log = sym log;
            inc = sym inc;
            groups = refl;
            came = tt;
            asks = record { own = refl; number = put_here w.asked (next_ask q) (OfOpening 1) };
            past = omega arith;
            some = omega arith;
            number = omega arith;
          },
          starts_few (owner_of (live_on l number)) servers q asks_room,
        );
        written = tt;
        does = All-cons (ClientDoes g c v) (hello (live_on l number).inc (next_ask q)) []
            (record {
              own = λ e. subst (AskedBy g (asker c v) v.net (live_on l number).inc) (sym (put_here w.asked (next_ask q) (OfOpening 1)))
                  (subst (λ k. In (HelloSent k 1) v.net.sent) inc (inl refl));
              reached = tt;
            })
            (All-nil (ClientDoes g c v));
        flies = inr (refl, refl);
        straight = record { never = λ e. (refl, (refl, tt)); once = λ a b. contrary b; stays = λ a b. contrary b; picks = λ e. contrary e; rests = λ e. (refl, (refl, tt)) };
        puts = λ s owns serves. contrary serves;
      }

  down_begins_so : (servers number : ℕ) (l : Lasting) (wanted : Option Work) → ClientAgrees g c w (Down l) → has_room l.inc ≡ true
      → has_room l.questions.last ≡ true
      → Goes (down_begins servers l number (wish_of wanted))
  down_begins_so servers number l (Some (work.Restart node)) sees room asks_room = restarts_so servers number l sees.0 sees.1 room asks_room
  down_begins_so servers number l (Some _) sees room asks_room = answers_so (Down l) number answer.Down sees tt
  down_begins_so servers number l None sees room asks_room = answers_so (Down l) number answer.Down sees tt

  -- ---- an opening

  opening_begins_so : (l : Lasting) (o : openings.Opening) (number : ℕ) (wanted : Option Work) → ClientAgrees g c w (Opening l o) → StageWritten o.stage
      → Goes (opening_begins l o number (wish_of wanted))
  opening_begins_so l o number (Some (work.Crash node)) sees written = crashes_so l number sees.0
  opening_begins_so l o number (Some (work.Restart node)) sees written = answers_so (Opening l o) number answer.Up sees written
  opening_begins_so l o number (Some _) sees written = answers_so (Opening l o) number answer.Down sees written
  opening_begins_so l o number None sees written = answers_so (Opening l o) number answer.Down sees written

  module _ (l : Lasting) where
    back_said : (r : Opened)
        → frames.Plain g c (Does (Back l.number r.chain) ∷ push_all r.promised.managers r.feed ++ answers_unanswered l.items.unanswered answer.Done)
    back_said r v =
        All-cons (ClientDoes g c v) (Does (Back l.number r.chain)) _ tt
        (All-append (ClientDoes g c v) (push_all r.promised.managers r.feed) (answers_unanswered l.items.unanswered answer.Done)
        (tokens.plain_pushes_all g c r.promised.managers r.feed v) (tokens.plain_answers g c l.items.unanswered answer.Done v))

    opened_so : (capacity : ℕ) (x : Went) → LastsAs g c w l → is_down w.net.owner ≡ false → is_serving w.net.owner ≡ false
        → WentTo g c w l.number l.inc x → AsksOn x
        → Goes (opened_on l capacity x)
    opened_so capacity x lasts up away t few = by_progress x.progress t.shows t.lost few
      where
        in_boot : is_down t.next.net.owner ≡ false → FliesInBoot w.net t.next.net
        in_boot still_up = inl (same_boot w.net t.next.net up still_up (t.lasts.inc ∙ sym lasts.inc))

        by_progress : (p : Progress) → ProgressSeen g c t.next x.questions.last p
            → (IsLost g c p → (t.next.net.flown ≡ w.net.flown) × ((t.next.net.filed ≡ w.net.filed) × (has_log t.next.net.owner ≡ false)))
            → ProgressAsks p x.questions.last
            → Goes (saying x.effects (phase_after (record l { questions = x.questions }) capacity p))
        by_progress (progress.Opening o) shows lost asks = record {
          next = t.next;
          grown = t.grown;
          agrees = (t.lasts, shows.0, asks);
          written = shows.1;
          does = All-append (ClientDoes g c t.next) x.effects [] t.does (All-nil (ClientDoes g c t.next));
          flies = in_boot (stage_up g c t.next o.known x.questions.last o.stage shows.0);
          straight = once_straight g w.net t.next.net t.grown.runs t.once;
          puts = λ s owns serves. contrary (sym away ∙ ap is_serving owns);
        }
        by_progress (progress.Opened r) shows lost asks = record {
          next = t.next;
          grown = t.grown;
          agrees = (t.lasts, shows.0);
          written = shows.1;
          does = All-append (ClientDoes g c t.next) x.effects _ t.does (back_said r t.next);
          flies = in_boot (log_up g c t.next r.log shows.0);
          straight = once_straight g w.net t.next.net t.grown.runs t.once;
          puts = λ s owns serves. contrary (sym away ∙ ap is_serving owns);
        }
        by_progress (progress.Lost seg) shows lost asks = record {
          next = fallen t.next;
          grown = frames.grown_on g w t.next (fallen t.next) t.grown (fallen_grown t.next);
          agrees = fallen_agrees t.next (record l { questions = x.questions; items = items_answer l.items }) t.lasts;
          written = tt;
          does = All-append (ClientDoes g c (fallen t.next)) x.effects (answers_unanswered l.items.unanswered (answer.Lost seg))
              (frames.all_more g c t.next (fallen t.next) (fallen_grown t.next) x.effects t.does)
              (tokens.plain_answers g c l.items.unanswered (answer.Lost seg) (fallen t.next));
          flies = inr ((fall_of g t.next.net).flown ∙ (lost tt).0, (fall_of g t.next.net).filed ∙ (lost tt).1.0);
          straight = down_straight g w.net (fallen t.next).net (frames.grown_on g w t.next (fallen t.next) t.grown (fallen_grown t.next)).runs
              (frames.never_on g w t.next (fallen t.next) t.grown (fallen_grown t.next)
              ((once_straight g w.net t.next.net t.grown.runs t.once).rests (lost tt).1.1) (fallen_never t.next))
              (fall_of g t.next.net).down;
          puts = λ s owns serves. contrary (sym away ∙ ap is_serving owns);
        }

  its_log : is_log g.log.0 ≡ true
  its_log = subst (λ (l : LogId). is_log l.0 ≡ true) (sym fact) small

  -- ---- one that serves

  abbrev AtServing : Serving → Type 0
  AtServing s = frames.At g c w s

  serves_so : (d : Done) (log : LogState) → SeesLog g c w log → frames.Goes g c w d → Goes (serves_on d)
  serves_so d log sees p = record {
    next = p.next;
    grown = p.grown;
    agrees = (p.stands.lasts, p.stands.sees);
    written = p.stands.written;
    does = p.does;
    flies = inl (same_boot w.net p.next.net (log_up g c w log sees) (log_up g c p.next d.state.log p.stands.sees) p.boot);
    straight = served_straight g w.net p.next.net p.grown.runs (ap is_serving sees.owner) (ap is_serving p.stands.sees.owner) p.boot;
    puts = λ s owns serves. p.puts s owns;
  }

  stands : (s : Serving) → ClientAgrees g c w (Serves s) → StaysWritten s.log → AtServing s
  stands s sees written = record { lasts = sees.0; sees = sees.1; written = written }

  crashes_serving : (s : Serving) (number : ℕ) → ClientAgrees g c w (Serves s) → Goes (saying (falls s ∷ []) (cut s.lasting number))
  crashes_serving s number sees =
      falls_so (record s.lasting { items = items_answer s.lasting.items }) (falls s ∷ (cut s.lasting number).outs) sees.0
      (λ v. All-cons (ClientDoes g c v) (falls s) (cut s.lasting number).outs tt (crash_said s.lasting number v))

  says_so : (s : Serving) (number : ℕ) (a : Answer) → AtServing s → frames.Goes g c w (gives s (Answers number a ∷ []))
  says_so s number a h = frames.goes_plain g c w s (Answers number a ∷ []) h (tokens.plain_one g c _ (λ v. tt))

  begins_so : (s : Serving) (number : ℕ) (going : Option Going) → AtServing s → frames.Goes g c w (begin_call s number going)
  begins_so s number None h = says_so s number answer.Done h
  begins_so s number (Some x) h =
      let t : Serving = record s { lasting = record s.lasting { items = items_wait s.lasting.items number } } in
      serving.runs_after g c fact w (running_go_on t x) (calls.running_go_on_so g c fact w t x h)

  opens_so : (s : Serving) (number : ℕ) → AtServing s → frames.Goes g c w (opens s number)
  unfolding opens
  opens_so s number h =
      by_test (λ (d : Done). frames.Goes g c w d) (is_some s.lasting.items.unanswered) (gives s (Answers number answer.Busy ∷ []))
      (begin_call s number (call_at s number (work_at s.lasting.items number)))
      (λ t. says_so s number answer.Busy h) (λ t. begins_so s number (call_at s number (work_at s.lasting.items number)) h)

  serving_begins_so : (s : Serving) (number : ℕ) (wanted : Option Work) → ClientAgrees g c w (Serves s) → StaysWritten s.log
      → Goes (serving_begins s number (wish_of wanted))
  serving_begins_so s number (Some (work.Crash node)) sees written = crashes_serving s number sees
  serving_begins_so s number (Some (work.Restart node)) sees written = answers_so (Serves s) number answer.Up sees written
  serving_begins_so s number (Some _) sees written = serves_so (opens s number) s.log sees.1 (opens_so s number (stands s sees written))
  serving_begins_so s number None sees written = serves_so (opens s number) s.log sees.1 (opens_so s number (stands s sees written))

  -- ---- the events

  item_so : (servers : ℕ) (p : Phase) (item : Option ℕ) → ClientAgrees g c w p → PhaseWritten p → has_room (lasting_of p).inc ≡ true
      → has_room (lasting_of p).questions.last ≡ true → Goes (begins_item servers p item)
  item_so servers p None sees written room asks_room = still_so p sees written
  item_so servers (Down l) (Some number) sees written room asks_room =
      down_begins_so servers number (record l { items = items_begin l.items }) (work_at (items_begin l.items) number) sees room asks_room
  item_so servers (Opening l o) (Some number) sees written room asks_room =
      opening_begins_so (record l { items = items_begin l.items }) o number (work_at (items_begin l.items) number) sees written
  item_so servers (Serves s) (Some number) sees written room asks_room =
      serving_begins_so (record s { lasting = record s.lasting { items = items_begin s.lasting.items } }) number (work_at (items_begin s.lasting.items) number) sees written

  on_begin_so : (servers : ℕ) (p : Phase) → ClientAgrees g c w p → PhaseWritten p → has_room (lasting_of p).inc ≡ true
      → has_room (lasting_of p).questions.last ≡ true
      → Goes (on_begin servers p)
  unfolding on_begin
  on_begin_so servers p sees written room asks_room = item_so servers p (next_item (lasting_of p).items) sees written room asks_room

  -- an opening stands on what it is told
  owed : (l : Lasting) (o : openings.Opening) → ClientAgrees g c w (Opening l o) → StageTells g w.net o.stage → has_room l.inc ≡ true
      → has_room l.questions.last ≡ true
      → StageOwed g w.net o.stage
  owed l o sees tells life room =
      owed_so g c its_log w o.known o.stage l.questions.last (let e = sees.0.inc in let b = in_range l.inc life in omega arith) room sees.1 sees.2 tells

  on_deliver_so : (capacity : ℕ) (p : Phase) (packet : wire.Packet) → ClientAgrees g c w p → PhaseWritten p → PacketOwed g c w p packet
      → has_room (lasting_of p).inc ≡ true
      → has_room (lasting_of p).questions.last ≡ true
      → Goes (on_deliver capacity p packet)
  unfolding on_deliver
  on_deliver_so capacity (Down l) packet sees written brings life room = still_so (Down l) sees tt
  on_deliver_so capacity (Opening l o) packet sees written brings life room =
      opened_so l capacity (opening.opening_take o l.questions packet) sees.0 (stage_up g c w o.known l.questions.last o.stage sees.1)
      (stage_away g c w o.known l.questions.last o.stage sees.1)
      (events.packet_so g c its_log w l.number l.inc l.questions sees.0 room o packet brings.own brings.seen brings.fits
      (record { sees = sees.1; written = written; owed = owed l o sees brings.scans life room }))
      (packet_few o l.questions packet room sees.2)
  on_deliver_so capacity (Serves s) packet sees written brings life room =
      serves_so (serving.and_runs g c fact (packets.serving_take s packet)) s.log sees.1
      (serving.packet_so g c fact w s packet brings.seen brings.fits room (stands s sees written))

  client_deliver_so : (peers : Peers) (capacity : ℕ) (p : Phase) (packet : wire.Packet) → ClientAgrees g c w p → PhaseWritten p → PacketOwed g c w p packet
      → has_room (lasting_of p).inc ≡ true → has_room (lasting_of p).questions.last ≡ true → Goes (client_deliver peers capacity p packet)
  client_deliver_so peers capacity p packet sees written brings life room =
      by_test (λ (x : Went_to). Goes x) (is_well_formed peers packet) (on_deliver capacity p packet) (still p)
      (λ t. on_deliver_so capacity p packet sees written brings life room) (λ t. still_so p sees written)

  client_tick_so : (capacity : ℕ) (p : Phase) → ClientAgrees g c w p → PhaseWritten p → PhaseOwed g w.net p → has_room (lasting_of p).inc ≡ true
      → has_room (lasting_of p).questions.last ≡ true
      → Goes (client_tick capacity p)
  unfolding client_tick
  client_tick_so capacity (Down l) sees written tells life room = still_so (Down l) sees tt
  client_tick_so capacity (Opening l o) sees written tells life room =
      opened_so l capacity (opening.on_tick o l.questions) sees.0 (stage_up g c w o.known l.questions.last o.stage sees.1)
      (stage_away g c w o.known l.questions.last o.stage sees.1)
      (events.tick_so g c its_log w l.number l.inc l.questions sees.0 room o
      (record { sees = sees.1; written = written; owed = owed l o sees tells life room }))
      (tick_few o l.questions room sees.2)
  client_tick_so capacity (Serves s) sees written tells life room =
      serves_so (serving.and_runs g c fact (packets.on_tick s)) s.log sees.1 (serving.time_so g c fact w s (stands s sees written))

  happens_so : (client : Client) (what : Do) → ClientAgrees g c w client.phase → PhaseWritten client.phase → ClientOwed g c w client.phase what
      → client_has_room client ≡ true
      → Goes (happens client what)
  happens_so client Begin sees written brings room =
      on_begin_so client.peers.servers client.phase sees written (and_first (has_room (lasting_of client.phase).inc) _ room)
      (and_first (has_room (lasting_of client.phase).questions.last) (phase_has_room client.phase)
      (and_second (has_room (lasting_of client.phase).inc) (has_room (lasting_of client.phase).questions.last && phase_has_room client.phase) room))
  happens_so client (Deliver packet) sees written brings room =
      client_deliver_so client.peers client.cache client.phase packet sees written brings (and_first (has_room (lasting_of client.phase).inc) _ room)
      (and_first (has_room (lasting_of client.phase).questions.last) (phase_has_room client.phase)
      (and_second (has_room (lasting_of client.phase).inc) (has_room (lasting_of client.phase).questions.last && phase_has_room client.phase) room))
  happens_so client Tick sees written brings room =
      client_tick_so client.cache client.phase sees written brings (and_first (has_room (lasting_of client.phase).inc) _ room)
      (and_first (has_room (lasting_of client.phase).questions.last) (phase_has_room client.phase)
      (and_second (has_room (lasting_of client.phase).inc) (has_room (lasting_of client.phase).questions.last && phase_has_room client.phase) room))

-- an event is taken where no counter is near its end, and changes nothing else
pub client_did : (g : Setting) (c : ℕ) → g.log ≡ record { 0 = c } → is_log c ≡ true → (w : Scene) (client : Client) (what : Do)
    → ClientAgrees g c w client.phase
    → PhaseWritten client.phase → ClientOwed g c w client.phase what → ClientDid g c w (takes client what).state (takes client what).outs
client_did g c fact small w client what sees written owed =
    by_test (λ (x : Went_to). ClientDid g c w x.state x.outs) (client_has_room client) (happens client what) (still client.phase)
    (λ room. happens_so g c fact small w client what sees written owed room)
    (λ room. still_so g c fact small w client.phase sees written)
