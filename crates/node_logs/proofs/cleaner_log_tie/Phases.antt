-- Each event of the cleaner is a run of the small world of its own log.
use Rattle.std.proofs.Common.{◌≡◌, ◌<◌, ℕ, suc, ◌+◌, true, false, cond, List, [], ◌∷◌, Option, Some, None, nat_lt, refl, sym, ap, subst, ◌∙◌, inl, inr, arith}
use Rattle.std.specs.Prelude.{All}
use Rattle.std.proofs.lemmas.Bool.Decides.{nat_tests}
use Rattle.std.proofs.lemmas.List.Elements.{All-nil, All-cons, All-append}
use Rattle.xfs_base.proofs.Booleans.{by_test, and_first, and_second, contrary}
use Rattle.xfs_base.specs.declared.node.NodeId.TheVariants.{Cleaner as TheCleaner}
use Rattle.xfs_base.specs.Limits.{u32_end}
use Rattle.xfs_base.specs.Steps.{still, saying}
use Rattle.xfs_base.proofs.Alls.{all_append, all_weaker}
use Rattle.log_owner.specs.declared.opened.Progress.{Progress}
use Rattle.log_owner.specs.declared.opened.Progress.TheVariants as progress
use Rattle.log_owner.specs.declared.opening.Opening as openings
use Rattle.log_owner.specs.Opening as opening
use Rattle.log_owner.specs.Opening.{Went}
use Rattle.log_owner.specs.Sending.{push_all}
use Rattle.log_scan.specs.declared.input.In.TheVariants as scan_in
use Rattle.log_scan.specs.ScanState.{ScanState, scan_start}
use Rattle.log_scan.specs.Transition as scan
use Rattle.node_base.specs.Asking.{next_ask}
use Rattle.node_base.specs.Beginning.{next_item, items_answer, answers_unanswered}
use Rattle.node_base.specs.declared.effects.Effect.{Effect}
use Rattle.node_base.specs.declared.effects.Effect.TheVariants.{Send, Answer as Answers, Lose, Does}
use Rattle.node_base.specs.declared.peers.Peers.{Peers}
use Rattle.node_base.specs.declared.questions.Questions.{Questions}
use Rattle.node_base.specs.Effects.{act_of, acts_of}
use Rattle.node_base.specs.Room.{has_room}
use Rattle.node_base.specs.Shape.{is_well_formed}
use Rattle.version_model.specs.declared.answer.Answer.{Answer}
use Rattle.version_model.specs.declared.answer.Answer.TheVariants as answer
use Rattle.wire_msg.specs.declared.packet.Do.{Do}
use Rattle.wire_msg.specs.declared.packet.Do.TheVariants.{Begin, Deliver, Tick}
use Rattle.wire_msg.specs.declared.packet.Packet as wire
use Rattle.cleaner_serving.specs.declared.emptying.Emptying.{Emptying}
use Rattle.cleaner_serving.specs.EmptyingEvents.{on_clean, on_packet, on_tick}
use Rattle.cleaner_serving.specs.Jobs.{Done}
use Rattle.cleaner_node.specs.CleanerEvents.{Went_to, serves_on, crash, next_life, owner_of, after_opening, opened_on, restart, down_wishes, opening_wishes, serving_wishes, begun_life, wish_at, lasting_of, down_at, opening_at, serving_at, on_begin, cleaner_hear, on_deliver, on_time, happens, phase_has_room, takes}
use Rattle.cleaner_node.specs.declared.cleaner.Phase.{Phase}
use Rattle.cleaner_node.specs.declared.cleaner.Phase.TheVariants.{Down, Opening, Serving}
use Rattle.cleaner_node.specs.declared.cleaner.Wish.{Wish}
use Rattle.cleaner_node.specs.declared.cleaner.Wish.TheVariants.{Crash, Restart, Clean}
use Rattle.cleaner_job.specs.declared.lasting.Lasting.{Lasting}
use Rattle.cleaner_job.specs.Lasting.{lasting_has_room}
use Rattle.cleaner_job.specs.Starting.{cleaner_log}
use Rattle.log_protocol.specs.Tables.{In, put}
use Rattle.log_tie.specs.Setting.{Setting}
use Rattle.log_law.specs.Net.{Net}
use Rattle.log_law.specs.Net.{Owner as owner}
use Rattle.log_law.specs.Net.Packet.{HelloSent}
use Rattle.log_law.specs.Events.{Happens as happen}
use Rattle.log_law.specs.Events.Runs.{Begun, On}
use Rattle.log_law.specs.Restarts.{is_down, is_serving}
use Rattle.log_law.specs.Tails.{then_on}
use Rattle.node_logs.specs.node_log_tie.Sight.{AskedBy, BodySeen, PacketSeen}
use Rattle.node_logs.proofs.node_log_tie.Sight.{EffectSeen}
use Rattle.node_logs.specs.node_log_tie.Sight.Question.{OfOpening}
use Rattle.node_logs.proofs.node_log_tie.OwnerFalls.{Fall, fall_of}
use Rattle.node_logs.proofs.node_log_tie.Emptied.{OnlyOrdered, only_deleted}
use Rattle.node_logs.proofs.node_log_tie.Lists.{answers_send, packets_all}
use Rattle.node_logs.specs.client_log_tie.ClientEvents.{FliesInBoot, NeverHasLog, ServesStraight, has_log}
use Rattle.node_logs.specs.client_log_tie.Owner.{Scene, SeesLog}
use Rattle.client_log.specs.LogState.{LogState}
use Rattle.node_logs.proofs.client_log_tie.Boots.{same_boot, stage_up, log_up}
use Rattle.node_logs.proofs.client_log_tie.OpeningLog.{IsLost, ProgressSeen}
use Rattle.node_logs.proofs.client_log_tie.Questions.{ask_rises, put_here, put_keeps, put_fresh}
use Rattle.node_logs.specs.opening_law.Questions.{AsksOn, ProgressAsks}
use Rattle.node_logs.proofs.opening_law.Asking.{packet_few, starts_few, tick_few}
use Rattle.node_logs.specs.cleaner_log_tie.Owner.{its_asker, its_number, LastsAs, Stands, CleanerAgrees}
use Rattle.node_logs.specs.cleaner_log_tie.OwnerEvents.{OpeningOwed, PacketOwed, CleanerOwed, ActSeen, Grows, OwnerTakes}
use Rattle.node_logs.proofs.cleaner_log_tie.Frames.{CleanerDoes, AllDone, Gone, still_grows, still_once, grows_on, all_more}
use Rattle.node_logs.proofs.client_log_tie.Straight.{down_straight, never_then, once_straight, served_straight}
use Rattle.node_logs.proofs.cleaner_log_tie.Serving as serving
use Rattle.node_logs.proofs.cleaner_log_tie.StandIn as stand_in
use Rattle.node_logs.proofs.cleaner_log_tie.StandIn.{WentOn}

next_inc : (k : ℕ) → has_room k ≡ true → cond (nat_lt k u32_end) (k + 1) k ≡ suc k
next_inc k room = grind (arith, nat_tests)

module _ (g : Setting) (fact : g.log ≡ cleaner_log) (w : Scene) where
  -- the small world runs on to one in which the cleaner is seen in its phase, and all that it does is seen
  record Goes (x : Went_to) : Type 0 where
    next : Scene
    grown : Grows g w next
    agrees : CleanerAgrees g next x.state
    does : AllDone g next x.outs
    flies : FliesInBoot w.net next.net
    straight : ServesStraight grown.runs
    only : OnlyOrdered g (its_asker w) w.net next.net x.outs

  at_once : (p : Phase) (outs : List Effect) → CleanerAgrees g w p → AllDone g w outs → Goes (record { state = p; outs = outs })
  at_once p outs sees does =
      record {
        next = w;
        grown = still_grows g w;
        agrees = sees;
        does = does;
        flies = inr (refl, refl);
        straight = once_straight g w.net w.net (still_grows g w).runs (still_once g w);
        only = λ name fact. inl fact;
      }

  stays : (p : Phase) → CleanerAgrees g w p → Goes (still p)
  stays p sees = at_once p [] sees tt

  serves : (d : Done) (log : LogState) → SeesLog g its_number w log → Gone g w d → Goes (serves_on d)
  serves d log sees p = record {
    next = p.next;
    grown = p.grown;
    agrees = p.stands;
    does = p.does;
    flies = inl (same_boot w.net p.next.net (log_up g its_number w log sees) (log_up g its_number p.next d.state.log p.stands.log) p.boot);
    straight = served_straight g w.net p.next.net p.grown.runs (ap is_serving sees.owner) (ap is_serving p.stands.log.owner) p.boot;
    only = p.only;
  }

  answers_do : (v : Scene) (item : Option ℕ) (a : Answer) → AllDone g v (answers_unanswered item a)
  answers_do v item a = answers_send (CleanerDoes g v) (λ number said. tt) item a

  -- ---- falls

  abbrev fallen : Scene → Scene
  fallen v = record v { net = (fall_of g v.net).net }

  fallen_grows : (v : Scene) → Grows g v (fallen v)
  fallen_grows v =
      let f : Fall g v.net = fall_of g v.net in
      record {
        runs = On Begun f.happens;
        sent = λ p among. subst (In p) (sym f.sent) among;
        filed = λ name among. subst (In name) (sym f.filed) among;
        dropped = λ name among. subst (In name) (sym f.dropped) among;
        shelves = f.shelves;
        registry = f.registry;
        low = f.low;
        asked = λ k some. refl;
      }

  fallen_never : (v : Scene) → NeverHasLog (fallen_grows v).runs
  unfolding fallen_grows
  fallen_never v = (ap has_log (fall_of g v.net).down, tt)

  fallen_agrees : (v : Scene) (l : Lasting) → LastsAs g v l → CleanerAgrees g (fallen v) (Down l)
  fallen_agrees v l lasts = (record { number = refl; inc = (fall_of g v.net).inc ∙ lasts.inc; fresh = lasts.fresh }, (fall_of g v.net).down)

  crashed : (l : Lasting) (number : ℕ) → LastsAs g w l → Goes (crash l number)
  unfolding crash
  crashed l number lasts = record {
    next = fallen w;
    grown = fallen_grows w;
    agrees = fallen_agrees w (record l { items = items_answer l.items }) lasts;
    does = all_append (CleanerDoes g (fallen w)) (answers_unanswered l.items.unanswered answer.Cut) _ (answers_do (fallen w) l.items.unanswered answer.Cut)
        (tt, tt);
    flies = inr ((fall_of g w.net).flown, (fall_of g w.net).filed);
    straight = down_straight g w.net (fallen w).net (fallen_grows w).runs (fallen_never w) (fall_of g w.net).down;
    only = λ name fact. inl (subst (In name) (fall_of g w.net).dropped fact);
  }

  -- ---- restarts

  restarted : (servers : ℕ) (l : Lasting) (number : ℕ) → LastsAs g w l → w.net.owner ≡ owner.Down → has_room l.inc ≡ true → has_room l.questions.last ≡ true
      → Goes (restart servers l number)
  unfolding restart scan.on_tick
  restarted servers l number lasts down room asks_room =
      let q : Questions = l.questions in
      let inc : suc w.net.inc ≡ (next_life l number).inc = ap (λ k. suc k) lasts.inc ∙ sym (next_inc l.inc room) in
      let rises : q.last < next_ask q = ask_rises q asks_room in
      let first : ScanState = scan_start g.log (suc w.net.inc) in
      let risen : Net = record w.net { inc = suc w.net.inc; owner = owner.Opening first } in
      let v : Scene = record {
        net = record risen { owner = owner.Opening first; sent = HelloSent (suc w.net.inc) 1 ∷ w.net.sent; picked = 1 };
        asked = put w.asked (next_ask q) (OfOpening 1);
      } in
      record {
        next = v;
        grown = record {
          runs = On (On Begun (happen.Restarts down)) (happen.Opens first scan_in.Tick refl tt tt);
          sent = λ p among. inr among;
          filed = λ name among. among;
          dropped = λ name among. among;
          shelves = refl;
          registry = refl;
          low = refl;
          asked = put_keeps w.asked (next_ask q) (OfOpening 1) (lasts.fresh (next_ask q) rises);
        };
        agrees = record {
          lasts = record { number = refl; inc = inc; fresh = put_fresh w.asked (next_ask q) (OfOpening 1) q.last rises lasts.fresh };
          sees = record {
            owner = ap (λ z. owner.Opening (scan_start z (suc w.net.inc))) fact ∙ ap (λ k. owner.Opening (scan_start cleaner_log k)) inc;
            log = sym fact;
            inc = sym inc;
            groups = refl;
            came = tt;
            asks = record { own = refl; number = put_here w.asked (next_ask q) (OfOpening 1) };
            past = omega arith;
            some = omega arith;
            number = omega arith;
          };
          written = tt;
          asks = starts_few (owner_of (next_life l number)) servers q asks_room;
        };
        does = (
          record {
            own = λ e. subst (AskedBy g (its_asker v) v.net (next_life l number).inc) (sym (put_here w.asked (next_ask q) (OfOpening 1)))
                (subst (λ k. In (HelloSent k 1) v.net.sent) inc (inl refl));
            reached = tt;
          },
          tt,
        );
        flies = inr (refl, refl);
        straight = record { never = λ e. (refl, (refl, tt)); once = λ a b. contrary b; stays = λ a b. contrary b; picks = λ e. contrary e; rests = λ e. (refl, (refl, tt)) };
        only = λ name fact. inl fact;
      }

  -- ---- an opening goes on

  opened : (l : Lasting) (x : Went) → LastsAs g w l → is_down w.net.owner ≡ false → WentOn g w l.inc x → AsksOn x → Goes (opened_on l x)
  unfolding after_opening
  opened l x lasts up t few = by_progress x.progress t.shows few t.lost
    where
      in_boot : is_down t.next.net.owner ≡ false → FliesInBoot w.net t.next.net
      in_boot still_up = inl (same_boot w.net t.next.net up still_up (t.lasts.inc ∙ sym lasts.inc))

      by_progress : (p : Progress) → ProgressSeen g its_number t.next x.questions.last p → ProgressAsks p x.questions.last
          → (IsLost g its_number p → (t.next.net.flown ≡ w.net.flown) × ((t.next.net.filed ≡ w.net.filed) × (has_log t.next.net.owner ≡ false)))
          → Goes (saying x.effects (after_opening (record l { questions = x.questions }) p))
      by_progress (progress.Opening o) shows asks lost = record {
        next = t.next;
        grown = t.grown;
        agrees = record { lasts = t.lasts; sees = shows.0; written = shows.1; asks = asks };
        does = all_append (CleanerDoes g t.next) x.effects [] t.does tt;
        flies = in_boot (stage_up g its_number t.next o.known x.questions.last o.stage shows.0);
        straight = once_straight g w.net t.next.net t.grown.runs t.once;
        only = λ name fact. inl (subst (In name) t.kept fact);
      }
      by_progress (progress.Opened o) shows asks lost = record {
        next = t.next;
        grown = t.grown;
        agrees = record { lasts = t.lasts; log = shows.0; written = shows.1; job = tt };
        does = all_append (CleanerDoes g t.next) x.effects _ t.does
            (all_append (CleanerDoes g t.next) (push_all o.promised.managers o.feed) (answers_unanswered l.items.unanswered answer.Done)
            (serving.deltas_pushed g fact t.next o.promised.managers o.feed) (answers_do t.next l.items.unanswered answer.Done));
        flies = in_boot (log_up g its_number t.next o.log shows.0);
        straight = once_straight g w.net t.next.net t.grown.runs t.once;
        only = λ name fact. inl (subst (In name) t.kept fact);
      }
      by_progress (progress.Lost seg) shows asks lost = record {
        next = fallen t.next;
        grown = record (grows_on g w t.next (fallen t.next) t.grown (fallen_grows t.next)) { runs = then_on t.grown.runs (fallen_grows t.next).runs };
        agrees = fallen_agrees t.next (record l { questions = x.questions; items = items_answer l.items }) t.lasts;
        does = all_append (CleanerDoes g (fallen t.next)) x.effects (answers_unanswered l.items.unanswered (answer.Lost seg))
            (all_more g t.next (fallen t.next) (fallen_grows t.next) x.effects t.does) (answers_do (fallen t.next) l.items.unanswered (answer.Lost seg));
        flies = inr ((fall_of g t.next.net).flown ∙ (lost tt).0, (fall_of g t.next.net).filed ∙ (lost tt).1.0);
        straight = down_straight g w.net (fallen t.next).net (then_on t.grown.runs (fallen_grows t.next).runs)
            (never_then g w.net t.next.net (fallen t.next).net t.grown.runs (fallen_grows t.next).runs
            ((once_straight g w.net t.next.net t.grown.runs t.once).rests (lost tt).1.1) (fallen_never t.next))
            (fall_of g t.next.net).down;
        only = λ name fact. inl (subst (In name) ((fall_of g t.next.net).dropped ∙ t.kept) fact);
      }

  -- ---- items

  down_wish : (servers : ℕ) (l : Lasting) (number : ℕ) (wish : Wish) → CleanerAgrees g w (Down l) → lasting_has_room l ≡ true
      → Goes (down_wishes servers l number wish)
  down_wish servers l number Restart sees room =
      restarted servers l number sees.0 sees.1 (and_first (has_room l.inc) (has_room l.questions.last) room)
      (and_second (has_room l.inc) (has_room l.questions.last) room)
  down_wish servers l number Crash sees room = at_once (Down l) _ sees (tt, tt)
  down_wish servers l number (Clean count) sees room = at_once (Down l) _ sees (tt, tt)

  opening_wish : (l : Lasting) (o : openings.Opening) (number : ℕ) (wish : Wish) → CleanerAgrees g w (Opening l o) → Goes (opening_wishes l o number wish)
  opening_wish l o number Crash sees = crashed l number sees.lasts
  opening_wish l o number Restart sees = at_once (Opening l o) _ sees (tt, tt)
  opening_wish l o number (Clean count) sees = at_once (Opening l o) _ sees (tt, tt)

  serving_wish : (e : Emptying) (number : ℕ) (wish : Wish) → Stands g w e → has_room e.lasting.questions.last ≡ true → Goes (serving_wishes e number wish)
  serving_wish e number Crash sees room = crashed e.lasting number sees.lasts
  serving_wish e number Restart sees room = at_once (Serving e) _ sees (tt, tt)
  serving_wish e number (Clean count) sees room =
      serves (on_clean e number count) e.log sees.log (serving.cleaning_wished g fact w e number count room sees)

  down_item : (servers : ℕ) (l : Lasting) (item : Option ℕ) → CleanerAgrees g w (Down l) → lasting_has_room l ≡ true → Goes (down_at servers l item)
  down_item servers l None sees room = stays (Down l) sees
  down_item servers l (Some number) sees room = down_wish servers l number (wish_at l.items number) sees room

  opening_item : (l : Lasting) (o : openings.Opening) (item : Option ℕ) → CleanerAgrees g w (Opening l o) → Goes (opening_at l o item)
  opening_item l o None sees = stays (Opening l o) sees
  opening_item l o (Some number) sees = opening_wish l o number (wish_at l.items number) sees

  serving_item : (e : Emptying) (item : Option ℕ) → Stands g w e → has_room e.lasting.questions.last ≡ true → Goes (serving_at e item)
  serving_item e None sees room = stays (Serving e) sees
  serving_item e (Some number) sees room = serving_wish e number (wish_at e.lasting.items number) sees room

  item_begun : (servers : ℕ) (p : Phase) → CleanerAgrees g w p → lasting_has_room (lasting_of p) ≡ true → Goes (on_begin servers p)
  unfolding on_begin
  item_begun servers (Down l) sees room = down_item servers (begun_life l) (next_item l.items) sees room
  item_begun servers (Opening l o) sees room =
      opening_item (begun_life l) o (next_item l.items) (record { lasts = sees.lasts; sees = sees.sees; written = sees.written; asks = sees.asks })
  item_begun servers (Serving e) sees room =
      serving_item (record e { lasting = begun_life e.lasting }) (next_item e.lasting.items)
      (record { lasts = sees.lasts; log = sees.log; written = sees.written; job = sees.job })
      (and_second (has_room e.lasting.inc) (has_room e.lasting.questions.last) room)

  -- ---- packets and time

  life_room : (l : Lasting) → lasting_has_room l ≡ true → has_room l.inc ≡ true
  life_room l room = and_first (has_room l.inc) (has_room l.questions.last) room

  asks_room : (l : Lasting) → lasting_has_room l ≡ true → has_room l.questions.last ≡ true
  asks_room l room = and_second (has_room l.inc) (has_room l.questions.last) room

  heard : (p : Phase) (packet : wire.Packet) → CleanerAgrees g w p → PacketOwed g w p packet → lasting_has_room (lasting_of p) ≡ true → Goes (cleaner_hear p packet)
  unfolding cleaner_hear
  heard (Down l) packet sees owed room = stays (Down l) sees
  heard (Opening l o) packet sees owed room =
      opened l (opening.opening_take o l.questions packet) sees.lasts (stage_up g its_number w o.known l.questions.last o.stage sees.sees)
      (stand_in.packet_heard g fact w l.inc l.questions sees.lasts (asks_room l room) (life_room l room) o sees.sees sees.written sees.asks owed.opening packet
      (subst (λ to. BodySeen g (its_asker w) w.net packet.from to packet.body) owed.own owed.seen) owed.fits)
      (packet_few o l.questions packet (asks_room l room) sees.asks)
  heard (Serving e) packet sees owed room =
      serves (on_packet e packet) e.log sees.log
      (serving.packet_heard g fact w e packet (asks_room e.lasting room) sees
      (subst (λ to. BodySeen g (its_asker w) w.net packet.from to packet.body) owed.own owed.seen)
      owed.fits)

  passed : (p : Phase) → CleanerAgrees g w p → OpeningOwed g w p → lasting_has_room (lasting_of p) ≡ true → Goes (on_time p)
  unfolding on_time
  passed (Down l) sees owed room = stays (Down l) sees
  passed (Opening l o) sees owed room =
      opened l (opening.on_tick o l.questions) sees.lasts (stage_up g its_number w o.known l.questions.last o.stage sees.sees)
      (stand_in.time_passes g fact w l.inc l.questions sees.lasts (asks_room l room) (life_room l room) o sees.sees sees.written sees.asks owed)
      (tick_few o l.questions (asks_room l room) sees.asks)
  passed (Serving e) sees owed room = serves (on_tick e) e.log sees.log (serving.time_passes g fact w e (asks_room e.lasting room) sees)

  its_room : (p : Phase) → phase_has_room p ≡ true → lasting_has_room (lasting_of p) ≡ true
  its_room (Down l) room = room
  its_room (Opening l o) room = and_first (lasting_has_room l) (opening.opening_has_room o) room
  its_room (Serving e) room = and_first (lasting_has_room e.lasting) _ room

  all_events : (peers : Peers) (p : Phase) (what : Do) → CleanerAgrees g w p → CleanerOwed g w p what → phase_has_room p ≡ true → Goes (happens peers p what)
  unfolding on_deliver
  all_events peers p Begin sees owed room = item_begun peers.servers p sees (its_room p room)
  all_events peers p (Deliver packet) sees owed room =
      by_test Goes (is_well_formed peers packet) (cleaner_hear p packet) (still p) (λ t. heard p packet sees owed (its_room p room)) (λ t. stays p sees)
  all_events peers p Tick sees owed room = passed p sees owed (its_room p room)

  taken_so : (peers : Peers) (p : Phase) (what : Do) → CleanerAgrees g w p → CleanerOwed g w p what → Goes (takes peers p what)
  taken_so peers p what sees owed =
      by_test Goes (phase_has_room p) (happens peers p what) (still p) (λ room. all_events peers p what sees owed room) (λ room. stays p sees)

-- ---- what it does, as packets and acts

module _ (g : Setting) (w : Scene) where
  as_effect : (e : Effect) → CleanerDoes g w e → EffectSeen g (its_asker w) w.net TheCleaner e
  as_effect (Send to said) h = h
  as_effect _ h = tt

  one_act : (e : Effect) → CleanerDoes g w e → All (ActSeen g w) (act_of TheCleaner e)
  one_act (Send to said) h = All-nil (ActSeen g w)
  one_act (Answers item a) h = All-cons (ActSeen g w) _ [] tt (All-nil (ActSeen g w))
  one_act (Lose seg) h = All-cons (ActSeen g w) _ [] tt (All-nil (ActSeen g w))
  one_act (Does act) h = All-cons (ActSeen g w) act [] h (All-nil (ActSeen g w))

  all_acts : (outs : List Effect) → AllDone g w outs → All (ActSeen g w) (acts_of TheCleaner outs)
  all_acts [] all = All-nil (ActSeen g w)
  all_acts (e ∷ outs) all = All-append (ActSeen g w) (act_of TheCleaner e) (acts_of TheCleaner outs) (one_act e all.0) (all_acts outs all.1)

pub owner_takes : OwnerTakes
owner_takes g fact w cleaner what sees owed =
    let outs : List Effect = (takes cleaner.peers cleaner.phase what).outs in
    let p : Goes g fact w (takes cleaner.peers cleaner.phase what) = taken_so g fact w cleaner.peers cleaner.phase what sees owed in
    record {
      next = p.next;
      grown = p.grown;
      agrees = p.agrees;
      sends =
          packets_all (PacketSeen g (its_asker p.next) p.next.net) (EffectSeen g (its_asker p.next) p.next.net TheCleaner) TheCleaner
          (λ to said does. does) outs
          (all_weaker (CleanerDoes g p.next) (EffectSeen g (its_asker p.next) p.next.net TheCleaner) (as_effect g p.next) outs p.does);
      acts = all_acts g p.next outs p.does;
      flies = p.flies;
      straight = p.straight;
      only = only_deleted g (its_asker w) w.net p.next.net outs p.only;
    }
