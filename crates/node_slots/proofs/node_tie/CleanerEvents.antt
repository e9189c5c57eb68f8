-- What the cleaner has promised of one slot of the map, and what it sends, over each of its events: at each of the moves of which the event is made.
use Rattle.std.proofs.Common.{◌≡◌, ◌⊎◌, ⊎_elim, ℕ, zero, suc, ◌+◌, ◌==◌, ◌≤◌, ◌<◌, true, cond, ◌&&◌, nat_lt, List, [], ◌∷◌, length, Some, inl, inr, refl, sym, ap, subst, ◌∙◌, arith}
use Rattle.std.specs.List.{AllByRecursion, list_all}
use Rattle.std.proofs.lemmas.Bool.Decides.{nat_tests}
use Rattle.std.proofs.lemmas.List.Elements.{All-contains, All-from_recursion, recursion_from_All}
use Rattle.std.proofs.lemmas.Bool.{eqb-true}
use Rattle.std.proofs.lemmas.Option.{unwrap_or-slice_get}
use Rattle.cleaner_job.specs.declared.lasting.Lasting.{Lasting}
use Rattle.cleaner_job.specs.Lasting.{lasting_has_room}
use Rattle.cleaner_node.specs.CleanerEvents.{Went_to, lasting_of, next_life, owner_of, phase_has_room, restart, serves_on, takes}
use Rattle.cleaner_node.specs.declared.cleaner.Cleaner.{Cleaner}
use Rattle.cleaner_node.specs.declared.cleaner.Phase.{Phase}
use Rattle.cleaner_node.specs.declared.cleaner.Phase.TheVariants.{Down, Opening, Serving as Serves}
use Rattle.cleaner_serving.specs.declared.emptying.Emptying.{Emptying}
use Rattle.cleaner_serving.specs.EmptyingEvents.{emptying_promise, fed}
use Rattle.cleaner_serving.specs.Jobs.{emptying_put}
use Rattle.client_log.specs.declared.input.In.{In as LogIn}
use Rattle.client_log.specs.declared.output.Out.{Out as LogOut}
use Rattle.client_log.specs.declared.output.Out.TheVariants as log_out
use Rattle.client_log.specs.Transition as log
use Rattle.delta_feed.specs.declared.output.Out.{Out as FeedOut}
use Rattle.delta_feed.specs.declared.output.Out.TheVariants.{Range}
use Rattle.delta_feed.specs.FeedState.{FeedState}
use Rattle.delta_feed.specs.Transition.{feed_tick, new_epoch}
use Rattle.log_owner.proofs.Behaving as behaving
use Rattle.log_owner.proofs.Promising as promising
use Rattle.log_owner.specs.Behaves.{IsOf}
use Rattle.log_owner.specs.declared.ended.Owner.{Owner}
use Rattle.log_owner.specs.declared.opened.Progress.{Progress}
use Rattle.log_owner.specs.declared.opened.Progress.TheVariants as progress
use Rattle.log_owner.specs.declared.opening.Opening as openings
use Rattle.log_owner.specs.declared.promised.Managers.{Managers}
use Rattle.log_owner.specs.declared.promised.Promised.{Promised}
use Rattle.log_owner.specs.Opening as opening
use Rattle.log_owner.specs.Opening.{Went, stored}
use Rattle.log_owner.specs.Promised.{epoch_of as promised_epoch, promise_to}
use Rattle.log_owner.specs.Sending.{push_all, range}
use Rattle.node_base.specs.declared.effects.Effect.{Effect}
use Rattle.node_base.specs.declared.effects.Effect.TheVariants.{Send, Answer, Lose, Does}
use Rattle.node_base.specs.declared.items.Items.{Items}
use Rattle.node_base.specs.declared.questions.Questions.{Questions}
use Rattle.node_base.specs.Maps.{fits}
use Rattle.node_base.specs.Nodes.{has_node}
use Rattle.node_base.specs.Room.{has_room}
use Rattle.node_base.specs.Shape.{are_in_order, has_logs, is_slot_news}
use Rattle.node_moves.proofs.cleaner_moves.Keeping.{Changes, Follows, Gives, JobKeeps, Keeps, LogKeeps, event_goes, written}
use Rattle.node_moves.proofs.cleaner_moves.Keeping.Changes.{SlotKept}
use Rattle.node_moves.proofs.cleaner_moves.Keeping.Gives.{EndReported, HelloSaid}
use Rattle.node_moves.specs.cleaner_moves.Moves.{IsTaken, OpenedBy, PromisedBy, came_to, noted}
use Rattle.node_moves.specs.cleaner_moves.Moves.OpenedBy.{PacketCame, TimeWent}
use Rattle.node_moves.specs.cleaner_moves.Moves.PromisedBy.{NewsCame, PollCame}
use Rattle.node_moves.specs.server_moves.Moves.{news_in}
use Rattle.stripe_cleaner.specs.declared.output.Out.{Out}
use Rattle.stripe_cleaner.specs.Transition.{transition}
use Rattle.token_client.specs.State.{epoch_of}
use Rattle.wire_msg.specs.declared.body.Body.{Body}
use Rattle.wire_msg.specs.declared.body.Body.TheVariants as body
use Rattle.wire_msg.specs.declared.deltas.Poll.{Poll}
use Rattle.wire_msg.specs.declared.packet.Do.{Do}
use Rattle.wire_msg.specs.declared.packet.Do.TheVariants.{Begin}
use Rattle.wire_msg.specs.declared.registry.News.{News}
use Rattle.xfs_base.proofs.Alls.{all_append, all_each, all_flat_map, all_map, all_weaker}
use Rattle.xfs_base.proofs.Booleans.{by_test, and_first, and_second}
use Rattle.xfs_base.specs.declared.news.SlotNews.{SlotNews}
use Rattle.xfs_base.specs.Limits.{u32_end}
use Rattle.xfs_base.specs.Steps.{still}
use Rattle.node_slots.specs.node_tie.CleanerEvents.{Bounded, CleanerDoes, CleanerGets, CleanerGoes, CleanerOwed, CleanerStands, CleanerStarts, CleanerTakes, IsOpening, NewsLow, OpensLater}
use Rattle.node_slots.specs.node_tie.ClientEvents.{AwaitsFirst}
use Rattle.node_slots.specs.node_tie.Sight.{CleanerSends}
use Rattle.node_slots.proofs.node_tie.CleanerTurns.{cleaner_runs}
use Rattle.node_slots.proofs.node_tie.ClientOpening as client_opening
use Rattle.node_slots.proofs.node_tie.OpeningSends.{start_does, packet_does, tick_does, cleaner_opening}

-- ---- how it goes on

-- the epoch that it has promised, and its incarnation
record Moment : Type 0 where
  epoch : ℕ
  life : ℕ

record Later (u v : Moment) : Type 0 where
  epoch : u.epoch ≤ v.epoch
  life : u.life ≤ v.life

later_now : (w : Moment) → Later w w
later_now w = record { epoch = omega arith; life = omega arith }

later_on : (u v w : Moment) → Later u v → Later v w → Later u w
later_on u v w a b = record {
  epoch = (let x = a.epoch in let y = b.epoch in omega arith);
  life = (let x = a.life in let y = b.life in omega arith);
}

-- the next incarnation is later than any that isn't later than this
raised : (k n : ℕ) → has_room k ≡ true → k ≤ n → k < cond (nat_lt n u32_end) (n + 1) n
raised k n room low = grind (arith, nat_tests)

raised_on : (n : ℕ) → n ≤ cond (nat_lt n u32_end) (n + 1) n
raised_on n = grind (arith, nat_tests)

module _ (part : ℕ) where
  abbrev Done : Moment → Effect → Type 0
  Done w e = CleanerDoes part w.epoch w.life e

  abbrev AllDone : Moment → List Effect → Type 0
  AllDone w outs = AllByRecursion (Done w) outs

  -- what it may say it may say later
  sends_more : (u v : Moment) → Later u v → (m : Body) → CleanerSends part u.epoch u.life m → CleanerSends part v.epoch v.life m
  sends_more u v more (body.Report m) h = λ same. (let a = h same in let b = more.epoch in omega arith)
  sends_more u v more (body.Deltas m) h = tt
  sends_more u v more (body.Store m) h = tt
  sends_more u v more (body.Fetch m) h = tt
  sends_more u v more (body.Fence m) h = tt
  sends_more u v more (body.List m) h = tt
  sends_more u v more (body.Delete m) h = tt
  sends_more u v more (body.Check m) h = tt
  sends_more u v more (body.UsageAsk m) h = tt
  sends_more u v more (body.Hello m) h = (let a : m.inc ≤ u.life = h in let b = more.life in omega arith)
  sends_more u v more _ h = absurd h

  done_more : (u v : Moment) → Later u v → (e : Effect) → Done u e → Done v e
  done_more u v more (Send to m) h = sends_more u v more m h
  done_more u v more (Answer item answer) h = tt
  done_more u v more (Lose seg) h = tt
  done_more u v more (Does act) h = h

  all_more : (u v : Moment) → Later u v → (outs : List Effect) → AllDone u outs → AllDone v outs
  all_more u v more outs h = all_weaker (Done u) (Done v) (done_more u v more) outs h

  one_stored : (w : Moment) (o : LogOut) → AllDone w (stored o)
  one_stored w (log_out.Send fragment member) = (tt, tt)
  one_stored w (log_out.Settled end rows) = tt

  range_done : (w : Moment) (managers : Managers) (o : FeedOut) → Done w (range managers o)
  range_done w managers (Range slot first upto rows) = tt

  pushed : (w : Moment) (managers : Managers) (f : FeedState) → AllDone w (push_all managers f)
  pushed w managers f = all_map (Done w) (range managers) (range_done w managers) (feed_tick f)

module _ (part promised limit : ℕ) (small : part < 8) (low : promised ≤ limit) (first : Cleaner) (what : Do)
    (stands : CleanerStands part promised limit first.phase) (owed : CleanerOwed part promised limit first.phase what) where
  abbrev first_life : ℕ
  first_life = (lasting_of first.phase).inc

  abbrev start : Moment
  start = record { epoch = promised; life = first_life }

  -- in this incarnation: an item that begins leaves what was promised
  record Lives (w : Moment) (inc : ℕ) : Type 0 where
    life : inc ≡ w.life
    since : first_life ≤ inc
    within : w.epoch ≤ limit
    begun : what ≡ Begin → w.epoch ≡ promised

  record Promises (w : Moment) (p : Promised) : Type 0 where
    eight : length p.epochs ≡ 8
    is : epoch_of p.epochs part ≡ w.epoch

  abbrev Kept : Promised → Type 0
  Kept p = Bounded part promised limit p

  record Opens (w : Moment) (inc : ℕ) (o : openings.Opening) : Type 0 where
    owner : o.known.owner.inc ≡ inc
    same : w.epoch ≡ promised
    promises : AwaitsFirst o.stage ⊎ Kept o.known.promised
    opened : IsOpening first.phase ⊎ (first_life < inc)

  abbrev At : Moment → Phase → Type 0
  At w (Down l) = Lives w l.inc
  At w (Opening l o) = Lives w l.inc × Opens w l.inc o
  At w (Serves e) = Lives w e.lasting.inc × Promises w e.promised

  lives : (w : Moment) (p : Phase) → At w p → Lives w (lasting_of p).inc
  lives w (Down l) h = h
  lives w (Opening l o) h = h.0
  lives w (Serves e) h = h.0

  record Goes (w : Moment) (d : Went_to) : Type 0 where
    next : Moment
    later : Later w next
    at : At next d.state
    does : AllDone part next d.outs

  stays : (w : Moment) (p : Phase) (outs : List Effect) → At w p → AllDone part w outs → Goes w (record { state = p; outs = outs })
  stays w p outs h all = record { next = w; later = later_now w; at = h; does = all }

  follows : Follows Moment Later At (Done part) Goes
  follows = record {
    now = later_now;
    on = later_on;
    says = stays;
    goes_on = λ w d e g more.
        let k = more g.next g.later g.at in
        record {
          next = k.next;
          later = later_on w g.next k.next g.later k.later;
          at = k.at;
          does = all_append (Done part k.next) d.outs e.outs (all_more part g.next k.next k.later d.outs g.does) k.does;
        };
  }

  -- ---- what the world owes

  gets_low : (b : Body) (news : News) → news_in b ≡ Some news → CleanerGets part promised limit first.phase b → NewsLow part promised limit news.slots
  gets_low (body.MapNews m) news brings gets = (let same : m ≡ news = cc in subst (λ (x : News). NewsLow part promised limit x.slots) same gets)
  gets_low (body.Welcome m) news brings gets = (let same : m.news ≡ news = cc in subst (λ (x : News). NewsLow part promised limit x.slots) same gets.0)
  gets_low _ news brings gets = absurd cc

  by_low : (slot epoch manager : ℕ) → PromisedBy what slot epoch manager → slot ≡ part → epoch ≤ limit
  by_low slot epoch manager (PollCame packet other m came from) same =
      subst (CleanerGets part promised limit first.phase) came.says (subst (CleanerOwed part promised limit first.phase) came.event owed) same
  by_low slot epoch manager (NewsCame packet news s brought among) same =
      All-contains (λ (x : SlotNews). x.slot ≡ part → x.epoch ≤ limit) news.slots s
      (gets_low packet.body news brought.brings (subst (CleanerOwed part promised limit first.phase) brought.event owed)) among same

  by_packet : (slot epoch manager : ℕ) → PromisedBy what slot epoch manager → what ≡ Begin → ⊥
  by_packet slot epoch manager (PollCame packet other m came from) begins = (let e = sym came.event ∙ begins in absurd cc)
  by_packet slot epoch manager (NewsCame packet news s brought among) begins = (let e = sym brought.event ∙ begins in absurd cc)

  -- ---- promises

  -- the two words for the promised epoch
  one_epoch : (p : Promised) (slot : ℕ) → promised_epoch p slot ≡ epoch_of p.epochs slot
  one_epoch p slot = unwrap_or-slice_get p.epochs slot 0

  abbrev news_of : ℕ → ℕ → ℕ → SlotNews
  news_of slot epoch manager = record { slot = slot; epoch = epoch; manager = manager; parts = []; horizon = [] }

  promise_kept : (w : Moment) (e : Emptying) (slot epoch manager : ℕ) → PromisedBy what slot epoch manager → promised_epoch e.promised slot ≤ epoch
      → At w (Serves e) → Goes w (serves_on (still (record e { promised = promise_to e.promised slot epoch manager })))
  promise_kept w e slot epoch manager by from h =
      let above : slot ≡ part → w.epoch ≤ epoch = λ same.
      (let a = subst (λ x. promised_epoch e.promised x ≤ epoch) same from in let b = one_epoch e.promised part in let c = h.1.is in omega arith) in
      let b = client_opening.promise_keeps part w.epoch limit small e.promised (news_of slot epoch manager)
      (λ same. (above same, by_low slot epoch manager by same))
      (record { eight = h.1.eight; rises = (let c = h.1.is in omega arith); within = (let c = h.1.is in let d = h.0.within in omega arith) }) in
      record {
        next = record { epoch = epoch_of (promise_to e.promised slot epoch manager).epochs part; life = w.life };
        later = record { epoch = b.rises; life = omega arith };
        at = (
          record { life = h.0.life; since = h.0.since; within = b.within; begun = λ begins. absurd (by_packet slot epoch manager by begins) },
          record { eight = b.eight; is = refl },
        );
        does = tt;
      }

  -- what it reports it has promised
  reported : (e : Emptying) (manager : ℕ) (m : Poll) → length e.promised.epochs ≡ 8 → m.slot ≡ part → m.epoch ≤ limit
      → m.epoch ≤ epoch_of (emptying_promise e m.slot m.epoch manager).promised.epochs part
  unfolding emptying_promise
  reported e manager m eight here within =
      by_test (λ (r : Emptying). m.epoch ≤ epoch_of (promise_to r.promised m.slot m.epoch manager).epochs part) (nat_lt (promised_epoch e.promised m.slot) m.epoch)
      (record e { feed = new_epoch e.feed m.slot }) e (λ _. kept) (λ _. kept)
    where
      kept : m.epoch ≤ epoch_of (promise_to e.promised m.slot m.epoch manager).epochs part
      kept = (client_opening.promise_here part m.epoch limit small e.promised (news_of m.slot m.epoch manager) eight here (λ _. (omega arith, within))).rises

  -- ---- one that serves

  abbrev AnyOut : Moment → Out → Type 0
  AnyOut w o = Unit {0}

  abbrev AnySaid : Moment → LogOut → Type 0
  AnySaid w o = Unit {0}

  changes_so : (w : Moment) (e f : Emptying) → Changes first what (AnyOut w) e f → At w (Serves e) → Goes w (serves_on (still f))
  changes_so w e f (SlotKept slot epoch manager by from) h = promise_kept w e slot epoch manager by from h
  changes_so w e f _ h = stays w (Serves f) [] h tt

  gives_so : (w : Moment) (e : Emptying) (effect : Effect) → Gives first what (AnyOut w) e effect → At w (Serves e) → Done part w effect
  gives_so w e effect (HelloSaid ask) h = (let a = h.0.life in omega arith)
  gives_so w e effect (EndReported {before = before} packet manager m same came from above) h = λ here.
      (let its_own = subst (CleanerStands part promised limit) same stands in
      let within = subst (CleanerGets part promised limit first.phase) came.says (subst (CleanerOwed part promised limit first.phase) came.event owed) here in
      let a = reported before manager m its_own.eight here within in
      let b = h.1.is in omega arith)
  gives_so w e effect _ h = tt

  put_so : (w : Moment) (e : Emptying) (i : LogIn) → At w (Serves e) → Goes w (serves_on (emptying_put e i))
  unfolding emptying_put
  put_so w e i h =
      stays w (Serves (record e { log = (log.transition e.log i).state })) _ h
      (all_flat_map (Done part w) stored (one_stored part w) (log.transition e.log i).outs)

  of_job : JobKeeps first what Moment Later At (Done part) Goes start AnyOut
  of_job = record {
    due = λ u v later o due. tt;
    apart = λ w one blocks due. (tt, tt);
    changes = changes_so;
    gives = gives_so;
    takes = λ w e job given later came h d next. next w (later_now w) h (all_each (λ o. Unit {0}) (λ o. tt) (transition job.cleaning given).outs);
    puts = λ w e i put h. put_so w e i h;
  }

  of_log : LogKeeps first what Moment Later At (Done part) Goes start AnySaid
  of_log = record {
    due = λ u v later o due. tt;
    takes = λ w e i later came h d next. next w (later_now w) h (all_each (λ o. Unit {0}) (λ o. tt) (log.transition e.log i).outs);
    sends = λ w e f m due h. tt;
    files = λ w e end rows due h. stays w (Serves (fed e end rows)) _ h (tt, pushed part w e.promised.managers (fed e end rows).feed);
  }

  -- ---- one that opens its log

  room_of : (p : Phase) → phase_has_room p ≡ true → has_room (lasting_of p).inc ≡ true
  room_of (Down l) room = and_first (has_room l.inc) (has_room l.questions.last) room
  room_of (Opening l o) room = and_first (has_room l.inc) (has_room l.questions.last) (and_first (lasting_has_room l) (opening.opening_has_room o) room)
  room_of (Serves e) room = and_first (has_room e.lasting.inc) (has_room e.lasting.questions.last) (and_first (lasting_has_room e.lasting) _ room)

  restarts_so : (w : Moment) (l : Lasting) (number : ℕ) → IsTaken first what → what ≡ Begin → At w (Down l)
      → Goes w (restart first.peers.servers l number)
  unfolding restart
  restarts_so w l number taken begins h =
      let life : Lasting = next_life l number in
      let up : first_life < life.inc = raised first_life l.inc (room_of first.phase taken.room) h.since in
      let on : l.inc ≤ life.inc = raised_on l.inc in
      let v : Moment = record { epoch = w.epoch; life = life.inc } in
      record {
        next = v;
        later = record { epoch = omega arith; life = (let a = h.life in omega arith) };
        at = (
          record { life = refl; since = omega arith; within = h.within; begun = h.begun },
          record { owner = refl; same = h.begun begins; promises = inl refl; opened = inr up },
        );
        does = start_does (owner_of life) (Done part v) (cleaner_opening part v.epoch v.life (owner_of life) (omega arith)) first.peers.servers life.questions;
      }

  module _ (w : Moment) (l : Lasting) (o : openings.Opening) (h : At w (Opening l o)) (not_begun : what ≡ Begin → ⊥) where
    opens_there : promising.Opens Kept o
    opens_there = ⊎_elim (λ fact. inl (client_opening.awaits_there o.stage fact)) (λ kept. inr kept) h.1.promises

    opens_here : (q : openings.Opening) → promising.Opens Kept q → AwaitsFirst q.stage ⊎ Kept q.known.promised
    opens_here q opens = ⊎_elim (λ fact. inl (client_opening.awaits_here q.stage fact)) (λ kept. inr kept) opens

    comes_so : (q : Questions) (effects : List Effect) (p : Progress) → AllDone part w effects → IsOf o.known.owner p → promising.Holds Kept p
        → Goes w (record { state = came_to (record l { questions = q }) p; outs = effects })
    comes_so q effects (progress.Opening r) done its_own kept =
        stays w (Opening (record l { questions = q }) r) effects
        (h.0, record { owner = ap (λ (x : Owner). x.inc) its_own ∙ h.1.owner; same = h.1.same; promises = opens_here r kept; opened = h.1.opened }) done
    comes_so q effects (progress.Opened r) done its_own kept =
        let v : Moment = record { epoch = epoch_of r.promised.epochs part; life = w.life } in
        let later : Later w v = record { epoch = (let a = h.1.same in let b = kept.rises in omega arith); life = omega arith } in
        record {
          next = v;
          later = later;
          at = (
            record { life = h.0.life; since = h.0.since; within = kept.within; begun = λ begins. absurd (not_begun begins) },
            record { eight = kept.eight; is = refl },
          );
          does = all_more part w v later effects done;
        }
    comes_so q effects (progress.Lost seg) done its_own kept = stays w (Down (record l { questions = q })) effects h.0 done

    own : o.known.owner.inc ≤ w.life
    own = (let a = h.0.life in let b = h.1.owner in omega arith)

    -- a Welcome promises within the bounds
    brings_so : (b : Body) → CleanerGets part promised limit (Opening l o) b → has_logs b ≡ true → promising.Brings Kept o b
    brings_so (body.Welcome m) gets logs = λ meant.
        let formed : (are_in_order 0 m.news.slots && list_all is_slot_news m.news.slots) ≡ true = and_second (length m.news.slots == 8)
        (are_in_order 0 m.news.slots && list_all is_slot_news m.news.slots) logs in
        let incs : m.inc ≡ l.inc = eqb-true m.inc o.known.owner.inc (and_first (m.inc == o.known.owner.inc) (fits o.known.maps m.news) meant) ∙ h.1.owner in
        client_opening.welcome_promises part promised limit small m.news.slots
        (eqb-true (length m.news.slots) 8 (and_first (length m.news.slots == 8) (are_in_order 0 m.news.slots && list_all is_slot_news m.news.slots) logs))
        (and_first (are_in_order 0 m.news.slots) (list_all is_slot_news m.news.slots) formed)
        (each m.news.slots (recursion_from_All (λ (x : SlotNews). x.slot ≡ part → promised ≤ x.epoch) m.news.slots (gets.1 incs))
        (recursion_from_All (λ (x : SlotNews). x.slot ≡ part → x.epoch ≤ limit) m.news.slots gets.0))
      where
        each : (slots : List SlotNews) → AllByRecursion (λ (x : SlotNews). x.slot ≡ part → promised ≤ x.epoch) slots
            → AllByRecursion (λ (x : SlotNews). x.slot ≡ part → x.epoch ≤ limit) slots
            → AllByRecursion (client_opening.Says part promised limit small) slots
        each [] rises within = tt
        each (x ∷ slots) rises within = (λ fact. (rises.0 fact, within.0 fact), each slots rises.1 within.1)
    brings_so _ gets logs = tt

  opens_so : (w : Moment) (l : Lasting) (o : openings.Opening) (x : Went) → IsTaken first what → first.phase ≡ Opening l o → OpenedBy what l o x
      → At w (Opening l o) → Goes w (record { state = came_to (record l { questions = x.questions }) x.progress; outs = x.effects })
  opens_so w l o x taken same (PacketCame packet event) h =
      let not_begun : what ≡ Begin → ⊥ = λ begins. (let e = sym event ∙ begins in absurd cc) in
      let gets = subst (λ p. CleanerGets part promised limit p packet.body) same (subst (CleanerOwed part promised limit first.phase) event owed) in
      let formed = taken.formed packet event in
      comes_so w l o h not_begun x.questions x.effects x.progress
      (packet_does o l.questions (Done part w) (cleaner_opening part w.epoch w.life o.known.owner (own w l o h not_begun)) packet)
      (behaving.packet_so o l.questions packet).stays_its
      (promising.packet_so Kept o l.questions packet (opens_there w l o h not_begun)
      (brings_so w l o h not_begun packet.body gets (and_first (has_logs packet.body) _ (and_second (has_node first.peers packet.from) _ formed))))
  opens_so w l o x taken same (TimeWent event) h =
      let not_begun : what ≡ Begin → ⊥ = λ begins. (let e = sym event ∙ begins in absurd cc) in
      comes_so w l o h not_begun x.questions x.effects x.progress
      (tick_does o l.questions (Done part w) (cleaner_opening part w.epoch w.life o.known.owner (own w l o h not_begun)))
      (behaving.tick_so o l.questions).stays_its (promising.tick_so Kept o l.questions (opens_there w l o h not_begun))

  -- ---- the event

  items_so : (w : Moment) (p : Phase) (items : Items) → At w p → At w (noted p items)
  items_so w (Down l) items h = h
  items_so w (Opening l o) items h = h
  items_so w (Serves e) items h = h

  of_events : Keeps first what Moment Later At (Done part) Goes start
  of_events = record {
    items = λ w p items for h. items_so w p items h;
    answers = λ w number a due. tt;
    falls = λ w p h. stays w (Down (lasting_of p)) [] (lives w p h) tt;
    restarts = λ w l number taken event following h. restarts_so w l number taken event h;
    opens = λ w l o x later taken same by h. opens_so w l o x taken same by h;
    writes = λ w e i later came h.
        written first what Moment Later At (Done part) Goes start AnyOut follows of_job AnySaid of_log w e i later came h;
    pushes = λ w e h. pushed part w e.promised.managers e.feed;
  }

  lives_first : (p : Phase) → first.phase ≡ p → Lives start (lasting_of p).inc
  lives_first p same =
      let life : (lasting_of p).inc ≡ first_life = ap (λ x. (lasting_of x).inc) (sym same) in
      record { life = life; since = omega arith; within = low; begun = λ begins. refl }

  at_first : (p : Phase) → first.phase ≡ p → CleanerStands part promised limit p → At start p
  at_first (Down l) same h = lives_first (Down l) same
  at_first (Opening l o) same h = (
    lives_first (Opening l o) same,
    record { owner = h.owner; same = refl; promises = h.promises; opened = inl (subst IsOpening (sym same) tt) },
  )
  at_first (Serves e) same h = (lives_first (Serves e) same, record { eight = h.eight; is = h.promises })

  stands_so : (w : Moment) (p : Phase) → At w p → CleanerStands part w.epoch limit p
  stands_so w (Down l) h = tt
  stands_so w (Opening l o) h = record {
    owner = h.1.owner;
    promises = subst (λ k. AwaitsFirst o.stage ⊎ Bounded part k limit o.known.promised) (sym h.1.same) h.1.promises;
  }
  stands_so w (Serves e) h = record { eight = h.1.eight; promises = h.1.is }

  opens_later : (w : Moment) (p q : Phase) → first.phase ≡ p → At w q → OpensLater p q
  opens_later w (Opening l o) q same h = tt
  opens_later w (Down l) (Opening next o) same h =
      ⊎_elim (λ is. absurd (subst IsOpening same is)) (λ up. subst (λ x. (lasting_of x).inc < next.inc) same up) h.1.opened
  opens_later w (Serves e) (Opening next o) same h =
      ⊎_elim (λ is. absurd (subst IsOpening same is)) (λ up. subst (λ x. (lasting_of x).inc < next.inc) same up) h.1.opened
  opens_later w (Down l) (Down next) same h = tt
  opens_later w (Down l) (Serves e) same h = tt
  opens_later w (Serves e) (Down next) same h = tt
  opens_later w (Serves e) (Serves next) same h = tt

  keeps_so : (w : Moment) (p : Phase) → At w p → IsOpening p → w.epoch ≡ promised
  keeps_so w (Down l) h is = absurd is
  keeps_so w (Opening l o) h is = h.1.same
  keeps_so w (Serves e) h is = absurd is

  went_so : (d : Went_to) → Goes start d → CleanerGoes part promised limit first.phase d.state d.outs
  went_so d g =
      let its_life = (lives g.next d.state g.at).life in
      record {
        next = g.next.epoch;
        rises = g.later.epoch;
        within = (lives g.next d.state g.at).within;
        stands = stands_so g.next d.state g.at;
        does = All-from_recursion (CleanerDoes part g.next.epoch (lasting_of d.state).inc) d.outs
            (subst (λ life. AllByRecursion (CleanerDoes part g.next.epoch life) d.outs) (sym its_life) g.does);
        later = (lives g.next d.state g.at).since;
        begins = opens_later g.next first.phase d.state refl g.at;
        keeps = keeps_so g.next d.state g.at;
      }

  pub cleaner_goes : CleanerGoes part promised limit first.phase (takes first.peers first.phase what).state (takes first.peers first.phase what).outs
  cleaner_goes =
      went_so (takes first.peers first.phase what)
      (event_goes first what Moment Later At (Done part) Goes start AnyOut follows of_job of_events
      (at_first first.phase refl stands))

-- it has promised epoch 1 of each slot at first
first_epoch : (k : ℕ) → k < 8 → epoch_of (1 ∷ 1 ∷ 1 ∷ 1 ∷ 1 ∷ 1 ∷ 1 ∷ 1 ∷ []) k ≡ 1
first_epoch zero h = refl
first_epoch (suc zero) h = refl
first_epoch (suc (suc zero)) h = refl
first_epoch (suc (suc (suc zero))) h = refl
first_epoch (suc (suc (suc (suc zero)))) h = refl
first_epoch (suc (suc (suc (suc (suc zero))))) h = refl
first_epoch (suc (suc (suc (suc (suc (suc zero)))))) h = refl
first_epoch (suc (suc (suc (suc (suc (suc (suc zero))))))) h = refl
first_epoch (suc (suc (suc (suc (suc (suc (suc (suc k)))))))) h = absurd (omega arith)

-- whatever happens to the cleaner
pub cleaner_takes : CleanerTakes
cleaner_takes logs members part promised limit n small low few adopted cleaner what stands owed copies told =
    let goes = cleaner_goes part promised limit small low cleaner what stands owed in
    (goes, cleaner_runs logs members part n few adopted cleaner what copies told goes.next _ goes.does)

pub cleaner_starts : CleanerStarts
cleaner_starts part limit small setup works =
    (record { eight = refl; promises = first_epoch part small }, record { seen = record { end = refl; flying = refl; flight = tt }; waits = tt; job = tt })
