-- What the log's owner does while it serves or writes its opening segment, and its falls and restarts, keep the small world seen.
use Rattle.log_law.proofs.Steady.{steady}
use Rattle.xfs_base.proofs.Booleans.{contrary}
use Rattle.log_law.proofs.Next.{Next}
use Rattle.std.proofs.Common.{◌≡◌, ℕ, suc, ◌≤◌, false, List, [], ◌∷◌, ◌++◌, Option, Some, None, refl, sym, ap, subst, ◌∙◌, inl, inr, arith}
use Rattle.xfs_base.specs.declared.segment.SegName.{SegName}
use Rattle.segment_format.specs.declared.segment.Segment.{Segment}
use Rattle.log_flight.specs.Flights.{FlightState}
use Rattle.client_log.specs.declared.input.In.{In as Input}
use Rattle.client_log.specs.declared.input.In.TheVariants as log_in
use Rattle.client_log.specs.LogState.{LogState}
use Rattle.client_log.specs.Transition as log
use Rattle.log_scan.specs.ScanState.{scan_start}
use Rattle.log_protocol.specs.Phase
use Rattle.log_protocol.specs.OpeningSteps.{Undoubted, begins}
use Rattle.log_protocol.specs.OwnerSteps.{crashes}
use Rattle.log_protocol.specs.ServerSteps.{fences}
use Rattle.log_protocol.specs.State.{State}
use Rattle.log_protocol.specs.Step.Step.{Crashes, Begins, Fences}
use Rattle.log_protocol.specs.Step.Steps.{Done, More}
use Rattle.log_protocol.specs.Tables.{In}
use Rattle.log_tie.specs.Setting.{Setting}
use Rattle.log_tie.specs.Seen.{FlightShown, Serves, Goes, Others, log_filed}
use Rattle.log_tie.specs.Inputs.{Brings}
use Rattle.log_tie.specs.Openings.{WritingShown, AllFiled, OpeningShown, BringsOpening}
use Rattle.log_tie.specs.Scans.{Asked, ScanShown}
use Rattle.log_law.specs.Net.{Owner, Net, names_of, flown_with, log_packets, after_log, after_flight, after_writing}
use Rattle.log_law.specs.Net.Packet.{StoredSent, MapSent}
use Rattle.log_law.specs.Net.Owner.{Down, Opening, Writing, Serving}
use Rattle.log_law.specs.Events.{WritesText, CameToLog, CameToWriter}
use Rattle.log_law.specs.Below.{Below}
use Rattle.log_law.proofs.Views.{OwnerShown, PickShown, Behind, IsFiled, View, Flown}
use Rattle.log_law.proofs.Growing.{Later, shown_on}
use Rattle.log_law.proofs.Moves.{packets_shown, filed_said, in_right, in_left, filed_still, topped, next}
use Rattle.log_law.proofs.Logs.{now_behind, now_spelled, now_flown}
use Rattle.log_law.proofs.Picking.{pick_stays}

-- what the chain files, beside what was filed
chain_said : (g : Setting) (w : State) (chain : List Segment) (names : List SegName) → AllFiled g w chain
    → ((name : SegName) → In name names → IsFiled g w name) → (name : SegName) → In name (names_of chain ++ names) → IsFiled g w name
chain_said g w [] names all old name fact = old name fact
chain_said g w (c ∷ cs) names all old name (inl e) = (all.0.0, e ∙ all.0.1, all.0.2)
chain_said g w (c ∷ cs) names all old name (inr fact) = chain_said g w cs names all.1 old name fact

module _ (k : Below) (g : Setting) (n : Net) (h : View g n) where
  owner_there : (o : Owner) → n.owner ≡ o → OwnerShown g h.w h.book h.hellos o
  owner_there o e = subst (OwnerShown g h.w h.book h.hellos) e h.owner

  -- ---- a log whose owner serves

  serving_brings : (i : Input) → CameToLog n i → Brings g h.w i
  serving_brings (log_in.Put block entry value) came = tt
  serving_brings (log_in.Parts items) came = tt
  serving_brings log_in.Seal came = tt
  serving_brings (log_in.Acked name index generation) came = h.sent (StoredSent name index generation) came
  serving_brings (log_in.Maps m) came = (h.sent (MapSent m) came).seen
  serving_brings log_in.Tick came = tt

  module _ (s : LogState) (i : Input) (fact : n.owner ≡ Serving s) (came : CameToLog n i) (texts : WritesText (log.transition s i)) where
    abbrev served : log.Done
    served = log.transition s i

    as_it_serves : Serves g h.w h.book s × Behind g h.w h.book s
    as_it_serves = owner_there (Serving s) fact

    abbrev Now : State → (ℕ → Segment) → Type 0
    Now v later = Serves g v later served.state

    abbrev goes : Goes g h.w h.book Now served.outs
    goes = k.machines.inputs g h.w h.book s i h.fixed h.reached h.paged as_it_serves.0 (serving_brings i came)

    pub serving_view : Next g n h (after_log g n served)
    serving_view = next k g n h Now served.outs goes (after_log g n served) h.hellos (log_packets served.outs) (record {
      keeps = record { shelves = refl; registry = refl; low = refl; inc = refl; dropped = refl };
      spelled = now_spelled k g h.w h.book h.reached h.paged h.spelled s i Now served.outs goes as_it_serves.1 as_it_serves.0.flight texts goes.shows.flight;
      flown = now_flown k g h.w h.book h.reached h.paged h.spelled s i Now served.outs goes as_it_serves.1 as_it_serves.0.flight texts goes.shows.flight
          n.flown h.flown;
      grows = λ a among. among;
      asked = h.asked;
      owner = (
        goes.shows,
        now_behind k g h.w h.book h.reached h.paged h.spelled s i Now served.outs goes as_it_serves.1 as_it_serves.0.flight texts goes.shows.flight,
      );
      picked = tt;
      sends = refl;
      shown = packets_shown g goes.world goes.later h.hellos served.outs goes.said;
      filed = filed_said g goes.world goes.later served.outs n.filed goes.said (filed_still k g n h Now served.outs goes);
      highest = topped k g n h Now served.outs goes (log_filed g.log served.outs ++ n.filed)
          (λ name among. in_right (log_filed g.log served.outs) n.filed name among) (λ name among. in_left (log_filed g.log served.outs) n.filed name among);
      spans = λ writes serves. contrary (sym serves);
      steady = λ serving. contrary (sym serving);
    })

  -- ---- a log whose opening segment is in flight

  writing_brings : (i : Input) → CameToWriter n i → BringsOpening g h.w i
  writing_brings (log_in.Put block entry value) came = came
  writing_brings (log_in.Parts items) came = came
  writing_brings log_in.Seal came = came
  writing_brings (log_in.Acked name index generation) came = h.sent (StoredSent name index generation) came
  writing_brings (log_in.Maps m) came = (h.sent (MapSent m) came).seen
  writing_brings log_in.Tick came = tt

  module _ (chain : List Segment) (s : LogState) (i : Input) (fact : n.owner ≡ Writing chain s) (came : CameToWriter n i)
      (texts : WritesText (log.transition s i))
      (premise : g.doubts ≡ false → (log.transition s i).state.flight ≡ None → h.w.pick_low ≤ h.w.head → Undoubted h.w) where
    abbrev d : log.Done
    d = log.transition s i

    there : WritingShown g h.w h.book chain s × Behind g h.w h.book s
    there = owner_there (Writing chain s) fact

    abbrev P : State → (ℕ → Segment) → Type 0
    P = OpeningShown g chain d.state

    abbrev t : Goes g h.w h.book P d.outs
    t = k.machines.opening g h.w h.book chain s i h.fixed h.reached h.paged there.0 premise (writing_brings i came)

    before : FlightShown g h.book s.flight s.inc s.end.seq (h.w.booked h.w.flight) h.w.flight h.w.noted
    before = subst (λ o. FlightShown g h.book o s.inc s.end.seq (h.w.booked h.w.flight) h.w.flight h.w.noted) (sym there.0.is_flight) there.0.flying

    abbrev After : Option FlightState → Type 0
    After o = FlightShown g t.later o d.state.inc d.state.end.seq (t.world.booked t.world.flight) t.world.flight t.world.noted

    still_writes : (v : WritingShown g t.world t.later chain d.state) → After d.state.flight → Next g n h (after_flight g n chain d (Some v.flight))
    still_writes v after = next k g n h P d.outs t (after_flight g n chain d (Some v.flight)) h.hellos (log_packets d.outs) (record {
      keeps = record { shelves = refl; registry = refl; low = refl; inc = refl; dropped = refl };
      spelled = now_spelled k g h.w h.book h.reached h.paged h.spelled s i P d.outs t there.1 before texts after;
      flown = subst (λ o. Flown t.world t.later (flown_with o n.flown)) v.is_flight
          (now_flown k g h.w h.book h.reached h.paged h.spelled s i P d.outs t there.1 before texts after n.flown h.flown);
      grows = λ a among. among;
      asked = h.asked;
      owner = (v, now_behind k g h.w h.book h.reached h.paged h.spelled s i P d.outs t there.1 before texts after);
      picked = pick_stays h.w t.world (let p = there.0.phase in omega arith) t.steps (ap (λ (o : Others). o.incarnation) t.frame.others)
          ∙ subst (PickShown h.w.pick_low n.picked) fact h.picked;
      sends = refl;
      shown = packets_shown g t.world t.later h.hellos d.outs t.said;
      filed = filed_said g t.world t.later d.outs n.filed t.said (filed_still k g n h P d.outs t);
      highest = topped k g n h P d.outs t (log_filed g.log d.outs ++ n.filed) (λ name among. in_right (log_filed g.log d.outs) n.filed name among)
          (λ name among. in_left (log_filed g.log d.outs) n.filed name among);
      spans = λ writes serves. contrary (sym writes);
      steady = λ serving. steady k h.w t.world h.reached t.steps (let p = there.0.phase in omega arith) (let p = there.0.phase in omega arith)
          (let p = v.phase in omega arith) (let p = v.phase in omega arith) (ap (λ (o : Others). o.incarnation) t.frame.others);
    })

    now_serves : Serves g t.world t.later d.state × AllFiled g t.world chain × (d.state.flight ≡ None) → Next g n h (after_flight g n chain d None)
    now_serves v = next k g n h P d.outs t (after_flight g n chain d None) h.hellos (log_packets d.outs) (record {
      keeps = record { shelves = refl; registry = refl; low = refl; inc = refl; dropped = refl };
      spelled = now_spelled k g h.w h.book h.reached h.paged h.spelled s i P d.outs t there.1 before texts v.0.flight;
      flown = subst (λ o. Flown t.world t.later (flown_with o n.flown)) v.2
          (now_flown k g h.w h.book h.reached h.paged h.spelled s i P d.outs t there.1 before texts v.0.flight n.flown h.flown);
      grows = λ a among. among;
      asked = h.asked;
      owner = (v.0, now_behind k g h.w h.book h.reached h.paged h.spelled s i P d.outs t there.1 before texts v.0.flight);
      picked = tt;
      sends = refl;
      shown = packets_shown g t.world t.later h.hellos d.outs t.said;
      filed = filed_said g t.world t.later d.outs (names_of chain ++ n.filed) t.said (chain_said g t.world chain n.filed v.1 (filed_still k g n h P d.outs t));
      highest = topped k g n h P d.outs t (log_filed g.log d.outs ++ (names_of chain ++ n.filed))
          (λ name among. in_right (log_filed g.log d.outs) (names_of chain ++ n.filed) name (in_right (names_of chain) n.filed name among))
          (λ name among. in_left (log_filed g.log d.outs) (names_of chain ++ n.filed) name among);
      spans = λ writes serves. contrary (sym serves);
      steady = λ serving. contrary (sym serving);
    })

    by : P t.world t.later → Next g n h (after_writing g n chain d)
    by (inl v) = subst (λ o. Next g n h (after_flight g n chain d o)) (sym v.is_flight) (still_writes v (subst After (sym v.is_flight) v.flying))
    by (inr v) = subst (λ o. Next g n h (after_flight g n chain d o)) (sym v.2) (now_serves v)

    pub writing_view : Next g n h (after_writing g n chain d)
    writing_view = by t.shows

  -- ---- it falls

  abbrev crash : Goes g h.w h.book (λ v later. v.phase ≡ Phase.down) []
  crash = record {
    world = crashes h.w;
    later = h.book;
    steps = More Done Crashes;
    frame = record { others = refl; booked = λ x fact. fact; segment = λ x fact. refl; stores = λ p fact. fact; filed = λ x fact. fact; calm = λ none c. c };
    fresh = λ x fact. inl fact;
    paged = h.paged;
    shows = refl;
    said = tt;
    end_follows = inl refl;
  }

  pub crash_view : Next g n h (record n { owner = Down; feed = [] })
  crash_view = next k g n h (λ v later. v.phase ≡ Phase.down) [] crash (record n { owner = Down; feed = [] }) h.hellos [] (record {
    keeps = record { shelves = refl; registry = refl; low = refl; inc = refl; dropped = refl };
    spelled = h.spelled;
    flown = record { all = h.flown.all; booked = h.flown.booked };
    grows = λ a among. among;
    asked = h.asked;
    owner = refl;
    picked = tt;
    sends = refl;
    shown = tt;
    filed = filed_still k g n h (λ v later. v.phase ≡ Phase.down) [] crash;
    highest = h.highest;
    spans = λ writes serves. refl;
    steady = λ serving. record { served = refl; head = refl; booked = λ x booked boot. booked };
  })

  -- ---- it restarts, and server 0, which is none, is asked at once

  pub restart_view : n.owner ≡ Down → Next g n h (record n { inc = suc n.inc; owner = Opening (scan_start g.log (suc n.inc)) })
  restart_view fact = record {
    view = record {
      w = v;
      book = h.book;
      hellos = h.hellos;
      fixed = record { servers = h.fixed.servers; seq_of = h.fixed.seq_of; incarnation_of = h.fixed.incarnation_of; attempt_of = h.fixed.attempt_of };
      reached = k.protocol.goes_on h.w v h.reached
          (More (More Done (Begins (record { down = owner_there Down fact }))) (Fences 0 (suc h.w.incarnation) (record { begun = omega arith })));
      paged = h.paged;
      spelled = h.spelled;
      flown = record { all = h.flown.all; booked = h.flown.booked };
      shelves = λ y. record { of = (h.shelves y).of; keeps = (h.shelves y).keeps; each = (h.shelves y).each; marks = (h.shelves y).marks };
      nobody = h.nobody;
      registry = h.registry;
      low = h.low;
      inc = ap suc h.inc;
      owner = opens;
      picked = tt;
      sent = λ p among. shown_on g h.w v h.book h.book later h.hellos h.hellos (λ a in_. in_) p (h.sent p among);
      asked = λ a among. (let b = h.asked a among in let c = b.0 in (omega arith, b.1));
      filed = λ name among. h.filed name among;
      calm = h.calm;
      highest = h.highest;
      dropped = h.dropped;
      gone = λ name among. (let d = h.gone name among in record { number = d.number; named = d.named; dropped = d.dropped });
    };
    steps = More (More Done (Begins (record { down = owner_there Down fact }))) (Fences 0 (suc h.w.incarnation) (record { begun = omega arith }));
    by = inr (record { generation = refl; holds = refl; dropped = refl });
    spans = λ writes serves. refl;
    steady = λ serving. record { served = refl; head = refl; booked = λ x booked boot. booked };
  }
    where
      v : State
      v = fences (begins h.w) 0 (suc h.w.incarnation)

      later : Later h.w v h.book h.book
      later = record {
        booked = λ x in_. in_;
        segment = λ x in_. refl;
        stores = λ p in_. in_;
        storeds = λ p in_. in_;
        fragments = λ p in_. in_;
        fenceds = λ p in_. inr in_;
        dropped = λ x in_. in_;
        registry = λ x. omega arith;
        incarnation = omega arith;
        low = omega arith;
      }

      asked : (a : Asked) → In a h.hellos → a.inc ≡ suc h.w.incarnation → a.ask ≤ 1
      asked a among boot = let b = (h.asked a among).0 in absurd (omega arith)

      some : 1 ≤ h.w.low
      some = (k.protocol.horizons h.w h.reached).low_some

      opens : ScanShown g v h.book h.hellos (scan_start g.log (suc n.inc))
      opens = record {
        log = refl;
        inc = ap suc (sym h.inc);
        horizon = some;
        asked = asked;
        stage = (refl, record { generation = h.w.generation 0; listed = h.w.holds 0; nothing = h.nobody; sent = inl refl });
      }
