-- A log is opened again: its opening segment is written, and once it is settled the owner serves.
use Rattle.std.proofs.Common.{◌≡◌, ⊎_elim, ℕ, zero, suc, ◌+◌, ◌-◌, ◌<◌, ◌≤◌, ◌==◌, Bool, true, false, cond, ◌&&◌, nat_lt, nat_le, if◌then◌else◌, List, [], ◌∷◌, Some, None, length, refl, sym, ap, subst, ◌∙◌, arith, inl, inr}
use Rattle.std.proofs.lemmas.Bool.Decides.{nat_tests}
use Rattle.std.proofs.lemmas.Bool.{le-ltb, lt-ltb}
use Rattle.xfs_base.specs.declared.segment.End.{End}
use Rattle.xfs_base.specs.declared.segment.SegName.{SegName}
use Rattle.xfs_base.specs.Limits.{segment_blocks}
use Rattle.xfs_base.specs.Steps.{still, saying}
use Rattle.xfs_base.proofs.Booleans.{contrary, and_first, by_test as pick, equal_itself}
use Rattle.segment_format.specs.declared.segment.Segment.{Segment}
use Rattle.segment_format.specs.Rows.{rows_of}
use Rattle.group_map.specs.declared.group.Group as groups
use Rattle.group_map.specs.GroupMapState.{GroupMapState}
use Rattle.xfs_base.specs.Segments.{same_name}
use Rattle.log_flight.specs.declared.flight.Fate.{Fate}
use Rattle.log_flight.specs.declared.flight.Fate.TheVariants.{Restripe, Settle, Wait}
use Rattle.log_flight.specs.Fate.{fate_of, lost_count, all_done}
use Rattle.log_flight.specs.Flights as flights
use Rattle.log_flight.specs.Flights.{FlightState, server_of}
use Rattle.client_log.specs.declared.input.In.TheVariants.{Put, Parts, Seal, Acked, Maps, Tick}
use Rattle.client_log.specs.declared.output.Out.{Out}
use Rattle.client_log.specs.declared.output.Out.TheVariants.{Settled}
use Rattle.client_log.specs.LogState.{LogState, log_start}
use Rattle.client_log.specs.Transition as log
use Rattle.client_log.specs.Transition.{end_of}
use Rattle.log_protocol.specs.Phase
use Rattle.log_protocol.specs.LogLaws.{Reached}
use Rattle.log_protocol.specs.OpeningSteps.{CanOpen, ReadBack, Undoubted, serves}
use Rattle.log_protocol.specs.OwnerSteps.{notes}
use Rattle.log_protocol.specs.Packets.{StorePacket}
use Rattle.log_protocol.specs.ServerSteps.{learns}
use Rattle.log_protocol.specs.State.{State}
use Rattle.log_protocol.specs.Step.{Steps}
use Rattle.log_protocol.specs.Step.Step.{Opens, Serves as ServesStep, Notes, Learns}
use Rattle.log_protocol.specs.Step.Steps.{Done, More}
use Rattle.log_protocol.proofs.Induction.{always}
use Rattle.log_protocol.proofs.NewNames.{new_opening}
use Rattle.log_tie.specs.Setting.{Setting, stripe_of_group, present_at, name_of, point, IsStripe}
use Rattle.log_tie.specs.Seen.{Book, Flying, Serves, ByOwner, Goes, Fixed}
use Rattle.log_tie.proofs.Seen.{Standing}
use Rattle.log_tie.specs.Inputs.{StoredSeen, MapSeen}
use Rattle.log_tie.specs.Openings.{Chained, AllFrom, ChainShown, ReadShown, WritingShown, AllFiled, OpeningShown, OpensByStep, OpeningTakes}
use Rattle.xfs_base.proofs.SegmentNames.{one_name}
use Rattle.log_tie.proofs.Names.{one_number, some_number, name_coded}
use Rattle.log_tie.proofs.Frames.{by_nothing}
use Rattle.log_tie.proofs.Booking.{books_one, with_page, page_here, booked_state, stripe_group, by_booking, booked_pages}
use Rattle.log_tie.proofs.Sending.{sent_all}
use Rattle.log_tie.proofs.Sealing.{launch, nothing_noted}
use Rattle.log_tie.proofs.Settling.{Aloft, restriped_goes, waits_goes, settled_there, flight_end}
use Rattle.log_tie.proofs.Serving.{reached_by, goes_after, noted_more, noted_still}

-- ---- what was read back, by depth below the opening segment

abbrev pub back : State → ℕ → ℕ
back w zero = w.base
back w (suc k) = w.prior_of (back w k)

abbrev pub path : State → ℕ → ℕ
path w q = back w (w.opening_seq - suc q)

pub path_read : (w : State) (lowest : ℕ) → w.pick_low ≤ lowest → lowest ≤ w.read_low → ReadBack w (path w) lowest
path_read w lowest picked cut = record {
  picked = picked;
  cut = cut;
  last = λ q from e. ap (back w) (nought q e);
  back = λ q from below. ap (back w) (deeper q below);
}
  where
    nought : (q : ℕ) → suc q ≡ w.opening_seq → w.opening_seq - suc q ≡ 0
    nought q e = omega arith

    deeper : (q : ℕ) → suc q < w.opening_seq → w.opening_seq - suc q ≡ suc (w.opening_seq - suc (suc q))
    deeper q below = omega arith

module _ (g : Setting) where
  pub back_chained : (w : State) (book : ℕ → Segment) (highest x : ℕ) (ts : List Segment) → Chained g w book highest x ts → x ≡ back w (length ts)
  back_chained w book highest x [] h = h
  back_chained w book highest x (t ∷ ts) h = sym h.3 ∙ ap w.prior_of (back_chained w book highest h.0 ts h.5)

  -- what is booked stays so, with its segment
  abbrev Grown : State → State → (ℕ → Segment) → (ℕ → Segment) → Type 0
  Grown w v book later = (x : ℕ) → w.booked x ≡ 1 → (v.booked x ≡ 1) × (later x ≡ book x)

  -- a chain stands while the book grows and the base stays
  chained_on : (w v : State) (book later : ℕ → Segment) (highest x : ℕ) (ts : List Segment) → Grown w v book later → Book g w book → Book g v later
      → v.base ≡ w.base → Chained g w book highest x ts → Chained g v later highest x ts
  chained_on w v book later highest x [] by pages more base h = h ∙ sym base
  chained_on w v book later highest x (t ∷ ts) by pages more base h = (
    h.0,
    (by h.0 h.1).0,
    h.2 ∙ sym (by h.0 h.1).1,
    (more h.0 (by h.0 h.1).0).follows ∙ (ap (λ (z : Segment). point g (z.name.seq - 1) z.prior.pass) (by h.0 h.1).1 ∙ (sym (pages h.0 h.1).follows ∙ h.3)),
    h.4,
    chained_on w v book later highest h.0 ts by pages more base h.5,
  )

  shown_on : (w v : State) (book later : ℕ → Segment) (highest : ℕ) (ts : List Segment) → Grown w v book later → Book g w book → Book g v later
      → v.base ≡ w.base
      → v.opening_seq ≡ w.opening_seq → v.pick_low ≡ w.pick_low → v.read_low ≡ w.read_low
      → ChainShown g w book highest ts → ChainShown g v later highest ts
  shown_on w v book later highest ts by pages more base opening low read c = record {
    opening = opening ∙ c.opening;
    lowest = c.lowest;
    picked = let p = c.picked in omega arith;
    cut = let k = c.cut in omega arith;
    from = c.from;
    next = c.next;
    chained = chained_on w v book later highest c.next ts by pages more base c.chained;
    bottom = ⊎_elim inl (λ b. inr (let e = read in omega arith)) c.bottom;
  }

  -- what is filed where an opening serves
  serves_files : (w : State) (lowest sure y : ℕ) → lowest ≤ w.seq_of y → w.seq_of y < w.opening_seq → path w (w.seq_of y) ≡ y
      → (serves w (path w) lowest sure).filed y ≡ 1
  serves_files w lowest sure y above below fact =
      by (y == w.flight) (nat_lt (w.seq_of y) lowest) (nat_lt (w.seq_of y) w.opening_seq) (path w (w.seq_of y) == y) (le-ltb (w.seq_of y) lowest above)
      (lt-ltb (w.seq_of y) w.opening_seq below) (ap (λ z. z == y) fact ∙ equal_itself y)
    where
      by : (p q r t : Bool) → q ≡ false → r ≡ true → t ≡ true
          → (if p then 1 else if q then w.filed y else if r then (if t then 1 else w.filed y) else w.filed y) ≡ 1
      by true q r t a b c = refl
      by false false true true a b c = refl
      by false true r t a b c = contrary (sym a)
      by false false false t a b c = contrary b
      by false false true false a b c = contrary c

  chain_filed : (w : State) (book : ℕ → Segment) (fixed : Fixed g w) (paged : Book g w book) (lowest sure highest x : ℕ) (ts : List Segment)
      → w.opening_seq ≡ highest + 1 → AllFrom lowest ts → Chained g w book highest x ts → AllFiled g (serves w (path w) lowest sure) ts
  chain_filed w book fixed paged lowest sure highest x [] opening from h = tt
  chain_filed w book fixed paged lowest sure highest x (t ∷ ts) opening from h =
      ((h.0, named, serves_files w lowest sure h.0 above below there), chain_filed w book fixed paged lowest sure highest h.0 ts opening from.1 h.5)
    where
      named : t.name ≡ name_of g h.0
      named = ap (λ (z : Segment). z.name) h.2 ∙ (paged h.0 h.1).named

      seq : w.seq_of h.0 ≡ t.name.seq
      seq = ap (λ k. k h.0) fixed.seq_of ∙ sym (ap (λ (n : SegName). n.seq) named)

      above : lowest ≤ w.seq_of h.0
      above = let a = from.0 in let b = seq in omega arith

      depth : w.opening_seq - suc (w.seq_of h.0) ≡ length ts
      depth = let a = h.4 in let b : w.seq_of h.0 ≡ g.seq_of h.0 = ap (λ k. k h.0) fixed.seq_of in omega arith

      there : path w (w.seq_of h.0) ≡ h.0
      there = ap (back w) depth ∙ sym (back_chained w book highest h.0 ts h.5)

      below : w.seq_of h.0 < w.opening_seq
      below = let a = h.4 in let b : w.seq_of h.0 ≡ g.seq_of h.0 = ap (λ k. k h.0) fixed.seq_of in omega arith

module _ (g : Setting) (w : State) (book : ℕ → Segment) (fixed : Fixed g w) (paged : Book g w book) (reached : Reached w) where
  -- the opening segment is written
  opens_goes : (start : End) (chain : List Segment) (m : GroupMapState) → ReadShown g w book start chain m
      → Goes g w book (λ v later. WritingShown g v later chain (log.log_write (log_start g.log w.incarnation start m) []).state)
      (log.log_write (log_start g.log w.incarnation start m) []).outs
  unfolding log.log_launch
  opens_goes start chain m shown =
      launch g w book fixed paged _ v later f x (More Done (Opens x _ _ _ can)) by (books_one w x) refl pages booked (sym here) stripe (λ stores. record {
        writes = record { log = refl; inc = refl; some = some; map = shown.map; known = shown.known };
        phase = refl;
        clear = refl;
        base = shown.base;
        read = shown_on g w _ book later start.seq chain (λ y fact. (by.booked y fact, by.segment y fact)) paged pages refl refl refl refl shown.read;
        flight = f;
        is_flight = refl;
        flying = record {
          some = can.named;
          is_booked = booked;
          segment = sym here;
          stripe = stripe;
          own = ap (λ (z : Segment). z.name.pass.inc) here;
          next = ap (λ (z : Segment). z.name.seq) here;
          notes = λ i noted. contrary (sym (nothing_noted i) ∙ noted);
        };
      })
    where
      s : LogState
      s = log_start g.log w.incarnation start m

      x : ℕ
      x = g.code (start.seq + 1) w.incarnation 1

      group : groups.Group
      group = flights.group_for m g.log.0 (start.seq + 1)

      f : FlightState
      f = flights.flown (log.next_name s) (log.prior_from start) [] group

      fact : IsStripe g m group
      fact = shown.map g.log.0 (start.seq + 1)

      some : 0 < w.incarnation
      some = let b = (always w reached).shelf.boots.not_yet_served (let p = shown.phase in omega arith) (let p = shown.phase in omega arith) in omega arith

      v : State
      v = record (booked_state g w book x f.segment group m w.base 0) { phase = Phase.writing; spanning = 1 }

      later : ℕ → Segment
      later = with_page book x f.segment

      can : CanOpen w x (length group.members) (server_of group.members)
      can = record {
        reading = shown.phase;
        named = some_number g x (let e = g.its_seq (start.seq + 1) w.incarnation 1 in omega arith);
        next = let e : w.seq_of x ≡ start.seq + 1 = ap (λ k. k x) fixed.seq_of ∙ g.its_seq _ _ _ in let o = shown.read.opening in omega arith;
        own = ap (λ k. k x) fixed.incarnation_of ∙ g.its_incarnation _ _ _;
        group = stripe_group g w book x f.segment group m w.base 0 fixed.servers fact;
      }

      new : w.booked x ≡ 1 → ⊥
      new = new_opening w x _ _ can (always w reached).shelf.boots

      pages : Book g v later
      pages = booked_pages g w book x f.segment group m w.base 0 (sym (name_coded g (start.seq + 1) w.incarnation 1)) some refl
          (shown.base ∙ ap (λ q. point g q start.pass) (omega arith)) (sym g.no_content) fact shown.known paged

      booked : v.booked x ≡ 1
      booked = grind (arith, nat_tests)

      here : later x ≡ f.segment
      here = page_here book x f.segment

      stripe : stripe_of_group f.group ≡ g.stripe (later x).group
      stripe = sym fact.named ∙ ap (λ (z : Segment). g.stripe z.group) (sym here)

      by : ByOwner g w v book later
      by = by_booking g w book x f.segment group m w.base 0 3 1 new

  -- it is settled, and the owner serves
  serves_goes : (chain : List Segment) (s : LogState) (f : FlightState) (sure : ℕ) → WritingShown g w book chain s
      → Flying g book f s.inc s.end.seq (w.booked w.flight) w.flight w.noted → all_done s.groups f.noted f.group.members 0 ≡ true
      → (sure ≡ 1 → w.pick_low ≤ w.head → Undoubted w) → (g.doubts ≡ false → sure ≡ 1)
      → Goes g w book (λ v later. Serves g v later (log.landed s f) × AllFiled g v chain) (Settled (end_of f.segment) (rows_of f.segment) ∷ [])
  serves_goes chain s f sure shown h all premise is_sure = let end = flight_end g w book fixed paged reached s f shown.writes.some h in record {
    world = serves w (path w) lowest sure;
    later = book;
    steps = More Done
        (ServesStep (path w) lowest sure
        (record {
          writing = shown.phase;
          settled = settled_there g w book fixed paged reached s f shown.writes h all;
          undoubted = premise;
          read = path_read w lowest shown.read.picked shown.read.cut;
        }));
    frame = record {
      others = refl;
      booked = λ x fact. fact;
      segment = λ x fact. refl;
      stores = λ p fact. fact;
      filed = λ x fact. stays x fact;
      calm = λ none c. ap (λ z. if z == 1 then w.clean else 0) (is_sure none) ∙ c;
    };
    fresh = λ x fact. inl fact;
    paged = paged;
    shows = (
      record {
        writes = record { log = shown.writes.log; inc = shown.writes.inc; some = shown.writes.some; map = shown.writes.map; known = shown.writes.known };
        phase = refl;
        end = end.0;
        end_seq = end.1;
        flight = refl;
      },
      chain_filed g w book fixed paged lowest sure s.end.seq shown.read.next chain shown.read.opening shown.read.from shown.read.chained,
    );
    said = ((w.flight, here, sym end.1, end.2), tt);
    end_follows = inr (inl (λ i. record { log = g.log; seq = end.1 i; pass = (sym end.2) i }));
  }
    where
      lowest : ℕ
      lowest = shown.read.lowest

      stays : (x : ℕ) → w.filed x ≡ 1 → (serves w (path w) lowest sure).filed x ≡ 1
      stays x fact = by (x == w.flight) (nat_lt (w.seq_of x) lowest) (nat_lt (w.seq_of x) w.opening_seq) (path w (w.seq_of x) == x)
        where
          by : (p q r t : Bool) → (if p then 1 else if q then w.filed x else if r then (if t then 1 else w.filed x) else w.filed x) ≡ 1
          by true q r t = refl
          by false true r t = fact
          by false false false t = fact
          by false false true true = refl
          by false false true false = fact

      here : (serves w (path w) lowest sure).filed w.flight ≡ 1
      here = by (w.flight == w.flight) (equal_itself w.flight)
        where
          by : (p : Bool) → p ≡ true
              → (if p then 1 else if nat_lt (w.seq_of w.flight) lowest then w.filed w.flight else if nat_lt (w.seq_of w.flight) w.opening_seq then
              (if path w (w.seq_of w.flight) == w.flight then 1 else w.filed w.flight) else w.filed w.flight) ≡ 1
          by true e = refl
          by false e = contrary e

module _ (g : Setting) (chain : List Segment) where
  abbrev To : State → (ℕ → Segment) → log.Done → Type 0
  To w book d = Goes g w book (OpeningShown g chain d.state) d.outs

  -- where the opening ends by it, and no restart may be doubtful, the premise on losses is asked for
  abbrev Owed : State → (ℕ → Segment) → log.Done → Type 0
  Owed w book d = (g.doubts ≡ false → d.state.flight ≡ None → w.pick_low ≤ w.head → Undoubted w) → To w book d

  -- a restart is sure where none may be doubtful
  abbrev sure_when : Bool → ℕ
  sure_when true = 0
  sure_when false = 1

  module _ (w : State) (book : ℕ → Segment) (fixed : Fixed g w) (paged : Book g w book) (reached : Reached w) where
    -- the flight is written again, or waits on: the rest stands
    aloft_writes : (v : State) (later : ℕ → Segment) (s : LogState) (f : FlightState) → WritingShown g w book chain s
        → ((x : ℕ) → w.booked x ≡ 1 → (v.booked x ≡ 1) × (later x ≡ book x)) → Book g v later → Aloft g w book fixed paged reached s s f v later
        → WritingShown g v later chain (record s { flight = Some f })
    aloft_writes v later s f h grown pages a = record {
      writes = record { log = a.writes.log; inc = a.writes.inc; some = a.writes.some; map = a.writes.map; known = a.writes.known };
      phase = ap (λ (t : Standing). t.phase) a.standing ∙ h.phase;
      clear = h.clear;
      base = ap (λ (t : Standing). t.base) a.standing ∙ h.base;
      read = shown_on g w v book later s.end.seq chain grown paged pages (ap (λ (t : Standing). t.base) a.standing)
          (ap (λ (t : Standing). t.opening_seq) a.standing) (ap (λ (t : Standing). t.pick_low) a.standing)
          (ap (λ (t : Standing). t.read_low) a.standing) h.read;
      flight = f;
      is_flight = refl;
      flying = a.flying;
    }

    aloft_goes : (s : LogState) (f : FlightState) (outs : List Out) → WritingShown g w book chain s
        → Goes g w book (Aloft g w book fixed paged reached s s f) outs → Goes g w book (OpeningShown g chain (record s { flight = Some f })) outs
    aloft_goes s f outs h t = record {
      world = t.world;
      later = t.later;
      steps = t.steps;
      frame = t.frame;
      fresh = t.fresh;
      paged = t.paged;
      shows = inl (aloft_writes t.world t.later s f h (λ x fact. (t.frame.booked x fact, t.frame.segment x fact)) t.paged t.shows);
      said = t.said;
      end_follows = t.end_follows;
    }

    nothing : (s : LogState) → WritingShown g w book chain s → To w book (still s)
    nothing s h =
        record {
          world = w;
          later = book;
          steps = Done;
          frame = by_nothing g w book;
          fresh = λ x fact. inl fact;
          paged = paged;
          shows = inl h;
          said = tt;
          end_follows = inl refl;
        }

    by_test : (t : Bool) (d e : log.Done) → (t ≡ true → Owed w book d) → (t ≡ false → Owed w book e) → Owed w book (cond t d e)
    by_test true d e h k = h refl
    by_test false d e h k = k refl

    follows_goes : (s : LogState) (f : FlightState) → WritingShown g w book chain s → Flying g book f s.inc s.end.seq (w.booked w.flight) w.flight w.noted
        → Owed w book (log.followed s f (fate_of s.groups f))
    unfolding log.restriped log.settled log.log_launch log.log_go_on
    follows_goes s f h flying = pick Follows (nat_lt f.group.parity (lost_count s.groups f.group.members)) Restripe _
        (λ t premise. aloft_goes s _ _ h (restriped_goes g w book fixed paged reached s f h.writes flying))
        (λ t. pick Follows (all_done s.groups f.noted f.group.members 0) Settle Wait
        (λ all premise. settling
        (serves_goes g w book fixed paged reached chain s f (sure_when g.doubts) h flying all
        (sure_premise g.doubts refl (λ none. premise none (ap (λ (d : log.Done). d.state.flight) lands))) is_sure))
        (λ all premise. aloft_goes s f [] h (waits_goes g w book fixed paged reached s f h.writes flying)))
      where
        Follows : Fate → Type 0
        Follows fate = Owed w book (log.followed s f fate)

        is_sure : g.doubts ≡ false → sure_when g.doubts ≡ 1
        is_sure none = ap sure_when none

        sure_premise : (b : Bool) → g.doubts ≡ b → (g.doubts ≡ false → w.pick_low ≤ w.head → Undoubted w) → sure_when b ≡ 1 → w.pick_low ≤ w.head → Undoubted w
        sure_premise true e premise one = absurd (omega arith)
        sure_premise false e premise one = premise e

        -- nothing waits, so nothing is sealed behind it
        lands : log.log_go_on (log.landed s f) ≡ still (log.landed s f)
        lands = ap (λ ds. cond (nat_le segment_blocks (length ds)) (log.log_seal (log.landed s f)) (still (log.landed s f))) h.clear

        settling : Goes g w book (λ v later. Serves g v later (log.landed s f) × AllFiled g v chain) (Settled (end_of f.segment) (rows_of f.segment) ∷ [])
            → To w book (saying (Settled (end_of f.segment) (rows_of f.segment) ∷ []) (log.log_go_on (log.landed s f)))
        settling t = subst (λ (d : log.Done). To w book (saying (Settled (end_of f.segment) (rows_of f.segment) ∷ []) d)) (sym lands)
            (record {
              world = t.world;
              later = t.later;
              steps = t.steps;
              frame = t.frame;
              fresh = t.fresh;
              paged = t.paged;
              shows = inr (t.shows.0, t.shows.1, refl);
              said = t.said;
              end_follows = t.end_follows;
            })

    looks_goes : (before s : LogState) (f : FlightState) → WritingShown g w book chain before → WritingShown g w book chain s
        → Flying g book f s.inc s.end.seq (w.booked w.flight) w.flight w.noted → Owed w book (log.looked_at before s f)
    unfolding log.looked_at
    looks_goes before s f was h flying =
        by_test (log.can_follow s f (fate_of s.groups f)) _ _ (λ t. follows_goes s f h flying) (λ t premise. nothing before was)

    chained_same : (stores : List StorePacket) (highest x : ℕ) (ts : List Segment) → Chained g w book highest x ts
        → Chained g (record w { stores = stores }) book highest x ts
    chained_same stores highest x [] c = c
    chained_same stores highest x (t ∷ ts) c = (c.0, c.1, c.2, c.3, c.4, chained_same stores highest c.0 ts c.5)

    tick_goes : (s : LogState) → WritingShown g w book chain s → To w book (log.on_tick s)
    unfolding log.on_tick
    tick_goes s h = subst (λ o. To w book (elim o [ None ↦ still s | Some f ↦ record { state = s; outs = log.sending_send f } ])) (sym h.is_flight) sent
      where
        sent : Goes g w book (OpeningShown g chain s) (log.sending_send h.flight)
        sent = let t = sent_all g w book h.flight w.flight h.flying.is_booked h.flying.segment h.flying.stripe paged in record {
          world = record w { stores = t.all };
          later = book;
          steps = t.steps;
          frame = record { others = refl; booked = λ x fact. fact; segment = λ x fact. refl; stores = t.grown; filed = λ x fact. fact; calm = λ none c. c };
          fresh = λ x fact. inl fact;
          paged = paged;
          shows = inl (record {
            writes = record { log = h.writes.log; inc = h.writes.inc; some = h.writes.some; map = h.writes.map; known = h.writes.known };
            phase = h.phase;
            clear = h.clear;
            base = h.base;
            read = record {
              opening = h.read.opening;
              lowest = h.read.lowest;
              picked = h.read.picked;
              cut = h.read.cut;
              from = h.read.from;
              next = h.read.next;
              chained = chained_same t.all s.end.seq h.read.next chain h.read.chained;
              bottom = h.read.bottom;
            };
            flight = h.flight;
            is_flight = h.is_flight;
            flying = h.flying;
          });
          said = t.said;
          end_follows = inl refl;
        }

  module _ (w : State) (book : ℕ → Segment) (fixed : Fixed g w) (paged : Book g w book) (reached : Reached w) where
    acked_goes : (s : LogState) (name : SegName) (index generation : ℕ) → WritingShown g w book chain s → StoredSeen g w.storeds name index generation
        → Owed w book (log.on_acked s name index generation)
    unfolding log.on_acked
    acked_goes s name index generation h seen =
        subst (λ o. Owed w book
        (elim o [ None ↦ still s | Some f ↦ if flights.is_of f name index generation then log.looked_at s s (flights.flight_note f index) else still s ]))
        (sym h.is_flight)
        (by_test w book fixed paged reached (flights.is_of h.flight name index generation) _ _ (λ t. noting t)
        (λ t premise. nothing w book fixed paged reached s h))
      where
        v : State
        v = notes w (record { name = seen.number; index = index; generation = generation })

        noting : flights.is_of h.flight name index generation ≡ true → Owed w book (log.looked_at s s (flights.flight_note h.flight index))
        noting t premise =
            let same : seen.number ≡ w.flight =
            one_number g seen.number w.flight (sym seen.named ∙ (one_name name h.flight.segment.name (and_first (same_name name h.flight.segment.name) _ t)
            ∙ (ap (λ (z : Segment). z.name) h.flying.segment ∙ (paged w.flight h.flying.is_booked).named))) in
            let step : Steps w v =
            More Done (Notes (record { name = seen.number; index = index; generation = generation })
            (record { sent = seen.sent; flying = h.flying.some; named = same })) in
            let there : WritingShown g v book chain s = record {
              writes = record { log = h.writes.log; inc = h.writes.inc; some = h.writes.some; map = h.writes.map; known = h.writes.known };
              phase = h.phase;
              clear = h.clear;
              base = h.base;
              read = shown_on g w v book book s.end.seq chain (λ x fact. (fact, refl)) paged paged refl refl refl refl h.read;
              flight = h.flight;
              is_flight = h.is_flight;
              flying = record {
                some = h.flying.some;
                is_booked = h.flying.is_booked;
                segment = h.flying.segment;
                stripe = h.flying.stripe;
                own = h.flying.own;
                next = h.flying.next;
                notes = noted_still g h.flight.noted w.noted index h.flying.notes;
              };
            } in
            goes_after g _ w v book _ step
            (record { others = refl; booked = λ x fact. fact; segment = λ x fact. refl; stores = λ p fact. fact; filed = λ x fact. fact; calm = λ none c. c })
            (λ x fact. fact) refl
            (looks_goes v book
            (record { servers = fixed.servers; seq_of = fixed.seq_of; incarnation_of = fixed.incarnation_of; attempt_of = fixed.attempt_of }) paged
            (reached_by w v reached step refl) s s (flights.flight_note h.flight index) there there
            (record {
              some = h.flying.some;
              is_booked = h.flying.is_booked;
              segment = h.flying.segment;
              stripe = h.flying.stripe;
              own = h.flying.own;
              next = h.flying.next;
              notes = noted_more g h.flight.noted w.noted index h.flying.notes;
            }) premise)

    maps_goes : (s : LogState) (m : GroupMapState) → WritingShown g w book chain s → MapSeen g w.registry_generation m → Owed w book (log.on_maps s m)
    unfolding log.on_maps log.looked_at
    maps_goes s m h seen =
        subst (λ o. Owed w book (elim o [ None ↦ still (record s { groups = m }) | Some f ↦ log.looked_at s (record s { groups = m }) f ])) (sym h.is_flight)
        (by_test w book fixed paged reached (log.can_follow (record s { groups = m }) h.flight (fate_of m h.flight)) _ _
        (λ t premise. goes_after g _ w v book _ step
        (record { others = refl; booked = λ x fact. fact; segment = λ x fact. refl; stores = λ p fact. fact; filed = λ x fact. fact; calm = λ none c. c })
        (λ x fact. fact) refl
        (follows_goes v book
        (record { servers = fixed.servers; seq_of = fixed.seq_of; incarnation_of = fixed.incarnation_of; attempt_of = fixed.attempt_of }) paged
        (reached_by w v reached step refl) (record s { groups = m }) h.flight there h.flying premise))
        (λ t premise. nothing w book fixed paged reached s h))
      where
        v : State
        v = learns w (present_at m)

        step : Steps w v
        step = More Done (Learns (present_at m) (record { known = seen.past }))

        there : WritingShown g v book chain (record s { groups = m })
        there = record {
          writes = record { log = h.writes.log; inc = h.writes.inc; some = h.writes.some; map = seen.whole; known = λ u. refl };
          phase = h.phase;
          clear = h.clear;
          base = h.base;
          read = shown_on g w v book book s.end.seq chain (λ x fact. (fact, refl)) paged paged refl refl refl refl h.read;
          flight = h.flight;
          is_flight = h.is_flight;
          flying = h.flying;
        }

pub opens_by_step : OpensByStep
unfolding log.on_parts
opens_by_step g w book start chain m fixed reached paged shown room =
    subst (λ (t : Bool). Goes g w book (λ v later. WritingShown g v later chain (cond (t && true) (log.log_write s []) (still s)).state)
    (cond (t && true) (log.log_write s []) (still s)).outs) (sym room)
    (opens_goes g w book fixed paged reached start chain m shown)
  where
    s : LogState
    s = log_start g.log w.incarnation start m

pub opening_takes : OpeningTakes
opening_takes g w book chain s (Put block entry value) fixed reached paged h premise brings = absurd brings
opening_takes g w book chain s (Parts items) fixed reached paged h premise brings = absurd brings
opening_takes g w book chain s Seal fixed reached paged h premise brings = absurd brings
opening_takes g w book chain s (Acked name index generation) fixed reached paged h premise brings =
    acked_goes g chain w book fixed paged reached s name index generation h brings premise
opening_takes g w book chain s (Maps m) fixed reached paged h premise brings = maps_goes g chain w book fixed paged reached s m h brings premise
opening_takes g w book chain s Tick fixed reached paged h premise brings = tick_goes g chain w book fixed paged reached s h
