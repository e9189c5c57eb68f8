-- Settling is looked at: the flight is striped anew, or settled, or waits on.
use Rattle.group_map.specs.Groups.{generation_at}
use Rattle.std.proofs.Common.{◌≡◌, ℕ, zero, suc, ◌+◌, ◌-◌, ◌<◌, ◌⊎◌, Bool, true, false, cond, ◌||◌, nat_lt, List, [], ◌∷◌, None, length, refl, sym, ap, subst, ◌∙◌, inl, inr, arith}
use Rattle.std.proofs.lemmas.Bool.Decides.{nat_tests}
use Rattle.std.proofs.lemmas.Bool.{ltb-true}
use Rattle.xfs_base.specs.declared.segment.SegName.{SegName}
use Rattle.segment_format.specs.declared.segment.Segment.{Segment}
use Rattle.log_protocol.specs.State.{State}
use Rattle.log_protocol.specs.OwnerSteps.{CanRestripe, settles, Settled}
use Rattle.log_protocol.specs.Step.Step.{Restripes, Settles}
use Rattle.log_protocol.specs.Step.Steps.{Done, More}
use Rattle.log_protocol.specs.LogLaws.{Reached}
use Rattle.log_protocol.proofs.Induction.{always}
use Rattle.log_protocol.proofs.NewNames.{new_restripe}
use Rattle.group_map.specs.declared.group.Group as groups
use Rattle.group_map.specs.declared.group.Member.{Member}
use Rattle.group_map.specs.GroupMapState.{GroupMapState}
use Rattle.log_flight.specs.Fate.{has_server, is_lost, all_done, is_done}
use Rattle.log_flight.specs.Flights as flights
use Rattle.log_flight.specs.Flights.{FlightState, generation_of, is_noted, server_of}
use Rattle.client_log.specs.declared.output.Out.{Out}
use Rattle.client_log.specs.declared.output.Out.TheVariants.{Settled as Out_Settled}
use Rattle.client_log.specs.LogState.{LogState}
use Rattle.client_log.specs.Transition as log
use Rattle.client_log.specs.Transition.{end_of}
use Rattle.xfs_base.specs.declared.block.BlockId.{BlockId}
use Rattle.xfs_base.specs.declared.entry.Entry.{Entry}
use Rattle.xfs_base.proofs.Booleans.{contrary, and_first, and_second}
use Rattle.log_tie.specs.Setting.{Setting, Stripe, present_at, name_of, point, IsStripe}
use Rattle.log_tie.specs.Seen.{Page, Book, Flying, Writes, Serves, ByOwner, Goes, Fixed}
use Rattle.log_tie.proofs.Seen.{standing_of}
use Rattle.log_tie.proofs.Names.{coded, some_number, name_coded, point_some}
use Rattle.log_tie.proofs.Frames.{by_nothing}
use Rattle.log_tie.proofs.Booking.{books_one, with_page, page_here, booked_state, stripe_group, by_booking, booked_pages}
use Rattle.log_tie.proofs.Sealing.{launch, nothing_noted}

pub goes_map : (g : Setting) (w : State) (book : ℕ → Segment) (P Q : State → (ℕ → Segment) → Type 0) (outs : List Out)
    → ((v : State) (later : ℕ → Segment) → P v later → Q v later) → Goes g w book P outs → Goes g w book Q outs
goes_map g w book P Q outs k t =
    record {
      world = t.world;
      later = t.later;
      steps = t.steps;
      frame = t.frame;
      fresh = t.fresh;
      paged = t.paged;
      shows = k t.world t.later t.shows;
      said = t.said;
      end_follows = t.end_follows;
    }

either : (a b : Bool) → (a || b) ≡ true → (a ≡ true) ⊎ (b ≡ true)
either true b h = inl refl
either false b h = inr h

-- a lost member is of an earlier generation than the map has
lost_below : (m : GroupMapState) (member : Member) → is_lost m member ≡ true → member.generation < present_at m member.server
lost_below m member h = by (has_server m member.server) refl (and_second (has_server m member.server) _ h)
  where
    by : (t : Bool) → has_server m member.server ≡ t → nat_lt member.generation (generation_at m.generations member.server) ≡ true
        → member.generation < cond t (generation_at m.generations member.server) 0
    by true e less = ltb-true member.generation (generation_at m.generations member.server) less
    by false e less = contrary (sym e ∙ and_first (has_server m member.server) _ h)

-- each member from a place on is noted or lost
pub done_each : (m : GroupMapState) (noted : List Bool) (ms : List Member) (i : ℕ) → all_done m noted ms i ≡ true → (j k : ℕ) → j ≡ k + i → k < length ms
    → (is_noted noted j ≡ true) ⊎ (generation_of ms k < present_at m (server_of ms k))
done_each m noted [] i h j k e b = absurd (let x = b in omega arith)
done_each m noted (x ∷ xs) i h j zero e b = by (either (is_noted noted i) (is_lost m x) (and_first (is_done m noted x i) _ h))
  where
    by : (is_noted noted i ≡ true) ⊎ (is_lost m x ≡ true) → (is_noted noted j ≡ true) ⊎ (x.generation < present_at m x.server)
    by (inl t) = inl (subst (λ n. is_noted noted n ≡ true) (omega arith) t)
    by (inr t) = inr (lost_below m x t)
done_each m noted (x ∷ xs) i h j (suc k) e b = done_each m noted xs (i + 1) (and_second (is_done m noted x i) _ h) j k (omega arith) (omega arith)

module _ (g : Setting) (w : State) (book : ℕ → Segment) (fixed : Fixed g w) (paged : Book g w book) (reached : Reached w) (s : LogState) where
  abbrev pub FlyingHere : FlightState → Type 0
  FlyingHere f = Flying g book f s.inc s.end.seq (w.booked w.flight) w.flight w.noted

  -- the flight is there, in a state in which the log writes, and the rest stands
  pub record Aloft (t : LogState) (f : FlightState) (v : State) (later : ℕ → Segment) : Type 0 where
    pub writes : Writes g v t
    pub flying : Flying g later f t.inc t.end.seq (v.booked v.flight) v.flight v.noted
    pub standing : standing_of v ≡ standing_of w

  -- the flight's name there
  pub flight_name : (f : FlightState) → FlyingHere f → f.segment.name ≡ name_of g w.flight
  flight_name f h = ap (λ (z : Segment). z.name) h.segment ∙ (paged w.flight h.is_booked).named

  -- it is striped anew
  pub restriped_goes : (f : FlightState) → Writes g w s → FlyingHere f
      → Goes g w book
      (Aloft s (flights.flown (log.next_attempt f.segment.name) f.segment.prior f.segment.items (flights.group_for s.groups s.log.0 f.segment.name.seq)))
      (log.restriped s f).outs
  unfolding log.restriped log.log_launch
  restriped_goes f writes h =
      launch g w book fixed paged _ v later f' x (More Done (Restripes x _ _ _ can)) by (books_one w x) refl pages booked (sym here)
      (sym fact.named ∙ ap (λ (z : Segment). g.stripe z.group) (sym here)) (λ stores. record {
        writes = record { log = writes.log; inc = writes.inc; some = writes.some; map = writes.map; known = writes.known };
        flying = record {
          some = can.named;
          is_booked = booked;
          segment = sym here;
          stripe = sym fact.named ∙ ap (λ (z : Segment). g.stripe z.group) (sym here);
          own = ap (λ (z : Segment). z.name.pass.inc) here ∙ (ap (λ (z : Segment). z.name.pass.inc) h.segment ∙ h.own);
          next = ap (λ (z : Segment). z.name.seq) here ∙ (ap (λ (z : Segment). z.name.seq) h.segment ∙ h.next);
          notes = λ i noted. contrary (sym (nothing_noted i) ∙ noted);
        };
        standing = refl;
      })
    where
      name : SegName
      name = log.next_attempt f.segment.name

      x : ℕ
      x = g.code f.segment.name.seq f.segment.name.pass.inc (f.segment.name.pass.att + 1)

      group : groups.Group
      group = flights.group_for s.groups s.log.0 f.segment.name.seq

      f' : FlightState
      f' = flights.flown name f.segment.prior f.segment.items group

      fact : IsStripe g s.groups group
      fact = writes.map s.log.0 f.segment.name.seq

      named : f.segment.name ≡ name_of g w.flight
      named = flight_name f h

      page : Page g w.flight (book w.flight) (w.text_of w.flight) (w.member_count w.flight) (w.member_server w.flight) (w.member_generation w.flight)
          (w.prior_of w.flight) (w.content_of w.flight)
      page = paged w.flight h.is_booked

      v : State
      v = booked_state g w book x f'.segment group s.groups (w.prior_of w.flight) (w.content_of w.flight)

      later : ℕ → Segment
      later = with_page book x f'.segment

      seq_above : f.segment.name.seq ≡ s.end.seq + 1
      seq_above = ap (λ (z : Segment). z.name.seq) h.segment ∙ h.next

      can : CanRestripe w x (length group.members) (server_of group.members)
      can = record {
        flying = h.some;
        named = some_number g x
            (let e = g.its_seq f.segment.name.seq f.segment.name.pass.inc (f.segment.name.pass.att + 1) in let q = seq_above in omega arith);
        same_seq = ap (λ k. k x) fixed.seq_of ∙ (g.its_seq _ _ _ ∙ (ap (λ (n : SegName). n.seq) named ∙ sym (ap (λ k. k w.flight) fixed.seq_of)));
        own = ap (λ k. k x) fixed.incarnation_of ∙ (g.its_incarnation _ _ _ ∙ (ap (λ (z : Segment). z.name.pass.inc) h.segment ∙ (h.own ∙ writes.inc)));
        later = let e : w.attempt_of x ≡ f.segment.name.pass.att + 1 = ap (λ k. k x) fixed.attempt_of ∙ g.its_attempt _ _ _ in
            let d : w.attempt_of w.flight ≡ f.segment.name.pass.att = ap (λ k. k w.flight) fixed.attempt_of ∙ sym (ap (λ (n : SegName). n.pass.att) named) in
            omega arith;
        group = stripe_group g w book x f'.segment group s.groups (w.prior_of w.flight) (w.content_of w.flight) fixed.servers fact;
      }

      new : w.booked x ≡ 1 → ⊥
      new = new_restripe w x _ _ can (always w reached).shelf.boots

      content : w.content_of w.flight ≡ g.content f.segment.items
      content = page.tells ∙ ap (λ (z : Segment). g.content z.items) (sym h.segment)

      booked : v.booked x ≡ 1
      booked = grind (arith, nat_tests)

      here : later x ≡ f'.segment
      here = page_here book x f'.segment

      pages : Book g v later
      pages = booked_pages g w book x f'.segment group s.groups (w.prior_of w.flight) (w.content_of w.flight)
          (ap (λ (n : SegName). record {
            log = n.log;
            seq = f.segment.name.seq;
            pass = record { inc = f.segment.name.pass.inc; att = f.segment.name.pass.att + 1 };
          }) named ∙ sym (name_coded g f.segment.name.seq f.segment.name.pass.inc (f.segment.name.pass.att + 1)))
          (let a = writes.some in let e = ap (λ (z : Segment). z.name.pass.inc) h.segment ∙ h.own in omega arith) refl
          (page.follows ∙ ap (λ (z : Segment). point g (z.name.seq - 1) z.prior.pass) (sym h.segment)) content fact writes.known paged

      by : ByOwner g w v book later
      by = by_booking g w book x f'.segment group s.groups (w.prior_of w.flight) (w.content_of w.flight) w.phase w.spanning new

  -- it waits on
  pub waits_goes : (f : FlightState) → Writes g w s → FlyingHere f → Goes g w book (Aloft s f) []
  waits_goes f writes h =
      record {
        world = w;
        later = book;
        steps = Done;
        frame = by_nothing g w book;
        fresh = λ x fact. inl fact;
        paged = paged;
        shows = record { writes = writes; flying = h; standing = refl };
        said = tt;
        end_follows = inl refl;
      }

  -- each member is noted or lost
  pub settled_there : (f : FlightState) → Writes g w s → FlyingHere f → all_done s.groups f.noted f.group.members 0 ≡ true → Settled w
  settled_there f writes h all i member =
      by (done_each s.groups f.noted f.group.members 0 all i i (omega arith)
      (subst (λ n. i < n) (page.counted ∙ ap (λ (z : Stripe). length z.members) (sym h.stripe)) member))
    where
      page : Page g w.flight (book w.flight) (w.text_of w.flight) (w.member_count w.flight) (w.member_server w.flight) (w.member_generation w.flight)
          (w.prior_of w.flight) (w.content_of w.flight)
      page = paged w.flight h.is_booked

      by : (is_noted f.noted i ≡ true) ⊎ (generation_of f.group.members i < present_at s.groups (server_of f.group.members i))
          → (w.noted i ≡ 1) ⊎ (w.member_generation w.flight i < w.owner_generation (w.member_server w.flight i))
      by (inl t) = inl (h.notes i t)
      by (inr t) =
          let e : w.member_generation w.flight i ≡ generation_of f.group.members i =
          page.at_generation i (subst (λ n. i < n) page.counted member) ∙ ap (λ (z : Stripe). generation_of z.members i) (sym h.stripe) in
          let d : w.member_server w.flight i ≡ server_of f.group.members i = page.at_server i ∙ ap (λ (z : Stripe). server_of z.members i) (sym h.stripe) in
          let k : w.owner_generation (w.member_server w.flight i) ≡ present_at s.groups (server_of f.group.members i) =
          ap w.owner_generation d ∙ writes.known _ in
          inr (omega arith)

  -- the end that the flight is
  pub flight_end : (f : FlightState) → 0 < s.inc → FlyingHere f
      → (w.flight ≡ point g (end_of f.segment).seq (end_of f.segment).pass) × (g.seq_of w.flight ≡ (end_of f.segment).seq)
      × ((end_of f.segment).pass ≡ (name_of g w.flight).pass)
  flight_end f some h =
      let name = flight_name f h in
      let inc : 0 < f.segment.name.pass.inc = let e = ap (λ (z : Segment). z.name.pass.inc) h.segment ∙ h.own in omega arith in (
        sym (point_some g f.segment.name.seq f.segment.name.pass inc ∙ (ap (λ (n : SegName). g.code n.seq n.pass.inc n.pass.att) name ∙ coded g w.flight)),
        sym (ap (λ (n : SegName). n.seq) name),
        ap (λ (n : SegName). n.pass) name,
      )

  -- it is settled, while the owner serves
  pub settles_goes : (f : FlightState) → Serves g w book s → FlyingHere f → all_done s.groups f.noted f.group.members 0 ≡ true → (rows : List (BlockId × Entry))
      → Goes g w book (λ v later. Serves g v later (record s { end = end_of f.segment; flight = None })) (Out_Settled (end_of f.segment) rows ∷ [])
  settles_goes f shown h all rows = let end = flight_end f shown.writes.some h in record {
    world = settles w;
    later = book;
    steps = More Done (Settles (record { serving = shown.phase; flying = h.some; settled = settled_there f shown.writes h all }));
    frame =
        record {
          others = refl;
          booked = λ x fact. fact;
          segment = λ x fact. refl;
          stores = λ p fact. fact;
          filed = λ x fact. put_one x fact;
          calm = λ none c. c;
        };
    fresh = λ x fact. inl fact;
    paged = paged;
    shows = record {
      writes = record { log = shown.writes.log; inc = shown.writes.inc; some = shown.writes.some; map = shown.writes.map; known = shown.writes.known };
      phase = shown.phase;
      end = end.0;
      end_seq = end.1;
      flight = refl;
    };
    said = ((w.flight, here, sym end.1, end.2), tt);
    end_follows = inr (inl (λ i. record { log = g.log; seq = end.1 i; pass = (sym end.2) i }));
  }
    where
      put_one : (x : ℕ) → w.filed x ≡ 1 → (settles w).filed x ≡ 1
      put_one x fact = grind (arith, nat_tests)

      here : (settles w).filed w.flight ≡ 1
      here = grind (arith, nat_tests)
