-- What the last boot that served had in flight: each booked name of that boot, next after the head, tells the same.
use Rattle.xfs_base.proofs.Booleans.{contrary}
use Rattle.std.specs.Prelude.{IfSome}
use Rattle.std.proofs.Common.{◌≡◌, ℕ, suc, true, false, length, Option, Some, None, refl, sym, ap, subst, ◌∙◌, arith, ◌+◌}
use Rattle.xfs_base.specs.declared.segment.SegName.{SegName}
use Rattle.segment_format.specs.declared.segment.Segment.{Segment}
use Rattle.group_map.specs.declared.group.Group as groups
use Rattle.log_flight.specs.Flights.{FlightState, group_for, server_of}
use Rattle.client_log.specs.LogState.{LogState}
use Rattle.log_protocol.specs.LogLaws.{Reached}
use Rattle.log_protocol.specs.State.{State}
use Rattle.log_protocol.specs.Step.{Steps}
use Rattle.log_tie.specs.Setting.{Setting}
use Rattle.log_tie.specs.Seen.{FlightShown, Serves, Fixed}
use Rattle.log_tie.proofs.Booking.{stripe_group}
use Rattle.log_law.specs.Net.{Owner, Net}
use Rattle.log_law.specs.Net.Owner.{Down, Opening, Writing, Serving}
use Rattle.log_law.specs.Restarts.{is_serving, flight_in}
use Rattle.log_law.specs.Below.{Below}
use Rattle.log_law.proofs.Views.{OwnerShown, View}
use Rattle.log_law.proofs.Next.{Next}
use Rattle.log_law.proofs.Steady.{Steady}

module _ (g : Setting) where
  -- the flight of the last boot that served is of this number and boot, and tells the same
  pub record FlightOf (w : State) (last : Option FlightState) (x : ℕ) : Type 0 where
    pub flight : FlightState
    pub flying : last ≡ Some flight
    pub seq : flight.segment.name.seq ≡ g.seq_of x
    pub boot : flight.segment.name.pass.inc ≡ g.incarnation_of x
    pub content : w.content_of x ≡ g.content flight.segment.items

  abbrev pub FlightKept : State → Option FlightState → Type 0
  FlightKept w last = (x : ℕ) → w.booked x ≡ 1 → w.incarnation_of x ≡ w.served → w.seq_of x ≡ suc w.head → FlightOf w last x

  module _ (k : Below) (n : Net) (h : View g n) (clean : h.w.clean ≡ 1) where
    -- so it is while the owner serves
    pub serving_kept : (s : LogState) → n.owner ≡ Serving s → FlightKept h.w s.flight
    serving_kept s e x booked boot next = by s.flight refl as_it_serves.flight
      where
        as_it_serves : Serves g h.w h.book s
        as_it_serves = (subst (OwnerShown g h.w h.book h.hellos) e h.owner).0

        own : h.w.incarnation ≡ h.w.served
        own = (k.protocol.owner h.w h.reached).serving as_it_serves.phase

        end_at : h.w.seq_of h.w.end ≡ h.w.head
        end_at = (k.protocol.head h.w h.reached clean).end_seq

        chosen : groups.Group
        chosen = group_for s.groups s.log.0 (s.end.seq + 1)

        -- with nothing in flight a name that can be sealed isn't booked
        none_booked : h.w.flight ≡ 0 → ⊥
        none_booked idle = (k.protocol.new h.w h.reached).sealed x (length chosen.members) (server_of chosen.members) (record {
          serving = as_it_serves.phase;
          no_flight = idle;
          named = (k.protocol.book h.w h.reached).named x booked;
          next = next ∙ ap suc (sym end_at);
          own = boot ∙ sym own;
          group = stripe_group g h.w h.book x (h.book x) chosen s.groups 0 0 h.fixed.servers (as_it_serves.writes.map s.log.0 (s.end.seq + 1));
        }) booked

        by : (o : Option FlightState) → s.flight ≡ o → FlightShown g h.book o s.inc s.end.seq (h.w.booked h.w.flight) h.w.flight h.w.noted
            → FlightOf h.w s.flight x
        by None fact shown = absurd (none_booked shown)
        by (Some f) fact shown =
            let page = h.paged h.w.flight shown.is_booked in
            let f_seq : f.segment.name.seq ≡ s.end.seq + 1 = ap (λ (z : Segment). z.name.seq) shown.segment ∙ shown.next in
            let f_boot : f.segment.name.pass.inc ≡ s.inc = ap (λ (z : Segment). z.name.pass.inc) shown.segment ∙ shown.own in
            let x_seq : h.w.seq_of x ≡ g.seq_of x = ap (λ t. t x) h.fixed.seq_of in
            let x_boot : h.w.incarnation_of x ≡ g.incarnation_of x = ap (λ t. t x) h.fixed.incarnation_of in
            let end_seq : h.w.seq_of h.w.end ≡ s.end.seq = ap (λ t. t h.w.end) h.fixed.seq_of ∙ as_it_serves.end_seq in
            let at = end_at in
            let inc = as_it_serves.writes.inc in
            let mine = own in
            let flight_seq : h.w.seq_of h.w.flight ≡ f.segment.name.seq =
            ap (λ t. t h.w.flight) h.fixed.seq_of ∙ (sym (ap (λ (z : SegName). z.seq) page.named) ∙ ap (λ (z : Segment). z.name.seq) (sym shown.segment)) in
            let flight_boot : h.w.incarnation_of h.w.flight ≡ f.segment.name.pass.inc =
            ap (λ t. t h.w.flight) h.fixed.incarnation_of
            ∙ (sym (ap (λ (z : SegName). z.pass.inc) page.named) ∙ ap (λ (z : Segment). z.name.pass.inc) (sym shown.segment)) in
            record {
              flight = f;
              flying = fact;
              seq = (let a = next in omega arith);
              boot = (let a = boot in omega arith);
              content = (k.protocol.book h.w h.reached).one_content x h.w.flight booked shown.is_booked (let a = next in omega arith)
                  (let a = boot in omega arith) ∙ (page.tells ∙ ap (λ (z : Segment). g.content z.items) (sym shown.segment));
            }

  -- and it stays so until another boot serves
  pub steady_kept : (k : Below) (w u : State) → Reached w → Fixed g w → Fixed g u → Steps w u → Steady w u → (last : Option FlightState) → FlightKept w last
      → FlightKept u last
  steady_kept k w u reached fixed later run s last kept x booked boot next =
      let was = s.booked x booked boot in
      let names : u.incarnation_of x ≡ w.incarnation_of x = ap (λ t. t x) later.incarnation_of ∙ sym (ap (λ t. t x) fixed.incarnation_of) in
      let seqs : u.seq_of x ≡ w.seq_of x = ap (λ t. t x) later.seq_of ∙ sym (ap (λ t. t x) fixed.seq_of) in
      let f = kept x was (sym names ∙ (boot ∙ s.served)) (sym seqs ∙ (next ∙ ap suc s.head)) in
      record { flight = f.flight; flying = f.flying; seq = f.seq; boot = f.boot; content = (k.protocol.past w u reached run).content x was ∙ f.content }

  -- what is so of the last flight where no owner serves, and of the flight of an owner that serves, is so of what the owner leaves
  by_owner : (P : Option FlightState → Type 0) (p : Owner) (last : Option FlightState) → (is_serving p ≡ false → P last)
      → ((s : LogState) → p ≡ Serving s → P s.flight) → P (flight_in p last)
  by_owner P Down last idle serves = idle refl
  by_owner P (Opening s) last idle serves = idle refl
  by_owner P (Writing chain s) last idle serves = idle refl
  by_owner P (Serving s) last idle serves = serves s refl

  -- over one event
  pub now_kept : (k : Below) (n : Net) (h : View g n) (o : Net) (t : Next g n h o) → t.view.w.clean ≡ 1 → (last : Option FlightState) → FlightKept h.w last
      → FlightKept t.view.w (flight_in o.owner last)
  now_kept k n h o t clean last kept =
      by_owner (FlightKept t.view.w) o.owner last
      (λ e. steady_kept k h.w t.view.w h.reached h.fixed t.view.fixed t.steps (t.steady e) last kept) (serving_kept k o t.view clean)

  -- at first
  pub first_kept : (k : Below) (n : Net) (h : View g n) → h.w.clean ≡ 1 → is_serving n.owner ≡ true → FlightKept h.w (flight_in n.owner None)
  first_kept k n h clean serves = by_owner (FlightKept h.w) n.owner None (λ e. contrary (sym e ∙ serves)) (serving_kept k n h clean)

  -- ---- the flight of the last boot that served is of that boot, and next after the head

  abbrev pub FlightAt : State → Option FlightState → Type 0
  FlightAt w last = IfSome last (λ f. (f.segment.name.seq ≡ suc w.head) × (f.segment.name.pass.inc ≡ w.served))

  at_on : (w u : State) (last : Option FlightState) → u.head ≡ w.head → u.served ≡ w.served → FlightAt w last → FlightAt u last
  at_on w u None head served at = tt
  at_on w u (Some f) head served at = (at.0 ∙ ap suc (sym head), at.1 ∙ sym served)

  serving_at : (k : Below) (n : Net) (h : View g n) → h.w.clean ≡ 1 → (s : LogState) → n.owner ≡ Serving s → FlightAt h.w s.flight
  serving_at k n h clean s e = by s.flight there.flight
    where
      there : Serves g h.w h.book s
      there = (subst (OwnerShown g h.w h.book h.hellos) e h.owner).0

      head : h.w.head ≡ s.end.seq
      head = sym (k.protocol.head h.w h.reached clean).end_seq ∙ (ap (λ t. t h.w.end) h.fixed.seq_of ∙ there.end_seq)

      boot : h.w.served ≡ s.inc
      boot = sym ((k.protocol.owner h.w h.reached).serving there.phase) ∙ sym there.writes.inc

      by : (o : Option FlightState) → FlightShown g h.book o s.inc s.end.seq (h.w.booked h.w.flight) h.w.flight h.w.noted → FlightAt h.w o
      by None shown = tt
      by (Some f) shown = (
        ap (λ (z : Segment). z.name.seq) shown.segment
            ∙ (let a = shown.next in let b = head in omega arith),
        ap (λ (z : Segment). z.name.pass.inc) shown.segment ∙ (shown.own ∙ sym boot),
      )

  pub now_at : (k : Below) (n : Net) (h : View g n) (o : Net) (t : Next g n h o) → t.view.w.clean ≡ 1 → (last : Option FlightState) → FlightAt h.w last
      → FlightAt t.view.w (flight_in o.owner last)
  now_at k n h o t clean last at =
      by_owner (FlightAt t.view.w) o.owner last (λ e. at_on h.w t.view.w last (t.steady e).head (t.steady e).served at) (serving_at k o t.view clean)

  pub first_at : (k : Below) (n : Net) (h : View g n) → h.w.clean ≡ 1 → is_serving n.owner ≡ true → FlightAt h.w (flight_in n.owner None)
  first_at k n h clean serves = by_owner (FlightAt h.w) n.owner None (λ e. contrary (sym e ∙ serves)) (serving_at k n h clean)
