-- Every input of a log whose owner serves is taken by steps of the owner.
use Rattle.std.proofs.Common.{◌≡◌, ℕ, zero, suc, ◌⊎◌, Bool, true, false, cond, ◌&&◌, nat_lt, if◌then◌else◌, is_none, List, [], ◌∷◌, Option, Some, None, length, take, drop, refl, sym, ap, subst, ◌∙◌, arith, inl, inr, ⊎_elim}
use Rattle.std.specs.Prelude.{slice_set}
use Rattle.std.proofs.lemmas.Bool.Decides.{nat_tests}
use Rattle.xfs_base.specs.declared.segment.SegName.{SegName}
use Rattle.xfs_base.specs.Steps.{still, saying}
use Rattle.segment_format.specs.declared.segment.Item.{Item}
use Rattle.segment_format.specs.declared.segment.Segment.{Segment}
use Rattle.log_protocol.specs.State.{State, new_log, Names}
use Rattle.log_protocol.specs.ServerSteps.{learns}
use Rattle.log_protocol.specs.OwnerSteps.{notes}
use Rattle.log_protocol.specs.Step.{Steps}
use Rattle.log_protocol.specs.Step.Step.{Learns, Notes}
use Rattle.log_protocol.specs.Step.Steps.{Done, More}
use Rattle.log_protocol.specs.LogLaws.{Reached}
use Rattle.group_map.specs.GroupMapState.{GroupMapState}
use Rattle.indexmap.specs.IndexMap.{insert_entry}
use Rattle.xfs_base.specs.Segments.{same_name}
use Rattle.log_flight.specs.declared.dirty.Change.{Change}
use Rattle.log_flight.specs.declared.flight.Fate.{Fate}
use Rattle.log_flight.specs.declared.flight.Fate.TheVariants.{Restripe, Settle, Wait}
use Rattle.log_flight.specs.Fate.{fate_of, lost_count, all_done}
use Rattle.log_flight.specs.Flights as flights
use Rattle.log_flight.specs.Flights.{FlightState, is_noted}
use Rattle.log_flight.specs.Items.{items_of}
use Rattle.log_flight.specs.Texts.{has_text}
use Rattle.client_log.specs.declared.input.In.TheVariants.{Put, Parts, Seal, Acked, Maps, Tick}
use Rattle.client_log.specs.declared.output.Out.{Out}
use Rattle.client_log.specs.declared.output.Out.TheVariants.{Settled}
use Rattle.client_log.specs.LogState.{LogState}
use Rattle.client_log.specs.Transition as log
use Rattle.client_log.specs.Transition.{end_of}
use Rattle.segment_format.specs.Rows.{rows_of}
use Rattle.xfs_base.specs.declared.block.BlockId.{BlockId}
use Rattle.xfs_base.specs.Blocks.{same_block}
use Rattle.xfs_base.specs.Limits.{segment_blocks}
use Rattle.xfs_base.proofs.Booleans.{contrary, and_first, by_test as pick}
use Rattle.log_tie.specs.Setting.{Setting, present_at}
use Rattle.log_tie.specs.Seen.{EndFollows, Book, Flying, FlightShown, Serves, ByOwner, Goes, Fixed, Others, others_of}
use Rattle.log_tie.proofs.Seen.{Standing}
use Rattle.log_tie.specs.Inputs.{StoredSeen, MapSeen, TakesInputs}
use Rattle.xfs_base.proofs.SegmentNames.{one_name}
use Rattle.log_tie.proofs.Names.{one_number}
use Rattle.log_protocol.specs.Tables.{put}
use Rattle.log_protocol.proofs.Induction.{always}
use Rattle.log_tie.proofs.Frames.{steps_through, by_through, goes_nowhere, goes_through}
use Rattle.log_tie.proofs.Sending.{sent_all}
use Rattle.log_tie.proofs.Sealing.{writes_goes}
use Rattle.log_tie.proofs.Settling.{goes_map, Aloft, restriped_goes, waits_goes, settles_goes}

pub reached_by : (w v : State) → Reached w → Steps w v → others_of v ≡ others_of w → Reached v
reached_by w v reached steps same = record { names = all.0; run = all.1 }
  where
    From : Others → Type 0
    From o = Names o.seq_of o.incarnation_of o.attempt_of × Steps (new_log o.servers o.seq_of o.incarnation_of o.attempt_of) v

    all : From (others_of v)
    all = subst From (sym same) (reached.names, steps_through _ w v reached.run steps)

pub fixed_by : (g : Setting) (w v : State) → Fixed g w → others_of v ≡ others_of w → Fixed g v
fixed_by g w v fixed same = record {
  servers = ap (λ (o : Others). o.servers) same ∙ fixed.servers;
  seq_of = ap (λ (o : Others). o.seq_of) same ∙ fixed.seq_of;
  incarnation_of = ap (λ (o : Others). o.incarnation_of) same ∙ fixed.incarnation_of;
  attempt_of = ap (λ (o : Others). o.attempt_of) same ∙ fixed.attempt_of;
}

idle : (g : Setting) (book : ℕ → Segment) (o : Option FlightState) (inc seq booked flight : ℕ) (noted : ℕ → ℕ) → is_none o ≡ true
    → FlightShown g book o inc seq booked flight noted → flight ≡ 0
idle g book None inc seq booked flight noted none shown = shown
idle g book (Some f) inc seq booked flight noted none shown = contrary none

module _ (g : Setting) where
  abbrev ServesAs : LogState → State → (ℕ → Segment) → Type 0
  ServesAs s v later = Serves g v later s

  abbrev To : State → (ℕ → Segment) → log.Done → Type 0
  To w book d = Goes g w book (ServesAs d.state) d.outs

  -- what is seen of a log, with this flight
  with_flight : (w : State) (book : ℕ → Segment) (s : LogState) (f : Option FlightState) → Serves g w book s
      → FlightShown g book f s.inc s.end.seq (w.booked w.flight) w.flight w.noted → Serves g w book (record s { flight = f })
  with_flight w book s f h flight =
      record {
        writes = record { log = h.writes.log; inc = h.writes.inc; some = h.writes.some; map = h.writes.map; known = h.writes.known };
        phase = h.phase;
        end = h.end;
        end_seq = h.end_seq;
        flight = flight;
      }

  with_dirty : (w : State) (book : ℕ → Segment) (s : LogState) (dirty : List (BlockId × Change)) → Serves g w book s
      → Serves g w book (record s { dirty = dirty })
  with_dirty w book s dirty h =
      record {
        writes = record { log = h.writes.log; inc = h.writes.inc; some = h.writes.some; map = h.writes.map; known = h.writes.known };
        phase = h.phase;
        end = h.end;
        end_seq = h.end_seq;
        flight = h.flight;
      }

  aloft_serves : (w v : State) (book later : ℕ → Segment) (s : LogState) (f : FlightState) (fixed : Fixed g w) (paged : Book g w book) (reached : Reached w)
      → Serves g w book s → Aloft g w book fixed paged reached s s f v later → Serves g v later (record s { flight = Some f })
  aloft_serves w v book later s f fixed paged reached h a = record {
    writes = record { log = a.writes.log; inc = a.writes.inc; some = a.writes.some; map = a.writes.map; known = a.writes.known };
    phase = ap (λ (t : Standing). t.phase) a.standing ∙ h.phase;
    end = ap (λ (t : Standing). t.end) a.standing ∙ h.end;
    end_seq = ap g.seq_of (ap (λ (t : Standing). t.end) a.standing) ∙ h.end_seq;
    flight = a.flying;
  }

  module _ (w : State) (book : ℕ → Segment) (fixed : Fixed g w) (paged : Book g w book) (reached : Reached w) where
    nothing : (s : LogState) → Serves g w book s → To w book (still s)
    nothing s h = goes_nowhere g (ServesAs s) w book paged h

    by_test : (s : LogState) (t : Bool) (d e : log.Done) → (t ≡ true → To w book d) → (t ≡ false → To w book e) → To w book (cond t d e)
    by_test s true d e h k = h refl
    by_test s false d e h k = k refl

    sealed_goes : (s : LogState) → Serves g w book s → log.is_idle s ≡ true → To w book (log.log_seal s)
    unfolding log.log_seal
    sealed_goes s h none =
        writes_goes g w book fixed paged reached s (items_of 0 (take segment_blocks s.dirty)) h (idle g book s.flight _ _ _ _ _ none h.flight)
        (drop segment_blocks s.dirty)

    pub full_goes : (s : LogState) → Serves g w book s → To w book (log.log_go_on s)
    unfolding log.log_go_on
    full_goes s h = by_test s (log.is_full s) _ _ (λ t. sealed_goes s h (and_first (log.is_idle s) _ t)) (λ t. nothing s h)

    seal_goes : (s : LogState) → Serves g w book s → To w book (log.on_seal s)
    unfolding log.on_seal
    seal_goes s h =
        by_test s (log.is_idle s && nat_lt 0 (length s.dirty) && log.has_next s.end.seq) _ _
        (λ t. sealed_goes s h (and_first (log.is_idle s) _ (and_first (log.is_idle s && nat_lt 0 (length s.dirty)) _ t))) (λ t. nothing s h)

    put_goes : (s : LogState) (block : BlockId) (change : Change) → Serves g w book s → To w book (log.on_put s block change)
    unfolding log.on_put
    put_goes s block change h = by_test s (log.can_go_on (log.waits s block change)) _ _
        (λ t. full_goes (log.waits s block change) (with_dirty w book s (insert_entry same_block s.dirty block change) h)) (λ t. nothing s h)

    parts_goes : (s : LogState) (items : List Item) → Serves g w book s → To w book (log.on_parts s items)
    unfolding log.on_parts
    parts_goes s items h = by_test s (log.is_idle s && log.has_next s.end.seq && has_text items) _ _
        (λ t. writes_goes g w book fixed paged reached s items h
        (idle g book s.flight _ _ _ _ _ (and_first (log.is_idle s) _ (and_first (log.is_idle s && log.has_next s.end.seq) _ t)) h.flight) s.dirty)
        (λ t. nothing s h)

    -- Stores that go again
    pub tick_goes : (s : LogState) → Serves g w book s → To w book (log.on_tick s)
    unfolding log.on_tick
    tick_goes s h = by s.flight refl h.flight
      where
        by : (o : Option FlightState) → s.flight ≡ o → FlightShown g book o s.inc s.end.seq (w.booked w.flight) w.flight w.noted
            → To w book (elim o [ None ↦ still s | Some f ↦ record { state = s; outs = log.sending_send f } ])
        by None e shown = nothing s h
        by (Some f) e shown = let t = sent_all g w book f w.flight shown.is_booked shown.segment (shown.stripe) paged in record {
          world = record w { stores = t.all };
          later = book;
          steps = t.steps;
          frame = record { others = refl; booked = λ x fact. fact; segment = λ x fact. refl; stores = t.grown; filed = λ x fact. fact; calm = λ none c. c };
          fresh = λ x fact. inl fact;
          paged = paged;
          shows = record {
            writes = record { log = h.writes.log; inc = h.writes.inc; some = h.writes.some; map = h.writes.map; known = h.writes.known };
            phase = h.phase;
            end = h.end;
            end_seq = h.end_seq;
            flight = h.flight;
          };
          said = t.said;
          end_follows = inl refl;
        }

  module _ (w : State) (book : ℕ → Segment) (fixed : Fixed g w) (paged : Book g w book) (reached : Reached w) where
    -- what becomes of the flight
    pub follows_goes : (s : LogState) (f : FlightState) → Serves g w book s → Flying g book f s.inc s.end.seq (w.booked w.flight) w.flight w.noted
        → To w book (log.followed s f (fate_of s.groups f))
    unfolding log.restriped log.settled log.log_launch
    follows_goes s f h flying = pick Follows (nat_lt f.group.parity (lost_count s.groups f.group.members)) Restripe _
        (λ t. goes_map g w book _ _ _ (λ v later a. aloft_serves w v book later s _ fixed paged reached h a)
        (restriped_goes g w book fixed paged reached s f h.writes flying))
        (λ t. pick Follows (all_done s.groups f.noted f.group.members 0) Settle Wait
        (λ all. settling (settles_goes g w book fixed paged reached s f h flying all (rows_of f.segment)))
        (λ all. goes_map g w book _ _ _ (λ v later a. aloft_serves w v book later s _ fixed paged reached h a)
        (waits_goes g w book fixed paged reached s f h.writes flying)))
      where
        Follows : Fate → Type 0
        Follows fate = To w book (log.followed s f fate)

        after_it : LogState
        after_it = log.landed s f

        -- nothing is in flight behind a settled segment, so nothing was booked
        nothing_flies : (t : Goes g w book (ServesAs after_it) (Settled (end_of f.segment) (rows_of f.segment) ∷ [])) (x : ℕ) → t.world.booked x ≡ 1
            → x ≡ t.world.flight → w.booked x ≡ 1
        nothing_flies t x fact e = let a = (always t.world (reached_by w t.world reached t.steps t.frame.others)).shelf.texts.booked_name x fact in let b =
            t.shows.flight in absurd (omega arith)

        settling : Goes g w book (ServesAs after_it) (Settled (end_of f.segment) (rows_of f.segment) ∷ [])
            → To w book (saying (Settled (end_of f.segment) (rows_of f.segment) ∷ []) (log.log_go_on after_it))
        settling t = goes_through g (ServesAs (log.log_go_on after_it).state) (ServesAs after_it) w book _ _ t
            (λ x fact. ⊎_elim (λ old. old) (λ e. nothing_flies t x fact e) (t.fresh x fact))
            (full_goes t.world t.later (fixed_by g w t.world fixed t.frame.others) t.paged
            (reached_by w t.world reached t.steps t.frame.others) after_it t.shows)

    -- settling is looked at
    pub looks_goes : (s : LogState) (f : FlightState) → Serves g w book s → Flying g book f s.inc s.end.seq (w.booked w.flight) w.flight w.noted
        → To w book (log.looked_at s s f)
    unfolding log.looked_at
    looks_goes s f h flying =
        by_test w book fixed paged reached s (log.can_follow s f (fate_of s.groups f)) _ _ (λ t. follows_goes s f h flying)
        (λ t. nothing w book fixed paged reached s h)

  -- a place that is noted after another was noted is that one, or was noted before
  noted_set : (noted : List Bool) (index i : ℕ) → is_noted (slice_set noted index true) i ≡ true → (i ≡ index) ⊎ (is_noted noted i ≡ true)
  noted_set [] index i h = inr h
  noted_set (b ∷ bs) zero zero h = inl refl
  noted_set (b ∷ bs) zero (suc i) h = inr h
  noted_set (b ∷ bs) (suc index) zero h = inr h
  noted_set (b ∷ bs) (suc index) (suc i) h = ⊎_elim (λ same. inl (ap suc same)) inr (noted_set bs index i h)

  pub noted_still : (noted : List Bool) (table : ℕ → ℕ) (index : ℕ) → ((i : ℕ) → is_noted noted i ≡ true → table i ≡ 1) → (i : ℕ) → is_noted noted i ≡ true
      → put table index 1 i ≡ 1
  noted_still noted table index old i h = let was = old i h in grind (arith, nat_tests)

  -- some steps of the owner before
  pub goes_after : (P : State → (ℕ → Segment) → Type 0) (w v : State) (book : ℕ → Segment) (outs : List Out) → Steps w v → ByOwner g w v book book
      → ((x : ℕ) → v.booked x ≡ 1 → w.booked x ≡ 1) → v.end ≡ w.end → Goes g v book P outs → Goes g w book P outs
  goes_after P w v book outs steps by back same t =
      record {
        world = t.world;
        later = t.later;
        steps = steps_through w v t.world steps t.steps;
        frame = by_through g w v t.world book book t.later by t.frame;
        fresh = λ x fact. ⊎_elim (λ old. inl (back x old)) inr (t.fresh x fact);
        paged = t.paged;
        shows = t.shows;
        said = t.said;
        end_follows = after_end t.end_follows;
      }
    where
      after_end : EndFollows g v t.world outs → EndFollows g w t.world outs
      after_end (inl e) = inl (e ∙ same)
      after_end (inr fact) = inr fact

  pub noted_more : (noted : List Bool) (table : ℕ → ℕ) (index : ℕ) → ((i : ℕ) → is_noted noted i ≡ true → table i ≡ 1) → (i : ℕ)
      → is_noted (slice_set noted index true) i ≡ true → put table index 1 i ≡ 1
  noted_more noted table index old i h = by (noted_set noted index i h)
    where
      by : (i ≡ index) ⊎ (is_noted noted i ≡ true) → put table index 1 i ≡ 1
      by (inl same) = grind (arith, nat_tests)
      by (inr was) = noted_still noted table index old i was

  module _ (w : State) (book : ℕ → Segment) (fixed : Fixed g w) (paged : Book g w book) (reached : Reached w) where
    acked_goes : (s : LogState) (name : SegName) (index generation : ℕ) → Serves g w book s → StoredSeen g w.storeds name index generation
        → To w book (log.on_acked s name index generation)
    unfolding log.on_acked
    acked_goes s name index generation h seen = by s.flight refl h.flight
      where
        by : (o : Option FlightState) → s.flight ≡ o → FlightShown g book o s.inc s.end.seq (w.booked w.flight) w.flight w.noted
            → To w book (elim o [
              | None ↦ still s
              | Some f ↦ if flights.is_of f name index generation then log.looked_at s s (flights.flight_note f index)
                  else still s
            ])
        by None e shown = nothing w book fixed paged reached s h
        by (Some f) e shown =
            by_test w book fixed paged reached s (flights.is_of f name index generation) _ _ (λ t. noting t) (λ t. nothing w book fixed paged reached s h)
          where
            noting : flights.is_of f name index generation ≡ true → To w book (log.looked_at s s (flights.flight_note f index))
            noting t =
                let same : seen.number ≡ w.flight =
                one_number g seen.number w.flight (sym seen.named ∙ (one_name name f.segment.name (and_first (same_name name f.segment.name) _ t)
                ∙ (ap (λ (z : Segment). z.name) shown.segment ∙ (paged w.flight shown.is_booked).named))) in
                let v : State = notes w (record { name = seen.number; index = index; generation = generation }) in
                let step : Steps w v =
                More Done (Notes (record { name = seen.number; index = index; generation = generation })
                (record { sent = seen.sent; flying = shown.some; named = same })) in
                goes_after _ w v book _ step
                (record {
                  others = refl;
                  booked = λ x fact. fact;
                  segment = λ x fact. refl;
                  stores = λ p fact. fact;
                  filed = λ x fact. fact;
                  calm = λ none c. c;
                })
                (λ x fact. fact) refl
                (looks_goes v book
                (record { servers = fixed.servers; seq_of = fixed.seq_of; incarnation_of = fixed.incarnation_of; attempt_of = fixed.attempt_of }) paged
                (reached_by w v reached step refl) s (flights.flight_note f index)
                (record {
                  writes = record { log = h.writes.log; inc = h.writes.inc; some = h.writes.some; map = h.writes.map; known = h.writes.known };
                  phase = h.phase;
                  end = h.end;
                  end_seq = h.end_seq;
                  flight = subst (λ o. FlightShown g book o s.inc s.end.seq (w.booked w.flight) w.flight (put w.noted index 1)) (sym e)
                      (record {
                        some = shown.some;
                        is_booked = shown.is_booked;
                        segment = shown.segment;
                        stripe = shown.stripe;
                        own = shown.own;
                        next = shown.next;
                        notes = noted_still f.noted w.noted index shown.notes;
                      });
                })
                (record {
                  some = shown.some;
                  is_booked = shown.is_booked;
                  segment = shown.segment;
                  stripe = shown.stripe;
                  own = shown.own;
                  next = shown.next;
                  notes = noted_more f.noted w.noted index shown.notes;
                }))

    -- a map is learned
    pub maps_goes : (s : LogState) (m : GroupMapState) → Serves g w book s → MapSeen g w.registry_generation m → To w book (log.on_maps s m)
    unfolding log.on_maps log.looked_at
    maps_goes s m h seen = by s.flight refl h.flight
      where
        v : State
        v = learns w (present_at m)

        step : Steps w v
        step = More Done (Learns (present_at m) (record { known = seen.past }))

        frame : ByOwner g w v book book
        frame = record { others = refl; booked = λ x fact. fact; segment = λ x fact. refl; stores = λ p fact. fact; filed = λ x fact. fact; calm = λ none c. c }

        shown_there : Serves g v book (record s { groups = m })
        shown_there =
            record {
              writes = record { log = h.writes.log; inc = h.writes.inc; some = h.writes.some; map = seen.whole; known = λ u. refl };
              phase = h.phase;
              end = h.end;
              end_seq = h.end_seq;
              flight = h.flight;
            }

        fixed_there : Fixed g v
        fixed_there = record { servers = fixed.servers; seq_of = fixed.seq_of; incarnation_of = fixed.incarnation_of; attempt_of = fixed.attempt_of }

        by : (o : Option FlightState) → s.flight ≡ o → FlightShown g book o s.inc s.end.seq (w.booked w.flight) w.flight w.noted
            → To w book (elim o [ None ↦ still (record s { groups = m }) | Some f ↦ log.looked_at s (record s { groups = m }) f ])
        by None e shown =
            goes_after _ w v book [] step frame (λ x fact. fact) refl
            (nothing v book fixed_there paged (reached_by w v reached step refl) (record s { groups = m }) shown_there)
        by (Some f) e shown = by_test w book fixed paged reached s (log.can_follow (record s { groups = m }) f (fate_of m f)) _ _
            (λ t. goes_after _ w v book _ step frame (λ x fact. fact) refl
            (follows_goes v book fixed_there paged (reached_by w v reached step refl) (record s { groups = m }) f shown_there shown))
            (λ t. nothing w book fixed paged reached s h)

pub takes_inputs : TakesInputs
takes_inputs g w book s (Put block entry value) fixed reached paged h brings =
    put_goes g w book fixed paged reached s block (record { entry = entry; value = value }) h
takes_inputs g w book s (Parts items) fixed reached paged h brings = parts_goes g w book fixed paged reached s items h
takes_inputs g w book s Seal fixed reached paged h brings = seal_goes g w book fixed paged reached s h
takes_inputs g w book s (Acked name index generation) fixed reached paged h brings = acked_goes g w book fixed paged reached s name index generation h brings
takes_inputs g w book s (Maps m) fixed reached paged h brings = maps_goes g w book fixed paged reached s m h brings
takes_inputs g w book s Tick fixed reached paged h brings = tick_goes g w book fixed paged reached s h
