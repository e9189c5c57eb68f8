-- A segment is written: its name is booked, and its Stores are sent.
use Rattle.std.proofs.Common.{◌≡◌, ℕ, zero, suc, ◌+◌, false, List, length, refl, sym, ap, ◌∙◌, arith, inl}
use Rattle.std.specs.Prelude.{replicate, slice_index_or}
use Rattle.std.proofs.lemmas.Bool.Decides.{nat_tests}
use Rattle.xfs_base.specs.declared.segment.SegName.{SegName}
use Rattle.segment_format.specs.declared.segment.Item.{Item}
use Rattle.segment_format.specs.declared.segment.Segment.{Segment}
use Rattle.log_protocol.specs.State.{State}
use Rattle.log_protocol.specs.OwnerSteps.{CanSeal}
use Rattle.log_protocol.specs.Step.{Steps}
use Rattle.log_protocol.specs.Step.Step.{Seals}
use Rattle.log_protocol.specs.Step.Steps.{Done, More}
use Rattle.log_protocol.specs.LogLaws.{Reached}
use Rattle.log_protocol.specs.Packets.{StorePacket}
use Rattle.log_protocol.proofs.Induction.{always}
use Rattle.log_protocol.proofs.NewNames.{new_seal}
use Rattle.group_map.specs.declared.group.Group as groups
use Rattle.log_flight.specs.Flights as flights
use Rattle.log_flight.specs.Flights.{FlightState, is_noted, none_noted, server_of}
use Rattle.client_log.specs.LogState.{LogState}
use Rattle.client_log.specs.Transition as log
use Rattle.xfs_base.proofs.Booleans.{contrary}
use Rattle.log_tie.specs.Setting.{Setting, stripe_of_group, point, IsStripe}
use Rattle.log_tie.specs.Seen.{Book, Serves, ByOwner, BooksItsFlight, Goes, Fixed}
use Rattle.log_tie.proofs.Names.{some_number, name_coded}
use Rattle.log_tie.proofs.Frames.{steps_through}
use Rattle.log_tie.proofs.Sending.{sent_all}
use Rattle.log_tie.proofs.Booking.{books_one, with_page, page_here, booked_state, stripe_group, by_booking, booked_pages}

-- nothing is noted of a segment that was written just now
pub nothing_noted : (i : ℕ) → is_noted none_noted i ≡ false
nothing_noted i = none 8 i
  where
    none : (n i : ℕ) → slice_index_or (replicate n false) i false ≡ false
    none zero i = refl
    none (suc n) zero = refl
    none (suc n) (suc i) = none n i

module _ (g : Setting) (w : State) (book : ℕ → Segment) (fixed : Fixed g w) (paged : Book g w book) where
  -- a state with a new name booked: what is shown once its Stores were sent
  -- (v is the state after the step that booked, u the same with the Stores)
  pub launch : (P : State → (ℕ → Segment) → Type 0) (v : State) (later : ℕ → Segment) (f : FlightState) (x : ℕ) → Steps w v → ByOwner g w v book later
      → BooksItsFlight w v → v.end ≡ w.end → Book g v later → v.booked x ≡ 1 → f.segment ≡ later x → stripe_of_group f.group ≡ g.stripe (later x).group
      → ((stores : List StorePacket) → P (record v { stores = stores }) later) → Goes g w book P (log.sending_send f)
  launch P v later f x steps by fresh same_end pages booked segment stripe shows =
      let t = sent_all g v later f x booked segment stripe pages in record {
        world = record v { stores = t.all };
        later = later;
        steps = steps_through w v _ steps t.steps;
        frame = record {
          others = by.others;
          booked = by.booked;
          segment = by.segment;
          stores = λ p fact. t.grown p (by.stores p fact);
          filed = by.filed;
          calm = by.calm;
        };
        fresh = fresh;
        paged = pages;
        shows = shows t.all;
        said = t.said;
        end_follows = inl same_end;
      }

  module _ (reached : Reached w) (s : LogState) where
    abbrev x : ℕ
    x = g.code (s.end.seq + 1) s.inc 1

    abbrev fresh_name : SegName
    fresh_name = log.next_name s

    -- the log writes its next segment
    pub writes_goes : (items : List Item) → Serves g w book s → w.flight ≡ 0 → (dirty : List _)
        → Goes g w book (λ v later. Serves g v later (log.log_write (record s { dirty = dirty }) items).state) (log.log_write (record s { dirty = dirty }) items).outs
    unfolding log.log_launch
    writes_goes items shown idle dirty =
        launch _ v later f x (More Done (Seals x _ _ _ _ can)) by (books_one w x) refl pages booked (sym here)
        (sym (fact.named) ∙ ap (λ (z : Segment). g.stripe z.group) (sym here)) (λ stores. record {
          writes = record { log = shown.writes.log; inc = shown.writes.inc; some = shown.writes.some; map = shown.writes.map; known = shown.writes.known };
          phase = shown.phase;
          end = shown.end;
          end_seq = shown.end_seq;
          flight = record {
            some = can.named;
            is_booked = booked;
            segment = sym here;
            stripe = sym (fact.named) ∙ ap (λ (z : Segment). g.stripe z.group) (sym here);
            own = ap (λ (z : Segment). z.name.pass.inc) here;
            next = ap (λ (z : Segment). z.name.seq) here;
            notes = λ i noted. contrary (sym (nothing_noted i) ∙ noted);
          };
        })
      where
        group : groups.Group
        group = flights.group_for s.groups s.log.0 (s.end.seq + 1)

        f : FlightState
        f = flights.flown fresh_name (log.prior_from s.end) items group

        fact : IsStripe g s.groups group
        fact = shown.writes.map s.log.0 (s.end.seq + 1)

        v : State
        v = booked_state g w book x f.segment group s.groups w.end (g.content items)

        later : ℕ → Segment
        later = with_page book x f.segment

        seq : w.seq_of x ≡ s.end.seq + 1
        seq = ap (λ k. k x) fixed.seq_of ∙ g.its_seq _ _ _

        can : CanSeal w x (length group.members) (server_of group.members)
        can = record {
          serving = shown.phase;
          no_flight = idle;
          named = some_number g x (let e = g.its_seq (s.end.seq + 1) s.inc 1 in omega arith);
          next = let e = ap (λ k. k w.end) fixed.seq_of in let d = shown.end_seq in let q = seq in omega arith;
          own = ap (λ k. k x) fixed.incarnation_of ∙ (g.its_incarnation _ _ _ ∙ shown.writes.inc);
          group = stripe_group g w book x f.segment group s.groups w.end (g.content items) fixed.servers fact;
        }

        new : w.booked x ≡ 1 → ⊥
        new = new_seal w x _ _ can (always w reached).shelf.boots

        pages : Book g v later
        pages = booked_pages g w book x f.segment group s.groups w.end (g.content items)
            (sym (name_coded g (s.end.seq + 1) s.inc 1
            ∙ ap (λ l. record { log = l; seq = s.end.seq + 1; pass = record { inc = s.inc; att = 1 } }) (sym shown.writes.log)))
            shown.writes.some refl (shown.end ∙ ap (λ q. point g q s.end.pass) (omega arith)) refl fact shown.writes.known paged

        booked : v.booked x ≡ 1
        booked = grind (arith, nat_tests)

        here : later x ≡ f.segment
        here = page_here book x f.segment

        by : ByOwner g w v book later
        by = by_booking g w book x f.segment group s.groups w.end (g.content items) w.phase w.spanning new
