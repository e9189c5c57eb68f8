-- A run exists: the owner writes a segment, the three servers of its group keep its fragments, and it is filed.
use Rattle.log_tie.specs.Seen.{log_filed}
use Rattle.log_flight.specs.Flights as flights
use Rattle.log_flight.specs.Flights.{FlightState, none_noted}
use Rattle.log_flight.specs.Fragments.{flight_fragment}
use Rattle.client_log.specs.declared.output.Out.TheVariants.{Settled}
use Rattle.segment_format.specs.Rows.{rows_of}
use Rattle.std.proofs.lemmas.Bool.Decides.{nat_tests}
use Rattle.std.proofs.Common.{◌≡◌, ℕ, ◌<◌, Bool, true, false, cond, nat_lt, List, [], ◌∷◌, ◌++◌, Some, refl, sym, ap, subst, ◌∙◌, inl, inr, arith, ◌==◌}
use Rattle.std.specs.Prelude.{slice_set}
use Rattle.std.specs.List.{list_all}
use Rattle.std.proofs.lemmas.List.Elements.{All-nil, All-cons}
use Rattle.xfs_base.specs.declared.segment.SegName.{SegName}
use Rattle.xfs_base.proofs.Booleans.{and_first, and_second}
use Rattle.segment_format.specs.declared.segment.Segment.{Segment}
use Rattle.segment_format.specs.Text.{text_of}
use Rattle.stripe_code.specs.Stripe.{IsBytes}
use Rattle.fragment_store.specs.ShelfState.{ShelfState, new_shelf}
use Rattle.client_log.specs.declared.input.In.TheVariants as log_in
use Rattle.client_log.specs.LogState.{LogState, log_start}
use Rattle.client_log.specs.Transition as log
use Rattle.log_protocol.specs.Tables.{put, In}
use Rattle.log_tie.specs.Shelves.{shelf_after, Deed}
use Rattle.log_tie.specs.Shelves.Deed.{Stores}
use Rattle.log_tie.proofs.Exist.{setting, the_map, group, whole_map}
use Rattle.log_law.specs.Net.{Packet, Net, no_end, opening, answers, after_log, log_packets}
use Rattle.log_law.specs.Net.Packet.{StoreSent, StoredSent}
use Rattle.log_law.specs.Net.Owner.{Serving}
use Rattle.log_law.specs.Events.{IsWritten, Runs, WritesText}
use Rattle.log_law.specs.Events.Happens.{Acts, Serves}
use Rattle.log_law.specs.Events.Runs.{Begun, On}
use Rattle.log_law.specs.Laws.{SomeSegmentFiled}

-- ---- the segment

abbrev pub first_log : LogState
first_log = log_start setting.log 1 no_end the_map

abbrev pub name : SegName
name = record { log = setting.log; seq = 1; pass = record { inc = 1; att = 1 } }

abbrev pub segment : Segment
segment = record { name = name; prior = record { pass = record { inc = 0; att = 0 }; group = 0 }; group = 1; items = [] }

abbrev pub flight : List Bool → FlightState
flight noted = record { segment = segment; group = group; noted = noted }

abbrev pub writing : List Bool → LogState
writing noted = record first_log { flight = Some (flight noted) }

pub all_bytes : (xs : List ℕ) → list_all (λ b. nat_lt b 256) xs ≡ true → IsBytes xs
all_bytes [] t = All-nil (λ b. b < 256)
all_bytes (x ∷ xs) t =
    All-cons (λ b. b < 256) x xs (less x (and_first (nat_lt x 256) (list_all (λ b. nat_lt b 256) xs) t))
    (all_bytes xs (and_second (nat_lt x 256) (list_all (λ b. nat_lt b 256) xs) t))
  where
    less : (x : ℕ) → nat_lt x 256 ≡ true → x < 256
    less x t = grind (arith, nat_tests)

pub written : IsWritten segment
written = record {
  fits = record { name = (omega arith, (omega arith, omega arith)); prior = ((omega arith, omega arith), omega arith); group = omega arith; items = tt };
  text = record { limits = record { log = (omega arith, omega arith); items = tt; others = omega arith; deltas = omega arith; rule = tt }; spelled = refl };
  bytes = all_bytes (text_of segment) refl;
}

-- ---- what the log does

-- it writes the segment
pub starts : log.transition first_log (log_in.Parts []) ≡ record { state = writing none_noted; outs = log.sending_send (flight none_noted) }
unfolding log.on_parts log.log_launch flights.group_for
starts = refl

abbrev noted_one : List Bool
noted_one = slice_set none_noted 0 true

abbrev noted_two : List Bool
noted_two = slice_set noted_one 1 true

-- it notes the first two members, and settles with the third
notes_first : log.transition (writing none_noted) (log_in.Acked name 0 1) ≡ record { state = writing noted_one; outs = [] }
unfolding log.on_acked log.looked_at
notes_first = refl

notes_second : log.transition (writing noted_one) (log_in.Acked name 1 1) ≡ record { state = writing noted_two; outs = [] }
unfolding log.on_acked log.looked_at
notes_second = refl

settles : log.transition (writing noted_two)
    (log_in.Acked name 2 1) ≡ record { state = record first_log { end = log.end_of segment }; outs = Settled (log.end_of segment) (rows_of segment) ∷ [] }
unfolding log.on_acked log.looked_at log.settled log.log_go_on
settles = refl

-- ---- the run, by stages

abbrev pub store : ℕ → ℕ → Packet
store v place = StoreSent v (flight_fragment segment group place) 1

abbrev pub stored : ℕ → Packet
stored place = StoredSent name place 1

-- what was sent, and which servers are as they were at first
pub record Stage (noted : List Bool) (told : List Packet) (fresh : List ℕ) : Type 0 where
  pub net : Net
  pub run : Runs setting (opening setting the_map) net
  pub owner : net.owner ≡ Serving (writing noted)
  pub sent : (p : Packet) → In p told → In p net.sent
  pub shelves : (v : ℕ) → In v fresh → net.shelves v ≡ new_shelf

abbrev pub stores : List Packet
stores = store 1 0 ∷ store 2 1 ∷ store 3 2 ∷ []

pub sends_all : log_packets (log.sending_send (flight none_noted)) ≡ stores
unfolding log.sending_send
sends_all = refl

first_stage : Stage none_noted stores (1 ∷ 2 ∷ 3 ∷ [])
first_stage = record {
  net = after_log setting (opening setting the_map) (log.transition first_log (log_in.Parts []));
  run = On Begun (Acts first_log (log_in.Parts []) refl tt (subst WritesText (sym starts) written));
  owner = ap (λ (d : log.Done). Serving d.state) starts;
  sent = λ p fact. in_more (log_packets (log.transition first_log (log_in.Parts [])).outs) p
      (subst (In p) (sym (ap (λ (d : log.Done). log_packets d.outs) starts ∙ sends_all)) fact);
  shelves = λ v fact. refl;
}
  where
    in_more : (ps : List Packet) (p : Packet) → In p ps → In p (ps ++ [])
    in_more [] p fact = absurd fact
    in_more (q ∷ qs) p (inl e) = inl e
    in_more (q ∷ qs) p (inr fact) = inr (in_more qs p fact)

in_after : (ps qs : List Packet) (p : Packet) → In p qs → In p (ps ++ qs)
in_after [] qs p fact = fact
in_after (x ∷ ps) qs p fact = inr (in_after ps qs p fact)

-- an empty shelf keeps the fragment
answer : (v place : ℕ) (s : ShelfState) → s ≡ new_shelf → answers setting v s (Stores (flight_fragment segment group place) 1) ≡ stored place ∷ []
unfolding flight_fragment
answer v place s fact = subst (λ z. answers setting v z (Stores (flight_fragment segment group place) 1) ≡ stored place ∷ []) (sym fact) refl

-- a server keeps what a Store brings
keeps : (noted : List Bool) (told : List Packet) (v place : ℕ) (fresh : List ℕ) → 0 < v → ((u : ℕ) → In u fresh → (u == v) ≡ false) → In (store v place) told
    → Stage noted told (v ∷ fresh) → Stage noted (stored place ∷ told) fresh
keeps noted told v place fresh some others fact s = record {
  net = record s.net {
    shelves = put s.net.shelves v (shelf_after setting (s.net.shelves v) deed);
    sent = answers setting v (s.net.shelves v) deed ++ s.net.sent;
  };
  run = On s.run (Serves v deed some (λ own. s.sent (store v place) fact));
  owner = s.owner;
  sent = sent;
  shelves = λ u among. ap (λ t. cond t (shelf_after setting (s.net.shelves v) deed) (s.net.shelves u)) (others u among) ∙ s.shelves u (inr among);
}
  where
    deed : Deed
    deed = Stores (flight_fragment segment group place) 1

    sent : (p : Packet) → In p (stored place ∷ told) → In p (answers setting v (s.net.shelves v) (Stores (flight_fragment segment group place) 1) ++ s.net.sent)
    sent p (inl e) = subst (λ ps. In p (ps ++ s.net.sent)) (sym (answer v place (s.net.shelves v) (s.shelves v (inl refl)))) (inl e)
    sent p (inr among) = in_after (answers setting v (s.net.shelves v) (Stores (flight_fragment segment group place) 1)) s.net.sent p (s.sent p among)

-- a Stored is noted
notes : (noted more : List Bool) (told : List Packet) (place : ℕ) → In (stored place) told
    → log.transition (writing noted) (log_in.Acked name place 1) ≡ record { state = writing more; outs = [] } → Stage noted told [] → Stage more told []
notes noted more told place fact e s = record {
  net = after_log setting s.net (log.transition (writing noted) (log_in.Acked name place 1));
  run = On s.run (Acts (writing noted) (log_in.Acked name place 1) s.owner (s.sent (stored place) fact) (subst WritesText (sym e) written));
  owner = ap (λ (d : log.Done). Serving d.state) e;
  sent = λ p among. in_after (log_packets (log.transition (writing noted) (log_in.Acked name place 1)).outs) s.net.sent p (s.sent p among);
  shelves = λ v among. absurd among;
}

abbrev all_stored : List Packet
all_stored = stored 2 ∷ stored 1 ∷ stored 0 ∷ stores

stored_stage : Stage none_noted all_stored []
stored_stage =
    keeps none_noted (stored 1 ∷ stored 0 ∷ stores) 3 2 [] (omega arith) (λ u fact. absurd fact) (inr (inr (inr (inr (inl refl)))))
    (keeps none_noted (stored 0 ∷ stores) 2 1 (3 ∷ []) (omega arith) three (inr (inr (inl refl)))
    (keeps none_noted stores 1 0 (2 ∷ 3 ∷ []) (omega arith) two_three (inl refl) first_stage))
  where
    three : (u : ℕ) → In u (3 ∷ []) → (u == 2) ≡ false
    three u (inl e) = ap (λ z. z == 2) e
    three u (inr fact) = absurd fact

    two_three : (u : ℕ) → In u (2 ∷ 3 ∷ []) → (u == 1) ≡ false
    two_three u (inl e) = ap (λ z. z == 1) e
    two_three u (inr (inl e)) = ap (λ z. z == 1) e
    two_three u (inr (inr fact)) = absurd fact

noted_stage : Stage noted_two all_stored []
noted_stage =
    notes noted_one noted_two all_stored 1 (inr (inl refl)) notes_second
    (notes none_noted noted_one all_stored 0 (inr (inr (inl refl))) notes_first stored_stage)

pub some_segment_filed : SomeSegmentFiled
some_segment_filed = filed noted_stage
  where
    filed : Stage noted_two all_stored [] → SomeSegmentFiled
    filed s = (
      setting,
      after_log setting s.net (log.transition (writing noted_two) (log_in.Acked name 2 1)),
      record {
        map = the_map;
        whole = whole_map;
        run = On s.run (Acts (writing noted_two) (log_in.Acked name 2 1) s.owner (s.sent (stored 2) (inl refl)) (subst WritesText (sym settles) tt));
      },
      (name, subst (λ (d : log.Done). In name (log_filed setting.log d.outs ++ s.net.filed)) (sym settles) (inl refl)),
    )
