-- What an opening does whose owner fell with one segment in flight, which each member kept: it gathers the lists, picks the segment and reads it back.
use Rattle.std.proofs.Common.{◌≡◌, ℕ, [], ◌∷◌, List, Some, refl, ap}
use Rattle.xfs_base.specs.declared.news.SlotNews.{SlotNews}
use Rattle.xfs_base.specs.declared.segment.End.{End}
use Rattle.segment_format.specs.declared.seg_error.SegError.{SegError}
use Rattle.segment_format.specs.Text.{text_of}
use Rattle.segment_format.specs.ReadingItems.{answer_of}
use Rattle.segment_format.proofs.SegmentLaws.{answer_again}
use Rattle.segment_reading.specs.Reading as reading
use Rattle.segment_reading.specs.Reading.{ReadingState}
use Rattle.stripe_code.specs.declared.round.Told.TheVariants as told
use Rattle.stripe_code.specs.Fragments.{meta_of}
use Rattle.stripe_code.specs.Joined.{joined}
use Rattle.stripe_code.specs.Round as round
use Rattle.stripe_code.specs.Stripe.{stripe_of}
use Rattle.log_flight.specs.Flights as flights
use Rattle.log_flight.specs.Flights.{FlightState, none_noted}
use Rattle.log_flight.specs.Fragments.{flight_fragment}
use Rattle.log_scan.specs.declared.input.In.TheVariants as scan_in
use Rattle.log_scan.specs.declared.listing.Listing.{Listing}
use Rattle.log_scan.specs.declared.opening.Opening.{Opening}
use Rattle.log_scan.specs.declared.output.Out.TheVariants as scan_out
use Rattle.log_scan.specs.declared.stage.Backward.{Backward}
use Rattle.log_scan.specs.declared.stage.Stage.TheVariants.{Gathers, Asks, Reads, Over}
use Rattle.log_scan.specs.ScanState.{ScanState, opening_begin, scan_start}
use Rattle.log_scan.specs.Transition as scan
use Rattle.log_tie.proofs.Exist.{setting, the_map, group}
use Rattle.client_log.specs.declared.output.Out.TheVariants.{Settled}
use Rattle.segment_format.specs.Rows.{rows_of}
use Rattle.segment_format.specs.declared.segment.Segment.{Segment}
use Rattle.xfs_base.specs.declared.segment.SegName.{SegName}
use Rattle.client_log.specs.declared.input.In.TheVariants as log_in
use Rattle.client_log.specs.LogState.{LogState, log_start as new_log}
use Rattle.client_log.specs.Transition as log
use Rattle.std.specs.Prelude.{Bool, slice_set, true, Ok, Result}
use Rattle.std.proofs.Common.{arith}
use Rattle.log_law.specs.Events.{IsWritten}
use Rattle.log_law.specs.Net.{log_packets, first_write}
use Rattle.log_law.specs.Net.Packet.{StoreSent}
use Rattle.log_law.proofs.Running.{segment, all_bytes, written}

-- ---- what comes

-- the news of a slot whose checkpoint covers nothing
abbrev pub news : List SlotNews
news = record { slot = 0; epoch = 1; manager = 10; parts = []; horizon = [] } ∷ []

-- what a server lists
abbrev pub list_of : ℕ → ℕ → Listing
list_of server place = record { server = server; generation = 1; held = meta_of segment place ∷ [] }

-- ---- where it stands

abbrev pub hailing : ScanState
hailing = scan_start setting.log 2

abbrev pub gathered : Opening
gathered = record (opening_begin setting.log 2) { groups = Some the_map }

abbrev pub gathering : List Listing → ScanState
gathering lists = record { opening = gathered; stage = Gathers lists }

abbrev pub all_lists : List Listing
all_lists = list_of 1 0 ∷ list_of 2 1 ∷ list_of 3 2 ∷ []

abbrev pub asking : ScanState
asking = record { opening = record gathered { ask = 2 }; stage = Asks all_lists }

abbrev pub start : End
start = record { seq = 1; pass = segment.name.pass; group = 1 }

abbrev backward : Backward
backward = record { start = start; next = start; chain = [] }

abbrev pub first_round : ReadingState
first_round = reading.reading_start (scan.target_at setting.log start) group 3

abbrev now : Opening
now = record gathered { ask = 3 }

abbrev pub reading_back : ScanState
reading_back = record { opening = now; stage = Reads backward (Some first_round) }

abbrev pub one_in : ScanState
one_in = record {
  opening = now;
  stage = Reads backward
      (Some (record first_round { round = record first_round.round { answers = record { server = 1; told = told.Held (flight_fragment segment group 0) } ∷ [] } }));
}

abbrev pub over : ScanState
over = record { opening = now; stage = Over }

-- ---- what it does

pub asks_first : scan.transition hailing scan_in.Tick ≡ record { state = hailing; outs = scan_out.Hello 1 ∷ [] }
unfolding scan.on_tick
asks_first = refl

pub fences_all : scan.transition hailing
    (scan_in.Welcome 1 news the_map) ≡ record { state = gathering []; outs = scan_out.Fence 1 ∷ scan_out.Fence 2 ∷ scan_out.Fence 3 ∷ [] }
unfolding scan.on_welcome
fences_all = refl

pub keeps_one : scan.transition (gathering []) (scan_in.Fenced 1 1 (meta_of segment 0 ∷ [])) ≡ record { state = gathering (list_of 1 0 ∷ []); outs = [] }
unfolding scan.on_fenced scan.with_list
keeps_one = refl

pub keeps_two : scan.transition (gathering (list_of 1 0 ∷ []))
    (scan_in.Fenced 2 1 (meta_of segment 1 ∷ [])) ≡ record { state = gathering (list_of 1 0 ∷ list_of 2 1 ∷ []); outs = [] }
unfolding scan.on_fenced scan.with_list
keeps_two = refl

pub asks_second : scan.transition (gathering (list_of 1 0 ∷ list_of 2 1 ∷ []))
    (scan_in.Fenced 3 1 (meta_of segment 2 ∷ [])) ≡ record { state = asking; outs = scan_out.Hello 2 ∷ [] }
unfolding scan.on_fenced scan.with_list
asks_second = refl

pub picks_it : scan.transition asking (scan_in.Welcome 2 news the_map) ≡ record { state = reading_back; outs = scan.backward_fetch first_round }
unfolding scan.on_welcome scan.opening_pick scan.opening_follow scan.opening_begin_round
picks_it = refl

pub hears_one : scan.transition reading_back (scan_in.Got 3 1 1 (flight_fragment segment group 0)) ≡ record { state = one_in; outs = [] }
unfolding scan.on_told scan.opening_go_on reading.reading_take round.round_take round.state_of flight_fragment stripe_of
hears_one = refl

-- with the second fragment the text is whole
abbrev both_in : ReadingState
both_in = record first_round {
  round =
      record first_round.round {
        answers = record { server = 1; told = told.Held (flight_fragment segment group 0) }
            ∷ record { server = 2; told = told.Held (flight_fragment segment group 1) } ∷ [];
      };
}

abbrev heard : reading.Step → scan.Done
heard step = scan.opening_go_on now backward step.state step.next

found : answer_of (text_of segment) ≡ Ok segment
found = answer_again (text_of segment) segment written.fits written.text

pub hears_two : scan.transition one_in
    (scan_in.Got 3 2 1 (flight_fragment segment group 1)) ≡ record { state = over; outs = scan_out.Chain (segment ∷ []) start (scan.prior_at start) ∷ [] }
unfolding scan.on_told scan.opening_go_on scan.opening_follow reading.reading_take round.round_take round.state_of joined flight_fragment stripe_of
hears_two = ap (λ (a : Result Segment SegError). heard (reading.reading_reads both_in (reading.segment_found both_in.target the_map a))) found

-- ---- the opening segment

abbrev pub opening_name : SegName
opening_name = record { log = setting.log; seq = 2; pass = record { inc = 2; att = 1 } }

abbrev pub opening_segment : Segment
opening_segment = record { name = opening_name; prior = record { pass = record { inc = 1; att = 1 }; group = 1 }; group = 1; items = [] }

abbrev pub opening_flight : List Bool → FlightState
opening_flight noted = record { segment = opening_segment; group = group; noted = noted }

abbrev pub opening_log : List Bool → LogState
opening_log noted = record (new_log setting.log 2 start the_map) { flight = Some (opening_flight noted) }

pub opening_written : IsWritten opening_segment
opening_written = record {
  fits = record { name = (omega arith, (omega arith, omega arith)); prior = ((omega arith, omega arith), omega arith); group = omega arith; items = tt };
  text = record { limits = record { log = (omega arith, omega arith); items = tt; others = omega arith; deltas = omega arith; rule = tt }; spelled = refl };
  bytes = all_bytes (text_of opening_segment) refl;
}

pub opens_with : first_write setting 2 start the_map ≡ record { state = opening_log none_noted; outs = log.sending_send (opening_flight none_noted) }
unfolding log.on_parts log.log_launch flights.group_for
opens_with = refl

pub opening_sends : log_packets (log.sending_send (opening_flight none_noted)) ≡ StoreSent 1 (flight_fragment opening_segment group 0) 1 ∷ StoreSent 2
    (flight_fragment opening_segment group 1) 1 ∷ StoreSent 3 (flight_fragment opening_segment group 2) 1 ∷ []
unfolding log.sending_send
opening_sends = refl

abbrev pub noted_one : List Bool
noted_one = slice_set none_noted 0 true

abbrev pub noted_two : List Bool
noted_two = slice_set noted_one 1 true

pub notes_first : log.transition (opening_log none_noted) (log_in.Acked opening_name 0 1) ≡ record { state = opening_log noted_one; outs = [] }
unfolding log.on_acked log.looked_at
notes_first = refl

pub notes_second : log.transition (opening_log noted_one) (log_in.Acked opening_name 1 1) ≡ record { state = opening_log noted_two; outs = [] }
unfolding log.on_acked log.looked_at
notes_second = refl

pub settles : log.transition (opening_log noted_two)
    (log_in.Acked opening_name 2 1)
    ≡ record {
      state = new_log setting.log 2 (log.end_of opening_segment) the_map;
      outs = Settled (log.end_of opening_segment) (rows_of opening_segment) ∷ [];
    }
unfolding log.on_acked log.looked_at log.settled log.log_go_on
settles = refl
