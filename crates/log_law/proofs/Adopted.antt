-- A run in which a tail is adopted: the owner falls with its first segment in flight, restarts, reads it back, and serves again with it filed.
use Rattle.std.proofs.Common.{◌≡◌, ℕ, true, false, List, [], ◌∷◌, ◌++◌, Some, refl, sym, ap, subst, ◌∙◌, inl, inr, arith}
use Rattle.fragment_store.specs.ShelfState.{ShelfState, new_shelf}
use Rattle.stripe_code.specs.Fragments.{meta_of}
use Rattle.log_flight.specs.Flights.{none_noted}
use Rattle.log_flight.specs.Fragments.{flight_fragment}
use Rattle.client_log.specs.declared.input.In.TheVariants as log_in
use Rattle.client_log.specs.LogState.{log_start as new_log}
use Rattle.client_log.specs.Transition as log
use Rattle.log_scan.specs.declared.input.In as scan_ins
use Rattle.log_scan.specs.declared.input.In.TheVariants as scan_in
use Rattle.log_scan.specs.declared.output.Out.TheVariants as scan_out
use Rattle.log_scan.specs.Transition as scan
use Rattle.log_protocol.specs.Tables.{In, put}
use Rattle.log_tie.specs.Setting.{Setting}
use Rattle.log_tie.specs.Scans.{WholeMap}
use Rattle.log_tie.specs.Seen.{log_filed}
use Rattle.log_tie.specs.Shelves.{Deed, shelf_after}
use Rattle.log_tie.specs.Shelves.Deed.{Stores, Fetches, Fences}
use Rattle.log_tie.proofs.Exist.{setting, the_map, group}
use Rattle.log_law.specs.Net.{Packet, Owner, Net, no_end, opening, answers, first_write, after_log, after_scan, after_told, after_writing, log_packets}
use Rattle.log_law.specs.Net.Packet.{StoreSent, StoredSent, FragmentSent, FenceSent, FencedSent, MapSent, HelloSent, WelcomeSent}
use Rattle.log_law.specs.Net.Owner.{Down, Opening, Writing, Serving}
use Rattle.log_law.specs.Events.{CanStart, WritesText, Happens}
use Rattle.log_law.specs.Events.Happens.{Acts, Writes, Opens, Crashes, Renews, Publishes}
use Rattle.log_law.specs.Events.Runs.{Begun, On}
use Rattle.log_law.specs.Restarts.{is_serving, is_writing, flight_in, last_flight}
use Rattle.log_law.specs.Runs.{ATailAdopted, ALogRenewed, SomeRestarts}
use Rattle.log_law.proofs.Reopening.{news, hailing, gathering, list_of, asking, reading_back, one_in, over, start, asks_first, fences_all, keeps_one, keeps_two, asks_second, picks_it, hears_one, hears_two, opening_name, opening_segment, opening_flight, opening_log, opening_written, opens_with, opening_sends, notes_first, notes_second, settles, noted_one, noted_two}
use Rattle.log_law.proofs.Running.{segment, name, written, flight, writing, first_log, starts, stores, sends_all}
use Rattle.log_law.proofs.Stages.{calm, variant, variant_map, Stage, calm_on, forget, serves, crashes, restarts, publishes, welcomes, scans, notes}

-- ---- the segment is in flight

in_more : (ps : List Packet) (p : Packet) → In p ps → In p (ps ++ [])
in_more [] p fact = absurd fact
in_more (q ∷ qs) p (inl e) = inl e
in_more (q ∷ qs) p (inr fact) = inr (in_more qs p fact)

in_first : (ps qs : List Packet) (p : Packet) → In p ps → In p (ps ++ qs)
in_first [] qs p fact = absurd fact
in_first (q ∷ ps) qs p (inl e) = inl e
in_first (q ∷ ps) qs p (inr fact) = inr (in_first ps qs p fact)

abbrev empty : ℕ → ShelfState
empty v = new_shelf

sends_none : log_filed setting.log (log.sending_send (flight none_noted)) ++ [] ≡ []
unfolding log.sending_send
sends_none = refl

flies : Stage 1 (Serving (writing none_noted)) stores empty
flies = record {
  net = after_log calm (opening calm the_map) (log.transition first_log (log_in.Parts []));
  run = On Begun acts;
  sure = (tt, λ ends d. absurd (no_start ends.0));
  boot = refl;
  low = refl;
  registry = refl;
  is_owner = ap (λ (d : log.Done). Serving d.state) starts;
  sent = λ p fact. in_more (log_packets (log.transition first_log (log_in.Parts [])).outs) p
      (subst (In p) (sym (ap (λ (d : log.Done). log_packets d.outs) starts ∙ sends_all)) fact);
  shelves = λ v. refl;
  filed = ap (λ (d : log.Done). log_filed setting.log d.outs ++ []) starts ∙ sends_none;
  last = ap (λ (d : log.Done). d.state.flight) starts;
  stays = refl;
}
  where
    acts : Happens calm (opening calm the_map) (after_log calm (opening calm the_map) (log.transition first_log (log_in.Parts [])))
    acts = Acts first_log (log_in.Parts []) refl tt (subst WritesText (sym starts) written)

    no_start : false ≡ true → ⊥
    no_start e = cc

-- ---- each member keeps its fragment

abbrev stores_at : ℕ → Deed
stores_at place = Stores (flight_fragment segment group place) 1

abbrev kept_one : ℕ → ShelfState
kept_one = put empty 1 (shelf_after calm new_shelf (stores_at 0))

abbrev kept_two : ℕ → ShelfState
kept_two = put kept_one 2 (shelf_after calm new_shelf (stores_at 1))

abbrev kept_all : ℕ → ShelfState
kept_all = put kept_two 3 (shelf_after calm new_shelf (stores_at 2))

answer : (v place : ℕ) → answers calm v new_shelf (stores_at place) ≡ StoredSent name place 1 ∷ []
unfolding flight_fragment
answer v place = refl

fallen : Stage 2 (Opening hailing) [] kept_all
fallen = restarts (crashes (forget third [] (λ p fact. absurd fact))) refl
  where
    first : Stage 1 (Serving (writing none_noted)) (StoredSent name 0 1 ∷ stores) kept_one
    first = serves flies 1 (stores_at 0) (StoredSent name 0 1 ∷ []) (omega arith) (λ sees own. sees _ (inl refl)) (answer 1 0)

    second : Stage 1 (Serving (writing none_noted)) (StoredSent name 1 1 ∷ StoredSent name 0 1 ∷ stores) kept_two
    second = serves first 2 (stores_at 1) (StoredSent name 1 1 ∷ []) (omega arith) (λ sees own. sees _ (inr (inr (inl refl)))) (answer 2 1)

    third : Stage 1 (Serving (writing none_noted)) (StoredSent name 2 1 ∷ StoredSent name 1 1 ∷ StoredSent name 0 1 ∷ stores) kept_all
    third = serves second 3 (stores_at 2) (StoredSent name 2 1 ∷ []) (omega arith) (λ sees own. sees _ (inr (inr (inr (inr (inl refl)))))) (answer 3 2)

-- ---- the lists

abbrev greeted : List Packet
greeted = WelcomeSent 2 1 news the_map ∷ HelloSent 2 1 ∷ MapSent the_map ∷ []

abbrev fences : List Packet
fences = FenceSent 1 2 ∷ FenceSent 2 2 ∷ FenceSent 3 2 ∷ []

gathers : Stage 2 (Opening (gathering [])) (fences ++ greeted) kept_all
gathers = scans asked (scan_in.Welcome 1 news the_map) hailing _ refl fences_all refl
    ((the_map, subst (λ c. In (WelcomeSent c 1 news the_map) asked.net.sent) (sym asked.boot) (asked.sent _ (inl refl))), asked.sent _ (inr (inr (inl refl))))
  where
    hello : Stage 2 (Opening hailing) (HelloSent 2 1 ∷ MapSent the_map ∷ []) kept_all
    hello = scans (publishes fallen) scan_in.Tick hailing _ refl asks_first refl tt

    asked : Stage 2 (Opening hailing) greeted kept_all
    asked = welcomes hello 1 (inl refl)

-- each server's shelf, after it took the Fence of boot 2
abbrev fenced_shelf : ℕ → ShelfState
fenced_shelf place = shelf_after calm (shelf_after calm new_shelf (stores_at place)) (Fences 2)

abbrev fenced_one : ℕ → ShelfState
fenced_one = put kept_all 1 (fenced_shelf 0)

abbrev fenced_two : ℕ → ShelfState
fenced_two = put fenced_one 2 (fenced_shelf 1)

abbrev fenced_all : ℕ → ShelfState
fenced_all = put fenced_two 3 (fenced_shelf 2)

abbrev fenced : ℕ → ℕ → Packet
fenced v place = FencedSent v 2 1 (meta_of segment place ∷ [])

lists : (v place : ℕ) → answers calm v (shelf_after calm new_shelf (stores_at place)) (Fences 2) ≡ fenced v place ∷ []
unfolding flight_fragment
lists v place = refl

abbrev all_fenced : List Packet
all_fenced = fenced 3 2 ∷ fenced 2 1 ∷ fenced 1 0 ∷ MapSent the_map ∷ []

listed : Stage 2 (Opening (gathering [])) all_fenced fenced_all
listed = forget third all_fenced picked
  where
    first : Stage 2 (Opening (gathering [])) (fenced 1 0 ∷ fences ++ greeted) fenced_one
    first = serves gathers 1 (Fences 2) (fenced 1 0 ∷ []) (omega arith) (λ sees. sees _ (inl refl)) (lists 1 0)

    second : Stage 2 (Opening (gathering [])) (fenced 2 1 ∷ fenced 1 0 ∷ fences ++ greeted) fenced_two
    second = serves first 2 (Fences 2) (fenced 2 1 ∷ []) (omega arith) (λ sees. sees _ (inr (inr (inl refl)))) (lists 2 1)

    third : Stage 2 (Opening (gathering [])) (fenced 3 2 ∷ fenced 2 1 ∷ fenced 1 0 ∷ fences ++ greeted) fenced_all
    third = serves second 3 (Fences 2) (fenced 3 2 ∷ []) (omega arith) (λ sees. sees _ (inr (inr (inr (inr (inl refl)))))) (lists 3 2)

    picked : (p : Packet) → In p all_fenced → In p (fenced 3 2 ∷ fenced 2 1 ∷ fenced 1 0 ∷ fences ++ greeted)
    picked p (inl e) = inl e
    picked p (inr (inl e)) = inr (inl e)
    picked p (inr (inr (inl e))) = inr (inr (inl e))
    picked p (inr (inr (inr (inl e)))) = inr (inr (inr (inr (inr (inr (inr (inr (inl e))))))))
    picked p (inr (inr (inr (inr fact)))) = absurd fact

-- a list came
came_list : {inc : ℕ} {owner : Owner} {told : List Packet} {shelf : ℕ → ShelfState} (s : Stage inc owner told shelf) (v place : ℕ) → inc ≡ 2
    → In (fenced v place) told → In (FencedSent v s.net.inc 1 (meta_of segment place ∷ [])) s.net.sent
came_list s v place two fact = subst (λ c. In (FencedSent v c 1 (meta_of segment place ∷ [])) s.net.sent) (sym (s.boot ∙ two)) (s.sent (fenced v place) fact)

-- ---- the segment is picked, and read back

abbrev asks_again : List Packet
asks_again = WelcomeSent 2 2 news the_map ∷ HelloSent 2 2 ∷ all_fenced

reads : Stage 2 (Opening reading_back) asks_again fenced_all
reads = scans asked (scan_in.Welcome 2 news the_map) asking _ refl picks_it refl (
  (the_map, subst (λ c. In (WelcomeSent c 2 news the_map) asked.net.sent) (sym asked.boot) (asked.sent _ (inl refl))),
  asked.sent _ (inr (inr (inr (inr (inr (inl refl)))))),
)
  where
    one : Stage 2 (Opening (gathering (list_of 1 0 ∷ []))) all_fenced fenced_all
    one = scans listed (scan_in.Fenced 1 1 (meta_of segment 0 ∷ [])) (gathering []) _ refl keeps_one refl (came_list listed 1 0 refl (inr (inr (inl refl))))

    two : Stage 2 (Opening (gathering (list_of 1 0 ∷ list_of 2 1 ∷ []))) all_fenced fenced_all
    two = scans one (scan_in.Fenced 2 1 (meta_of segment 1 ∷ [])) (gathering (list_of 1 0 ∷ [])) _ refl keeps_two refl (came_list one 2 1 refl (inr (inl refl)))

    three : Stage 2 (Opening asking) (HelloSent 2 2 ∷ all_fenced) fenced_all
    three = scans two (scan_in.Fenced 3 1 (meta_of segment 2 ∷ [])) (gathering (list_of 1 0 ∷ list_of 2 1 ∷ [])) _ refl asks_second refl
        (came_list two 3 2 refl (inl refl))

    asked : Stage 2 (Opening asking) asks_again fenced_all
    asked = welcomes three 2 (inl refl)

abbrev fetched : List Packet
fetched = FragmentSent (flight_fragment segment group 1) ∷ FragmentSent (flight_fragment segment group 0) ∷ []

brings : (v place : ℕ) → answers calm v (fenced_shelf place) (Fetches name) ≡ FragmentSent (flight_fragment segment group place) ∷ []
unfolding flight_fragment
brings v place = refl

-- a Fetch leaves the shelf
abbrev fetched_one : ℕ → ShelfState
fetched_one = put fenced_all 1 (fenced_shelf 0)

abbrev fetched_two : ℕ → ShelfState
fetched_two = put fetched_one 2 (fenced_shelf 1)

half_read : Stage 2 (Opening one_in) fetched fetched_two
half_read = scans less (scan_in.Got 3 1 1 (flight_fragment segment group 0)) reading_back _ refl hears_one refl (λ own. less.sent _ (inr (inl refl)))
  where
    first : Stage 2 (Opening reading_back) (FragmentSent (flight_fragment segment group 0) ∷ asks_again) fetched_one
    first = serves reads 1 (Fetches name) (FragmentSent (flight_fragment segment group 0) ∷ []) (omega arith) (λ sees. tt) (brings 1 0)

    second : Stage 2 (Opening reading_back) (FragmentSent (flight_fragment segment group 1) ∷ FragmentSent (flight_fragment segment group 0) ∷ asks_again) fetched_two
    second = serves first 2 (Fetches name) (FragmentSent (flight_fragment segment group 1) ∷ []) (omega arith) (λ sees. tt) (brings 2 1)

    picked : (p : Packet) → In p fetched → In p (FragmentSent (flight_fragment segment group 1) ∷ FragmentSent (flight_fragment segment group 0) ∷ asks_again)
    picked p (inl e) = inl e
    picked p (inr (inl e)) = inr (inl e)
    picked p (inr (inr fact)) = absurd fact

    less : Stage 2 (Opening reading_back) fetched fetched_two
    less = forget second fetched picked

-- ---- the opening segment is written

abbrev opening_stores : List Packet
opening_stores =
    StoreSent 1 (flight_fragment opening_segment group 0) 1 ∷ StoreSent 2 (flight_fragment opening_segment group 1) 1 ∷ StoreSent 3 (flight_fragment opening_segment group 2) 1 ∷ []

files_none : log_filed setting.log (log.sending_send (opening_flight none_noted)) ++ [] ≡ []
unfolding log.sending_send
files_none = refl

module _ {told : List Packet} {shelf : ℕ → ShelfState} (s : Stage 2 (Opening one_in) told shelf)
    (came : In (FragmentSent (flight_fragment segment group 1)) s.net.sent) where
  abbrev got : scan_ins.In
  got = scan_in.Got 3 2 1 (flight_fragment segment group 1)

  -- the log starts behind what was read back
  begun : {X : Type 0} (f : log.Done → X)
      → f (first_write calm s.net.inc start the_map) ≡ f (record { state = opening_log none_noted; outs = log.sending_send (opening_flight none_noted) })
  begun f = ap (λ c. f (first_write calm c start the_map)) s.boot ∙ ap f opens_with

  can : CanStart calm s.net.inc (scan.transition one_in got)
  can = subst (CanStart calm s.net.inc) (sym hears_two) (refl, subst WritesText (sym (begun (λ d. d))) opening_written)

  abbrev next : Net
  next = after_scan calm s.net one_in (scan.transition one_in got)

  happens : Happens calm s.net next
  happens = Opens one_in got s.is_owner (λ own. came) can

  now : next ≡ after_told calm s.net one_in (record { state = over; outs = scan_out.Chain (segment ∷ []) start (scan.prior_at start) ∷ [] })
      (Some (record { segments = segment ∷ []; end = start })) (Some the_map)
  now = ap (after_scan calm s.net one_in) hears_two

  pub writes : Stage 2 (Writing (segment ∷ []) (opening_log none_noted)) opening_stores shelf
  writes = record {
    net = next;
    run = On s.run happens;
    sure = calm_on s next happens;
    boot = ap (λ (n : Net). n.inc) now ∙ s.boot;
    low = ap (λ (n : Net). n.low) now ∙ s.low;
    registry = ap (λ (n : Net). n.registry) now ∙ s.registry;
    is_owner = ap (λ (n : Net). n.owner) now ∙ begun (λ d. Writing (segment ∷ []) d.state);
    sent = λ p fact. subst (In p) (sym (ap (λ (n : Net). n.sent) now ∙ begun (λ d. log_packets d.outs ++ s.net.sent)))
        (in_first (log_packets (log.sending_send (opening_flight none_noted))) s.net.sent p (subst (In p) (sym opening_sends) fact));
    shelves = λ v. ap (λ (n : Net). n.shelves v) now ∙ s.shelves v;
    filed = ap (λ (n : Net). n.filed) now
        ∙ (begun (λ d. log_filed setting.log d.outs ++ s.net.filed)
        ∙ (ap (λ ns. log_filed setting.log (log.sending_send (opening_flight none_noted)) ++ ns) s.filed ∙ files_none));
    last = ap (λ (n : Net). flight_in n.owner (last_flight s.run)) now ∙ s.last;
    stays = refl;
  }

-- ---- and kept by each member

abbrev opening_at : ℕ → Deed
opening_at place = Stores (flight_fragment opening_segment group place) 1

abbrev last_one : ℕ → ShelfState
last_one = put fetched_two 1 (shelf_after calm (fenced_shelf 0) (opening_at 0))

abbrev last_two : ℕ → ShelfState
last_two = put last_one 2 (shelf_after calm (fenced_shelf 1) (opening_at 1))

abbrev last_all : ℕ → ShelfState
last_all = put last_two 3 (shelf_after calm (fenced_shelf 2) (opening_at 2))

abbrev opening_stored : ℕ → Packet
opening_stored place = StoredSent opening_name place 1

answer_again : (v place : ℕ) → answers calm v (fenced_shelf place) (opening_at place) ≡ opening_stored place ∷ []
unfolding flight_fragment
answer_again v place = refl

abbrev all_stored : List Packet
all_stored = opening_stored 2 ∷ opening_stored 1 ∷ opening_stored 0 ∷ []

all_noted : Stage 2 (Writing (segment ∷ []) (opening_log noted_two)) all_stored last_all
all_noted = notes one (log_in.Acked opening_name 1 1) (segment ∷ []) (opening_log noted_one) (opening_log noted_two)
    (opening_flight noted_two) refl refl notes_second (opening_name, 1, 1, refl, inr (inl refl)) opening_written
  where
    begins : Stage 2 (Writing (segment ∷ []) (opening_log none_noted)) opening_stores fetched_two
    begins = writes half_read (half_read.sent _ (inl refl))

    first : Stage 2 (Writing (segment ∷ []) (opening_log none_noted)) (opening_stored 0 ∷ opening_stores) last_one
    first = serves begins 1 (opening_at 0) (opening_stored 0 ∷ []) (omega arith) (λ sees own. sees _ (inl refl)) (answer_again 1 0)

    second : Stage 2 (Writing (segment ∷ []) (opening_log none_noted)) (opening_stored 1 ∷ opening_stored 0 ∷ opening_stores) last_two
    second = serves first 2 (opening_at 1) (opening_stored 1 ∷ []) (omega arith) (λ sees own. sees _ (inr (inr (inl refl)))) (answer_again 2 1)

    third : Stage 2 (Writing (segment ∷ []) (opening_log none_noted)) (opening_stored 2 ∷ opening_stored 1 ∷ opening_stored 0 ∷ opening_stores) last_all
    third = serves second 3 (opening_at 2) (opening_stored 2 ∷ []) (omega arith) (λ sees own. sees _ (inr (inr (inr (inr (inl refl)))))) (answer_again 3 2)

    stored : (p : Packet) → In p all_stored → In p (opening_stored 2 ∷ opening_stored 1 ∷ opening_stored 0 ∷ opening_stores)
    stored p (inl e) = inl e
    stored p (inr (inl e)) = inr (inl e)
    stored p (inr (inr (inl e))) = inr (inr (inl e))
    stored p (inr (inr (inr fact))) = absurd fact

    one : Stage 2 (Writing (segment ∷ []) (opening_log noted_one)) all_stored last_all
    one = notes (forget third all_stored stored) (log_in.Acked opening_name 0 1) (segment ∷ []) (opening_log none_noted) (opening_log noted_one)
        (opening_flight noted_one) refl refl notes_first (opening_name, 0, 1, refl, inr (inr (inl refl))) opening_written

-- ---- the restart ends

module _ {shelf : ℕ → ShelfState} (s : Stage 2 (Writing (segment ∷ []) (opening_log noted_two)) all_stored shelf) where
  abbrev after : Net
  after = after_writing calm s.net (segment ∷ []) (log.transition (opening_log noted_two) (log_in.Acked opening_name 2 1))

  lands : Happens calm s.net after
  lands = Writes (segment ∷ []) (opening_log noted_two) (log_in.Acked opening_name 2 1) s.is_owner (s.sent _ (inl refl)) (subst WritesText (sym settles) tt)

  pub tail_adopted : ATailAdopted calm
  tail_adopted = record {
    sure = refl;
    before = s.net;
    moment = record { map = the_map; whole = variant_map setting.log false; run = s.run };
    after = after;
    happens = lands;
    calm = calm_on s after lands;
    ends = (ap is_writing s.is_owner, ap (λ d. is_serving (after_writing calm s.net (segment ∷ []) d).owner) settles);
    flight = flight none_noted;
    was = s.last;
    nothing = s.filed;
    filed = subst (λ d. In name (after_writing calm s.net (segment ∷ []) d).filed) (sym settles) (inr (inl refl));
  }

-- ---- a manager's log begins anew

abbrev managers : Setting
managers = variant (record { 0 = 10 }) true

log_renewed : ALogRenewed managers
log_renewed = record {
  managers = omega arith;
  net = record down { inc = 2; owner = Serving (new_log managers.log 2 no_end the_map) };
  moment = record {
    map = the_map;
    whole = whole;
    run = On (On (On Begun (Publishes the_map whole)) Crashes) (Renews the_map (omega arith) refl refl (inl refl));
  };
  groups = the_map;
  serves = refl;
}
  where
    whole : WholeMap managers (λ v. 1) the_map
    whole = variant_map (record { 0 = 10 }) true

    down : Net
    down = record (opening managers the_map) { sent = MapSent the_map ∷ []; owner = Down; feed = [] }

pub some_restarts : SomeRestarts
some_restarts = record { adopted = (calm, tail_adopted all_noted); renewed = (managers, log_renewed) }
