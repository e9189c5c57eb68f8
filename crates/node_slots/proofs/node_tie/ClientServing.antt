-- A client that serves takes an event.
use Rattle.std.proofs.Common.{◌≡◌, ◌≤◌, ◌<◌, ℕ, ◌+◌, Bool, true, List, [], ◌∷◌, ◌++◌, Option, Some, None, is_some, refl, sym, subst, ◌∙◌, arith, suc, false, nat_le}
use Rattle.std.specs.Prelude.{All}
use Rattle.std.proofs.lemmas.Bool.Decides.{nat_tests}
use Rattle.std.proofs.lemmas.List.Elements.{All-nil, All-cons}
use Rattle.std.proofs.lemmas.Bool.{leb-true}
use Rattle.client_log.specs.declared.input.In.TheVariants as log_in
use Rattle.client_node.specs.declared.phase.Phase.TheVariants.{Serving as Serves}
use Rattle.client_call.specs.declared.call.Going.{Going}
use Rattle.client_call.specs.Reads.{fetch_again, reading_in}
use Rattle.client_serving.specs.declared.serving.Serving.{Serving}
use Rattle.client_serving.specs.Flights.{serving_write}
use Rattle.client_serving.specs.Follow.{hand}
use Rattle.client_running.specs.Opens.{begin_call, call_at, opens}
use Rattle.client_serving.specs.Packets.{take_body, serving_take, asks_for_maps, on_tick}
use Rattle.client_running.specs.Running.{running_go_on, run}
use Rattle.client_serving.specs.Sends.{Done, gives}
use Rattle.log_flight.specs.Flights.{FlightState}
use Rattle.log_owner.specs.Sending.{push_all}
use Rattle.node_base.specs.Beginning.{work_at, items_wait}
use Rattle.node_base.specs.declared.effects.Effect.{Effect}
use Rattle.node_base.specs.declared.effects.Effect.TheVariants.{Answer as Answers}
use Rattle.node_base.specs.Known.{names_known_groups}
use Rattle.node_base.specs.Room.{has_room}
use Rattle.segment_reading.specs.Reading.{ReadingState}
use Rattle.token_client.specs.declared.held.Giving.{Giving}
use Rattle.token_client.specs.declared.input.In.TheVariants as input
use Rattle.token_client.specs.State.{TokensState, epoch_of, held_of}
use Rattle.token_law.specs.Books.{Books, row_in}
use Rattle.token_law.specs.Net.{Net}
use Rattle.token_protocol.specs.Premises.{Premise}
use Rattle.version_model.specs.declared.answer.Answer.{Answer}
use Rattle.version_model.specs.declared.answer.Answer.TheVariants as answer
use Rattle.wire_msg.specs.declared.body.Body.{Body}
use Rattle.wire_msg.specs.declared.body.Body.TheVariants as body
use Rattle.wire_msg.specs.declared.packet.Packet.{Packet}
use Rattle.xfs_base.proofs.Booleans.{by_test}
use Rattle.xfs_base.specs.declared.block.BlockId.{BlockId}
use Rattle.xfs_base.specs.Limits.{u32_end, slot_count}
use Rattle.xfs_base.specs.Steps.{still, saying}
use Rattle.node_slots.specs.node_tie.Asks.{AsksForCall}
use Rattle.node_slots.specs.node_tie.ClientEvents.{SeesServing, ClientStands, GetsBody, ServingReads, ClientGets, ClientGoes}
use Rattle.node_slots.specs.node_tie.ClientLogs.{FiledStay, LogAgrees, end_upto}
use Rattle.node_slots.specs.node_tie.LogRows.{rows_flown, rows_waiting}
use Rattle.node_slots.proofs.node_tie.Sight.{ClientDoes}
use Rattle.node_slots.proofs.node_tie.ClientBlocks as blocks
use Rattle.node_slots.proofs.node_tie.ClientBooks.{Onward}
use Rattle.node_slots.proofs.node_tie.ClientFalls.{all_did}
use Rattle.node_slots.proofs.node_tie.ClientFrames as frames
use Rattle.node_slots.proofs.node_tie.ClientHears as hearing
use Rattle.node_slots.proofs.node_tie.ClientOwn as own
use Rattle.node_slots.proofs.node_tie.ClientPromises as promising
use Rattle.node_slots.proofs.node_tie.ClientSeals.{all_known}
use Rattle.node_slots.proofs.node_tie.ClientTokens as tokens
use Rattle.node_slots.proofs.node_tie.ClientUnsettled.{AllUnsettled}
use Rattle.node_slots.proofs.node_tie.ClientWrites as writing
use Rattle.node_slots.proofs.node_tie.SmallWorld.{premise, premise_by, premise_both}

-- how it stands before an event: what is in flight may be settled
pub record MayBegin (logs : Bool) (members part limit c life highest : ℕ) (n : Net) (s : Serving) : Type 0 where
  pub here : frames.At logs members part limit c life 0 highest n s
  pub more : (f : FlightState) → s.log.flight ≡ Some f → frames.At logs members part limit c life 1 highest n s

module _ (logs : Bool) (members part limit c life highest : ℕ) (small : part < slot_count) (pos : 0 < c) (less : c < members) where
  abbrev At : Net → Serving → Type 0
  At n s = frames.At logs members part limit c life 0 highest n s

  abbrev Goes : Net → Done → Type 0
  Goes n d = frames.Goes logs members part limit c life 0 highest n d

  abbrev Before : Net → Serving → Type 0
  Before n s = MayBegin logs members part limit c life highest n s

  -- what is done, and then the open call runs
  abbrev pub and_runs : Done → Done
  and_runs d = saying d.outs (run d.state)

  runs_after : (n : Net) (d : Done) → Goes n d → Goes n (and_runs d)
  runs_after n d p = own.runs_after logs members part limit c life 0 highest pos less n d p

  -- nothing is done but that the open call runs
  just_runs : (n : Net) (s : Serving) → Before n s → Goes n (and_runs (still s))
  just_runs n s h = runs_after n (still s) (frames.goes_still logs members part limit c life 0 highest n s h.here)

  -- ---- packets

  body_so : (n : Net) (s : Serving) (p : Packet) (b : Body) → GetsBody part limit c n (Serves s) b → Premise logs (ServingReads part limit c n s p b)
      → AsksForCall s
      → has_room s.tokens.req ≡ true → Before n s → Goes n (and_runs (take_body s p.from b))
  body_so n s p (body.Grant m) gets reads asks room h = own.on_grant_so logs members part limit c life 0 highest pos less n s m h.here asks gets
  body_so n s p (body.Supply m) gets reads asks room h =
      runs_after n _ (hearing.on_supply_so logs members part limit c life 0 highest pos less n s m h.here gets)
  body_so n s p (body.Forward m) gets reads asks room h =
      runs_after n _ (hearing.on_forward_so logs members part limit c life 0 highest pos less n s m h.here gets)
  body_so n s p (body.Recall m) gets reads asks room h =
      runs_after n _ (hearing.on_recall_so logs members part limit c life 0 highest pos less n s m h.here gets)
  body_so n s p (body.Gone m) gets reads asks room h = runs_after n _ (hearing.on_gone_so logs members part limit c life 0 highest pos less n s m h.here)
  body_so n s p (body.DeltaAck m) gets reads asks room h = runs_after n _ (hearing.on_ack_so logs members part limit c life 0 highest pos less n s m h.here)
  body_so n s p (body.Poll m) gets reads asks room h =
      runs_after n _ (promising.on_poll_so logs members part limit c life 0 highest small pos less n s p.from m gets asks room h.here)
  body_so n s p (body.Stored m) gets reads asks room h =
      runs_after n _ (hearing.on_stored_so logs members part limit c life 0 highest pos less n s m h.here h.more)
  body_so n s p (body.Fragment m) gets reads asks room h =
      runs_after n _ (hearing.on_found_so logs members part limit c life 0 highest pos less n s p.from m reads h.here)
  body_so n s p (body.Missing m) gets reads asks room h =
      runs_after n _ (hearing.on_missing_so logs members part limit c life 0 highest pos less n s p.from m reads h.here)
  body_so n s p (body.MapNews m) gets reads asks room h =
      runs_after n _ (promising.on_news_so logs members part limit c life 0 highest small pos less n s m gets h.here h.more)
  body_so n s p (body.Welcome m) gets reads asks room h =
      runs_after n _ (promising.on_welcome_so logs members part limit c life 0 highest small pos less n s m gets.0 h.here h.more)
  body_so n s p _ gets reads asks room h = just_runs n s h

  pub packet_so : (n : Net) (s : Serving) (p : Packet) → ClientGets logs part limit c n (Serves s) p → AsksForCall s → has_room s.tokens.req ≡ true → Before n s
      → Goes n (and_runs (serving_take s p))
  unfolding serving_take
  packet_so n s p gets asks room h =
      by_test (λ (d : Done). Goes n (and_runs d)) (names_known_groups s.maps p.body) (take_body s p.from p.body) (asks_for_maps s)
      (λ t. body_so n s p p.body gets.brings gets.reads asks room h)
      (λ t. runs_after n (asks_for_maps s) (hearing.asks_for_maps_so logs members part limit c life 0 highest pos less n s h.here))

  -- ---- time

  plain_again : (r : Option ReadingState) → frames.Plain part c life (fetch_again r)
  plain_again None = All-nil (frames.May part c life)
  plain_again (Some r) = tokens.plain_fetches part c life r

  tick_so : (n : Net) (s : Serving) → Before n s → Goes n (on_tick s)
  unfolding on_tick
  tick_so n s h =
      let w : Done = hand s input.Tick in
      let l : Done = serving_write w.state log_in.Tick in
      let fetched : List Effect = fetch_again (reading_in w.state.call) in
      let pushed : List Effect = push_all l.state.managers l.state.feed in
      frames.goes_on logs members part limit c life 0 highest n w (gives l.state (fetched ++ (l.outs ++ pushed)))
      (tokens.hands_own logs members part limit c life 0 highest pos less n s input.Tick tt (λ u. refl) tt h.here)
      (λ m k. frames.goes_after logs members part limit c life 0 highest m w.state fetched (gives l.state (l.outs ++ pushed))
      (plain_again (reading_in w.state.call)) k
      (λ o i. frames.goes_and_gives logs members part limit c life 0 highest o l l.state pushed
      (writing.ticks_so logs members part limit c life 0 highest pos less o w.state i)
      (λ x y. y) (tokens.plain_pushes_all part c life l.state.managers l.state.feed)))

  pub time_so : (n : Net) (s : Serving) → Before n s → Goes n (and_runs (on_tick s))
  time_so n s h = runs_after n (on_tick s) (tick_so n s h)

  -- ---- items

  pub says_so : (n : Net) (s : Serving) (number : ℕ) (a : Answer) → Before n s → Goes n (gives s (Answers number a ∷ []))
  says_so n s number a h = frames.goes_plain logs members part limit c life 0 highest n s (Answers number a ∷ []) h.here
      (All-cons (frames.May part c life) (Answers number a) [] tt (All-nil (frames.May part c life)))

  begins_so : (n : Net) (s : Serving) (number : ℕ) (going : Option Going) → Before n s → Goes n (begin_call s number going)
  begins_so n s number None h = says_so n s number answer.Done h
  begins_so n s number (Some going) h =
      let d : Done = running_go_on (record s { lasting = record s.lasting { items = items_wait s.lasting.items number } }) going in
      runs_after n d (blocks.running_go_on_so logs members part limit c life 0 highest pos less n
      (record s { lasting = record s.lasting { items = items_wait s.lasting.items number } }) going h.here)

  pub opens_so : (n : Net) (s : Serving) (number : ℕ) → Before n s → Goes n (opens s number)
  unfolding opens
  opens_so n s number h =
      by_test (λ (d : Done). Goes n d) (is_some s.lasting.items.unanswered) (gives s (Answers number answer.Busy ∷ []))
      (begin_call s number (call_at s number (work_at s.lasting.items number)))
      (λ t. says_so n s number answer.Busy h) (λ t. begins_so n s number (call_at s number (work_at s.lasting.items number)) h)

-- ---- as the small world sees it

-- what is filed in an event was in flight before it
filed_stay : (k m : Books) (c : ℕ) (flight : Option FlightState) → Onward k m c → k.flying c ≡ is_some flight → m.end c ≤ end_upto (k.end c) flight
    → FiledStay k m c flight
filed_stay k m c flight on flies low = record { rises = on.rises; upto = low; rows = λ q upto. by_flight flight flies low q upto }
  where
    below : (q a b : ℕ) → q ≤ a → a ≤ b → q ≤ b
    below q a b h i = omega (arith, h, i)

    next : (q e end : ℕ) → nat_le q e ≡ false → q ≤ end → end ≤ e + 1 → suc e ≡ q
    next q e end t h i = grind (arith, nat_tests)

    by_end : k.flying c ≡ true → m.end c ≤ k.end c + 1 → (q : ℕ) → q ≤ m.end c → (t : Bool) → nat_le q (k.end c) ≡ t → m.rows c q ≡ k.rows c q
    by_end flies low q upto true t = on.past q (leb-true q (k.end c) t)
    by_end flies low q upto false t = subst (λ x. m.rows c x ≡ k.rows c x) (next q (k.end c) (m.end c) t upto low) (on.flown flies)

    by_flight : (o : Option FlightState) → k.flying c ≡ is_some o → m.end c ≤ end_upto (k.end c) o → (q : ℕ) → q ≤ m.end c → m.rows c q ≡ k.rows c q
    by_flight None flies low q upto = on.past q (below q (m.end c) (k.end c) upto low)
    by_flight (Some f) flies low q upto = by_end flies low q upto (nat_le q (k.end c)) refl

module _ (logs : Bool) (members part limit c : ℕ) (n : Net) (s : Serving) where
  abbrev pub highest : ℕ
  highest = end_upto s.log.end.seq s.log.flight

  -- it stands as it is seen, where the numbers of its log are not near their end
  stands_so : (room : ℕ) → SeesServing logs part c n s → ClientStands part limit c n (Serves s) → s.log.end.seq + room ≤ highest → highest < u32_end
      → frames.At logs members part limit c s.lasting.inc room highest n s
  stands_so room sees h below next = record {
    up = sees.up;
    tokens = sees.tokens;
    number_is = sees.number;
    inc_is = refl;
    sound = h.asks.sound;
    bears = record {
      life_is = sees.inc;
      promised = record { eight = sees.epochs; within = subst (λ (t : TokensState). epoch_of t.epochs part ≤ limit) sees.tokens h.within };
      giving = λ b. by_giving b (held_of s.tokens.blocks b).giving refl;
      held = λ b. (sees.valued b, premise_by logs (λ (g : LogAgrees n.books c s.tokens s.log). g.unsettled.each b) sees.logged);
    };
    logged = premise_by logs (λ (g : LogAgrees n.books c s.tokens s.log). record {
      seen = g.seen;
      said = g.said;
      beyond = g.beyond;
      waits_once = g.unsettled.waits_once;
      flies_once = g.unsettled.flies_once;
      waits_some = g.unsettled.waits_some;
      flies_some = g.unsettled.flies_some;
    }) sees.logged;
    numbers = premise logs (record { below = below; next = next });
  }
    where
      by_giving : (b : BlockId) (g : Option Giving) → (held_of s.tokens.blocks b).giving ≡ g → frames.Sent part c n.sent b g
      by_giving b None fact = tt
      by_giving b (Some g) fact = λ inside. sees.giving b g inside fact

  pub stands : SeesServing logs part c n s → ClientStands part limit c n (Serves s) → has_room s.log.end.seq ≡ true
      → MayBegin logs members part limit c s.lasting.inc highest n s
  stands sees h room = record {
    here = stands_so 0 sees h (upto s.log.end.seq s.log.flight) (inside s.log.end.seq s.log.flight room);
    more = λ f fact. stands_so 1 sees h (one_more s.log.end.seq s.log.flight f fact) (inside s.log.end.seq s.log.flight room);
  }
    where
      upto : (end : ℕ) (o : Option FlightState) → end + 0 ≤ end_upto end o
      upto end None = omega arith
      upto end (Some f) = omega arith

      one_more : (end : ℕ) (o : Option FlightState) (f : FlightState) → o ≡ Some f → end + 1 ≤ end_upto end o
      one_more end o f fact = subst (λ x. end + 1 ≤ end_upto end x) (sym fact) (itself (end + 1))
        where
          itself : (k : ℕ) → k ≤ k
          itself k = omega arith

      inside : (end : ℕ) (o : Option FlightState) → has_room end ≡ true → end_upto end o < u32_end
      inside end None r = grind (arith, nat_tests)
      inside end (Some f) r = grind (arith, nat_tests)

  -- and is seen as it stands
  pub sees : (m : Net) (t : Serving) → frames.At logs members part limit c s.lasting.inc 0 highest m t → SeesServing logs part c m t
  sees m t h = record {
    up = h.up;
    tokens = h.tokens;
    number = h.number_is;
    inc = h.bears.life_is ∙ sym h.inc_is;
    epochs = h.bears.promised.eight;
    giving = λ b g inside fact. subst (frames.Sent part c m.sent b) fact (h.bears.giving b) inside;
    valued = λ b. (h.bears.held b).0;
    logged = premise_both logs
        (λ (x : frames.LogStands m.books c t.log) (p : AllUnsettled t.tokens (row_in (rows_waiting t.log)) (row_in (rows_flown t.log.flight))). record {
          seen = x.seen;
          said = x.said;
          beyond = x.beyond;
          unsettled = record { waits_once = x.waits_once; flies_once = x.flies_once; waits_some = x.waits_some; flies_some = x.flies_some; each = p };
        }) h.logged (all_known logs members part limit c s.lasting.inc 0 highest t.log t.tokens h.bears.held);
  }

  -- what was filed stays
  log_goes : SeesServing logs part c n s → (d : Done) (p : frames.Goes logs members part limit c s.lasting.inc 0 highest n d)
      → Premise logs (FiledStay n.books p.next.books c s.log.flight)
  log_goes before d p =
      premise_both logs
      (λ (g : LogAgrees n.books c s.tokens s.log) (f : LogAgrees n.books c s.tokens s.log → FiledStay n.books p.next.books c s.log.flight). f g) before.logged
      (premise_both logs
      (λ (on : Onward n.books p.next.books c) (low : p.next.books.end c ≤ highest) (g : LogAgrees n.books c s.tokens s.log).
      filed_stay n.books p.next.books c s.log.flight on g.seen.flying
      (subst (λ e. p.next.books.end c ≤ end_upto e s.log.flight) (sym g.seen.end) low)) p.grown.own
      (premise_both logs
      (λ (x : frames.LogStands p.next.books c d.state.log) (k : frames.HasNumbers d.state.log.end.seq 0 highest). within
      (p.next.books.end c) d.state.log.end.seq x.seen.end k.below)
      p.stands.logged p.stands.numbers))
    where
      within : (a b : ℕ) → a ≡ b → b + 0 ≤ highest → a ≤ highest
      within a b fact low = omega (arith, fact, low)

  pub serves_on_so : SeesServing logs part c n s → (d : Done) → frames.Goes logs members part limit c s.lasting.inc 0 highest n d
      → ClientGoes logs members part limit c n (Serves s) (Serves d.state) d.outs
  serves_on_so before d p = record {
    next = p.next;
    runs = p.grown.runs;
    agrees = sees p.next d.state p.stands;
    others = p.grown.others;
    slots = p.grown.slots;
    grows = p.grown.grows;
    acts = p.grown.acts;
    books = p.grown.books;
    log = log_goes before d p;
    does = all_did part c n p.next.sent d.state.lasting.inc (Serves d.state) d.outs
        (subst (λ k. All (ClientDoes part p.next.sent c k) d.outs) (sym p.stands.inc_is) p.does);
    within = subst (λ (t : TokensState). epoch_of t.epochs part ≤ limit) (sym p.stands.tokens) p.stands.bears.promised.within;
    promises = tt;
    later = (let e : d.state.lasting.inc ≡ s.lasting.inc = p.stands.inc_is in omega arith);
    begins = tt;
    stands = λ away. absurd away;
    back = tt;
  }
