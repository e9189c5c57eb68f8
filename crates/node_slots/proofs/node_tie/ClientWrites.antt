-- The log of a client that serves takes an input, and what it says is done: a block waits, what is in flight goes on, or is settled.
use Rattle.std.proofs.Common.{◌≡◌, ◌<◌, ◌≤◌, ℕ, ◌+◌, ◌&&◌, not, Bool, true, false, cond, if◌then◌else◌, nat_lt, List, [], ◌∷◌, ◌++◌, take, Option, Some, None, refl, sym, subst, ◌∙◌, arith}
use Rattle.std.specs.List.{AllByRecursion, list_any}
use Rattle.std.proofs.lemmas.Bool.Decides.{nat_tests}
use Rattle.std.proofs.lemmas.List.Elements.{All-nil, All-cons}
use Rattle.client_log.specs.declared.input.In.{In}
use Rattle.client_log.specs.declared.input.In.TheVariants as log_in
use Rattle.client_log.specs.declared.output.Out.{Out}
use Rattle.client_log.specs.declared.output.Out.TheVariants.{Send, Settled}
use Rattle.client_log.specs.LogState.{LogState}
use Rattle.client_log.specs.Transition as log
use Rattle.client_serving.specs.declared.serving.Serving.{Serving}
use Rattle.client_serving.specs.Flights.{serving_settle, write_one, seals_again, serving_write}
use Rattle.client_serving.specs.Follow.{serving_seal}
use Rattle.client_serving.specs.Sends.{Done}
use Rattle.group_map.specs.declared.group.Member.{Member}
use Rattle.group_map.specs.GroupMapState.{GroupMapState}
use Rattle.log_flight.specs.declared.dirty.Change.{Change}
use Rattle.log_flight.specs.declared.flight.Fate.{Fate}
use Rattle.log_flight.specs.declared.flight.Fate.TheVariants.{Restripe, Settle, Wait}
use Rattle.log_flight.specs.Fate.{fate_of}
use Rattle.log_flight.specs.Flights as flights
use Rattle.log_flight.specs.Flights.{FlightState, is_noted}
use Rattle.log_flight.specs.Items.{items_of}
use Rattle.log_owner.specs.Sealing.{is_settling}
use Rattle.log_owner.specs.Sending.{store}
use Rattle.segment_format.specs.Rows.{rows_of}
use Rattle.token_client.specs.Settling.{is_giving}
use Rattle.token_client.specs.State.{TokensState}
use Rattle.token_law.specs.Net.{Net, all_settled}
use Rattle.xfs_base.proofs.Booleans.{by_test, contrary, or_second}
use Rattle.xfs_base.specs.declared.block.BlockId.{BlockId}
use Rattle.xfs_base.specs.declared.entry.Entry.{Entry}
use Rattle.xfs_base.specs.declared.segment.End.{End}
use Rattle.xfs_base.specs.declared.segment.SegName.{SegName}
use Rattle.xfs_base.specs.Limits.{segment_blocks, u32_end}
use Rattle.xfs_base.specs.Steps.{still, saying, steps}
use Rattle.node_slots.specs.node_tie.LogRows.{rows_told}
use Rattle.node_slots.proofs.node_tie.ClientFiling.{filed_passes}
use Rattle.node_slots.proofs.node_tie.ClientFlights.{settles_from}
use Rattle.node_slots.proofs.node_tie.ClientFrames as frames
use Rattle.node_slots.proofs.node_tie.ClientSeals.{log_go_on_passes, notes_settled_are, reflown, regrouped, stands_any}
use Rattle.node_slots.proofs.node_tie.ClientTokens as tokens
use Rattle.node_slots.proofs.node_tie.SmallWorld.{premise_by}

-- ---- what the log says

abbrev pub IsSend : Out → Type 0
IsSend (Send fragment member) = Unit {0}
IsSend (Settled end rows) = ⊥

one_sent : (f : FlightState) (m : Member) (place : ℕ) (rest : List Out) → AllByRecursion IsSend rest → AllByRecursion IsSend (log.send_at f m place ++ rest)
one_sent f m place rest all = by_test (λ (outs : List Out). AllByRecursion IsSend (outs ++ rest)) (is_noted f.noted place) [] _ (λ t. all) (λ t. (tt, all))

all_sent : (f : FlightState) (ms : List Member) (place : ℕ) → AllByRecursion IsSend (log.sends f ms place)
all_sent f [] place = tt
all_sent f (m ∷ ms) place = one_sent f m place (log.sends f ms (place + 1)) (all_sent f ms (place + 1))

log_seal-sends : (l : LogState) → AllByRecursion IsSend (log.log_seal l).outs
unfolding log.log_seal log.log_launch log.sending_send
log_seal-sends l =
    let f : FlightState =
    flights.flown (log.next_name l) (log.prior_from l.end) (items_of 0 (take segment_blocks l.dirty))
    (flights.group_for l.groups l.log.0 (log.next_name l).seq) in
    all_sent f f.group.members 0

log_go_on-sends : (l : LogState) → AllByRecursion IsSend (log.log_go_on l).outs
unfolding log.log_go_on
log_go_on-sends l = by_test (λ (d : log.Done). AllByRecursion IsSend d.outs) (log.is_full l) (log.log_seal l) (still l) (λ t. log_seal-sends l) (λ t. tt)

module _ (logs : Bool) (members part limit c life room highest : ℕ) (pos : 0 < c) (less : c < members) where
  abbrev At : Net → Serving → Type 0
  At n s = frames.At logs members part limit c life room highest n s

  abbrev Goes : Net → Done → Type 0
  Goes n d = frames.Goes logs members part limit c life room highest n d

  sends_so : (n : Net) (s : Serving) (outs : List Out) → AllByRecursion IsSend outs → At n s → Goes n (steps write_one s outs)
  unfolding write_one
  sends_so n s [] all h = frames.goes_still logs members part limit c life room highest n s h
  sends_so n s (Send fragment member ∷ outs) all h =
      frames.goes_after logs members part limit c life room highest n s (store fragment member ∷ []) (steps write_one s outs)
      (All-cons (frames.May part c life) (store fragment member) [] tt (All-nil (frames.May part c life))) h (λ m k. sends_so m s outs all.1 k)
  sends_so n s (Settled end rows ∷ outs) all h = absurd all.0

  seals_again_so : (n : Net) (s : Serving) (settling : Bool) → At n s → Goes n (seals_again s settling)
  seals_again_so n s settling h =
      by_test (λ (d : Done). Goes n d) (settling && is_giving s.tokens) (serving_seal s) (still s)
      (λ t. (tokens.serving_seal_so logs members part limit c life room highest pos less n s s.log.end.seq refl h).goes)
      (λ t. frames.goes_still logs members part limit c life room highest n s h)

  -- what the log did is done
  abbrev Wrote : Net → Serving → log.Done → Type 0
  Wrote n s r = Goes n (steps write_one (record s { log = r.state }) r.outs)

  writes_from : (n : Net) (s : Serving) (i : In) → Wrote n s (log.transition s.log i) → Goes n (serving_write s i)
  unfolding serving_write
  writes_from n s i p =
      let r : log.Done = log.transition s.log i in
      let d : Done = steps write_one (record s { log = r.state }) r.outs in
      frames.goes_on logs members part limit c life room highest n d (seals_again d.state (list_any is_settling r.outs)) p
      (λ m k. seals_again_so m d.state (list_any is_settling r.outs) k)

  -- it changed without a trace, and sends fragments
  only_sends : (n : Net) (s : Serving) (r : log.Done) → AllByRecursion IsSend r.outs → At n (record s { log = r.state }) → Wrote n s r
  only_sends n s r all h = sends_so n (record s { log = r.state }) r.outs all h

  -- a full log is sealed
  log_go_on_so : (n : Net) (s : Serving) (l : LogState) → At n (record s { log = l }) → Wrote n s (log.log_go_on l)
  log_go_on_so n s l h =
      let k : frames.Passes logs members part limit c life room highest n s.tokens (log.log_go_on l).state s.lasting.number s.lasting.inc =
      log_go_on_passes logs members part limit c life room highest pos less n s.tokens l s.lasting.number s.lasting.inc h in
      frames.goes_from logs members part limit c life room highest n k.next
      (steps write_one (record s { log = (log.log_go_on l).state }) (log.log_go_on l).outs) k.grown
      (only_sends k.next s (log.log_go_on l) (log_go_on-sends l) k.stands)

  -- ---- a block waits

  put_so : (n : Net) (s : Serving) (block : BlockId) (change : Change) → At n (record s { log = log.waits s.log block change })
      → Wrote n s (log.on_put s.log block change)
  unfolding log.on_put
  put_so n s block change h =
      let m : LogState = log.waits s.log block change in
      by_test (λ (r : log.Done). Wrote n s r) (log.can_go_on m) (log.log_go_on m) (still s.log) (λ t. log_go_on_so n s m h)
      (λ t. frames.goes_still logs members part limit c life room highest n s
      (stands_any logs members part limit c life room highest n s.tokens m s.log s.lasting.number s.lasting.inc
      (premise_by logs (λ (left : frames.HasNumbers m.end.seq room highest). absurd (stuck m t left)) h.numbers) h))
    where
      has_room : (end : ℕ) → end + room ≤ highest → highest < u32_end → nat_lt end u32_end ≡ true
      has_room end low last = grind (arith, nat_tests)

      stuck : (m : LogState) → log.can_go_on m ≡ false → frames.HasNumbers m.end.seq room highest → ⊥
      stuck m t left = contrary (sym t ∙ or_second (not (log.is_full m)) (log.has_next m.end.seq) (has_room m.end.seq left.below left.next))

  -- what waits already is written, once the tokens and the log have it
  pub puts_from : (n : Net) (s : Serving) (block : BlockId) (entry : Entry) (value : Option (List ℕ))
      → At n (record s { log = log.waits s.log block (record { entry = entry; value = value }) }) → Goes n (serving_write s (log_in.Put block entry value))
  puts_from n s block entry value h = writes_from n s (log_in.Put block entry value) (put_so n s block (record { entry = entry; value = value }) h)

  -- ---- what is in flight goes on, or is settled

  -- so many segments and one more may still be settled
  abbrev Before : Net → TokensState → LogState → ℕ → ℕ → Type 0
  Before n t l number inc = frames.Stands logs members part limit c life (room + 1) highest n t l number inc

  module _ (n : Net) (s : Serving) (l : LogState) (f : FlightState) (h : Before n s.tokens (record l { flight = Some f }) s.lasting.number s.lasting.inc) where
    -- the same content flies, by this attempt
    flies_so : (g : FlightState) → g.segment.items ≡ f.segment.items → g.segment.name.seq ≡ f.segment.name.seq
        → At n (record s { log = record l { flight = Some g } })
    flies_so g items seq =
        reflown logs members part limit c life room highest n s.tokens l f g s.lasting.number s.lasting.inc items seq
        (frames.stands_less logs members part limit c life room highest n s.tokens (record l { flight = Some f }) s.lasting.number s.lasting.inc h)

    restriped_so : Wrote n s (log.restriped l f)
    unfolding log.restriped log.log_launch log.sending_send
    restriped_so =
        let g : FlightState = flights.flown (log.next_attempt f.segment.name) f.segment.prior f.segment.items
        (flights.group_for l.groups l.log.0 f.segment.name.seq) in
        only_sends n s (log.restriped l f) (all_sent g g.group.members 0) (flies_so g refl refl)

    settled_so : Wrote n s (log.settled l f)
    unfolding log.settled write_one
    settled_so =
        let end : End = log.end_of f.segment in
        let rows : List (BlockId × Entry) = rows_of f.segment in
        let full : log.Done = log.log_go_on (log.landed l f) in
        let behind : Serving = record s { log = full.state } in
        let filed : frames.Passes logs members part limit c life room highest n (all_settled s.tokens (rows_told f.segment.items))
        (log.landed l f) s.lasting.number s.lasting.inc =
        filed_passes logs members part limit c life room highest pos less n s.tokens l f s.lasting.number s.lasting.inc h in
        let k : frames.Passes logs members part limit c life room highest filed.next
        (all_settled s.tokens (rows_told f.segment.items)) full.state s.lasting.number s.lasting.inc =
        log_go_on_passes logs members part limit c life room highest pos less filed.next (all_settled s.tokens (rows_told f.segment.items))
        (log.landed l f) s.lasting.number
        s.lasting.inc filed.stands in
        let settling : Done = serving_settle behind end rows in
        frames.goes_from logs members part limit c life room highest n k.next (saying settling.outs (steps write_one settling.state full.outs))
        (frames.grown_on logs members part c n filed.next k.next [] [] filed.grown k.grown)
        (frames.goes_on logs members part limit c life room highest k.next settling (steps write_one settling.state full.outs)
        (settles_from logs members part limit c life room highest pos less k.next behind end rows
        (subst (At k.next) (sym (notes_settled_are behind f.segment)) k.stands))
        (λ m i. sends_so m settling.state full.outs (log_go_on-sends (log.landed l f)) i))

    followed_so : (before : LogState) → At n (record s { log = before }) → (fate : Fate)
        → Wrote n s (cond (log.can_follow l f fate) (log.followed l f fate) (still before))
    followed_so before q Restripe =
        by_test (λ (r : log.Done). Wrote n s r) (log.can_follow l f Restripe) (log.restriped l f) (still before) (λ t. restriped_so)
        (λ t. frames.goes_still logs members part limit c life room highest n (record s { log = before }) q)
    followed_so before q Settle =
        by_test (λ (r : log.Done). Wrote n s r) (log.can_follow l f Settle) (log.settled l f) (still before) (λ t. settled_so)
        (λ t. frames.goes_still logs members part limit c life room highest n (record s { log = before }) q)
    followed_so before q Wait =
        frames.goes_still logs members part limit c life room highest n (record s { log = record l { flight = Some f } }) (flies_so f refl refl)

    looked_so : (before : LogState) → At n (record s { log = before }) → Wrote n s (log.looked_at before l f)
    unfolding log.looked_at
    looked_so before q = followed_so before q (fate_of l.groups f)

  -- ---- the inputs of the log but for a block that waits: one segment more may be settled, where one is in flight

  module _ (n : Net) (s : Serving) (here : At n s) where
    still_logged : Wrote n s (still s.log)
    still_logged = frames.goes_still logs members part limit c life room highest n s here

    abbrev ticked : Option FlightState → log.Done
    ticked None = still s.log
    ticked (Some f) = record { state = s.log; outs = log.sending_send f }

    ticked_so : (o : Option FlightState) → Wrote n s (ticked o)
    unfolding log.sending_send
    ticked_so None = still_logged
    ticked_so (Some f) = only_sends n s (ticked (Some f)) (all_sent f f.group.members 0) here

    pub ticks_so : Goes n (serving_write s log_in.Tick)
    unfolding log.on_tick
    ticks_so = writes_from n s log_in.Tick (ticked_so s.log.flight)

    module _ (h : (f : FlightState) → s.log.flight ≡ Some f → Before n s.tokens s.log s.lasting.number s.lasting.inc) where
      -- what is in flight of it
      flying : (f : FlightState) → s.log.flight ≡ Some f → Before n s.tokens (record s.log { flight = Some f }) s.lasting.number s.lasting.inc
      flying f fact = subst (λ (o : Option FlightState). Before n s.tokens (record s.log { flight = o }) s.lasting.number s.lasting.inc) fact (h f fact)

      abbrev acked : SegName → ℕ → ℕ → Option FlightState → log.Done
      acked name index generation None = still s.log
      acked name index generation (Some f) = if flights.is_of f name index generation then log.looked_at s.log s.log (flights.flight_note f index) else still s.log

      acked_so : (name : SegName) (index generation : ℕ) (o : Option FlightState) → s.log.flight ≡ o → Wrote n s (acked name index generation o)
      acked_so name index generation None fact = still_logged
      acked_so name index generation (Some f) fact =
          by_test (λ (r : log.Done). Wrote n s r) (flights.is_of f name index generation) (log.looked_at s.log s.log (flights.flight_note f index)) (still s.log)
          (λ t. looked_so n s s.log (flights.flight_note f index)
          (reflown logs members part limit c life (room + 1) highest n s.tokens s.log f (flights.flight_note f index) s.lasting.number s.lasting.inc refl refl
          (flying f fact))
          s.log here)
          (λ t. still_logged)

      abbrev mapped : GroupMapState → Option FlightState → log.Done
      mapped groups None = still (record s.log { groups = groups })
      mapped groups (Some f) = log.looked_at s.log (record s.log { groups = groups }) f

      mapped_so : (groups : GroupMapState) (o : Option FlightState) → s.log.flight ≡ o → Wrote n s (mapped groups o)
      mapped_so groups None fact =
          frames.goes_still logs members part limit c life room highest n (record s { log = record s.log { groups = groups } })
          (regrouped logs members part limit c life room highest n s.tokens s.log groups s.lasting.number s.lasting.inc here)
      mapped_so groups (Some f) fact =
          looked_so n s (record s.log { groups = groups }) f
          (regrouped logs members part limit c life (room + 1) highest n s.tokens (record s.log { flight = Some f }) groups s.lasting.number s.lasting.inc
          (flying f fact)) s.log here

      pub acks_so : (name : SegName) (index generation : ℕ) → Goes n (serving_write s (log_in.Acked name index generation))
      unfolding log.on_acked
      acks_so name index generation = writes_from n s (log_in.Acked name index generation) (acked_so name index generation s.log.flight refl)

      pub maps_so : (groups : GroupMapState) → Goes n (serving_write s (log_in.Maps groups))
      unfolding log.on_maps
      maps_so groups = writes_from n s (log_in.Maps groups) (mapped_so groups s.log.flight refl)
