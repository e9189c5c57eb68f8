-- Each thing that a client does keeps that just the dirty blocks wait to be written or are in flight.
use Rattle.std.proofs.Common.{◌≡◌, ℕ, ◌+◌, ◌<◌, Bool, true, false, cond, if◌then◌else◌, ◌&&◌, not, nat_lt, List, [], ◌∷◌, map, take, drop, length, Option, Some, None, is_none, refl, sym, ap, subst, ◌∙◌, arith}
use Rattle.std.specs.Prelude.{fold}
use Rattle.std.specs.List.{AllByRecursion, list_any}
use Rattle.std.proofs.lemmas.List.{drop-map, take-map}
use Rattle.client_log.specs.declared.input.In as log_in
use Rattle.client_log.specs.declared.input.In.TheVariants as log_ins
use Rattle.client_log.specs.declared.output.Out as log_out
use Rattle.client_log.specs.declared.output.Out.TheVariants.{Send, Settled}
use Rattle.client_log.specs.LogState.{LogState}
use Rattle.client_log.specs.Transition as log
use Rattle.client_log.specs.Transition.{sending_send, can_follow, followed, has_next, log_go_on, is_full, is_idle, landed, log_launch, looked_at, next_attempt, on_acked, on_maps, on_seal, on_tick, restriped, log_seal, settled}
use Rattle.client_serving.specs.declared.serving.Serving.{Serving}
use Rattle.client_serving.specs.Flights.{feeds, give_if_clean, gives_up, held_at, keep_row, notes_settled, settle_rows, serving_settle, serving_write, write_one}
use Rattle.client_serving.specs.Follow.{evicts, note_clean, serving_seal}
use Rattle.client_serving.specs.Sends as client
use Rattle.coop_cache.specs.declared.output.Out as cache_out
use Rattle.coop_cache.specs.declared.output.Out.TheVariants.{Victim}
use Rattle.coop_cache.specs.Transition.{cache_clean}
use Rattle.group_map.specs.GroupMapState.{GroupMapState}
use Rattle.log_flight.specs.declared.flight.Fate.{Fate}
use Rattle.log_flight.specs.declared.flight.Fate.TheVariants.{Restripe, Settle, Wait}
use Rattle.log_flight.specs.Fate.{fate_of}
use Rattle.log_flight.specs.Flights as flights
use Rattle.log_flight.specs.Flights.{FlightState, is_of, flight_note}
use Rattle.log_flight.specs.Items.{items_of}
use Rattle.log_owner.specs.Sealing.{is_settling}
use Rattle.segment_format.specs.declared.segment.Item.{Item}
use Rattle.segment_format.specs.declared.segment.Item.TheVariants.{Block, Delta, Part}
use Rattle.segment_format.specs.declared.segment.Segment.{Segment}
use Rattle.segment_format.specs.Rows.{rows_of}
use Rattle.token_client.specs.declared.held.Giving.{Giving}
use Rattle.token_client.specs.declared.held.Held.{Held}
use Rattle.token_client.specs.Held.{is_dirty, let_go, may_evict}
use Rattle.token_client.specs.Settling.{is_giving}
use Rattle.token_client.specs.State.{TokensState, dirty_in, held_of, with_held}
use Rattle.token_client.specs.Transition.{Done, on_evict}
use Rattle.xfs_base.specs.declared.block.BlockId.{BlockId}
use Rattle.xfs_base.specs.declared.entry.Entry.{Entry}
use Rattle.xfs_base.specs.declared.segment.End.{End}
use Rattle.xfs_base.specs.declared.segment.SegName.{SegName}
use Rattle.xfs_base.specs.Limits.{segment_blocks, u32_end}
use Rattle.xfs_base.specs.Modes.{is_held}
use Rattle.xfs_base.specs.Steps.{steps, still}
use Rattle.xfs_base.proofs.Booleans.{and_first, by_test, contrary}
use Rattle.node_slots.specs.client_law.Unsettled.{versions_flown, versions_waiting}
use Rattle.node_slots.proofs.client_law.Emptying.{IsSend, all_sent}
use Rattle.node_slots.proofs.client_law.Keeping.{At, Fact, IsOuter, TakesKeep, serving_seal-keeps, take_back-keeps}
use Rattle.node_slots.proofs.client_law.Unsettled.{AreUnsettled, unsettled-clean, unsettled-put, unsettled-same, unsettled-sealed, unsettled-settled}
use Rattle.node_slots.proofs.client_law.Versions.{Versions, row_version, told, version_of, versions_written}

-- ---- the log

-- the segment in flight has the number after the end
abbrev pub NextTo : Option FlightState → ℕ → Type 0
NextTo None end = Unit {0}
NextTo (Some f) end = f.segment.name.seq ≡ end + 1

-- just what is dirty waits or is in flight
pub record Writes (t : TokensState) (l : LogState) : Type 0 where
  pub versions : AreUnsettled t (versions_waiting l) (versions_flown l.flight)
  pub next : NextTo l.flight l.end.seq

idle_is : (o : Option FlightState) → is_none o ≡ true → o ≡ None
idle_is None h = refl
idle_is (Some f) h = contrary h

-- what waits first, in flight
abbrev sealed_flight : LogState → FlightState
sealed_flight l =
    flights.flown (log.next_name l) (log.prior_from l.end) (items_of 0 (take segment_blocks l.dirty)) (flights.group_for l.groups l.log.0 (log.next_name l).seq)

-- what waits first is sealed
log_seal-writes : (t : TokensState) (l : LogState) → l.flight ≡ None → Writes t l → Writes t (log_seal l).state
unfolding log_seal log_launch
log_seal-writes t l idle p =
    let before : AreUnsettled t (versions_waiting l) [] = subst (λ o. AreUnsettled t (versions_waiting l) (versions_flown o)) idle p.versions in
    record {
      versions =
          subst (λ w. AreUnsettled t w (versions_flown (log_seal l).state.flight)) (drop-map version_of segment_blocks l.dirty)
          (subst (λ d. AreUnsettled t (drop segment_blocks (versions_waiting l)) d)
          (take-map version_of segment_blocks l.dirty ∙ sym (versions_written (sealed_flight l).segment 0 (take segment_blocks l.dirty)))
          (unsettled-sealed t (versions_waiting l) segment_blocks before));
      next = refl;
    }

on_seal-writes : (t : TokensState) (l : LogState) → Writes t l → Writes t (on_seal l).state
unfolding on_seal
on_seal-writes t l p =
    by_test (λ (d : log.Done). Writes t d.state) (is_idle l && nat_lt 0 (length l.dirty) && has_next l.end.seq) (log_seal l) (still l)
    (λ x. log_seal-writes t l (idle_is l.flight (and_first (is_idle l) _ (first (is_idle l) _ _ x))) p) (λ x. p)
  where
    first : (a b c : Bool) → ((a && b) && c) ≡ true → (a && b) ≡ true
    first a b c h = and_first (a && b) c h

pub log_go_on-writes : (t : TokensState) (l : LogState) → Writes t l → Writes t (log_go_on l).state
unfolding log_go_on
log_go_on-writes t l p =
    by_test (λ (d : log.Done). Writes t d.state) (is_full l) (log_seal l) (still l) (λ x. log_seal-writes t l (idle_is l.flight (and_first (is_idle l) _ x)) p)
    (λ x. p)

-- the end stays
log_seal-end : (l : LogState) → (log_seal l).state.end ≡ l.end
unfolding log_seal log_launch
log_seal-end l = refl

on_seal-end : (l : LogState) → (on_seal l).state.end ≡ l.end
unfolding on_seal
on_seal-end l =
    by_test (λ (d : log.Done). d.state.end ≡ l.end) (is_idle l && nat_lt 0 (length l.dirty) && has_next l.end.seq) (log_seal l) (still l) (λ x. log_seal-end l)
    (λ x. refl)

pub log_go_on-end : (l : LogState) → (log_go_on l).state.end ≡ l.end
unfolding log_go_on
log_go_on-end l = by_test (λ (d : log.Done). d.state.end ≡ l.end) (is_full l) (log_seal l) (still l) (λ x. log_seal-end l) (λ x. refl)

-- ---- what is sent

log_seal-sends : (l : LogState) → AllByRecursion IsSend (log_seal l).outs
unfolding log_seal log_launch sending_send
log_seal-sends l = all_sent (sealed_flight l) (sealed_flight l).group.members 0

pub log_go_on-sends : (l : LogState) → AllByRecursion IsSend (log_go_on l).outs
unfolding log_go_on
log_go_on-sends l = by_test (λ (d : log.Done). AllByRecursion IsSend d.outs) (is_full l) (log_seal l) (still l) (λ x. log_seal-sends l) (λ x. tt)

sent-still : (s : Serving) (outs : List log_out.Out) → AllByRecursion IsSend outs → (steps write_one s outs).state ≡ s
unfolding write_one
sent-still s [] all = refl
sent-still s (Send fragment member ∷ outs) all = sent-still s outs all.1
sent-still s (Settled end rows ∷ outs) all = absurd all.0

-- ---- the fact

-- just what is dirty waits or is in flight, and so many segments may still be settled before the numbers end
pub record Unsettled (n : ℕ) (t : TokensState) (l : LogState) : Type 0 where
  pub log : Writes t l
  pub room : l.end.seq + n < u32_end

abbrev pub B : Fact
B t l c = Writes t l

abbrev pub P : ℕ → Fact
P n t l c = Unsettled n t l

-- the same end leaves the same room
pub room_same : (n : ℕ) (e f : End) → f ≡ e → e.seq + n < u32_end → f.seq + n < u32_end
room_same n e f same room = subst (λ (x : End). x.seq + n < u32_end) (sym same) room

module _ (n : ℕ) where
  -- one block is put at the same versions
  put-unsettled : (t : TokensState) (l : LogState) (block : BlockId) (g : Held) → g.ver ≡ (held_of t.blocks block).ver
      → g.settled ≡ (held_of t.blocks block).settled → Unsettled n t l → Unsettled n (with_held t block g) l
  put-unsettled t l block g ver settled p = record {
    log = record { versions = unsettled-put t (versions_waiting l) (versions_flown l.flight) p.log.versions block g ver settled; next = p.log.next };
    room = p.room;
  }

  pub clean-unsettled : (t : TokensState) (l : LogState) (block : BlockId) (g : Held) → is_dirty (held_of t.blocks block) ≡ false → is_dirty g ≡ false
      → Unsettled n t l → Unsettled n (with_held t block g) l
  clean-unsettled t l block g was now p = record {
    log = record { versions = unsettled-clean t (versions_waiting l) (versions_flown l.flight) p.log.versions block g was now; next = p.log.next };
    room = p.room;
  }

  pub evict-unsettled : (t : TokensState) (l : LogState) (block : BlockId) → Unsettled n t l → Unsettled n (on_evict t block).state l
  unfolding on_evict
  evict-unsettled t l block p =
      let h : Held = held_of t.blocks block in
      by_test (λ (d : Done). Unsettled n d.state l) (may_evict h) (still (with_held t block (let_go h))) (still t)
      (λ x. put-unsettled t l block (let_go h) refl refl p) (λ x. p)

  seals-unsettled : (t : TokensState) (l : LogState) → Unsettled n t l → Unsettled n t (on_seal l).state
  seals-unsettled t l p = record { log = on_seal-writes t l p.log; room = room_same n l.end (on_seal l).state.end (on_seal-end l) p.room }

  pub takes-unsettled : TakesKeep (P n)
  takes-unsettled = record {
    quiet = λ t u l c q p. record {
      log = record {
        versions = unsettled-same t (versions_waiting l) (versions_flown l.flight) p.log.versions u (λ b. ((q b).ver, (q b).settled));
        next = p.log.next;
      };
      room = p.room;
    };
    puts_off = λ t l c block g dirty fact p. put-unsettled t l block g fact.ver fact.settled p;
    lets = λ t l c block g clean fact p. put-unsettled t l block g fact.ver fact.settled p;
    lowers = λ t l c block g clean fact p. put-unsettled t l block g fact.ver fact.settled p;
    leaves = λ t l c block nothing p. p;
    seals = λ t l c p. seals-unsettled t l p;
  }

  -- ---- the cache

  all_evicted : (s : Serving) (outs : List cache_out.Out) → At (P n) s → At (P n) (fold evicts s outs)
  unfolding evicts
  all_evicted s [] p = p
  all_evicted s (Victim block ∷ outs) p = all_evicted (evicts s (Victim block)) outs (evict-unsettled s.tokens s.log block p)

  pub note_clean-unsettled : (s : Serving) (block : BlockId) → At (P n) s → At (P n) (note_clean s block)
  unfolding note_clean
  note_clean-unsettled s block p = all_evicted (record s { cache = (cache_clean s.cache block).state }) (cache_clean s.cache block).outs p

  keep_row-unsettled : (s : Serving) (row : BlockId × Entry) → At (P n) s → At (P n) (keep_row s row)
  unfolding keep_row
  keep_row-unsettled s row p =
      by_test (At (P n)) (not (is_dirty (held_at s row.0)) && is_held (held_at s row.0).mode) (note_clean s row.0) s (λ x. note_clean-unsettled s row.0 p)
      (λ x. p)

  rows_clean : (s : Serving) (rows : List (BlockId × Entry)) → At (P n) s → At (P n) (fold keep_row s rows)
  rows_clean s [] p = p
  rows_clean s (row ∷ rows) p = rows_clean (keep_row s row) rows (keep_row-unsettled s row p)

  -- ---- what is given up

  gives_up-unsettled : (s : Serving) (block : BlockId) (g : Option Giving) → At (P n) s → At (P n) (gives_up s block g).state
  gives_up-unsettled s block None p = p
  gives_up-unsettled s block (Some g) p = take_back-keeps (P n) takes-unsettled s p block g.stamp g.keep

  give_if_clean-unsettled : (s : Serving) (block : BlockId) → At (P n) s → At (P n) (give_if_clean s block).state
  unfolding give_if_clean
  give_if_clean-unsettled s block p =
      by_test (λ (d : client.Done). At (P n) d.state) (is_dirty (held_at s block)) (still s) (gives_up s block (held_at s block).giving) (λ x. p)
      (λ x. gives_up-unsettled s block (held_at s block).giving p)

  all_given : (s : Serving) (xs : List BlockId) → At (P n) s → At (P n) (steps give_if_clean s xs).state
  all_given s [] p = p
  all_given s (x ∷ xs) p = all_given (give_if_clean s x).state xs (give_if_clean-unsettled s x p)

-- ---- a segment is settled

rows_settled : (s : Serving) (w : Versions) (rows : List (BlockId × Entry)) → AreUnsettled s.tokens w (map row_version rows)
    → AreUnsettled (fold notes_settled s rows).tokens w []
unfolding notes_settled
rows_settled s w [] p = p
rows_settled s w (row ∷ rows) p = rows_settled (notes_settled s row) w rows (unsettled-settled s.tokens w (map row_version rows) row.0 row.1.ver p)

log_stays : (s : Serving) (rows : List (BlockId × Entry)) → (fold notes_settled s rows).log ≡ s.log
unfolding notes_settled
log_stays s [] = refl
log_stays s (row ∷ rows) = log_stays (notes_settled s row) rows

-- a flight that just what is dirty waits behind, or is in
record Flies (t : TokensState) (l : LogState) (f : FlightState) : Type 0 where
  versions : AreUnsettled t (versions_waiting l) (versions_flown (Some f))
  next : f.segment.name.seq ≡ l.end.seq + 1
  room : l.end.seq + 1 < u32_end

-- what the log did is done, and so it is then
abbrev pub WroteSo : Serving → log.Done → Type 0
WroteSo s d = At (P 0) (steps write_one (record s { log = d.state }) d.outs).state

module _ (s : Serving) where
  pub sent-so : (d : log.Done) → AllByRecursion IsSend d.outs → Unsettled 0 s.tokens d.state → WroteSo s d
  sent-so d sent p = subst (At (P 0)) (sym (sent-still (record s { log = d.state }) d.outs sent)) p

  module _ (l : LogState) (f : FlightState) (p : Flies s.tokens l f) where
    abbrev rows : List (BlockId × Entry)
    rows = rows_of f.segment

    -- the client, once the log is sealed anew behind it
    abbrev behind : Serving
    behind = record s { log = (log_go_on (landed l f)).state }

    landed-so : At (P 0) (fold notes_settled behind rows)
    landed-so =
        let u : Serving = fold notes_settled behind rows in
        let here : Writes u.tokens (landed l f) = record { versions = rows_settled behind (versions_waiting l) rows p.versions; next = tt } in
        subst (λ (m : LogState). Unsettled 0 u.tokens m) (sym (log_stays behind rows))
        (record {
          log = log_go_on-writes u.tokens (landed l f) here;
          room = room_same 0 (landed l f).end behind.log.end (log_go_on-end (landed l f)) (upto f.segment.name.seq l.end.seq p.next p.room);
        })
      where
        upto : (seq end : ℕ) → seq ≡ end + 1 → end + 1 < u32_end → seq + 0 < u32_end
        upto seq end fact room = omega (arith, fact, room)

    serving_settle-so : (end : End) → At (P 0) (serving_settle behind end rows).state
    unfolding serving_settle
    serving_settle-so end =
        all_given 0 (feeds (settle_rows behind rows) end rows) (dirty_in s.tokens.blocks) (rows_clean 0 (fold notes_settled behind rows) rows landed-so)

    settled-so : WroteSo s (settled l f)
    unfolding settled write_one
    settled-so =
        let u : Serving = (serving_settle behind _ rows).state in
        subst (At (P 0)) (sym (sent-still u (log_go_on (landed l f)).outs (log_go_on-sends (landed l f)))) (serving_settle-so _)

    -- ---- the same content flies anew

    told_same : (a b : Segment) (items : List Item) → told a items ≡ told b items
    told_same a b [] = refl
    told_same a b (Block block value ∷ items) = told_same a b items
    told_same a b (Delta block ver hop item ∷ items) = ap (λ rest. (block, ver) ∷ rest) (told_same a b items)
    told_same a b (Part slot entries ∷ items) = told_same a b items

    less_room : l.end.seq + 0 < u32_end
    less_room = (let room : l.end.seq + 1 < u32_end = p.room in omega arith)

    abbrev anew : FlightState
    anew = flights.flown (next_attempt f.segment.name) f.segment.prior f.segment.items (flights.group_for l.groups l.log.0 (next_attempt f.segment.name).seq)

    restriped-so : WroteSo s (restriped l f)
    unfolding restriped log_launch sending_send
    restriped-so =
        sent-so (restriped l f) (all_sent anew anew.group.members 0)
        (record {
          log = record {
            versions = subst (AreUnsettled s.tokens (versions_waiting l)) (told_same f.segment anew.segment f.segment.items) p.versions;
            next = p.next;
          };
          room = less_room;
        })

    waits-so : WroteSo s (still (record l { flight = Some f }))
    waits-so = record { log = record { versions = p.versions; next = p.next }; room = less_room }

    followed-so : (before : LogState) → Unsettled 0 s.tokens before → (fate : Fate) → WroteSo s (cond (can_follow l f fate) (followed l f fate) (still before))
    followed-so before q Restripe = by_test (WroteSo s) (can_follow l f Restripe) (restriped l f) (still before) (λ x. restriped-so) (λ x. q)
    followed-so before q Settle = by_test (WroteSo s) (can_follow l f Settle) (settled l f) (still before) (λ x. settled-so) (λ x. q)
    followed-so before q Wait = waits-so

    looked-so : (before : LogState) → Unsettled 0 s.tokens before → WroteSo s (looked_at before l f)
    unfolding looked_at
    looked-so before q = followed-so before q (fate_of l.groups f)

  -- ---- the inputs of the log

  lessened : Unsettled 1 s.tokens s.log → Unsettled 0 s.tokens s.log
  lessened p = record { log = p.log; room = (let room : s.log.end.seq + 1 < u32_end = p.room in omega arith) }

  flying : (f : FlightState) → s.log.flight ≡ Some f → Unsettled 1 s.tokens s.log → Flies s.tokens s.log f
  flying f fact p = record {
    versions = subst (λ o. AreUnsettled s.tokens (versions_waiting s.log) (versions_flown o)) fact p.log.versions;
    next = subst (λ o. NextTo o s.log.end.seq) fact p.log.next;
    room = p.room;
  }

  module _ (p : Unsettled 1 s.tokens s.log) where
    abbrev acked : SegName → ℕ → ℕ → Option FlightState → log.Done
    acked name index generation None = still s.log
    acked name index generation (Some f) = if is_of f name index generation then looked_at s.log s.log (flight_note f index) else still s.log

    acked-so : (name : SegName) (index generation : ℕ) (o : Option FlightState) → s.log.flight ≡ o → WroteSo s (acked name index generation o)
    acked-so name index generation None fact = lessened p
    acked-so name index generation (Some f) fact =
        let q : Flies s.tokens s.log f = flying f fact p in
        by_test (WroteSo s) (is_of f name index generation) (looked_at s.log s.log (flight_note f index)) (still s.log)
        (λ x. looked-so s.log (flight_note f index) (record { versions = q.versions; next = q.next; room = q.room }) s.log (lessened p)) (λ x. lessened p)

    abbrev mapped : GroupMapState → Option FlightState → log.Done
    mapped groups None = still (record s.log { groups = groups })
    mapped groups (Some f) = looked_at s.log (record s.log { groups = groups }) f

    mapped-so : (groups : GroupMapState) (o : Option FlightState) → s.log.flight ≡ o → WroteSo s (mapped groups o)
    mapped-so groups None fact =
        let q : Unsettled 0 s.tokens s.log = lessened p in record { log = record { versions = q.log.versions; next = q.log.next }; room = q.room }
    mapped-so groups (Some f) fact =
        let q : Flies s.tokens s.log f = flying f fact p in
        looked-so (record s.log { groups = groups }) f (record { versions = q.versions; next = q.next; room = q.room }) s.log (lessened p)

    abbrev ticked : Option FlightState → log.Done
    ticked None = still s.log
    ticked (Some f) = record { state = s.log; outs = sending_send f }

    ticked-so : (o : Option FlightState) → WroteSo s (ticked o)
    unfolding sending_send
    ticked-so None = lessened p
    ticked-so (Some f) = sent-so (ticked (Some f)) (all_sent f f.group.members 0) (lessened p)

    outer-so : (M : GroupMapState → Type 0) (i : log_in.In) → IsOuter M i → WroteSo s (log.transition s.log i)
    unfolding on_acked on_maps on_tick
    outer-so M (log_ins.Put block entry value) outer = absurd outer
    outer-so M (log_ins.Parts items) outer = absurd outer
    outer-so M log_ins.Seal outer = absurd outer
    outer-so M (log_ins.Acked name index generation) outer = acked-so name index generation s.log.flight refl
    outer-so M (log_ins.Maps groups) outer = mapped-so groups s.log.flight refl
    outer-so M log_ins.Tick outer = ticked-so s.log.flight

-- what the log says is done, and where a block is still to be given up it is sealed again
pub written-so : (s : Serving) (i : log_in.In) → WroteSo s (log.transition s.log i) → At (P 0) (serving_write s i).state
unfolding serving_write
written-so s i p =
    let outs : List log_out.Out = (log.transition s.log i).outs in
    let u : Serving = (steps write_one (record s { log = (log.transition s.log i).state }) outs).state in
    by_test (λ (d : client.Done). At (P 0) d.state) (list_any is_settling outs && is_giving u.tokens) (serving_seal u) (still u)
    (λ x. serving_seal-keeps (P 0) (takes-unsettled 0) u p) (λ x. p)

pub logs-unsettled : (s : Serving) (i : log_in.In) (M : GroupMapState → Type 0) → IsOuter M i → At (P 1) s → At (P 0) (serving_write s i).state
logs-unsettled s i M outer p = written-so s i (outer-so s p M i outer)
