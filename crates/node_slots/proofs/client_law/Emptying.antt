-- An opening that ends leaves a log in which nothing waits, and nothing is in flight: its first segment has no item and nothing waits behind it.
use Rattle.std.proofs.Common.{◌≡◌, ℕ, ◌+◌, true, cond, if◌then◌else◌, ◌&&◌, nat_le, List, [], ◌∷◌, ◌++◌, length, Option, Some, None, is_some, refl, sym, ap, ◌∙◌, arith}
use Rattle.std.specs.List.{AllByRecursion}
use Rattle.client_log.specs.declared.input.In.{In as LogIn}
use Rattle.client_log.specs.declared.input.In.TheVariants as log_in
use Rattle.client_log.specs.declared.output.Out.{Out as LogOut}
use Rattle.client_log.specs.declared.output.Out.TheVariants as log_out
use Rattle.client_log.specs.LogState.{LogState}
use Rattle.client_log.specs.Transition as log
use Rattle.client_log.specs.Transition.{sending_send, can_follow, followed, has_next, log_go_on, is_full, is_idle, landed, log_launch, looked_at, next_attempt, next_name, on_acked, on_maps, on_parts, on_tick as log_tick, prior_from, restriped, log_seal, send_at, sends, settled}
use Rattle.group_map.specs.declared.group.Member.{Member}
use Rattle.group_map.specs.GroupMapState.{GroupMapState}
use Rattle.log_flight.specs.declared.flight.Fate.{Fate}
use Rattle.log_flight.specs.declared.flight.Fate.TheVariants.{Restripe, Settle, Wait}
use Rattle.log_flight.specs.Fate.{fate_of}
use Rattle.log_flight.specs.Flights as flights
use Rattle.log_flight.specs.Flights.{FlightState, is_noted, is_of, flight_note}
use Rattle.log_flight.specs.Texts.{has_text}
use Rattle.log_owner.specs.declared.known.Known.{Known}
use Rattle.log_owner.specs.declared.opened.Progress.TheVariants as progress
use Rattle.log_owner.specs.declared.opening.Opening.{Opening}
use Rattle.log_owner.specs.declared.opening.Scanning.{Scanning}
use Rattle.log_owner.specs.declared.opening.Settling.{Settling}
use Rattle.log_owner.specs.declared.opening.Stage.{Stage}
use Rattle.log_owner.specs.declared.opening.Stage.TheVariants as stage
use Rattle.node_slots.specs.client_law.Empty.{WaitsForNothing}
use Rattle.node_slots.proofs.client_law.Empty.{OpensEmpty}
use Rattle.log_owner.specs.Opening.{Moved, Went, answers, known_scanning, behind, by_server, drops, fenced_by, known_follow, found_by, is_fenced, is_meant, missing_by, on_body, on_fenced, on_found, on_missing, on_news, opening_take, on_stored, on_tick, on_welcome, known_go_on, own_in, regrouped, scanned, scans, scans_at, scans_on, settles_over, start_log, stays, welcomed, welcomed_as, welcomed_with, went, known_write, written, send_one}
use Rattle.log_owner.specs.Sending.{hello, server_in}
use Rattle.log_scan.specs.declared.input.In.{In}
use Rattle.log_scan.specs.declared.input.In.TheVariants as input
use Rattle.log_scan.specs.Transition as scan
use Rattle.node_base.specs.Asking.{draw, next_ask, own_of}
use Rattle.node_base.specs.declared.questions.Questions.{Questions}
use Rattle.node_base.specs.Known.{names_known_groups}
use Rattle.node_base.specs.Maps.{fits, is_older, maps_take}
use Rattle.node_base.specs.Shape.{is_log}
use Rattle.segment_format.specs.declared.segment.Item.{Item}
use Rattle.segment_format.specs.Rows.{rows_of}
use Rattle.wire_msg.specs.declared.body.Body.{Body}
use Rattle.wire_msg.specs.declared.body.Body.TheVariants as body
use Rattle.wire_msg.specs.declared.packet.Packet.{Packet}
use Rattle.wire_msg.specs.declared.registry.News.{News}
use Rattle.wire_msg.specs.declared.registry.Welcome.{Welcome}
use Rattle.wire_msg.specs.declared.storage.Stored.{Stored}
use Rattle.xfs_base.proofs.Booleans.{and_second, by_test, contrary}
use Rattle.xfs_base.specs.declared.node.NodeId.{NodeId}
use Rattle.xfs_base.specs.declared.segment.End.{End}
use Rattle.xfs_base.specs.declared.segment.SegName.{SegName}
use Rattle.xfs_base.specs.Limits.{segment_blocks}
use Rattle.xfs_base.specs.Steps.{saying, steps, still}

-- ---- what the log says

abbrev pub IsSend : LogOut → Type 0
IsSend (log_out.Send fragment member) = Unit {0}
IsSend (log_out.Settled end rows) = ⊥

one_sent : (f : FlightState) (m : Member) (place : ℕ) (rest : List LogOut) → AllByRecursion IsSend rest → AllByRecursion IsSend (send_at f m place ++ rest)
one_sent f m place rest all = by_test (λ (outs : List LogOut). AllByRecursion IsSend (outs ++ rest)) (is_noted f.noted place) [] _ (λ x. all) (λ x. (tt, all))

pub all_sent : (f : FlightState) (ms : List Member) (place : ℕ) → AllByRecursion IsSend (sends f ms place)
all_sent f [] place = tt
all_sent f (m ∷ ms) place = one_sent f m place (sends f ms (place + 1)) (all_sent f ms (place + 1))

-- what is sent is no end
sent_none : (before : Option End) (outs : List LogOut) → AllByRecursion IsSend outs → (steps send_one before outs).state ≡ before
unfolding send_one
sent_none before [] all = refl
sent_none before (log_out.Send fragment member ∷ outs) all = sent_none before outs all.1
sent_none before (log_out.Settled end rows ∷ outs) all = absurd all.0

-- nothing waits, and where a segment is settled none is in flight
record Empties (d : log.Done) : Type 0 where
  dirty : d.state.dirty ≡ []
  landed : is_some (written d.outs).state ≡ true → d.state.flight ≡ None

sent_empties : (d : log.Done) → d.state.dirty ≡ [] → AllByRecursion IsSend d.outs → Empties d
sent_empties d dirty all = record { dirty = dirty; landed = λ some. contrary (sym (ap is_some (sent_none None d.outs all)) ∙ some) }

module _ (l : LogState) (empty : l.dirty ≡ []) where
  still_empties : Empties (still l)
  still_empties = record { dirty = empty; landed = λ some. contrary some }

  begun_empties : (items : List Item) → Empties (log.log_write l items)
  unfolding log_launch sending_send
  begun_empties items =
      let f : FlightState = flights.flown (next_name l) (prior_from l.end) items (flights.group_for l.groups l.log.0 (next_name l).seq) in
      sent_empties (log.log_write l items) empty (all_sent f f.group.members 0)

  module _ (f : FlightState) where
    restriped_empties : Empties (restriped l f)
    unfolding restriped log_launch sending_send
    restriped_empties =
        let g : FlightState =
        flights.flown (next_attempt f.segment.name) f.segment.prior f.segment.items (flights.group_for l.groups l.log.0 (next_attempt f.segment.name).seq) in
        sent_empties (restriped l f) empty (all_sent g g.group.members 0)

    -- behind a segment that is settled nothing is sealed, since nothing waits
    settled_empties : Empties (settled l f)
    unfolding settled log_go_on send_one
    settled_empties =
        by_test (λ (d : log.Done). Empties (saying (log_out.Settled (log.end_of f.segment) (rows_of f.segment) ∷ []) d)) (is_full (landed l f))
        (log_seal (landed l f)) (still (landed l f))
        (λ x. contrary (sym (ap (λ (cs : List _). nat_le segment_blocks (length cs)) empty) ∙ and_second (is_idle (landed l f)) _ x))
        (λ x. record { dirty = empty; landed = λ some. refl })

    followed_empties : (before : LogState) → before.dirty ≡ [] → (fate : Fate) → Empties (cond (can_follow l f fate) (followed l f fate) (still before))
    followed_empties before was Restripe =
        by_test Empties (can_follow l f Restripe) (restriped l f) (still before) (λ x. restriped_empties)
        (λ x. record { dirty = was; landed = λ some. contrary some })
    followed_empties before was Settle =
        by_test Empties (can_follow l f Settle) (settled l f) (still before) (λ x. settled_empties)
        (λ x. record { dirty = was; landed = λ some. contrary some })
    followed_empties before was Wait = record { dirty = empty; landed = λ some. contrary some }

    looked_empties : (before : LogState) → before.dirty ≡ [] → Empties (looked_at before l f)
    unfolding looked_at
    looked_empties before was = followed_empties before was (fate_of l.groups f)

  parts_empties : (items : List Item) → Empties (on_parts l items)
  unfolding on_parts
  parts_empties items =
      by_test Empties (is_idle l && has_next l.end.seq && has_text items) (log.log_write l items) (still l) (λ x. begun_empties items) (λ x. still_empties)

  abbrev acked : SegName → ℕ → ℕ → Option FlightState → log.Done
  acked name index generation None = still l
  acked name index generation (Some f) = if is_of f name index generation then looked_at l l (flight_note f index) else still l

  acked_empties : (name : SegName) (index generation : ℕ) (o : Option FlightState) → Empties (acked name index generation o)
  acked_empties name index generation None = still_empties
  acked_empties name index generation (Some f) =
      by_test Empties (is_of f name index generation) (looked_at l l (flight_note f index)) (still l) (λ x. looked_empties (flight_note f index) l empty)
      (λ x. still_empties)

  abbrev ticked : Option FlightState → log.Done
  ticked None = still l
  ticked (Some f) = record { state = l; outs = sending_send f }

  ticked_empties : (o : Option FlightState) → Empties (ticked o)
  unfolding sending_send
  ticked_empties None = still_empties
  ticked_empties (Some f) = sent_empties (ticked (Some f)) empty (all_sent f f.group.members 0)

module _ (l : LogState) (empty : l.dirty ≡ []) (groups : GroupMapState) where
  abbrev mapped : Option FlightState → log.Done
  mapped None = still (record l { groups = groups })
  mapped (Some f) = looked_at l (record l { groups = groups }) f

  mapped_empties : (o : Option FlightState) → Empties (mapped o)
  mapped_empties None = record { dirty = empty; landed = λ some. contrary some }
  mapped_empties (Some f) = looked_empties (record l { groups = groups }) empty f l empty

-- what an opening has its log take
abbrev IsOpenings : LogIn → Type 0
IsOpenings (log_in.Put block entry value) = ⊥
IsOpenings log_in.Seal = ⊥
IsOpenings _ = Unit {0}

takes_empties : (l : LogState) → l.dirty ≡ [] → (i : LogIn) → IsOpenings i → Empties (log.transition l i)
unfolding on_acked on_maps log_tick
takes_empties l empty (log_in.Put block entry value) its = absurd its
takes_empties l empty (log_in.Parts items) its = parts_empties l empty items
takes_empties l empty log_in.Seal its = absurd its
takes_empties l empty (log_in.Acked name index generation) its = acked_empties l empty name index generation l.flight
takes_empties l empty (log_in.Maps groups) its = mapped_empties l empty groups l.flight
takes_empties l empty log_in.Tick its = ticked_empties l empty l.flight

-- ---- the opening

opens_empty : (k : Known) (s : Settling) (end : Option End) → s.log.dirty ≡ [] → (is_some end ≡ true → s.log.flight ≡ None) → OpensEmpty (known_go_on k s end).state
opens_empty k s None dirty landed = dirty
opens_empty k s (Some end) dirty landed = (dirty, landed refl)

writes_empty : (k : Known) (s : Settling) (i : LogIn) → IsOpenings i → s.log.dirty ≡ [] → OpensEmpty (known_write k s i).state
unfolding known_write
writes_empty k s i its empty =
    let r : log.Done = log.transition s.log i in
    let e : Empties r = takes_empties s.log empty i its in
    opens_empty k (record s { log = r.state }) (written r.outs).state e.dirty e.landed

starts_empty : (k : Known) (s : Scanning) (chain : _) (groups : GroupMapState) → OpensEmpty (start_log k s chain groups).state
starts_empty k s chain groups =
    by_test (λ (m : Moved). OpensEmpty m.state) (is_log k.owner.log.0) (known_write k (behind k chain groups) (log_in.Parts [])) (still (known_scanning k s))
    (λ t. writes_empty k (behind k chain groups) (log_in.Parts []) tt refl) (λ t. tt)

settles_empty : (k : Known) (s : Scanning) (chain : _) (groups : Option GroupMapState) → OpensEmpty (settles_over k s chain groups).state
settles_empty k s chain None = tt
settles_empty k s chain (Some groups) = starts_empty k s chain groups

follows_empty : (k : Known) (s : Scanning) (ended : _) → OpensEmpty (known_follow k s ended).state
unfolding known_follow
follows_empty k s ended = grind (arith, settles_empty)

scans_on_empty : (k : Known) (q : Questions) (s : Scanning) (i : In) → OpensEmpty (scans_on k q s i).progress
unfolding scans_on
scans_on_empty k q s i =
    let r : scan.Done = scan.transition s.scan i in
    let sent = scanned k.owner r.state.opening.low s.asked q r.outs in
    follows_empty k (record { scan = r.state; asked = sent.state.asked }) sent.state.ended

scans_at_empty : (k : Known) (q : Questions) (i : In) (at : Stage) → WaitsForNothing at → OpensEmpty (scans_at k q i at).progress
scans_at_empty k q i (stage.Scanning s) h = scans_on_empty k q s i
scans_at_empty k q i (stage.Settling s) h = h

-- ---- the events

pub tick_empty : (o : Opening) (q : Questions) → WaitsForNothing o.stage → OpensEmpty (on_tick o q).progress
unfolding on_tick
tick_empty o q h = by_stage o.stage h
  where
    by_stage : (at : Stage) → WaitsForNothing at → OpensEmpty (on_tick (record o { stage = at }) q).progress
    by_stage (stage.Scanning s) h = scans_on_empty o.known q s input.Tick
    by_stage (stage.Settling s) h = writes_empty o.known s log_in.Tick tt h

welcomed_empty : (k : Known) (q : Questions) (s : Scanning) (news : News) (own : ℕ) (groups : Option GroupMapState)
    → OpensEmpty (welcomed_with k q s news own groups).progress
welcomed_empty k q s news own None = tt
welcomed_empty k q s news own (Some groups) = scans_on_empty _ q _ (input.Welcome own news.slots groups)

welcomed_as_empty : (k : Known) (q : Questions) (s : Scanning) (news : News) (own : Option ℕ) → OpensEmpty (welcomed_as k q s news own).progress
unfolding welcomed
welcomed_as_empty k q s news None = tt
welcomed_as_empty k q s news (Some own) = welcomed_empty (record k { maps = maps_take k.maps news }) q s news own (maps_take k.maps news).groups

welcome_empty : (o : Opening) (q : Questions) (w : Welcome) → WaitsForNothing o.stage → OpensEmpty (on_welcome o q w).progress
unfolding on_welcome
welcome_empty o q w h = by_stage o.stage h
  where
    by_stage : (at : Stage) → WaitsForNothing at → OpensEmpty (on_welcome (record o { stage = at }) q w).progress
    by_stage (stage.Scanning s) h =
        by_test (λ (x : Went). OpensEmpty x.progress) (is_meant o.known w) (welcomed_as o.known q s w.news (own_of s.asked w.ask)) (stays (known_scanning o.known s) q)
        (λ t. welcomed_as_empty o.known q s w.news (own_of s.asked w.ask)) (λ t. tt)
    by_stage (stage.Settling s) h = h

news_empty : (o : Opening) (q : Questions) (news : News) → WaitsForNothing o.stage → OpensEmpty (on_news o q news).progress
unfolding on_news
news_empty o q news h =
    by_test (λ (x : Went). OpensEmpty x.progress) (fits o.known.maps news && is_older o.known.maps news)
    (regrouped (record o.known { maps = maps_take o.known.maps news }) q news.groups o.stage) (drops o q) (λ t. by_stage o.stage h) (λ t. h)
  where
    by_stage : (at : Stage) → WaitsForNothing at → OpensEmpty (regrouped (record o.known { maps = maps_take o.known.maps news }) q news.groups at).progress
    by_stage (stage.Scanning s) h = scans_on_empty (record o.known { maps = maps_take o.known.maps news }) q s (input.Maps news.groups)
    by_stage (stage.Settling s) h = writes_empty (record o.known { maps = maps_take o.known.maps news }) s (log_in.Maps news.groups) tt h

by_server_empty : (o : Opening) (q : Questions) (f : ℕ → Went) (server : Option ℕ) → WaitsForNothing o.stage → ((n : ℕ) → OpensEmpty (f n).progress)
    → OpensEmpty (by_server o q f server).progress
by_server_empty o q f None h each = h
by_server_empty o q f (Some server) h each = each server

answers_empty : (o : Opening) (q : Questions) (f : ℕ → In) (own : Option ℕ) → WaitsForNothing o.stage → OpensEmpty (answers o q f own).progress
answers_empty o q f None h = h
answers_empty o q f (Some own) h = scans_at_empty o.known q (f own) o.stage h

stored_empty : (o : Opening) (q : Questions) (s : Stored) → WaitsForNothing o.stage → OpensEmpty (on_stored o q s).progress
unfolding on_stored
stored_empty o q s h = by_stage o.stage h
  where
    by_stage : (at : Stage) → WaitsForNothing at → OpensEmpty (on_stored (record o { stage = at }) q s).progress
    by_stage (stage.Scanning scanning) h = h
    by_stage (stage.Settling settling) h = writes_empty o.known settling (log_in.Acked s.name s.index s.generation) tt h

body_empty : (o : Opening) (q : Questions) (from : NodeId) (b : Body) → WaitsForNothing o.stage → OpensEmpty (on_body o q from b).progress
unfolding on_body on_fenced on_found on_missing
body_empty o q from (body.Welcome w) h = welcome_empty o q w h
body_empty o q from (body.MapNews news) h = news_empty o q news h
body_empty o q from (body.Fenced f) h =
    by_server_empty o q (fenced_by o q f) (server_in from) h
    (λ n. by_test (λ (x : Went). OpensEmpty x.progress) (is_fenced o f) (scans o q (input.Fenced n f.generation f.held)) (drops o q)
    (λ t. scans_at_empty o.known q (input.Fenced n f.generation f.held) o.stage h) (λ t. h))
body_empty o q from (body.Fragment f) h =
    by_server_empty o q (found_by o q f) (server_in from) h (λ n. answers_empty o q (λ own. input.Got own n f.generation f.fragment) (own_in o.stage f.ask) h)
body_empty o q from (body.Missing m) h =
    by_server_empty o q (missing_by o q m) (server_in from) h (λ n. answers_empty o q (λ own. input.Missing own n m.generation) (own_in o.stage m.ask) h)
body_empty o q from (body.Stored s) h = stored_empty o q s h
body_empty o q from _ h = h

pub packet_empty : (o : Opening) (q : Questions) (p : Packet) → WaitsForNothing o.stage → OpensEmpty (opening_take o q p).progress
unfolding opening_take
packet_empty o q p h =
    by_test (λ (x : Went). OpensEmpty x.progress) (names_known_groups o.known.maps p.body) (on_body o q p.from p.body)
    (went (progress.Opening o) (draw q) (hello o.known.owner.inc (next_ask q) ∷ [])) (λ t. body_empty o q p.from p.body h) (λ t. h)
