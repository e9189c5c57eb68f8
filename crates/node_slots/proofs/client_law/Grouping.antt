-- Where each map of groups that is said is so, those of an opening are, and so is the one over which the log stripes that it opens.
use Rattle.std.proofs.Common.{◌≡◌, ℕ, cond, if◌then◌else◌, ◌&&◌, List, [], ◌∷◌, Option, Some, None, refl, sym, subst, arith}
use Rattle.client_log.specs.declared.input.In.{In as LogIn}
use Rattle.client_log.specs.declared.input.In.TheVariants as log_in
use Rattle.client_log.specs.LogState.{LogState}
use Rattle.client_log.specs.Transition as log
use Rattle.client_log.specs.Transition.{sending_send, can_follow, followed, has_next, log_go_on, is_full, is_idle, landed, log_launch, looked_at, on_acked, on_maps, on_parts, on_tick as log_tick, restriped, log_seal, settled}
use Rattle.group_map.specs.GroupMapState.{GroupMapState}
use Rattle.log_flight.specs.declared.flight.Fate.{Fate}
use Rattle.log_flight.specs.declared.flight.Fate.TheVariants.{Restripe, Settle, Wait}
use Rattle.log_flight.specs.Fate.{fate_of}
use Rattle.log_flight.specs.Flights.{FlightState, is_of, flight_note}
use Rattle.log_flight.specs.Texts.{has_text}
use Rattle.log_owner.specs.declared.known.Known.{Known}
use Rattle.log_owner.specs.declared.opened.Progress.TheVariants as progress
use Rattle.log_owner.specs.declared.opening.Opening.{Opening}
use Rattle.log_owner.specs.declared.opening.Scanning.{Scanning}
use Rattle.log_owner.specs.declared.opening.Settling.{Settling}
use Rattle.log_owner.specs.declared.opening.Stage.{Stage}
use Rattle.log_owner.specs.declared.opening.Stage.TheVariants as stage
use Rattle.log_owner.specs.Opening.{Moved, Went, answers, known_scanning, behind, by_server, drops, fenced_by, known_follow, found_by, is_fenced, is_meant, missing_by, on_body, on_fenced, on_found, on_missing, on_news, opening_take, on_stored, on_tick, on_welcome, known_go_on, own_in, regrouped, scanned, scans, scans_at, scans_on, settles_over, start_log, stays, welcomed, welcomed_as, welcomed_with, went, known_write, written}
use Rattle.log_owner.specs.Sending.{hello, server_in}
use Rattle.log_scan.specs.declared.input.In.{In}
use Rattle.log_scan.specs.declared.input.In.TheVariants as input
use Rattle.log_scan.specs.Transition as scan
use Rattle.node_base.specs.Asking.{draw, next_ask, own_of}
use Rattle.node_base.specs.declared.maps.Maps.{Maps}
use Rattle.node_base.specs.declared.questions.Questions.{Questions}
use Rattle.node_base.specs.Known.{names_known_groups}
use Rattle.node_base.specs.Maps.{fits, is_older, maps_take}
use Rattle.node_base.specs.Shape.{is_log}
use Rattle.segment_format.specs.declared.segment.Item.{Item}
use Rattle.wire_msg.specs.declared.body.Body.{Body}
use Rattle.wire_msg.specs.declared.body.Body.TheVariants as body
use Rattle.wire_msg.specs.declared.packet.Packet.{Packet}
use Rattle.wire_msg.specs.declared.registry.News.{News}
use Rattle.wire_msg.specs.declared.registry.Welcome.{Welcome}
use Rattle.wire_msg.specs.declared.storage.Stored.{Stored}
use Rattle.xfs_base.proofs.Booleans.{by_test}
use Rattle.xfs_base.specs.declared.node.NodeId.{NodeId}
use Rattle.xfs_base.specs.declared.segment.End.{End}
use Rattle.xfs_base.specs.declared.segment.SegName.{SegName}
use Rattle.xfs_base.specs.Steps.{still}
use Rattle.node_slots.specs.client_law.Maps.{BringsMaps}
use Rattle.node_slots.specs.client_law.Grouped.{HasSuchMaps, KnowsSuch, StripesBySuch}
use Rattle.node_slots.proofs.client_law.Grouped.{OpensBySuch}

-- ---- the log keeps its groups

pub sealed_groups : (l : LogState) → (log_seal l).state.groups ≡ l.groups
unfolding log_seal log_launch
sealed_groups l = refl

pub log_go_on_groups : (l : LogState) → (log_go_on l).state.groups ≡ l.groups
unfolding log_go_on
log_go_on_groups l = by_test (λ (d : log.Done). d.state.groups ≡ l.groups) (is_full l) (log_seal l) (still l) (λ x. sealed_groups l) (λ x. refl)

module _ (Is : GroupMapState → Type 0) where
  abbrev pub Has : log.Done → Type 0
  Has d = Is d.state.groups

  module _ (l : LogState) (p : Is l.groups) (f : FlightState) where
    restriped_has : Has (restriped l f)
    unfolding restriped log_launch
    restriped_has = p

    settled_has : Has (settled l f)
    unfolding settled
    settled_has = subst Is (sym (log_go_on_groups (landed l f))) p

    followed_has : (before : LogState) → Is before.groups → (fate : Fate) → Has (cond (can_follow l f fate) (followed l f fate) (still before))
    followed_has before was Restripe = by_test Has (can_follow l f Restripe) (restriped l f) (still before) (λ x. restriped_has) (λ x. was)
    followed_has before was Settle = by_test Has (can_follow l f Settle) (settled l f) (still before) (λ x. settled_has) (λ x. was)
    followed_has before was Wait = p

    pub looked_has : (before : LogState) → Is before.groups → Has (looked_at before l f)
    unfolding looked_at
    looked_has before was = followed_has before was (fate_of l.groups f)

  -- what an opening has its log take, with such maps
  abbrev IsSuchInput : LogIn → Type 0
  IsSuchInput (log_in.Put block entry value) = ⊥
  IsSuchInput log_in.Seal = ⊥
  IsSuchInput (log_in.Maps groups) = Is groups
  IsSuchInput _ = Unit {0}

  module _ (l : LogState) (p : Is l.groups) where
    parts_has : (items : List Item) → Has (on_parts l items)
    unfolding on_parts log_launch
    parts_has items = by_test Has (is_idle l && has_next l.end.seq && has_text items) (log.log_write l items) (still l) (λ x. p) (λ x. p)

    abbrev pub acked : SegName → ℕ → ℕ → Option FlightState → log.Done
    acked name index generation None = still l
    acked name index generation (Some f) = if is_of f name index generation then looked_at l l (flight_note f index) else still l

    pub acked_has : (name : SegName) (index generation : ℕ) (o : Option FlightState) → Has (acked name index generation o)
    acked_has name index generation None = p
    acked_has name index generation (Some f) =
        by_test Has (is_of f name index generation) (looked_at l l (flight_note f index)) (still l) (λ x. looked_has l p (flight_note f index) l p) (λ x. p)

    abbrev pub mapped : GroupMapState → Option FlightState → log.Done
    mapped groups None = still (record l { groups = groups })
    mapped groups (Some f) = looked_at l (record l { groups = groups }) f

    pub mapped_has : (groups : GroupMapState) → Is groups → (o : Option FlightState) → Has (mapped groups o)
    mapped_has groups so None = so
    mapped_has groups so (Some f) = looked_has (record l { groups = groups }) so f l p

    abbrev pub ticked : Option FlightState → log.Done
    ticked None = still l
    ticked (Some f) = record { state = l; outs = sending_send f }

    pub ticked_has : (o : Option FlightState) → Has (ticked o)
    ticked_has None = p
    ticked_has (Some f) = p

    takes_has : (i : LogIn) → IsSuchInput i → Has (log.transition l i)
    unfolding on_acked on_maps log_tick
    takes_has (log_in.Put block entry value) its = absurd its
    takes_has (log_in.Parts items) its = parts_has items
    takes_has log_in.Seal its = absurd its
    takes_has (log_in.Acked name index generation) its = acked_has name index generation l.flight
    takes_has (log_in.Maps groups) its = mapped_has groups its l.flight
    takes_has log_in.Tick its = ticked_has l.flight

  -- ---- the opening

  abbrev So : Known → Type 0
  So k = KnowsSuch Is k.maps.groups

  known_go_on_so : (k : Known) (s : Settling) (end : Option End) → So k → Is s.log.groups → OpensBySuch Is (known_go_on k s end).state
  known_go_on_so k s None known h = record { known = known; log = h }
  known_go_on_so k s (Some end) known h = h

  known_write_so : (k : Known) (s : Settling) (i : LogIn) → IsSuchInput i → So k → Is s.log.groups → OpensBySuch Is (known_write k s i).state
  unfolding known_write
  known_write_so k s i its known h =
      let r : log.Done = log.transition s.log i in
      known_go_on_so k (record s { log = r.state }) (written r.outs).state known (takes_has s.log h i its)

  scanning : (k : Known) (s : Scanning) → So k → HasSuchMaps Is (record { known = k; stage = stage.Scanning s })
  scanning k s known = record { known = known; log = tt }

  starts_so : (k : Known) (s : Scanning) (chain : _) (groups : GroupMapState) → So k → Is groups → OpensBySuch Is (start_log k s chain groups).state
  starts_so k s chain groups known h =
      by_test (λ (m : Moved). OpensBySuch Is m.state) (is_log k.owner.log.0) (known_write k (behind k chain groups) (log_in.Parts [])) (still (known_scanning k s))
      (λ t. known_write_so k (behind k chain groups) (log_in.Parts []) tt known h) (λ t. scanning k s known)

  settles_so : (k : Known) (s : Scanning) (chain : _) (groups : Option GroupMapState) → So k → KnowsSuch Is groups
      → OpensBySuch Is (settles_over k s chain groups).state
  settles_so k s chain None known h = scanning k s known
  settles_so k s chain (Some groups) known h = starts_so k s chain groups known h

  known_follow_so : (k : Known) (s : Scanning) (ended : _) → So k → OpensBySuch Is (known_follow k s ended).state
  unfolding known_follow
  known_follow_so k s ended known = grind (arith, scanning, settles_so)

  scans_on_so : (k : Known) (q : Questions) (s : Scanning) (i : In) → So k → OpensBySuch Is (scans_on k q s i).progress
  unfolding scans_on
  scans_on_so k q s i known =
      let r : scan.Done = scan.transition s.scan i in
      let sent = scanned k.owner r.state.opening.low s.asked q r.outs in
      known_follow_so k (record { scan = r.state; asked = sent.state.asked }) sent.state.ended known

  scans_at_so : (k : Known) (q : Questions) (i : In) (at : Stage) → So k → StripesBySuch Is at → OpensBySuch Is (scans_at k q i at).progress
  scans_at_so k q i (stage.Scanning s) known h = scans_on_so k q s i known
  scans_at_so k q i (stage.Settling s) known h = record { known = known; log = h }

  -- ---- the events

  pub tick_groups : (o : Opening) (q : Questions) → HasSuchMaps Is o → OpensBySuch Is (on_tick o q).progress
  unfolding on_tick
  tick_groups o q h = by_stage o.stage h.log
    where
      by_stage : (at : Stage) → StripesBySuch Is at → OpensBySuch Is (on_tick (record o { stage = at }) q).progress
      by_stage (stage.Scanning s) log = scans_on_so o.known q s input.Tick h.known
      by_stage (stage.Settling s) log = known_write_so o.known s log_in.Tick tt h.known log

  welcomed_so : (k : Known) (q : Questions) (s : Scanning) (news : News) (own : ℕ) (groups : Option GroupMapState) → So k
      → OpensBySuch Is (welcomed_with k q s news own groups).progress
  welcomed_so k q s news own None known = scanning k s known
  welcomed_so k q s news own (Some groups) known = scans_on_so _ q _ (input.Welcome own news.slots groups) known

  -- maps that are taken are the ones that are said, or the ones that were known
  maps_take_so : (k : Known) (news : News) → So k → Is news.groups → KnowsSuch Is (maps_take k.maps news).groups
  maps_take_so k news known so = by_test (λ (m : Maps). KnowsSuch Is m.groups) (is_older k.maps news) _ k.maps (λ t. so) (λ t. known)

  welcomed_as_so : (k : Known) (q : Questions) (s : Scanning) (news : News) (own : Option ℕ) → So k → Is news.groups
      → OpensBySuch Is (welcomed_as k q s news own).progress
  unfolding welcomed
  welcomed_as_so k q s news None known so = scanning k s known
  welcomed_as_so k q s news (Some own) known so =
      welcomed_so (record k { maps = maps_take k.maps news }) q s news own (maps_take k.maps news).groups (maps_take_so k news known so)

  welcome_so : (o : Opening) (q : Questions) (w : Welcome) → HasSuchMaps Is o → Is w.news.groups → OpensBySuch Is (on_welcome o q w).progress
  unfolding on_welcome
  welcome_so o q w h so = by_stage o.stage h.log
    where
      by_stage : (at : Stage) → StripesBySuch Is at → OpensBySuch Is (on_welcome (record o { stage = at }) q w).progress
      by_stage (stage.Scanning s) log =
          by_test (λ (x : Went). OpensBySuch Is x.progress) (is_meant o.known w) (welcomed_as o.known q s w.news (own_of s.asked w.ask))
          (stays (known_scanning o.known s) q)
          (λ t. welcomed_as_so o.known q s w.news (own_of s.asked w.ask) h.known so) (λ t. scanning o.known s h.known)
      by_stage (stage.Settling s) log = record { known = h.known; log = log }

  news_so : (o : Opening) (q : Questions) (news : News) → HasSuchMaps Is o → Is news.groups → OpensBySuch Is (on_news o q news).progress
  unfolding on_news
  news_so o q news h so =
      by_test (λ (x : Went). OpensBySuch Is x.progress) (fits o.known.maps news && is_older o.known.maps news)
      (regrouped (record o.known { maps = maps_take o.known.maps news }) q news.groups o.stage) (drops o q) (λ t. by_stage o.stage h.log) (λ t. h)
    where
      by_stage : (at : Stage) → StripesBySuch Is at → OpensBySuch Is (regrouped (record o.known { maps = maps_take o.known.maps news }) q news.groups at).progress
      by_stage (stage.Scanning s) log =
          scans_on_so (record o.known { maps = maps_take o.known.maps news }) q s (input.Maps news.groups) (maps_take_so o.known news h.known so)
      by_stage (stage.Settling s) log =
          known_write_so (record o.known { maps = maps_take o.known.maps news }) s (log_in.Maps news.groups) so (maps_take_so o.known news h.known so) log

  by_server_so : (o : Opening) (q : Questions) (f : ℕ → Went) (server : Option ℕ) → HasSuchMaps Is o → ((n : ℕ) → OpensBySuch Is (f n).progress)
      → OpensBySuch Is (by_server o q f server).progress
  by_server_so o q f None h each = h
  by_server_so o q f (Some server) h each = each server

  answers_so : (o : Opening) (q : Questions) (f : ℕ → In) (own : Option ℕ) → HasSuchMaps Is o → OpensBySuch Is (answers o q f own).progress
  answers_so o q f None h = h
  answers_so o q f (Some own) h = scans_at_so o.known q (f own) o.stage h.known h.log

  stored_so : (o : Opening) (q : Questions) (s : Stored) → HasSuchMaps Is o → OpensBySuch Is (on_stored o q s).progress
  unfolding on_stored
  stored_so o q s h = by_stage o.stage h.log
    where
      by_stage : (at : Stage) → StripesBySuch Is at → OpensBySuch Is (on_stored (record o { stage = at }) q s).progress
      by_stage (stage.Scanning scan_stage) log = scanning o.known scan_stage h.known
      by_stage (stage.Settling settling) log = known_write_so o.known settling (log_in.Acked s.name s.index s.generation) tt h.known log

  body_so : (o : Opening) (q : Questions) (from : NodeId) (b : Body) → BringsMaps Is b → HasSuchMaps Is o → OpensBySuch Is (on_body o q from b).progress
  unfolding on_body on_fenced on_found on_missing
  body_so o q from (body.Welcome w) so h = welcome_so o q w h so
  body_so o q from (body.MapNews news) so h = news_so o q news h so
  body_so o q from (body.Fenced f) so h =
      by_server_so o q (fenced_by o q f) (server_in from) h
      (λ n. by_test (λ (x : Went). OpensBySuch Is x.progress) (is_fenced o f) (scans o q (input.Fenced n f.generation f.held)) (drops o q)
      (λ t. scans_at_so o.known q (input.Fenced n f.generation f.held) o.stage h.known h.log) (λ t. h))
  body_so o q from (body.Fragment f) so h =
      by_server_so o q (found_by o q f) (server_in from) h (λ n. answers_so o q (λ own. input.Got own n f.generation f.fragment) (own_in o.stage f.ask) h)
  body_so o q from (body.Missing m) so h =
      by_server_so o q (missing_by o q m) (server_in from) h (λ n. answers_so o q (λ own. input.Missing own n m.generation) (own_in o.stage m.ask) h)
  body_so o q from (body.Stored s) so h = stored_so o q s h
  body_so o q from _ so h = h

  pub packet_groups : (o : Opening) (q : Questions) (p : Packet) → BringsMaps Is p.body → HasSuchMaps Is o → OpensBySuch Is (opening_take o q p).progress
  unfolding opening_take
  packet_groups o q p so h =
      by_test (λ (x : Went). OpensBySuch Is x.progress) (names_known_groups o.known.maps p.body) (on_body o q p.from p.body)
      (went (progress.Opening o) (draw q) (hello o.known.owner.inc (next_ask q) ∷ [])) (λ t. body_so o q p.from p.body so h) (λ t. h)
