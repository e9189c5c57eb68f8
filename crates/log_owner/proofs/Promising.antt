-- What an opening promises: nothing before its first Welcome, and from then on what the last Welcome said.
use Rattle.std.proofs.Common.{◌≡◌, ◌⊎◌, ℕ, ◌&&◌, true, [], ◌∷◌, Option, Some, None, refl, sym, subst, inl, inr}
use Rattle.client_log.specs.declared.input.In.{In as LogIn}
use Rattle.client_log.specs.declared.input.In.TheVariants as log_in
use Rattle.client_log.specs.Transition as log
use Rattle.group_map.specs.GroupMapState.{GroupMapState}
use Rattle.log_owner.specs.declared.ended.Chain.{Chain}
use Rattle.log_owner.specs.declared.ended.Ended.{Ended}
use Rattle.log_owner.specs.declared.ended.Ended.TheVariants.{Found, Lost}
use Rattle.log_owner.specs.declared.ended.Sent.{Sent}
use Rattle.log_owner.specs.declared.known.Known.{Known}
use Rattle.log_owner.specs.declared.opened.Progress.{Progress}
use Rattle.log_owner.specs.declared.opened.Progress.TheVariants as progress
use Rattle.log_owner.specs.declared.opening.Opening.{Opening}
use Rattle.log_owner.specs.declared.opening.Scanning.{Scanning}
use Rattle.log_owner.specs.declared.opening.Settling.{Settling}
use Rattle.log_owner.specs.declared.opening.Stage.{Stage}
use Rattle.log_owner.specs.declared.opening.Stage.TheVariants as stage
use Rattle.log_owner.specs.declared.promised.Promised.{Promised}
use Rattle.log_owner.specs.Opening.{Moved, Went, went, drops, sent_send, scanned, written, known_go_on, known_write, behind, start_log, settles_over, known_follow, stepped, scans_on, scans, scans_at, known_scanning, nothing_asked, welcomed_with, welcomed, welcomed_as, is_meant, on_welcome, regrouped, on_news, is_fenced, fenced_by, by_server, on_fenced, own_in, answers, found_by, missing_by, on_found, on_missing, on_stored, on_tick, on_body, opening_take, stays}
use Rattle.log_owner.specs.Promised.{promised_of}
use Rattle.log_owner.specs.Sending.{hello, server_in}
use Rattle.log_scan.specs.declared.input.In.{In}
use Rattle.log_scan.specs.declared.input.In.TheVariants as input
use Rattle.log_scan.specs.declared.stage.Stage.TheVariants as scan_stage
use Rattle.log_scan.specs.Transition as scan
use Rattle.node_base.specs.Asking.{draw, next_ask, own_of}
use Rattle.node_base.specs.declared.effects.Effect.{Effect}
use Rattle.node_base.specs.declared.questions.Questions.{Questions}
use Rattle.node_base.specs.Known.{names_known_groups}
use Rattle.node_base.specs.Maps.{fits, is_older, maps_take}
use Rattle.node_base.specs.Shape.{is_log}
use Rattle.wire_msg.specs.declared.body.Body.{Body}
use Rattle.wire_msg.specs.declared.body.Body.TheVariants as body
use Rattle.wire_msg.specs.declared.packet.Packet.{Packet}
use Rattle.wire_msg.specs.declared.registry.News.{News}
use Rattle.wire_msg.specs.declared.registry.Welcome.{Welcome}
use Rattle.wire_msg.specs.declared.storage.Fenced.{Fenced}
use Rattle.wire_msg.specs.declared.storage.Stored.{Stored}
use Rattle.xfs_base.proofs.Booleans.{by_test}
use Rattle.xfs_base.specs.declared.node.NodeId.{NodeId}
use Rattle.xfs_base.specs.declared.segment.End.{End}
use Rattle.xfs_base.specs.Steps.{Stepped, still}

-- the first Welcome is awaited
abbrev pub AwaitsFirst : Stage → Type 0
AwaitsFirst (stage.Scanning s) = s.scan.stage ≡ scan_stage.Hails
AwaitsFirst (stage.Settling s) = ⊥

module _ (K : Promised → Type 0) where
  -- the first Welcome is awaited, or this holds of what is promised
  abbrev pub Opens : Opening → Type 0
  Opens o = AwaitsFirst o.stage ⊎ K o.known.promised

  abbrev pub Holds : Progress → Type 0
  Holds (progress.Opening o) = Opens o
  Holds (progress.Opened o) = K o.promised
  Holds (progress.Lost seg) = Unit {0}

  -- ---- once a Welcome came

  known_go_on_so : (k : Known) (s : Settling) (settled : Option End) → K k.promised → Holds (known_go_on k s settled).state
  known_go_on_so k s None h = inr h
  known_go_on_so k s (Some end) h = h

  known_write_so : (k : Known) (s : Settling) (i : LogIn) → K k.promised → Holds (known_write k s i).state
  unfolding known_write
  known_write_so k s i h =
      let r : log.Done = log.transition s.log i in
      known_go_on_so k (record s { log = r.state }) (written r.outs).state h

  starts_so : (k : Known) (s : Scanning) (chain : Chain) (groups : GroupMapState) → K k.promised → Holds (start_log k s chain groups).state
  starts_so k s chain groups h =
      by_test (λ (m : Moved). Holds m.state) (is_log k.owner.log.0) (known_write k (behind k chain groups) (log_in.Parts [])) (still (known_scanning k s))
      (λ t. known_write_so k (behind k chain groups) (log_in.Parts []) h) (λ t. inr h)

  settles_so : (k : Known) (s : Scanning) (chain : Chain) (groups : Option GroupMapState) → K k.promised → Holds (settles_over k s chain groups).state
  settles_so k s chain None h = inr h
  settles_so k s chain (Some groups) h = starts_so k s chain groups h

  known_follow_so : (k : Known) (s : Scanning) (ended : Option Ended) → K k.promised → Holds (known_follow k s ended).state
  unfolding known_follow
  known_follow_so k s None h = inr h
  known_follow_so k s (Some (Found chain)) h = settles_so k s chain k.maps.groups h
  known_follow_so k s (Some (Lost seg)) h = tt

  scans_on_so : (k : Known) (q : Questions) (s : Scanning) (i : In) → K k.promised → Holds (scans_on k q s i).progress
  unfolding scans_on
  scans_on_so k q s i h =
      let r : scan.Done = scan.transition s.scan i in
      let sent : Stepped Sent Effect = scanned k.owner r.state.opening.low s.asked q r.outs in
      known_follow_so k (record { scan = r.state; asked = sent.state.asked }) sent.state.ended h

  -- ---- before it

  abbrev IsNoWelcome : In → Type 0
  IsNoWelcome (input.Welcome ask news groups) = ⊥
  IsNoWelcome (input.Fenced server generation held) = Unit {0}
  IsNoWelcome (input.Got ask server generation fragment) = Unit {0}
  IsNoWelcome (input.Missing ask server generation) = Unit {0}
  IsNoWelcome (input.Maps groups) = Unit {0}
  IsNoWelcome input.Tick = Unit {0}

  hails_so : (k : Known) (q : Questions) (s : Scanning) (i : In) → IsNoWelcome i → AwaitsFirst (stage.Scanning s) → Holds (scans_on k q s i).progress
  unfolding scans_on sent_send known_follow scan.on_fenced scan.on_told scan.on_tick
  hails_so k q s i other fact = subst (λ st. Holds (stepped k q s (scan.opening_take s.scan.opening st i)).progress) (sym fact) (by_input i other)
    where
      by_input : (i : In) → IsNoWelcome i → Holds (stepped k q s (scan.opening_take s.scan.opening scan_stage.Hails i)).progress
      by_input (input.Welcome ask news groups) other = absurd other
      by_input (input.Fenced server generation held) other = inl refl
      by_input (input.Got ask server generation fragment) other = inl refl
      by_input (input.Missing ask server generation) other = inl refl
      by_input (input.Maps groups) other = inl refl
      by_input input.Tick other = inl refl

  -- ---- the events

  scans_so : (k : Known) (q : Questions) (s : Scanning) (i : In) → IsNoWelcome i → AwaitsFirst (stage.Scanning s) ⊎ K k.promised
      → Holds (scans_on k q s i).progress
  scans_so k q s i other (inl fact) = hails_so k q s i other fact
  scans_so k q s i other (inr h) = scans_on_so k q s i h

  writes_at : (k : Known) (s : Settling) (i : LogIn) → ⊥ ⊎ K k.promised → Holds (known_write k s i).state
  writes_at k s i (inl none) = absurd none
  writes_at k s i (inr h) = known_write_so k s i h

  scans_at_so : (k : Known) (q : Questions) (i : In) (at : Stage) → IsNoWelcome i → AwaitsFirst at ⊎ K k.promised → Holds (scans_at k q i at).progress
  scans_at_so k q i (stage.Scanning s) other h = scans_so k q s i other h
  scans_at_so k q i (stage.Settling s) other h = h

  pub tick_so : (o : Opening) (q : Questions) → Opens o → Holds (on_tick o q).progress
  unfolding on_tick
  tick_so o q h = by_stage o.stage h
    where
      by_stage : (at : Stage) → AwaitsFirst at ⊎ K o.known.promised → Holds (on_tick (record o { stage = at }) q).progress
      by_stage (stage.Scanning s) h = scans_so o.known q s input.Tick tt h
      by_stage (stage.Settling s) h = writes_at o.known s log_in.Tick h

  -- a Welcome
  welcomed_so : (k : Known) (q : Questions) (s : Scanning) (news : News) (own : ℕ) (groups : Option GroupMapState)
      → AwaitsFirst (stage.Scanning s) ⊎ K k.promised → K (promised_of news.slots) → Holds (welcomed_with k q s news own groups).progress
  welcomed_so k q s news own None h new = h
  welcomed_so k q s news own (Some groups) h new = scans_on_so (record k { promised = promised_of news.slots }) q (record s { asked = nothing_asked })
      (input.Welcome own news.slots groups) new

  welcomed_as_so : (k : Known) (q : Questions) (s : Scanning) (news : News) (own : Option ℕ) → AwaitsFirst (stage.Scanning s) ⊎ K k.promised
      → K (promised_of news.slots) → Holds (welcomed_as k q s news own).progress
  unfolding welcomed
  welcomed_as_so k q s news None h new = h
  welcomed_as_so k q s news (Some own) h new = welcomed_so (record k { maps = maps_take k.maps news }) q s news own (maps_take k.maps news).groups h new

  welcome_so : (o : Opening) (q : Questions) (w : Welcome) → Opens o → (is_meant o.known w ≡ true → K (promised_of w.news.slots))
      → Holds (on_welcome o q w).progress
  unfolding on_welcome
  welcome_so o q w h new = by_stage o.stage h
    where
      by_stage : (at : Stage) → AwaitsFirst at ⊎ K o.known.promised → Holds (on_welcome (record o { stage = at }) q w).progress
      by_stage (stage.Scanning s) h =
          by_test (λ (x : Went). Holds x.progress) (is_meant o.known w) (welcomed_as o.known q s w.news (own_of s.asked w.ask)) (stays (known_scanning o.known s) q)
          (λ t. welcomed_as_so o.known q s w.news (own_of s.asked w.ask) h (new t)) (λ t. h)
      by_stage (stage.Settling s) h = h

  -- map news
  news_so : (o : Opening) (q : Questions) (news : News) → Opens o → Holds (on_news o q news).progress
  unfolding on_news
  news_so o q news h =
      let newer : Known = record o.known { maps = maps_take o.known.maps news } in
      by_test (λ (x : Went). Holds x.progress) (fits o.known.maps news && is_older o.known.maps news) (regrouped newer q news.groups o.stage) (drops o q)
      (λ t. by_stage o.stage h) (λ t. h)
    where
      by_stage : (at : Stage) → AwaitsFirst at ⊎ K o.known.promised
          → Holds (regrouped (record o.known { maps = maps_take o.known.maps news }) q news.groups at).progress
      by_stage (stage.Scanning s) h = scans_so (record o.known { maps = maps_take o.known.maps news }) q s (input.Maps news.groups) tt h
      by_stage (stage.Settling s) h = writes_at (record o.known { maps = maps_take o.known.maps news }) s (log_in.Maps news.groups) h

  by_server_so : (o : Opening) (q : Questions) (f : ℕ → Went) (server : Option ℕ) → Opens o → ((n : ℕ) → Holds (f n).progress)
      → Holds (by_server o q f server).progress
  by_server_so o q f None h each = h
  by_server_so o q f (Some server) h each = each server

  answers_so : (o : Opening) (q : Questions) (f : ℕ → In) (own : Option ℕ) → ((n : ℕ) → IsNoWelcome (f n)) → Opens o → Holds (answers o q f own).progress
  answers_so o q f None other h = h
  answers_so o q f (Some own) other h = scans_at_so o.known q (f own) o.stage (other own) h

  fenced_so : (o : Opening) (q : Questions) (f : Fenced) (server : ℕ) → Opens o → Holds (fenced_by o q f server).progress
  fenced_so o q f server h =
      by_test (λ (x : Went). Holds x.progress) (is_fenced o f) (scans o q (input.Fenced server f.generation f.held)) (drops o q)
      (λ t. scans_at_so o.known q (input.Fenced server f.generation f.held) o.stage tt h) (λ t. h)

  stored_so : (o : Opening) (q : Questions) (s : Stored) → Opens o → Holds (on_stored o q s).progress
  unfolding on_stored
  stored_so o q s h = by_stage o.stage h
    where
      by_stage : (at : Stage) → AwaitsFirst at ⊎ K o.known.promised → Holds (on_stored (record o { stage = at }) q s).progress
      by_stage (stage.Scanning scanning) h = h
      by_stage (stage.Settling settling) h = writes_at o.known settling (log_in.Acked s.name s.index s.generation) h

  -- what a Welcome has to bring
  abbrev pub Brings : Opening → Body → Type 0
  Brings o (body.Welcome w) = is_meant o.known w ≡ true → K (promised_of w.news.slots)
  Brings o _ = Unit {0}

  body_so : (o : Opening) (q : Questions) (from : NodeId) (b : Body) → Opens o → Brings o b → Holds (on_body o q from b).progress
  unfolding on_body on_fenced on_found on_missing
  body_so o q from (body.Welcome w) h new = welcome_so o q w h new
  body_so o q from (body.MapNews news) h new = news_so o q news h
  body_so o q from (body.Fenced f) h new = by_server_so o q (fenced_by o q f) (server_in from) h (λ n. fenced_so o q f n h)
  body_so o q from (body.Fragment f) h new = by_server_so o q (found_by o q f) (server_in from) h
      (λ n. answers_so o q (λ own. input.Got own n f.generation f.fragment) (own_in o.stage f.ask) (λ k. tt) h)
  body_so o q from (body.Missing m) h new = by_server_so o q (missing_by o q m) (server_in from) h
      (λ n. answers_so o q (λ own. input.Missing own n m.generation) (own_in o.stage m.ask) (λ k. tt) h)
  body_so o q from (body.Stored s) h new = stored_so o q s h
  body_so o q from _ h new = h

  pub packet_so : (o : Opening) (q : Questions) (p : Packet) → Opens o → Brings o p.body → Holds (opening_take o q p).progress
  unfolding opening_take
  packet_so o q p h new =
      by_test (λ (x : Went). Holds x.progress) (names_known_groups o.known.maps p.body) (on_body o q p.from p.body)
      (went (progress.Opening o) (draw q) (hello o.known.owner.inc (next_ask q) ∷ []))
      (λ t. body_so o q p.from p.body h new) (λ t. h)
