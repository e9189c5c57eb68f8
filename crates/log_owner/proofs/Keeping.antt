-- What an opening knows and has asked goes on, event by event.
use Rattle.std.proofs.Common.{◌≡◌, ◌≤◌, ◌+◌, ◌==◌, ◌∷◌, ℕ, cond, ◌&&◌, true, [], Option, Some, None, is_some, refl, sym, ap, ◌∙◌, inl, inr, le_refl, arith}
use Rattle.std.specs.Prelude.{nat_lt}
use Rattle.std.proofs.lemmas.Bool.Decides.{nat_tests}
use Rattle.client_log.specs.declared.input.In.{In as LogIn}
use Rattle.client_log.specs.declared.input.In.TheVariants as log_in
use Rattle.client_log.specs.Transition as log
use Rattle.group_map.specs.GroupMapState.{GroupMapState}
use Rattle.log_owner.specs.declared.ended.Chain.{Chain}
use Rattle.log_owner.specs.declared.ended.Ended.{Ended}
use Rattle.log_owner.specs.declared.ended.Ended.TheVariants.{Found, Lost}
use Rattle.log_owner.specs.declared.ended.Sent.{Sent}
use Rattle.log_owner.specs.declared.known.Known.{Known}
use Rattle.log_owner.specs.declared.opened.Progress.TheVariants as progress
use Rattle.log_owner.specs.declared.opening.Opening.{Opening}
use Rattle.log_owner.specs.declared.opening.Scanning.{Scanning}
use Rattle.log_owner.specs.declared.opening.Settling.{Settling}
use Rattle.log_owner.specs.declared.opening.Stage.{Stage}
use Rattle.log_owner.specs.declared.opening.Stage.TheVariants as stage
use Rattle.log_owner.specs.declared.promised.Promised.{Promised}
use Rattle.log_owner.specs.Keeps.{AreNewer, MapsGoOn, IsAwaited, PromisesBy, PromisesAsBefore, Knows, GoesOn}
use Rattle.log_owner.specs.Opening.{Moved, Went, went, drops, sent_send, scanned, written, known_go_on, known_write, behind, start_log, settles_over, known_follow, scans_on, scans, scans_at, known_scanning, nothing_asked, welcomed_with, welcomed, welcomed_as, is_meant, on_welcome, regrouped, on_news, is_fenced, fenced_by, by_server, on_fenced, own_in, answers, found_by, missing_by, on_found, on_missing, on_stored, on_tick, on_body, opening_take, stays}
use Rattle.log_owner.specs.Promised.{promised_of}
use Rattle.log_owner.specs.Sending.{hello, server_in}
use Rattle.log_scan.specs.declared.input.In.{In}
use Rattle.log_scan.specs.declared.input.In.TheVariants as input
use Rattle.log_scan.specs.declared.output.Out.{Out}
use Rattle.log_scan.specs.declared.output.Out.TheVariants as out
use Rattle.log_scan.specs.Transition as scan
use Rattle.node_base.specs.Asking.{draw, drawn_for, next_ask, own_of}
use Rattle.node_base.specs.declared.effects.Effect.{Effect}
use Rattle.node_base.specs.declared.maps.Maps.{Maps}
use Rattle.node_base.specs.declared.questions.Asked.{Asked}
use Rattle.node_base.specs.declared.questions.Questions.{Questions}
use Rattle.node_base.specs.Known.{names_known_groups}
use Rattle.node_base.specs.Maps.{extends, fits, has_parts, is_older, keeps, maps_take}
use Rattle.node_base.specs.Shape.{is_log}
use Rattle.wire_msg.specs.declared.body.Body.{Body}
use Rattle.wire_msg.specs.declared.body.Body.TheVariants as body
use Rattle.wire_msg.specs.declared.packet.Packet.{Packet}
use Rattle.wire_msg.specs.declared.registry.News.{News}
use Rattle.wire_msg.specs.declared.registry.Welcome.{Welcome}
use Rattle.wire_msg.specs.declared.storage.Fenced.{Fenced}
use Rattle.wire_msg.specs.declared.storage.Stored.{Stored}
use Rattle.xfs_base.proofs.Booleans.{by_test, and_first, and_second}
use Rattle.xfs_base.proofs.StepLoops.{steps_keep}
use Rattle.xfs_base.specs.declared.node.NodeId.{NodeId}
use Rattle.xfs_base.specs.declared.segment.End.{End}
use Rattle.xfs_base.specs.Limits.{u32_end}
use Rattle.xfs_base.specs.Steps.{Stepped, still}

-- ---- numbers of questions

ask_up : (q : Questions) → q.last ≤ next_ask q
ask_up q = by_test (λ n. q.last ≤ n) (nat_lt q.last u32_end) (q.last + 1) q.last (λ _. omega arith) (λ _. omega arith)

drawn_for_up : (asked : Asked) (q : Questions) (own : ℕ) (low : ℕ) → low ≤ q.last → low ≤ (drawn_for asked q own).last
drawn_for_up asked q own low h =
    let up : q.last ≤ next_ask q = ask_up q in
    by_test (λ (r : Questions). low ≤ r.last) (own == asked.own) q (draw q) (λ _. h) (λ _. omega (arith, h, up))

said_up : (low : ℕ) (k : Known) (horizon : ℕ) (s : Sent) (o : Out) → low ≤ s.questions.last → low ≤ (sent_send k.owner horizon s o).state.questions.last
unfolding sent_send
said_up low k horizon s (out.Hello own) h = drawn_for_up s.asked s.questions own low h
said_up low k horizon s (out.Fence server) h = h
said_up low k horizon s (out.Fetch server name own) h = drawn_for_up s.asked s.questions own low h
said_up low k horizon s (out.Chain segments end prior) h = h
said_up low k horizon s (out.Lost name) h = h

-- ---- maps

-- maps that fit go on from those that are known
maps_take_so : (maps : Maps) (news : News) → fits maps news ≡ true → MapsGoOn maps (maps_take maps news)
maps_take_so maps news fact =
    by_test (MapsGoOn maps) (is_older maps news) (record maps { version = news.version; groups = Some news.groups }) maps
    (λ older. inr (newer older)) (λ _. inl refl)
  where
    newer : is_older maps news ≡ true → AreNewer maps (record maps { version = news.version; groups = Some news.groups })
    newer older =
        let same = ap (λ t. cond t (extends maps news.groups && has_parts (Some news.groups) news.slots) (has_parts maps.groups news.slots)) older in
        let extended = and_first (extends maps news.groups) (has_parts (Some news.groups) news.slots) (sym same ∙ fact) in
        record {
          later = grind (arith, nat_tests);
          servers = refl;
          groups = and_second (news.groups.servers == maps.servers) (keeps maps.groups news.groups) extended;
        }

-- ---- how an opening goes on

module _ (K : Maps → Promised → Type 0) (low : ℕ) where
  -- this is known still, and no number of a question came back
  record Kept (w : Went) : Type 0 where
    known : Knows K w.progress
    asked : low ≤ w.questions.last

  opens_keep : (k : Known) (s : Settling) (settled : Option End) → K k.maps k.promised → Knows K (known_go_on k s settled).state
  opens_keep k s None h = h
  opens_keep k s (Some end) h = h

  writes_keep : (k : Known) (s : Settling) (i : LogIn) → K k.maps k.promised → Knows K (known_write k s i).state
  unfolding known_write
  writes_keep k s i h =
      let r : log.Done = log.transition s.log i in
      opens_keep k (record s { log = r.state }) (written r.outs).state h

  starts_keep : (k : Known) (s : Scanning) (chain : Chain) (groups : GroupMapState) → K k.maps k.promised → Knows K (start_log k s chain groups).state
  starts_keep k s chain groups h =
      by_test (λ (m : Moved). Knows K m.state) (is_log k.owner.log.0) (known_write k (behind k chain groups) (log_in.Parts [])) (still (known_scanning k s))
      (λ t. writes_keep k (behind k chain groups) (log_in.Parts []) h) (λ t. h)

  settles_keep : (k : Known) (s : Scanning) (chain : Chain) (groups : Option GroupMapState) → K k.maps k.promised
      → Knows K (settles_over k s chain groups).state
  settles_keep k s chain None h = h
  settles_keep k s chain (Some groups) h = starts_keep k s chain groups h

  follows_keep : (k : Known) (s : Scanning) (ended : Option Ended) → K k.maps k.promised → Knows K (known_follow k s ended).state
  unfolding known_follow
  follows_keep k s None h = h
  follows_keep k s (Some (Found chain)) h = settles_keep k s chain k.maps.groups h
  follows_keep k s (Some (Lost seg)) h = tt

  scans_keep : (k : Known) (q : Questions) (s : Scanning) (i : In) → K k.maps k.promised → low ≤ q.last → Kept (scans_on k q s i)
  unfolding scans_on
  scans_keep k q s i h up =
      let r : scan.Done = scan.transition s.scan i in
      let sent : Stepped Sent Effect = scanned k.owner r.state.opening.low s.asked q r.outs in
      record {
        known = follows_keep k (record { scan = r.state; asked = sent.state.asked }) sent.state.ended h;
        asked = steps_keep (sent_send k.owner r.state.opening.low) (λ (x : Sent). low ≤ x.questions.last) (said_up low k r.state.opening.low)
            (record { asked = s.asked; questions = q; ended = None }) r.outs up;
      }

  scans_at_keep : (k : Known) (q : Questions) (i : In) (at : Stage) → K k.maps k.promised → low ≤ q.last → Kept (scans_at k q i at)
  scans_at_keep k q i (stage.Scanning s) h up = scans_keep k q s i h up
  scans_at_keep k q i (stage.Settling s) h up = record { known = h; asked = up }

  regrouped_keep : (k : Known) (q : Questions) (groups : GroupMapState) (at : Stage) → K k.maps k.promised → low ≤ q.last → Kept (regrouped k q groups at)
  regrouped_keep k q groups (stage.Scanning s) h up = scans_keep k q s (input.Maps groups) h up
  regrouped_keep k q groups (stage.Settling s) h up = record { known = writes_keep k s (log_in.Maps groups) h; asked = up }

  -- ---- the events

  module _ (o : Opening) (q : Questions) (h : K o.known.maps o.known.promised) (up : low ≤ q.last) where
    dropped : Kept (drops o q)
    dropped = record { known = h; asked = up }

    tick_keeps : Kept (on_tick o q)
    unfolding on_tick
    tick_keeps = by_stage o.stage
      where
        by_stage : (at : Stage) → Kept (on_tick (record o { stage = at }) q)
        by_stage (stage.Scanning s) = scans_keep o.known q s input.Tick h up
        by_stage (stage.Settling s) = record { known = writes_keep o.known s log_in.Tick h; asked = up }

    stored_keeps : (s : Stored) → Kept (on_stored o q s)
    unfolding on_stored
    stored_keeps s = by_stage o.stage
      where
        by_stage : (at : Stage) → Kept (on_stored (record o { stage = at }) q s)
        by_stage (stage.Scanning scanning) = record { known = h; asked = up }
        by_stage (stage.Settling settling) = record { known = writes_keep o.known settling (log_in.Acked s.name s.index s.generation) h; asked = up }

    by_server_keeps : (f : ℕ → Went) (server : Option ℕ) → ((n : ℕ) → Kept (f n)) → Kept (by_server o q f server)
    by_server_keeps f None each = dropped
    by_server_keeps f (Some server) each = each server

    answers_keep : (f : ℕ → In) (own : Option ℕ) → Kept (answers o q f own)
    answers_keep f None = dropped
    answers_keep f (Some own) = scans_at_keep o.known q (f own) o.stage h up

    fenced_keeps : (f : Fenced) (server : ℕ) → Kept (fenced_by o q f server)
    fenced_keeps f server =
        by_test Kept (is_fenced o f) (scans o q (input.Fenced server f.generation f.held)) (drops o q)
        (λ t. scans_at_keep o.known q (input.Fenced server f.generation f.held) o.stage h up) (λ t. dropped)

    news_keeps : (news : News) → (fits o.known.maps news ≡ true → K (maps_take o.known.maps news) o.known.promised) → Kept (on_news o q news)
    unfolding on_news
    news_keeps news new =
        let newer : Known = record o.known { maps = maps_take o.known.maps news } in
        by_test Kept (fits o.known.maps news && is_older o.known.maps news) (regrouped newer q news.groups o.stage) (drops o q)
        (λ t. regrouped_keep newer q news.groups o.stage (new (and_first (fits o.known.maps news) (is_older o.known.maps news) t)) up) (λ t. dropped)

    -- what the maps of the awaited Welcome are to bring
    abbrev Brings : Welcome → Type 0
    Brings w = IsAwaited o w → K (maps_take o.known.maps w.news) (promised_of w.news.slots) × K (maps_take o.known.maps w.news) o.known.promised

    welcome_keeps : (w : Welcome) → Brings w → Kept (on_welcome o q w)
    unfolding on_welcome welcomed
    welcome_keeps w = by_stage o.stage
      where
        heard : (s : Scanning) (own : ℕ) (groups : Option GroupMapState) → K (maps_take o.known.maps w.news) (promised_of w.news.slots)
            → K (maps_take o.known.maps w.news) o.known.promised → Kept (welcomed_with (record o.known { maps = maps_take o.known.maps w.news }) q s w.news own groups)
        heard s own None told stayed = record { known = stayed; asked = up }
        heard s own (Some groups) told stayed =
            scans_keep (record o.known { maps = maps_take o.known.maps w.news; promised = promised_of w.news.slots }) q (record s { asked = nothing_asked })
            (input.Welcome own w.news.slots groups) told up

        by_own : (s : Scanning) (own : Option ℕ)
            → (is_some own ≡ true → K (maps_take o.known.maps w.news) (promised_of w.news.slots) × K (maps_take o.known.maps w.news) o.known.promised)
            → Kept (welcomed_as o.known q s w.news own)
        by_own s None new = record { known = h; asked = up }
        by_own s (Some own) new = let both = new refl in heard s own (maps_take o.known.maps w.news).groups both.0 both.1

        by_stage : (at : Stage)
            → ((is_meant o.known w ≡ true) × (is_some (own_in at w.ask) ≡ true)
            → K (maps_take o.known.maps w.news) (promised_of w.news.slots) × K (maps_take o.known.maps w.news) o.known.promised)
            → Kept (on_welcome (record o { stage = at }) q w)
        by_stage (stage.Scanning s) new =
            by_test Kept (is_meant o.known w) (welcomed_as o.known q s w.news (own_of s.asked w.ask)) (stays (known_scanning o.known s) q)
            (λ t. by_own s (own_of s.asked w.ask) (λ some. new (t, some))) (λ t. record { known = h; asked = up })
        by_stage (stage.Settling s) new = record { known = h; asked = up }

    -- what a body is to bring
    abbrev Tells : Body → Type 0
    Tells (body.Welcome w) = Brings w
    Tells (body.MapNews news) = fits o.known.maps news ≡ true → K (maps_take o.known.maps news) o.known.promised
    Tells _ = Unit {0}

    body_keeps : (from : NodeId) (b : Body) → Tells b → Kept (on_body o q from b)
    unfolding on_body on_fenced on_found on_missing
    body_keeps from (body.Welcome w) new = welcome_keeps w new
    body_keeps from (body.MapNews news) new = news_keeps news new
    body_keeps from (body.Fenced f) new = by_server_keeps (fenced_by o q f) (server_in from) (fenced_keeps f)
    body_keeps from (body.Fragment f) new =
        by_server_keeps (found_by o q f) (server_in from) (λ n. answers_keep (λ own. input.Got own n f.generation f.fragment) (own_in o.stage f.ask))
    body_keeps from (body.Missing m) new =
        by_server_keeps (missing_by o q m) (server_in from) (λ n. answers_keep (λ own. input.Missing own n m.generation) (own_in o.stage m.ask))
    body_keeps from (body.Stored s) new = stored_keeps s
    body_keeps from _ new = dropped

    packet_keeps : (p : Packet) → Tells p.body → Kept (opening_take o q p)
    unfolding opening_take
    packet_keeps p new =
        by_test Kept (names_known_groups o.known.maps p.body) (on_body o q p.from p.body)
        (went (progress.Opening o) (draw q) (hello o.known.owner.inc (next_ask q) ∷ []))
        (λ t. body_keeps p.from p.body new)
        (λ t. let one : q.last ≤ next_ask q = ask_up q in record { known = h; asked = omega (arith, up, one) })

-- ---- the laws

pub tick_so : (o : Opening) (q : Questions) → GoesOn o q (PromisesAsBefore o) (on_tick o q)
tick_so o q =
    let kept = tick_keeps (λ maps promised. MapsGoOn o.known.maps maps × PromisesAsBefore o promised) q.last o q (inl refl, refl) (le_refl q.last) in
    record { known = kept.known; asked = kept.asked }

module _ (o : Opening) where
  abbrev Goes : Body → Maps → Promised → Type 0
  Goes b maps promised = MapsGoOn o.known.maps maps × PromisesBy o b promised

  stays_so : (b : Body) → Goes b o.known.maps o.known.promised
  stays_so (body.Welcome w) = (inl refl, inl refl)
  stays_so _ = (inl refl, refl)

  tells_so : (q : Questions) (b : Body) → Tells (Goes b) q.last o q (stays_so b) (le_refl q.last) b
  tells_so q (body.Welcome w) =
      λ awaited. let on = maps_take_so o.known.maps w.news (and_second (w.inc == o.known.owner.inc) (fits o.known.maps w.news) awaited.0) in
      ((on, inr (awaited, refl)), (on, inl refl))
  tells_so q (body.MapNews news) = λ fact. (maps_take_so o.known.maps news fact, refl)
  tells_so q _ = tt

pub packet_so : (o : Opening) (q : Questions) (p : Packet) → GoesOn o q (PromisesBy o p.body) (opening_take o q p)
packet_so o q p =
    let kept = packet_keeps (Goes o p.body) q.last o q (stays_so o p.body) (le_refl q.last) p (tells_so o q p.body) in
    record { known = kept.known; asked = kept.asked }

-- a Welcome that isn't awaited changes nothing
pub unasked_so : (o : Opening) (q : Questions) (w : Welcome) → (IsAwaited o w → ⊥) → on_welcome o q w ≡ drops o q
unfolding on_welcome
unasked_so o q w = by_stage o.stage
  where
    by_own : (s : Scanning) (own : Option ℕ) → (is_some own ≡ true → ⊥) → welcomed_as o.known q s w.news own ≡ stays (known_scanning o.known s) q
    by_own s None none = refl
    by_own s (Some own) none = absurd (none refl)

    by_stage : (at : Stage) → ((is_meant o.known w ≡ true) × (is_some (own_in at w.ask) ≡ true) → ⊥)
        → on_welcome (record o { stage = at }) q w ≡ drops (record o { stage = at }) q
    by_stage (stage.Scanning s) none =
        by_test (λ (x : Went). x ≡ stays (known_scanning o.known s) q) (is_meant o.known w) (welcomed_as o.known q s w.news (own_of s.asked w.ask))
        (stays (known_scanning o.known s) q) (λ t. by_own s (own_of s.asked w.ask) (λ some. none (t, some))) (λ _. refl)
    by_stage (stage.Settling s) none = refl
