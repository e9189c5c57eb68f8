-- Whatever holds of an opening that rests, of what its scan makes of an input, and of what its log makes of one, holds of what each packet and each tick make of
-- an opening.
use Rattle.std.proofs.Common.{ℕ, ◌&&◌, [], ◌∷◌, Option, Some, None}
use Rattle.client_log.specs.declared.input.In.{In as LogIn}
use Rattle.client_log.specs.declared.input.In.TheVariants as log_in
use Rattle.group_map.specs.GroupMapState.{GroupMapState}
use Rattle.log_owner.specs.declared.known.Known.{Known}
use Rattle.log_owner.specs.declared.opened.Progress.TheVariants as progress
use Rattle.log_owner.specs.declared.opening.Opening.{Opening}
use Rattle.log_owner.specs.declared.opening.Scanning.{Scanning}
use Rattle.log_owner.specs.declared.opening.Settling.{Settling}
use Rattle.log_owner.specs.declared.opening.Stage.{Stage}
use Rattle.log_owner.specs.declared.opening.Stage.TheVariants as stage
use Rattle.log_owner.specs.Opening.{Went, answers, asking, known_scanning, by_server, drops, fenced_by, found_by, is_fenced, is_meant, missing_by, on_body, on_fenced, on_found, on_missing, on_news, opening_take, on_stored, on_tick, on_welcome, own_in, regrouped, scans, scans_at, scans_on, stays, welcomed, welcomed_as, went, known_write}
use Rattle.log_owner.specs.Sending.{hello, server_in}
use Rattle.log_scan.specs.declared.input.In.{In as ScanIn}
use Rattle.log_scan.specs.declared.input.In.TheVariants as input
use Rattle.node_base.specs.Asking.{draw, next_ask, own_of}
use Rattle.node_base.specs.declared.questions.Questions.{Questions}
use Rattle.node_base.specs.Known.{names_known_groups}
use Rattle.node_base.specs.Maps.{fits, is_older, maps_take}
use Rattle.wire_msg.specs.declared.body.Body.{Body}
use Rattle.wire_msg.specs.declared.body.Body.TheVariants as body
use Rattle.wire_msg.specs.declared.packet.Packet.{Packet}
use Rattle.wire_msg.specs.declared.registry.News.{News}
use Rattle.wire_msg.specs.declared.registry.Welcome.{Welcome}
use Rattle.wire_msg.specs.declared.storage.Fenced.{Fenced}
use Rattle.wire_msg.specs.declared.storage.Stored.{Stored}
use Rattle.xfs_base.proofs.Booleans.{by_test}
use Rattle.xfs_base.specs.declared.node.NodeId.{NodeId}
use Rattle.node_moves.proofs.LogWalk.{IsHeard}

-- what an owner has its log take while it opens it
abbrev pub IsOpening : LogIn → Type 0
IsOpening (log_in.Parts items) = Unit {0}
IsOpening (log_in.Acked name index generation) = Unit {0}
IsOpening (log_in.Maps groups) = Unit {0}
IsOpening log_in.Tick = Unit {0}
IsOpening _ = ⊥

-- what its scan takes beside the Welcome that it awaits
abbrev pub Comes : ScanIn → Type 0
Comes (input.Welcome own slots groups) = ⊥
Comes _ = Unit {0}

-- nothing is known of what comes
abbrev pub Any : NodeId → Body → Type 0
Any from said = Unit {0}

pub heard_opens : (i : LogIn) → IsHeard i → IsOpening i
heard_opens (log_in.Put block entry value) heard = absurd heard
heard_opens (log_in.Parts items) heard = absurd heard
heard_opens log_in.Seal heard = absurd heard
heard_opens _ heard = tt

-- So it is of what is made of an opening, with what it knows, these questions, and at this stage, where so much is known of a body that comes from a node; that its
-- maps are newer ones changes nothing of it.
pub record Walk (Said : NodeId → Body → Type 0) (Holds : Known → Questions → Stage → Went → Type 0) : Type 0 where
  pub rests : (o : Opening) (q : Questions) → Holds o.known q o.stage (drops o q)
  pub asks : (o : Opening) (q : Questions)
      → Holds o.known q o.stage (went (progress.Opening o) (draw q) (hello o.known.owner.inc (next_ask q) ∷ []))
  pub scan : (k : Known) (q : Questions) (s : Scanning) (i : ScanIn) → Comes i → Holds k q (stage.Scanning s) (scans_on k q s i)
  pub log : (k : Known) (q : Questions) (s : Settling) (i : LogIn) → IsHeard i → Holds k q (stage.Settling s) (asking q (known_write k s i))
  pub welcome : (from : NodeId) (k : Known) (q : Questions) (s : Scanning) (m : Welcome) (own : ℕ) → Said from (body.Welcome m)
      → Holds k q (stage.Scanning s) (welcomed k q s m.news own)
  pub newer : (from : NodeId) (k : Known) (news : News) (q : Questions) (at : Stage) (w : Went) → Said from (body.MapNews news)
      → Holds (record k { maps = maps_take k.maps news }) q at w → Holds k q at w

module _ (Said : NodeId → Body → Type 0) (Holds : Known → Questions → Stage → Went → Type 0) (walk : Walk Said Holds) where
  at_so : (k : Known) (q : Questions) (i : ScanIn) (at : Stage) → Comes i → Holds k q at (scans_at k q i at)
  at_so k q i (stage.Scanning s) comes = walk.scan k q s i comes
  at_so k q i (stage.Settling s) comes = walk.rests (record { known = k; stage = stage.Settling s }) q

  as_so : (from : NodeId) (k : Known) (q : Questions) (s : Scanning) (w : Welcome) (own : Option ℕ) → Said from (body.Welcome w)
      → Holds k q (stage.Scanning s) (welcomed_as k q s w.news own)
  as_so from k q s w None said = walk.rests (record { known = k; stage = stage.Scanning s }) q
  as_so from k q s w (Some own) said = walk.welcome from k q s w own said

  welcome_so : (o : Opening) (q : Questions) (from : NodeId) (w : Welcome) → Said from (body.Welcome w) → Holds o.known q o.stage (on_welcome o q w)
  unfolding on_welcome
  welcome_so o q from w said = by_stage o.stage
    where
      by_stage : (at : Stage) → Holds o.known q at (on_welcome (record o { stage = at }) q w)
      by_stage (stage.Scanning s) =
          by_test (Holds o.known q (stage.Scanning s)) (is_meant o.known w) (welcomed_as o.known q s w.news (own_of s.asked w.ask)) (stays (known_scanning o.known s) q)
          (λ _. as_so from o.known q s w (own_of s.asked w.ask) said) (λ _. walk.rests (record o { stage = stage.Scanning s }) q)
      by_stage (stage.Settling s) = walk.rests (record o { stage = stage.Settling s }) q

  regrouped_so : (k : Known) (q : Questions) (groups : GroupMapState) (at : Stage) → Holds k q at (regrouped k q groups at)
  regrouped_so k q groups (stage.Scanning s) = walk.scan k q s (input.Maps groups) tt
  regrouped_so k q groups (stage.Settling s) = walk.log k q s (log_in.Maps groups) tt

  news_so : (o : Opening) (q : Questions) (from : NodeId) (news : News) → Said from (body.MapNews news) → Holds o.known q o.stage (on_news o q news)
  unfolding on_news
  news_so o q from news said =
      let newer : Known = record o.known { maps = maps_take o.known.maps news } in
      by_test (Holds o.known q o.stage) (fits o.known.maps news && is_older o.known.maps news) (regrouped newer q news.groups o.stage) (drops o q)
      (λ _. walk.newer from o.known news q o.stage (regrouped newer q news.groups o.stage) said (regrouped_so newer q news.groups o.stage)) (λ _. walk.rests o q)

  by_server_so : (o : Opening) (q : Questions) (f : ℕ → Went) (server : Option ℕ) → ((n : ℕ) → Holds o.known q o.stage (f n))
      → Holds o.known q o.stage (by_server o q f server)
  by_server_so o q f None each = walk.rests o q
  by_server_so o q f (Some server) each = each server

  answers_so : (o : Opening) (q : Questions) (f : ℕ → ScanIn) (own : Option ℕ) → ((number : ℕ) → Comes (f number))
      → Holds o.known q o.stage (answers o q f own)
  answers_so o q f None comes = walk.rests o q
  answers_so o q f (Some own) comes = at_so o.known q (f own) o.stage (comes own)

  fenced_so : (o : Opening) (q : Questions) (f : Fenced) (server : ℕ) → Holds o.known q o.stage (fenced_by o q f server)
  fenced_so o q f server =
      by_test (Holds o.known q o.stage) (is_fenced o f) (scans o q (input.Fenced server f.generation f.held)) (drops o q)
      (λ _. at_so o.known q (input.Fenced server f.generation f.held) o.stage tt) (λ _. walk.rests o q)

  stored_so : (o : Opening) (q : Questions) (s : Stored) → Holds o.known q o.stage (on_stored o q s)
  unfolding on_stored
  stored_so o q s = by_stage o.stage
    where
      by_stage : (at : Stage) → Holds o.known q at (on_stored (record o { stage = at }) q s)
      by_stage (stage.Scanning scanning) = walk.rests (record o { stage = stage.Scanning scanning }) q
      by_stage (stage.Settling settling) = walk.log o.known q settling (log_in.Acked s.name s.index s.generation) tt

  pub tick_so : (o : Opening) (q : Questions) → Holds o.known q o.stage (on_tick o q)
  unfolding on_tick
  tick_so o q = by_stage o.stage
    where
      by_stage : (at : Stage) → Holds o.known q at (on_tick (record o { stage = at }) q)
      by_stage (stage.Scanning s) = walk.scan o.known q s input.Tick tt
      by_stage (stage.Settling s) = walk.log o.known q s log_in.Tick tt

  body_so : (o : Opening) (q : Questions) (from : NodeId) (b : Body) → Said from b → Holds o.known q o.stage (on_body o q from b)
  unfolding on_body on_fenced on_found on_missing
  body_so o q from (body.Welcome w) said = welcome_so o q from w said
  body_so o q from (body.MapNews news) said = news_so o q from news said
  body_so o q from (body.Fenced f) said = by_server_so o q (fenced_by o q f) (server_in from) (fenced_so o q f)
  body_so o q from (body.Fragment f) said =
      by_server_so o q (found_by o q f) (server_in from) (λ n. answers_so o q (λ own. input.Got own n f.generation f.fragment) (own_in o.stage f.ask) (λ own. tt))
  body_so o q from (body.Missing m) said =
      by_server_so o q (missing_by o q m) (server_in from) (λ n. answers_so o q (λ own. input.Missing own n m.generation) (own_in o.stage m.ask) (λ own. tt))
  body_so o q from (body.Stored s) said = stored_so o q s
  body_so o q from _ said = walk.rests o q

  pub packet_so : (o : Opening) (q : Questions) (p : Packet) → Said p.from p.body → Holds o.known q o.stage (opening_take o q p)
  unfolding opening_take
  packet_so o q p said =
      by_test (Holds o.known q o.stage) (names_known_groups o.known.maps p.body) (on_body o q p.from p.body) _ (λ _. body_so o q p.from p.body said)
      (λ _. walk.asks o q)
