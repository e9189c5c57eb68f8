-- An opening ends by one thing that happens in the small world of its log, with the chain that it read back.
use Rattle.std.proofs.Common.{◌≡◌, ℕ, true, false, ◌&&◌, List, [], ◌∷◌, Option, Some, None, refl, sym, ap, subst, ◌∙◌}
use Rattle.std.specs.Prelude.{IfSome}
use Rattle.node_slots.proofs.client_law.Emptying.{packet_empty, tick_empty}
use Rattle.node_slots.specs.client_law.Empty.{WaitsForNothing}
use Rattle.node_slots.proofs.client_law.Empty.{OpensEmpty}
use Rattle.client_log.specs.declared.input.In.{In as LogIn}
use Rattle.client_log.specs.declared.input.In.TheVariants as log_in
use Rattle.client_log.specs.Transition as log
use Rattle.node_logs.specs.client_log_tie.ClientEvents.{IsOnce, ServesStraight}
use Rattle.node_logs.specs.client_log_tie.Owner.{Scene, SeesLog, SeesStage}
use Rattle.group_map.specs.GroupMapState.{GroupMapState}
use Rattle.log_flight.specs.Flights.{FlightState}
use Rattle.log_law.specs.Events.{Happens, Runs}
use Rattle.log_law.specs.Events.Happens.{Acts, Writes, Opens, Crashes, Restarts, Renews, Serves, Bars, Lists, Hears, Raises, Publishes, Welcomes, Drops}
use Rattle.log_law.specs.Events.Runs.{Begun, On}
use Rattle.log_law.specs.Net.{Net, Told, after_told, chain_in}
use Rattle.log_law.specs.Net.Owner.{Opening as Scans}
use Rattle.log_law.specs.Restarts.{IsSureRun, is_serving}
use Rattle.log_law.specs.Tails.{then_on}
use Rattle.log_owner.specs.declared.known.Known.{Known}
use Rattle.log_owner.specs.declared.opened.Opened.{Opened}
use Rattle.log_owner.specs.declared.opened.Progress.{Progress}
use Rattle.log_owner.specs.declared.opened.Progress.TheVariants as progress
use Rattle.log_owner.specs.declared.opening.Opening.{Opening}
use Rattle.log_owner.specs.declared.opening.Settling.{Settling}
use Rattle.log_owner.specs.declared.opening.Stage.{Stage}
use Rattle.log_owner.specs.declared.opening.Stage.TheVariants as stage
use Rattle.log_owner.specs.Opened.{names_in}
use Rattle.log_owner.specs.Opening.{Went, by_server, drops, fenced_by, found_by, is_fenced, missing_by, on_body, on_fenced, on_found, on_missing, on_news, opening_take, on_stored, on_tick, on_welcome, known_go_on, regrouped, scans, went, known_write, written}
use Rattle.log_owner.specs.Sending.{hello, server_in}
use Rattle.log_scan.specs.declared.input.In.TheVariants as input
use Rattle.log_scan.specs.ScanState.{ScanState}
use Rattle.log_scan.specs.Transition as scan
use Rattle.log_tie.specs.Setting.{Setting}
use Rattle.node_base.specs.Asking.{draw, next_ask}
use Rattle.node_base.specs.declared.questions.Questions.{Questions}
use Rattle.node_base.specs.Known.{names_known_groups}
use Rattle.node_base.specs.Maps.{fits, is_older, maps_take}
use Rattle.segment_format.specs.declared.segment.Segment.{Segment}
use Rattle.wire_msg.specs.declared.body.Body.{Body}
use Rattle.wire_msg.specs.declared.body.Body.TheVariants as body
use Rattle.wire_msg.specs.declared.packet.Packet.{Packet}
use Rattle.wire_msg.specs.declared.registry.News.{News}
use Rattle.xfs_base.proofs.Booleans.{by_test, contrary}
use Rattle.xfs_base.specs.declared.node.NodeId.{NodeId}
use Rattle.xfs_base.specs.declared.segment.End.{End}
use Rattle.run_laws.specs.reopening_law.Openings.{EndsAreReopenings, EndsByOne, EndsSo, OpeningsEndByOne}

-- ---- the chain of a log that is open

-- it is this one
abbrev HasChain : List Segment → Progress → Type 0
HasChain chain (progress.Opening o) = Unit {0}
HasChain chain (progress.Lost seg) = Unit {0}
HasChain chain (progress.Opened r) = r.chain ≡ names_in chain

module _ (q : Questions) (s : Settling) where
  opens_chain : (k : Known) (t : Settling) → t.chain ≡ s.chain → (end : Option End) → HasChain s.chain (known_go_on k t end).state
  opens_chain k t same None = tt
  opens_chain k t same (Some end) = ap names_in same

  writes_chain : (k : Known) (i : LogIn) → HasChain s.chain (known_write k s i).state
  unfolding known_write
  writes_chain k i = opens_chain k (record s { log = (log.transition s.log i).state }) refl (written (log.transition s.log i).outs).state

  module _ (o : Opening) where
    -- the opening, where its opening segment is in flight
    abbrev at : Opening
    at = record o { stage = stage.Settling s }

    tick_chain : HasChain s.chain (on_tick at q).progress
    unfolding on_tick
    tick_chain = writes_chain o.known log_in.Tick

    news_chain : (news : News) → HasChain s.chain (on_news at q news).progress
    unfolding on_news
    news_chain news =
        by_test (λ (x : Went). HasChain s.chain x.progress) (fits o.known.maps news && is_older o.known.maps news)
        (regrouped (record o.known { maps = maps_take o.known.maps news }) q news.groups (stage.Settling s)) (drops at q)
        (λ t. writes_chain (record o.known { maps = maps_take o.known.maps news }) (log_in.Maps news.groups)) (λ t. tt)

    server_chain : (f : ℕ → Went) (server : Option ℕ) → ((n : ℕ) → HasChain s.chain (f n).progress) → HasChain s.chain (by_server at q f server).progress
    server_chain f None each = tt
    server_chain f (Some server) each = each server

    body_chain : (from : NodeId) (b : Body) → HasChain s.chain (on_body at q from b).progress
    unfolding on_body on_fenced on_found on_missing on_welcome on_stored
    body_chain from (body.Welcome w) = tt
    body_chain from (body.MapNews news) = news_chain news
    body_chain from (body.Fenced f) =
        server_chain (fenced_by at q f) (server_in from)
        (λ n. by_test (λ (x : Went). HasChain s.chain x.progress) (is_fenced at f) (scans at q (input.Fenced n f.generation f.held)) (drops at q)
        (λ t. tt) (λ t. tt))
    body_chain from (body.Fragment f) = server_chain (found_by at q f) (server_in from) (λ n. tt)
    body_chain from (body.Missing m) = server_chain (missing_by at q m) (server_in from) (λ n. tt)
    body_chain from (body.Stored m) = writes_chain o.known (log_in.Acked m.name m.index m.generation)
    body_chain from _ = tt

    packet_chain : (p : Packet) → HasChain s.chain (opening_take at q p).progress
    unfolding opening_take
    packet_chain p =
        by_test (λ (x : Went). HasChain s.chain x.progress) (names_known_groups o.known.maps p.body) (on_body at q p.from p.body)
        (went (progress.Opening at) (draw q) (hello o.known.owner.inc (next_ask q) ∷ [])) (λ t. body_chain p.from p.body) (λ t. tt)

-- ---- one thing that happens

module _ (g : Setting) where
  told_not : (n : Net) (s : ScanState) (d : scan.Done) (t : Option Told) (m : Option GroupMapState) → is_serving (after_told g n s d t m).owner ≡ false
  told_not n s d None m = refl
  told_not n s d (Some t) None = refl
  told_not n s d (Some t) (Some m) = refl

  -- a scan doesn't come to serve by it
  scan_not : (n o : Net) → Happens g n o → (s : ScanState) → n.owner ≡ Scans s → is_serving o.owner ≡ true → ⊥
  scan_not n o (Acts t i fact came texts) s scans serves = absurd cc
  scan_not n o (Writes chain t i fact came texts) s scans serves = absurd cc
  scan_not n o (Opens t i fact came can) s scans serves =
      contrary (sym (told_not n t (scan.transition t i) (chain_in (scan.transition t i).outs) (scan.transition t i).state.opening.groups) ∙ serves)
  scan_not n o Crashes s scans serves = contrary serves
  scan_not n o (Restarts fact) s scans serves = contrary serves
  scan_not n o (Renews m high doubts fact came) s scans serves = absurd cc
  scan_not n o (Serves v deed some came) s scans serves = contrary (sym (ap is_serving scans) ∙ serves)
  scan_not n o (Bars v l pass) s scans serves = contrary (sym (ap is_serving scans) ∙ serves)
  scan_not n o (Lists v) s scans serves = contrary (sym (ap is_serving scans) ∙ serves)
  scan_not n o (Hears v generation up reached) s scans serves = contrary (sym (ap is_serving scans) ∙ serves)
  scan_not n o (Raises low name up fact below) s scans serves = contrary (sym (ap is_serving scans) ∙ serves)
  scan_not n o (Publishes m whole) s scans serves = contrary (sym (ap is_serving scans) ∙ serves)
  scan_not n o (Welcomes inc ask news m fact least whole) s scans serves = contrary (sym (ap is_serving scans) ∙ serves)
  scan_not n o (Drops lists meta fact listed below) s scans serves = contrary (sym (ap is_serving scans) ∙ serves)

  -- where at most one thing happens, and the owner comes to serve, it is that one
  record OneThing (n o : Net) (runs : Runs g n o) : Type 0 where
    happens : Happens g n o
    one : runs ≡ On Begun happens

  one_thing : (n o : Net) (runs : Runs g n o) → IsOnce runs → is_serving n.owner ≡ false → is_serving o.owner ≡ true → OneThing n o runs
  one_thing n o Begun once before now = contrary (sym before ∙ now)
  one_thing n o (On Begun happens) once before now = record { happens = happens; one = refl }
  one_thing n o (On (On run more) happens) once before now = absurd once

  module _ (c : ℕ) (o : Opening) (r : Opened) (w v : Scene) (last : ℕ) (runs : Runs g w.net v.net) (log : SeesLog g c v r.log)
      (straight : ServesStraight runs) (empty : (r.log.dirty ≡ []) × (r.log.flight ≡ None)) where
    serves : is_serving v.net.owner ≡ true
    serves = ap is_serving log.owner

    ends_at : (at : Stage) → o.stage ≡ at → SeesStage g c w o.known last at → ((s : Settling) → at ≡ stage.Settling s → r.chain ≡ names_in s.chain)
        → EndsByOne g w v runs o r
    ends_at (stage.Scanning s) fact sees chain =
        let away : is_serving w.net.owner ≡ false = ap is_serving sees.owner in
        let t : OneThing w.net v.net runs = one_thing w.net v.net runs (straight.once away serves) away serves in
        absurd (scan_not w.net v.net t.happens s.scan sees.owner serves)
    ends_at (stage.Settling s) fact sees chain =
        let away : is_serving w.net.owner ≡ false = ap is_serving sees.owner in
        let t : OneThing w.net v.net runs = one_thing w.net v.net runs (straight.once away serves) away serves in
        record {
          settling = s;
          settles = fact;
          happens = t.happens;
          one = t.one;
          writes = sees.owner;
          serves = log.owner;
          own = λ f flies. subst (λ (x : Option FlightState). IfSome x (λ z. z.segment.name.log ≡ g.log)) flies sees.own.flight;
          empty = λ f flies. ap (λ (z : FlightState). z.segment.items) (one_flight s.log.flight f sees.flight flies sees.flies) ∙ sees.empty;
          reads = sees.reads;
          opened = record { log = refl; chain_is = chain s refl; nothing_waits = empty.0; nothing_flies = empty.1 };
        }
      where
        one_flight : (x : Option FlightState) (p q : FlightState) → x ≡ Some p → x ≡ Some q → p ≡ q
        one_flight x p q a b = cc

-- ---- an opening that ends

waits_in : (g : Setting) (c : ℕ) (w : Scene) (k : Known) (last : ℕ) (at : Stage) → SeesStage g c w k last at → WaitsForNothing at
waits_in g c w k last (stage.Scanning s) sees = tt
waits_in g c w k last (stage.Settling s) sees = sees.clear

module _ (g : Setting) (c : ℕ) (o : Opening) where
  -- what it comes to is open with its chain, and empty
  abbrev Comes : Progress → Type 0
  Comes p = (WaitsForNothing o.stage → OpensEmpty p) × ((s : Settling) → o.stage ≡ stage.Settling s → HasChain s.chain p)

  ends_so : (p : Progress) → Comes p → EndsSo g c o p
  ends_so (progress.Opening x) comes = tt
  ends_so (progress.Lost seg) comes = tt
  ends_so (progress.Opened r) comes =
      λ w v last runs sees log straight.
      ends_at g c o r w v last runs log straight (comes.0 (waits_in g c w o.known last o.stage sees)) o.stage refl sees comes.1

pub openings_end_by_one : OpeningsEndByOne
openings_end_by_one g c o q = (
  λ p. ends_so g c o (opening_take o q p).progress (
    λ waits. packet_empty o q p waits,
    λ s fact. subst (λ (at : Stage). HasChain s.chain (opening_take (record o { stage = at }) q p).progress) (sym fact) (packet_chain q s o p),
  ),
  ends_so g c o (on_tick o q).progress (
    λ waits. tick_empty o q waits,
    λ s fact. subst (λ (at : Stage). HasChain s.chain (on_tick (record o { stage = at }) q).progress) (sym fact) (tick_chain q s o),
  ),
)

pub ends_are_reopenings : EndsAreReopenings
ends_are_reopenings g w v runs o r e sure apart m calm = (
  record {
    sure = sure;
    apart = apart;
    moment = m;
    happens = e.happens;
    calm = subst (λ (x : Runs g w.net v.net). IsSureRun (then_on m.run x)) e.one calm;
    writes = e.writes;
    serves = e.serves;
    own = e.own;
    empty = e.empty;
  },
  refl,
)
