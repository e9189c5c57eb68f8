-- Each event of a client's opening is a run of the small world.
use Rattle.std.proofs.Common.{◌≡◌, ◌<◌, ℕ, ◌==◌, ◌&&◌, not, true, cond, [], ◌∷◌, Option, Some, None, refl, sym, ap, subst, ◌∙◌, inl, inr, arith}
use Rattle.std.specs.Prelude.{IfSome}
use Rattle.std.proofs.lemmas.Bool.Decides.{nat_tests}
use Rattle.std.proofs.lemmas.List.Elements.{All-nil, All-cons}
use Rattle.std.proofs.lemmas.Bool.{eqb-true}
use Rattle.xfs_base.proofs.Booleans.{by_test, and_first, and_second}
use Rattle.xfs_base.specs.declared.node.NodeId.{NodeId}
use Rattle.xfs_base.specs.declared.node.NodeId.TheVariants.{Client, Server}
use Rattle.xfs_base.specs.declared.segment.LogId.{LogId}
use Rattle.group_map.specs.GroupMapState.{GroupMapState}
use Rattle.segment_reading.specs.declared.reading.Stage as readings
use Rattle.segment_reading.specs.declared.reading.Stage.TheVariants as reading
use Rattle.stripe_code.specs.declared.round.Told.TheVariants as round_told
use Rattle.client_log.specs.declared.input.In.TheVariants as log_in
use Rattle.client_log.specs.LogState.{log_start}
use Rattle.log_scan.specs.declared.input.In.{In as Input}
use Rattle.log_scan.specs.declared.input.In.TheVariants as input
use Rattle.log_scan.specs.declared.stage.Stage as scan_stages
use Rattle.log_scan.specs.declared.stage.Stage.TheVariants.{Hails, Gathers, Asks, Reads, Over}
use Rattle.log_scan.specs.declared.stage.Backward.{Backward}
use Rattle.segment_reading.specs.Reading.{ReadingState}
use Rattle.log_scan.specs.Transition as scan
use Rattle.log_owner.specs.declared.known.Known.{Known}
use Rattle.log_owner.specs.declared.opened.Progress.TheVariants as progress
use Rattle.log_owner.specs.declared.opening.Opening.{Opening}
use Rattle.log_owner.specs.declared.opening.Scanning.{Scanning}
use Rattle.log_owner.specs.declared.opening.Stage.{Stage}
use Rattle.log_owner.specs.declared.opening.Stage.TheVariants as stage
use Rattle.log_owner.specs.Opening.{Went, went, stays, drops, known_scanning, known_settling, nothing_asked, scans_on, scans_at, welcomed_with, welcomed, welcomed_as, is_meant, welcomed_in, on_welcome, regrouped, on_news, is_fenced, fenced_by, on_fenced, own_in, answers, on_found, on_missing, on_stored, on_tick, on_body, opening_take}
use Rattle.log_owner.specs.Promised.{promised_of}
use Rattle.log_owner.specs.Sending.{hello}
use Rattle.node_base.specs.Asking.{next_ask, draw, own_of}
use Rattle.node_base.specs.declared.maps.Maps.{Maps}
use Rattle.node_base.specs.declared.questions.Asked.{Asked}
use Rattle.node_base.specs.declared.questions.Questions.{Questions}
use Rattle.node_base.specs.Known.{names_known_groups}
use Rattle.node_base.specs.Maps.{fits, is_older, maps_take}
use Rattle.node_base.specs.Room.{has_room}
use Rattle.node_base.specs.Shape.{is_log}
use Rattle.wire_msg.specs.declared.body.Body.{Body}
use Rattle.wire_msg.specs.declared.body.Body.TheVariants as body
use Rattle.wire_msg.specs.declared.packet.Packet as packets
use Rattle.wire_msg.specs.declared.registry.News.{News}
use Rattle.wire_msg.specs.declared.registry.Welcome.{Welcome}
use Rattle.wire_msg.specs.declared.storage.Fenced.{Fenced}
use Rattle.wire_msg.specs.declared.storage.Found.{Found}
use Rattle.wire_msg.specs.declared.storage.Missing.{Missing}
use Rattle.wire_msg.specs.declared.storage.Stored.{Stored}
use Rattle.log_protocol.specs.Tables.{In, put}
use Rattle.log_tie.specs.Setting.{Setting}
use Rattle.log_tie.specs.Shelves.{is_of_log}
use Rattle.log_law.specs.Net.{Net, Told, chain_in, first_write}
use Rattle.log_law.specs.ReadBack.{ReadsDown}
use Rattle.log_law.specs.Net.{Owner as owner}
use Rattle.log_law.specs.Net.Packet.{StoredSent, FragmentSent, FencedSent, MapSent, WelcomeSent}
use Rattle.log_law.specs.Events.{CameToScan, StartsWith, WritesText}
use Rattle.log_law.specs.Events.{Happens as happen}
use Rattle.node_logs.specs.node_log_tie.Sight.{BodySeen, AskedBy, AnsweredBy, WelcomeSeen, FencedSeen, Question}
use Rattle.node_logs.specs.node_log_tie.Sight.Question.{OfMaps, OfOpening}
use Rattle.node_logs.specs.client_log_tie.Owner.{Scene, asker, AsksRegistry, AsksServers, AsksIn, AsksAt, MapCame, Lasts, SeesScan, SeesStage}
use Rattle.node_logs.specs.client_log_tie.Texts.{MapFits, StaysWritten}
use Rattle.node_logs.proofs.client_log_tie.Texts.{StartFits}
use Rattle.node_logs.specs.client_log_tie.ClientEvents.{StageWritten, BodyFits}
use Rattle.node_logs.proofs.client_log_tie.Frames.{ClientDoes}
use Rattle.node_logs.proofs.client_log_tie.Frames as frames
use Rattle.node_logs.proofs.client_log_tie.Logs.{writes_text}
use Rattle.node_logs.proofs.client_log_tie.OpeningLog as writing
use Rattle.node_logs.proofs.client_log_tie.OpeningLog.{WentTo}
use Rattle.node_logs.proofs.client_log_tie.Owed.{ScanOwed, StageOwed}
use Rattle.node_logs.proofs.client_log_tie.Questions.{ask_rises, asks_grown, put_here, put_below, put_fresh}
use Rattle.node_logs.proofs.client_log_tie.ScanSays.{Opens}
use Rattle.node_logs.proofs.client_log_tie.ScanSteps as scanning

-- ---- where a chain can be gone on with, the small world can start the log

starts_with : (g : Setting) (inc : ℕ) (d : scan.Done) (t : Told) (m : Option GroupMapState) → IfSome m (λ x. StaysWritten (log_start g.log inc t.end x))
    → IfSome m (λ x. WritesText (first_write g inc t.end x))
starts_with g inc d t None h = tt
starts_with g inc d t (Some m) h = writes_text (log_start g.log inc t.end m) (log_in.Parts []) h refl

can_start : (g : Setting) (n : Net) (d : scan.Done) (x : Option Told) → IfSome x (λ t. StartFits g n.inc d t × ReadsDown n d.state.opening.low t)
    → IfSome x (StartsWith g n.inc d)
can_start g n d None h = tt
can_start g n d (Some t) h = (h.0.0, starts_with g n.inc d t d.state.opening.groups h.0.1)

-- ---- what is asked stays so, where more is asked

module _ (t u : ℕ → Question) (a : Asked) (ask : ℕ) (same : u a.ask ≡ t a.ask) where
  registry_on : AsksRegistry t a ask → AsksRegistry u a ask
  registry_on h = record { own = h.own; number = same ∙ h.number }

  servers_on : AsksServers t a ask → AsksServers u a ask
  servers_on (inl e) = inl e
  servers_on (inr e) = inr (same ∙ e)

  in_on : (x : readings.Stage) → AsksIn t a ask x → AsksIn u a ask x
  in_on reading.Asking h = servers_on h
  in_on reading.Between h = registry_on h
  in_on reading.Doubted h = registry_on h
  in_on reading.Over h = h

  at_on : (st : scan_stages.Stage) → AsksAt t a ask st → AsksAt u a ask st
  at_on (Gathers lists) h = servers_on h
  at_on (Reads b (Some r)) h = record { stage = in_on r.stage h.stage; past = h.past }
  at_on Over h = servers_on h
  at_on _ h = registry_on h

-- ---- an answer that was awaited

-- a question that is out to the registry
pub record Awaited (table : ℕ → Question) (a : Asked) (ask : ℕ) (st : scan_stages.Stage) : Type 0 where
  pub awaits : scan.awaits_welcome st ≡ true
  pub own : a.own ≡ ask
  pub number : table a.ask ≡ OfOpening ask

module _ (g : Setting) (c : ℕ) (w : Scene) (a : Asked) (ask : ℕ) (m : Welcome) (some : a.own ≡ 0 → ⊥)
    (seen : AnsweredBy g (asker c w) w.net m (w.asked a.ask)) where
  of_registry : (st : scan_stages.Stage) → scan.awaits_welcome st ≡ true → AsksRegistry w.asked a ask → Awaited w.asked a ask st
  of_registry st awaits h = record { awaits = awaits; own = h.own; number = h.number }

  of_servers : (st : scan_stages.Stage) → AsksServers w.asked a ask → Awaited w.asked a ask st
  of_servers st (inl e) = absurd (some e)
  of_servers st (inr e) = absurd (subst (AnsweredBy g (asker c w) w.net m) e seen)

  of_reading : (b : Backward) (r : ReadingState) (x : readings.Stage) → r.stage ≡ x → AsksIn w.asked a ask x → Awaited w.asked a ask (Reads b (Some r))
  of_reading b r reading.Asking e h = of_servers (Reads b (Some r)) h
  of_reading b r reading.Between e h = of_registry (Reads b (Some r)) (ap (λ y. scan.is_between (Some (record r { stage = y }))) e) h
  of_reading b r reading.Doubted e h = of_registry (Reads b (Some r)) (ap (λ y. scan.is_between (Some (record r { stage = y }))) e) h
  of_reading b r reading.Over e h = absurd h

  is_awaited : (st : scan_stages.Stage) → AsksAt w.asked a ask st → Awaited w.asked a ask st
  is_awaited Hails h = of_registry Hails refl h
  is_awaited (Gathers lists) h = of_servers (Gathers lists) h
  is_awaited (Asks lists) h = of_registry (Asks lists) refl h
  is_awaited (Reads b None) h = of_registry (Reads b None) refl h
  is_awaited (Reads b (Some r)) h = of_reading b r r.stage refl h.stage
  is_awaited Over h = of_servers Over h

module _ (g : Setting) (c : ℕ) (small : is_log g.log.0 ≡ true) (w : Scene) (its life : ℕ) (q : Questions) (lasts : Lasts g c w its life q.last)
    (room : has_room q.last ≡ true) where
  abbrev Goes : Went → Type 0
  Goes x = WentTo g c w its life x

  -- nothing changes
  stays_so : (o : Opening) → SeesStage g c w o.known q.last o.stage → StageWritten o.stage → Goes (drops o q)
  stays_so o sees written =
      record {
        next = w;
        grown = frames.grown_still g w;
        lasts = lasts;
        shows = (sees, written);
        does = All-nil (ClientDoes g c w);
        lost = λ l. absurd l;
        once = frames.still_once g w;
      }

  -- ---- the scan

  opens : (k : Known) (s : Scanning) → SeesScan g c w k s q.last → Opens g c w its life k q s
  opens k s sees = record {
    lasts = lasts;
    log = sees.log;
    inc = sees.inc;
    small = subst (λ (l : LogId). is_log l.0 ≡ true) (sym sees.log) small;
    came = sees.came;
    room = room;
    number = sees.number;
  }

  -- it takes an input that came, where its client takes it so
  scans_so : (k : Known) (s : Scanning) (i : Input) → w.net.owner ≡ owner.Opening s.scan → CameToScan g w.net i → ScanOwed g w.net s.scan
      → (h : Opens g c w its life k q s)
      → scanning.Takes g c w its life k q s h (scan.transition s.scan i) → Goes (scans_on k q s i)
  unfolding scans_on
  scans_so k s i fact came owed h takes =
      takes (owed.chain i came)
      (happen.Opens s.scan i fact came (can_start g w.net (scan.transition s.scan i) (chain_in (scan.transition s.scan i).outs) (owed.chain i came)))

  stood : (k : Known) (s : Scanning) (sees : SeesScan g c w k s q.last) → scanning.Stood g c w its life k q s (opens k s sees) s.scan.opening
  stood k s sees = record { groups = sees.groups; past = sees.past; some = sees.some }

  -- a scan, or the log that started behind it, and what is owed to it
  pub record Sees (k : Known) (at : Stage) : Type 0 where
    pub sees : SeesStage g c w k q.last at
    pub written : StageWritten at
    pub owed : StageOwed g w.net at

  rests_so : (k : Known) (at : Stage) → Sees k at → Goes (stays (progress.Opening (record { known = k; stage = at })) q)
  rests_so k at h = stays_so (record { known = k; stage = at }) h.sees h.written

  -- what came is of the log, and servers say it
  told_at : (k : Known) (at : Stage) (i : Input) → Sees k at → CameToScan g w.net i
      → ((s : Scanning) (h : Sees k (stage.Scanning s)) → scanning.Takes g c w its life k q s (opens k s h.sees) (scan.transition s.scan i))
      → Goes (scans_at k q i at)
  told_at k (stage.Scanning s) i h came takes = scans_so k s i h.sees.owner came h.owed (opens k s h.sees) (takes s h)
  told_at k (stage.Settling s) i h came takes = rests_so k (stage.Settling s) h

  module _ (o : Opening) (h : Sees o.known o.stage) where
    dropped : Goes (drops o q)
    dropped = rests_so o.known o.stage h

    got_takes : (fragment : _) (server ask generation : ℕ) (s : Scanning) (i : Sees o.known (stage.Scanning s))
        → scanning.Takes g c w its life o.known q s (opens o.known s i.sees) (scan.transition s.scan (input.Got ask server generation fragment))
    got_takes fragment server ask generation s i =
        scanning.told_so g c w its life o.known q s (opens o.known s i.sees) s.scan.opening s.scan.stage ask server (round_told.Held fragment)
        (stood o.known s i.sees) i.sees.asks

    missing_takes : (server ask generation : ℕ) (s : Scanning) (i : Sees o.known (stage.Scanning s))
        → scanning.Takes g c w its life o.known q s (opens o.known s i.sees) (scan.transition s.scan (input.Missing ask server generation))
    missing_takes server ask generation s i =
        scanning.told_so g c w its life o.known q s (opens o.known s i.sees) s.scan.opening s.scan.stage ask server (round_told.Missing generation)
        (stood o.known s i.sees) i.sees.asks

    found_by_so : (f : Found) (server : ℕ) (own : Option ℕ) → (is_of_log g f.fragment.meta.name ≡ true → In (FragmentSent f.fragment) w.net.sent)
        → Goes (answers o q (λ own. input.Got own server f.generation f.fragment) own)
    found_by_so f server None seen = dropped
    found_by_so f server (Some own) seen =
        told_at o.known o.stage (input.Got own server f.generation f.fragment) h seen (got_takes f.fragment server own f.generation)

    missing_by_so : (m : Missing) (server : ℕ) (own : Option ℕ) → Goes (answers o q (λ own. input.Missing own server m.generation) own)
    missing_by_so m server None = dropped
    missing_by_so m server (Some own) = told_at o.known o.stage (input.Missing own server m.generation) h tt (missing_takes server own m.generation)

    found_so : (from : NodeId) (f : Found) → (is_of_log g f.fragment.meta.name ≡ true → In (FragmentSent f.fragment) w.net.sent) → Goes (on_found o q from f)
    unfolding on_found
    found_so (Server v) f seen = found_by_so f v (own_in o.stage f.ask) seen
    found_so _ f seen = dropped

    missing_so : (from : NodeId) (m : Missing) → Goes (on_missing o q from m)
    unfolding on_missing
    missing_so (Server v) m = missing_by_so m v (own_in o.stage m.ask)
    missing_so _ m = dropped

  -- ---- a Fenced

  fenced_scan : (o : Opening) (s : Scanning) (f : Fenced) (v : ℕ) → Sees o.known (stage.Scanning s) → FencedSeen g (asker c w) w.net (Server v) f
      → Goes (fenced_by (record o { stage = stage.Scanning s }) q f v)
  fenced_scan o s f v h seen =
      let i : Input = input.Fenced v f.generation f.held in
      by_test (λ (x : Went). Goes x) (is_fenced (record o { stage = stage.Scanning s }) f) (scans_on o.known q s i) (stays (known_scanning o.known s) q)
      (λ t.
      let log : (f.log.0 == o.known.owner.log.0) ≡ true = and_first (f.log.0 == o.known.owner.log.0) _ t in
      let inc : f.pass.inc ≡ w.net.inc = eqb-true f.pass.inc o.known.owner.inc
      (and_first (f.pass.inc == o.known.owner.inc) (f.pass.att == 0)
      (and_second (f.log.0 == o.known.owner.log.0) ((f.pass.inc == o.known.owner.inc) && (f.pass.att == 0)) t)) ∙ h.sees.inc in
      scans_so o.known s i h.sees.owner
      (subst (λ n. In (FencedSent v n f.generation f.held) w.net.sent) inc (seen (subst (λ (l : LogId). (f.log.0 == l.0) ≡ true) h.sees.log log))) h.owed
      (opens o.known s h.sees)
      (scanning.fenced_so g c w its life o.known q s (opens o.known s h.sees) s.scan.opening s.scan.stage
      (record { server = v; generation = f.generation; held = f.held }) (stood o.known s h.sees)
      h.sees.asks))
      (λ t. rests_so o.known (stage.Scanning s) h)

  fenced_by_so : (o : Opening) (at : Stage) (f : Fenced) (v : ℕ) → Sees o.known at → FencedSeen g (asker c w) w.net (Server v) f
      → Goes (fenced_by (record o { stage = at }) q f v)
  fenced_by_so o (stage.Scanning s) f v h seen = fenced_scan o s f v h seen
  fenced_by_so o (stage.Settling s) f v h seen =
      by_test (λ (x : Went). Goes x) (is_fenced (record o { stage = stage.Settling s }) f) (stays (known_settling o.known s) q) (stays (known_settling o.known s) q)
      (λ t. rests_so o.known (stage.Settling s) h) (λ t. rests_so o.known (stage.Settling s) h)

  fenced_so : (o : Opening) (from : NodeId) (f : Fenced) → Sees o.known o.stage → FencedSeen g (asker c w) w.net from f → Goes (on_fenced o q from f)
  unfolding on_fenced
  fenced_so o (Server v) f h seen = fenced_by_so o o.stage f v h seen
  fenced_so o _ f h seen = dropped o h

  -- ---- the log of an opening

  stored_so : (o : Opening) (m : Stored) → Sees o.known o.stage → (is_of_log g m.name ≡ true → In (StoredSent m.name m.index m.generation) w.net.sent)
      → Goes (on_stored o q m)
  unfolding on_stored
  stored_so o m h seen = by_stage o.stage h
    where
      by_stage : (at : Stage) → Sees o.known at → Goes (on_stored (record o { stage = at }) q m)
      by_stage (stage.Scanning s) h = rests_so o.known (stage.Scanning s) h
      by_stage (stage.Settling s) h = writing.stored_so g c w its life o.known q s lasts h.sees h.written m.name m.index m.generation seen

  pub tick_so : (o : Opening) → Sees o.known o.stage → Goes (on_tick o q)
  unfolding on_tick
  tick_so o h = by_stage o.stage h
    where
      by_stage : (at : Stage) → Sees o.known at → Goes (on_tick (record o { stage = at }) q)
      by_stage (stage.Scanning s) h =
          scans_so o.known s input.Tick h.sees.owner tt h.owed (opens o.known s h.sees)
          (scanning.tick_so g c w its life o.known q s (opens o.known s h.sees) s.scan.opening s.scan.stage (stood o.known s h.sees) h.sees.asks)
      by_stage (stage.Settling s) h = writing.tick_so g c w its life o.known q s lasts h.sees h.written

  -- ---- maps

  came_by : (maps : Maps) (m : GroupMapState) → maps.groups ≡ Some m → In (MapSent m) w.net.sent → MapCame g c w maps.groups
  came_by maps m fact came = subst (MapCame g c w) (sym fact) came

  regrouped_so : (k : Known) (at : Stage) (maps : Maps) (m : GroupMapState) → Sees k at → maps.groups ≡ Some m → In (MapSent m) w.net.sent → MapFits m
      → Goes (regrouped (record k { maps = maps }) q m at)
  regrouped_so k (stage.Scanning s) maps m h fact came fits_so =
      let j : Known = record k { maps = maps } in
      let i : Opens g c w its life j q s = record {
        lasts = lasts;
        log = h.sees.log;
        inc = h.sees.inc;
        small = subst (λ (l : LogId). is_log l.0 ≡ true) (sym h.sees.log) small;
        came = came_by maps m fact came;
        room = room;
        number = h.sees.number;
      } in
      scans_so j s (input.Maps m) h.sees.owner came h.owed i
      (scanning.maps_so g c w its life j q s i (record s.scan.opening { groups = Some m }) s.scan.stage
      (record { groups = fact; past = h.sees.past; some = h.sees.some }) h.sees.asks)
  regrouped_so k (stage.Settling s) maps m h fact came fits_so =
      writing.maps_so g c w its life (record k { maps = maps }) q s lasts
      (record {
        owner = h.sees.owner;
        log = h.sees.log;
        own = h.sees.own;
        clear = h.sees.clear;
        flight = h.sees.flight;
        flies = h.sees.flies;
        empty = h.sees.empty;
        reads = h.sees.reads;
      })
      h.written m came fits_so

  news_so : (o : Opening) (news : News) → Sees o.known o.stage → In (MapSent news.groups) w.net.sent → MapFits news.groups → Goes (on_news o q news)
  unfolding on_news
  news_so o news h came fits_so =
      by_test (λ (x : Went). Goes x) (fits o.known.maps news && is_older o.known.maps news)
      (regrouped (record o.known { maps = maps_take o.known.maps news }) q news.groups o.stage) (drops o q)
      (λ t. regrouped_so o.known o.stage (maps_take o.known.maps news) news.groups h
      (newer (and_second (fits o.known.maps news) (is_older o.known.maps news) t)) came fits_so)
      (λ t. dropped o h)
    where
      newer : is_older o.known.maps news ≡ true → (maps_take o.known.maps news).groups ≡ Some news.groups
      newer t = ap (λ b. (cond b (record o.known.maps { version = news.version; groups = Some news.groups }) o.known.maps).groups) t

  -- ---- a Welcome

  module _ (k : Known) (s : Scanning) (m : Welcome) (h : Sees k (stage.Scanning s)) (seen : WelcomeSeen g (asker c w) w.net (Client c) m) where
    -- with these maps
    hears_so : (maps : Maps) (groups : GroupMapState) → maps.groups ≡ Some groups → In (MapSent groups) w.net.sent → m.inc ≡ w.net.inc
        → Awaited w.asked s.asked s.scan.opening.ask s.scan.stage
        → In (WelcomeSent m.inc s.scan.opening.ask m.news.slots m.news.groups) w.net.sent
        → Goes (scans_on (record k { maps = maps; promised = promised_of m.news.slots }) q (record s { asked = nothing_asked })
        (input.Welcome s.asked.own m.news.slots groups))
    hears_so maps groups fact came inc awaited sent =
        let j : Known = record k { maps = maps; promised = promised_of m.news.slots } in
        let r : Scanning = record s { asked = nothing_asked } in
        let i : Opens g c w its life j q r = record {
          lasts = lasts;
          log = h.sees.log;
          inc = h.sees.inc;
          small = subst (λ (l : LogId). is_log l.0 ≡ true) (sym h.sees.log) small;
          came = came_by maps groups fact came;
          room = room;
          number = omega arith;
        } in
        scans_so j r (input.Welcome s.asked.own m.news.slots groups) h.sees.owner (
          (
            m.news.groups,
            subst (λ n. In (WelcomeSent n s.asked.own m.news.slots m.news.groups) w.net.sent) inc
                (subst (λ n. In (WelcomeSent m.inc n m.news.slots m.news.groups) w.net.sent) (sym awaited.own) sent),
          ),
          came,
        ) h.owed i
        (scanning.welcome_so g c w its life j q r i refl s.scan.opening s.scan.stage s.asked.own m.news.slots groups w.asked s.asked fact h.sees.some
        awaited.own h.owed.asks awaited.awaits h.sees.asks)

    taken_so : m.inc ≡ w.net.inc → Awaited w.asked s.asked s.scan.opening.ask s.scan.stage
        → In (WelcomeSent m.inc s.scan.opening.ask m.news.slots m.news.groups) w.net.sent → Goes (welcomed k q s m.news s.asked.own)
    unfolding welcomed
    taken_so inc awaited sent =
        by_test (λ (maps : Maps). Goes (welcomed_with (record k { maps = maps }) q s m.news s.asked.own maps.groups)) (is_older k.maps m.news)
        (record k.maps { version = m.news.version; groups = Some m.news.groups }) k.maps
        (λ t. hears_so (record k.maps { version = m.news.version; groups = Some m.news.groups }) m.news.groups refl seen.map inc awaited sent)
        (λ t. as_known k.maps.groups refl h.sees.came)
      where
        as_known : (mo : Option GroupMapState) → k.maps.groups ≡ mo → MapCame g c w mo → Goes (welcomed_with k q s m.news s.asked.own mo)
        as_known None e came = rests_so k (stage.Scanning s) h
        as_known (Some groups) e came = hears_so k.maps groups e came inc awaited sent

    answered_so : m.inc ≡ w.net.inc → (not (s.asked.own == 0) && (m.ask == s.asked.ask)) ≡ true → Goes (welcomed k q s m.news s.asked.own)
    answered_so inc t =
        let same : m.ask ≡ s.asked.ask = eqb-true m.ask s.asked.ask (and_second (not (s.asked.own == 0)) (m.ask == s.asked.ask) t) in
        let told : AnsweredBy g (asker c w) w.net m (w.asked s.asked.ask) = subst (λ n. AnsweredBy g (asker c w) w.net m (w.asked n)) same (seen.own refl) in
        let awaited : Awaited w.asked s.asked s.scan.opening.ask s.scan.stage =
        is_awaited g c w s.asked s.scan.opening.ask m
        (some s.asked.own (and_first (not (s.asked.own == 0)) (m.ask == s.asked.ask) t)) told s.scan.stage h.sees.asks in
        taken_so inc awaited (subst (AnsweredBy g (asker c w) w.net m) awaited.number told)
      where
        some : (n : ℕ) → not (n == 0) ≡ true → n ≡ 0 → ⊥
        some n t e = grind (arith, nat_tests)

    welcome_scan : Goes (welcomed_in k q s m)
    welcome_scan =
        by_test (λ (x : Went). Goes x) (is_meant k m) (welcomed_as k q s m.news (own_of s.asked m.ask)) (stays (known_scanning k s) q)
        (λ t. by_test (λ x. Goes (welcomed_as k q s m.news x)) (not (s.asked.own == 0) && (m.ask == s.asked.ask)) (Some s.asked.own) None
        (λ u. answered_so (eqb-true m.inc k.owner.inc (and_first (m.inc == k.owner.inc) (fits k.maps m.news) t) ∙ h.sees.inc) u)
        (λ u. rests_so k (stage.Scanning s) h))
        (λ t. rests_so k (stage.Scanning s) h)

  welcome_so : (o : Opening) (m : Welcome) → Sees o.known o.stage → WelcomeSeen g (asker c w) w.net (Client c) m → Goes (on_welcome o q m)
  unfolding on_welcome
  welcome_so o m h seen = by_stage o.stage h
    where
      by_stage : (at : Stage) → Sees o.known at → Goes (on_welcome (record o { stage = at }) q m)
      by_stage (stage.Scanning s) h = welcome_scan o.known s m h seen
      by_stage (stage.Settling s) h = rests_so o.known (stage.Settling s) h

  -- ---- a packet

  body_so : (o : Opening) (from to : NodeId) (b : Body) → to ≡ Client c → BodySeen g (asker c w) w.net from to b → BodyFits b → Sees o.known o.stage
      → Goes (on_body o q from b)
  unfolding on_body
  body_so o from to (body.Welcome m) own seen fit h = welcome_so o m h (subst (λ to. WelcomeSeen g (asker c w) w.net to m) own seen)
  body_so o from to (body.MapNews m) own seen fit h = news_so o m h seen fit
  body_so o from to (body.Fenced m) own seen fit h = fenced_so o from m h seen
  body_so o from to (body.Fragment m) own seen fit h = found_so o h from m seen
  body_so o from to (body.Missing m) own seen fit h = missing_so o h from m
  body_so o from to (body.Stored m) own seen fit h = stored_so o m h seen
  body_so o from to _ own seen fit h = dropped o h

  -- the maps are asked for, by a number of their own
  asks_so : (o : Opening) → Sees o.known o.stage → Goes (went (progress.Opening o) (draw q) (hello o.known.owner.inc (next_ask q) ∷ []))
  asks_so o h =
      let rises : q.last < next_ask q = ask_rises q room in
      let v : Scene = record { net = w.net; asked = put w.asked (next_ask q) OfMaps } in
      record {
        next = v;
        grown = asks_grown g w (next_ask q) OfMaps (lasts.fresh (next_ask q) rises);
        lasts = record { number = lasts.number; inc = lasts.inc; fresh = put_fresh w.asked (next_ask q) OfMaps q.last rises lasts.fresh };
        shows = (by_stage o.stage h.sees, h.written);
        does = All-cons (ClientDoes g c v) (hello o.known.owner.inc (next_ask q)) []
            (record { own = λ e. subst (AskedBy g (asker c v) v.net o.known.owner.inc) (sym (put_here w.asked (next_ask q) OfMaps)) tt; reached = tt })
            (All-nil (ClientDoes g c v));
        lost = λ l. absurd l;
        once = tt;
      }
    where
      by_stage : (at : Stage) → SeesStage g c w o.known q.last at
          → SeesStage g c (record { net = w.net; asked = put w.asked (next_ask q) OfMaps }) o.known (next_ask q) at
      by_stage (stage.Scanning s) sees = record {
        owner = sees.owner;
        log = sees.log;
        inc = sees.inc;
        groups = sees.groups;
        came = still_came o.known.maps.groups sees.came;
        asks = at_on w.asked (put w.asked (next_ask q) OfMaps) s.asked s.scan.opening.ask
            (put_below w.asked (next_ask q) OfMaps s.asked.ask (let a = sees.number in let b = ask_rises q room in omega arith)) s.scan.stage
            sees.asks;
        past = sees.past;
        some = sees.some;
        number = (let a = sees.number in let b = ask_rises q room in omega arith);
      }
        where
          still_came : (mo : Option GroupMapState) → MapCame g c w mo → MapCame g c (record { net = w.net; asked = put w.asked (next_ask q) OfMaps }) mo
          still_came None came = tt
          still_came (Some m) came = came
      by_stage (stage.Settling s) sees =
          record {
            owner = sees.owner;
            log = sees.log;
            own = sees.own;
            clear = sees.clear;
            flight = sees.flight;
            flies = sees.flies;
            empty = sees.empty;
            reads = sees.reads;
          }

  pub packet_so : (o : Opening) (p : packets.Packet) → p.to ≡ Client c → BodySeen g (asker c w) w.net p.from p.to p.body → BodyFits p.body
      → Sees o.known o.stage → Goes (opening_take o q p)
  unfolding opening_take
  packet_so o p own seen fit h =
      by_test (λ (x : Went). Goes x) (names_known_groups o.known.maps p.body) (on_body o q p.from p.body)
      (went (progress.Opening o) (draw q) (hello o.known.owner.inc (next_ask q) ∷ []))
      (λ t. body_so o p.from p.to p.body own seen fit h) (λ t. asks_so o h)
