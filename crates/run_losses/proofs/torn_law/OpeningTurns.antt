-- What an event makes of an opening that reads its log: it rests, or takes an input that came, and does no more than its scan says and the log that follows it.
use Rattle.std.proofs.Common.{◌≡◌, ◌⊎◌, ℕ, ◌==◌, ◌&&◌, true, List, [], ◌∷◌, map, Option, Some, None, refl, inl, inr}
use Rattle.std.specs.List.{AllByRecursion}
use Rattle.xfs_base.proofs.Booleans.{by_test, and_first, and_second}
use Rattle.xfs_base.specs.declared.node.NodeId.{NodeId}
use Rattle.xfs_base.specs.declared.node.NodeId.TheVariants.{Client, Manager, Server, Cleaner, Registry}
use Rattle.xfs_base.specs.declared.segment.End.{End}
use Rattle.xfs_base.specs.declared.segment.SegName.{SegName}
use Rattle.xfs_base.specs.Steps.{steps, still}
use Rattle.xfs_base.proofs.Alls.{all_append, all_map}
use Rattle.group_map.specs.GroupMapState.{GroupMapState}
use Rattle.client_log.specs.declared.input.In.{In as LogIn}
use Rattle.client_log.specs.declared.input.In.TheVariants as log_in
use Rattle.client_log.specs.declared.output.Out.{Out as LogOut}
use Rattle.client_log.specs.declared.output.Out.TheVariants as log_out
use Rattle.client_log.specs.Transition as log
use Rattle.log_owner.specs.declared.ended.Owner.{Owner}
use Rattle.log_owner.specs.declared.known.Known.{Known}
use Rattle.log_owner.specs.declared.opened.Progress.{Progress}
use Rattle.log_owner.specs.declared.opened.Progress.TheVariants as progress
use Rattle.log_owner.specs.declared.opening.Opening.{Opening}
use Rattle.log_owner.specs.declared.opening.Scanning.{Scanning}
use Rattle.log_owner.specs.declared.opening.Settling.{Settling}
use Rattle.log_owner.specs.declared.opening.Stage.{Stage}
use Rattle.log_owner.specs.declared.opening.Stage.TheVariants as stage
use Rattle.log_owner.specs.Opening.{Went, Moved, went, stays, drops, asking, known_scanning, known_settling, nothing_asked, sent_send, scanned, send_one, written, known_go_on, known_write, behind, settles_over, known_follow, scans_on, scans, welcomed_with, welcomed, welcomed_as, is_meant, on_welcome, regrouped, on_news, is_fenced, fenced_by, by_server, on_fenced, answers, found_by, missing_by, on_found, on_missing, on_stored, on_tick, on_body, opening_take}
use Rattle.log_owner.specs.Opened.{filed}
use Rattle.log_owner.specs.Promised.{promised_of}
use Rattle.log_owner.specs.Sending.{hello, server_in}
use Rattle.log_scan.specs.declared.input.In.{In as Input}
use Rattle.log_scan.specs.declared.input.In.TheVariants as input
use Rattle.log_scan.specs.declared.output.Out.{Out}
use Rattle.log_scan.specs.declared.output.Out.TheVariants.{Hello, Fence, Fetch, Chain as Chains, Lost}
use Rattle.log_scan.specs.Transition.{transition}
use Rattle.log_protocol.specs.Tables.{In}
use Rattle.node_base.specs.Asking.{next_ask, draw, asked_as, drawn_for, own_of}
use Rattle.node_base.specs.declared.effects.Effect.{Effect}
use Rattle.node_base.specs.declared.effects.Effect.TheVariants.{Send, Lose, Does}
use Rattle.node_base.specs.declared.maps.Maps.{Maps}
use Rattle.node_base.specs.declared.questions.Asked.{Asked}
use Rattle.node_base.specs.declared.questions.Questions.{Questions}
use Rattle.node_base.specs.Known.{names_known_groups}
use Rattle.node_base.specs.Maps.{fits, is_older, maps_take}
use Rattle.node_base.specs.Shape.{is_log}
use Rattle.node_slots.proofs.node_tie.StoreFrames.{all_steps}
use Rattle.version_model.specs.declared.act.Act.TheVariants.{Filed}
use Rattle.wire_msg.specs.declared.body.Body.{Body}
use Rattle.wire_msg.specs.declared.body.Body.TheVariants as body
use Rattle.wire_msg.specs.declared.packet.Packet.{Packet}
use Rattle.wire_msg.specs.declared.registry.News.{News}
use Rattle.wire_msg.specs.declared.registry.Welcome.{Welcome}
use Rattle.wire_msg.specs.declared.storage.Fenced.{Fenced}
use Rattle.wire_msg.specs.declared.storage.Found.{Found}
use Rattle.wire_msg.specs.declared.storage.Missing.{Missing}
use Rattle.wire_msg.specs.declared.storage.Stored.{Stored}

-- ---- what comes

-- an input of a scan, by a packet
module _ (k : Known) (s : Scanning) (packet : Packet) where
  pub record WelcomeBy (own : ℕ) (groups : GroupMapState) (m : Welcome) : Type 0 where
    pub bears : packet.body ≡ body.Welcome m
    pub meant : is_meant k m ≡ true
    pub own_is : own_of s.asked m.ask ≡ Some own
    pub groups_are : (groups ≡ m.news.groups) ⊎ (k.maps.groups ≡ Some groups)

  pub record FencedBy (server : ℕ) (m : Fenced) : Type 0 where
    pub bears : packet.body ≡ body.Fenced m
    pub from : packet.from ≡ Server server
    pub log : (m.log.0 == k.owner.log.0) ≡ true
    pub boot : (m.pass.inc == k.owner.inc) ≡ true

  pub record MissingBy (own server : ℕ) (m : Missing) : Type 0 where
    pub bears : packet.body ≡ body.Missing m
    pub from : packet.from ≡ Server server
    pub own_is : own_of s.asked m.ask ≡ Some own

  abbrev pub CameBy : Input → Type 0
  CameBy (input.Welcome own news groups) = (m : Welcome) × WelcomeBy own groups m × (news ≡ m.news.slots)
  CameBy (input.Fenced server generation held) = (m : Fenced) × FencedBy server m × (generation ≡ m.generation) × (held ≡ m.held)
  CameBy (input.Got own server generation fragment) = (m : Found) × (packet.body ≡ body.Fragment m) × (fragment ≡ m.fragment)
  CameBy (input.Missing own server generation) = (m : Missing) × MissingBy own server m × (generation ≡ m.generation)
  CameBy (input.Maps groups) = (news : News) × (packet.body ≡ body.MapNews news) × (groups ≡ news.groups)
  CameBy input.Tick = Unit {0}

abbrev pub NotFetch : Body → Type 0
NotFetch (body.Fetch m) = ⊥
NotFetch _ = Unit {0}

-- the number of its question, unless that is answered
abbrev pub AskedFrom : Scanning → Asked → Type 0
AskedFrom s a = (a ≡ s.asked) ⊎ (a ≡ nothing_asked)

-- ---- what is to be shown of it

module _ (P : Scanning → Type 0) (E : Effect → Type 0) (q : Questions) where
  abbrev pub StageSo : Stage → Type 0
  StageSo (stage.Scanning s) = P s
  StageSo (stage.Settling s) = Unit {0}

  abbrev pub ProgressSo : Progress → Type 0
  ProgressSo (progress.Opening o) = StageSo o.stage
  ProgressSo (progress.Opened r) = Unit {0}
  ProgressSo (progress.Lost seg) = Unit {0}

  pub record Goes (w : Went) : Type 0 where
    pub progress : ProgressSo w.progress
    pub does : AllByRecursion E w.effects

  pub record Moves (m : Moved) : Type 0 where
    pub progress : ProgressSo m.state
    pub does : AllByRecursion E m.outs

  -- it takes an input, by these numbers
  pub record Took (s : Scanning) (i : Input) (a : Asked) : Type 0 where
    pub scans : (owner : Owner) (low : ℕ)
        → P (record { scan = (transition s.scan i).state; asked = (scanned owner low a q (transition s.scan i).outs).state.asked })
    pub says : (owner : Owner) (low : ℕ) → AllByRecursion E (scanned owner low a q (transition s.scan i).outs).outs
    pub loses : (seg : SegName) → In (Lost seg) (transition s.scan i).outs → E (Lose seg)

  module _ (quiet : (to : NodeId) (b : Body) → NotFetch b → E (Send to b)) (acts : (name : SegName) → E (Does (Filed name))) where
    -- ---- the log

    one_written : (before : Option End) (o : LogOut) → AllByRecursion E (send_one before o).outs
    unfolding send_one
    one_written before (log_out.Send fragment member) = (quiet (Server member.server) _ tt, tt)
    one_written before (log_out.Settled end rows) = tt

    written_so : (outs : List LogOut) → AllByRecursion E (written outs).outs
    written_so outs = all_steps send_one E one_written None outs

    known_go_on_so : (k : Known) (s : Settling) (e : Option End) → Moves (known_go_on k s e)
    known_go_on_so k s None = record { progress = tt; does = tt }
    known_go_on_so k s (Some end) =
        record { progress = tt; does = all_append E (map filed s.chain) _ (all_map E filed (λ segment. acts _) s.chain) (acts _, tt) }

    pub known_write_so : (k : Known) (s : Settling) (i : LogIn) → Moves (known_write k s i)
    unfolding known_write
    known_write_so k s i =
        let d : log.Done = log.transition s.log i in
        let o : Moves (known_go_on k (record s { log = d.state }) (written d.outs).state) = known_go_on_so k (record s { log = d.state }) (written d.outs).state in
        record { progress = o.progress; does = all_append E (written d.outs).outs _ (written_so d.outs) o.does }

    settled_on : (m : Moved) → Moves m → Goes (asking q m)
    settled_on m h = record { progress = h.progress; does = h.does }

    -- ---- the end of a scan

    settles_so : (k : Known) (s : Scanning) (chain : _) (groups : Option GroupMapState) → P s → Moves (settles_over k s chain groups)
    settles_so k s chain None h = record { progress = h; does = tt }
    settles_so k s chain (Some groups) h =
        by_test Moves (is_log k.owner.log.0) (known_write k (behind k chain groups) (log_in.Parts [])) (still (known_scanning k s))
        (λ t. known_write_so k (behind k chain groups) (log_in.Parts [])) (λ t. record { progress = h; does = tt })

    pub none_ended : (k : Known) (s : Scanning) → P s → Moves (known_follow k s None)
    unfolding known_follow
    none_ended k s h = record { progress = h; does = tt }

    -- whatever the scan said, what is next is so
    pub ended_so : (its : Owner) (low : ℕ) (a : Asked) (p : Questions) (e : _) (outs : List Out)
        → ((seg : SegName) → In (Lost seg) outs → E (Lose seg))
        → ((k : Known) (s : Scanning) → P s → Moves (known_follow k s e))
        → (k : Known) (s : Scanning) → P s
        → Moves (known_follow k s (steps (sent_send its low) (record { asked = a; questions = p; ended = e }) outs).state.ended)
    unfolding known_follow sent_send
    ended_so its low a p e [] each ends = ends
    ended_so its low a p e (Hello own ∷ outs) each ends =
        ended_so its low (asked_as a p own) (drawn_for a p own) e outs (λ seg fact. each seg (inr fact)) ends
    ended_so its low a p e (Fence server ∷ outs) each ends = ended_so its low a p e outs (λ seg fact. each seg (inr fact)) ends
    ended_so its low a p e (Fetch server name own ∷ outs) each ends =
        ended_so its low (asked_as a p own) (drawn_for a p own) e outs (λ seg fact. each seg (inr fact)) ends
    ended_so its low a p e (Chains segments end prior ∷ outs) each ends =
        ended_so its low a p _ outs (λ seg fact. each seg (inr fact)) (λ k s h. settles_so k s _ k.maps.groups h)
    ended_so its low a p e (Lost name ∷ outs) each ends =
        ended_so its low a p _ outs (λ seg fact. each seg (inr fact)) (λ k s h. record { progress = tt; does = (each name (inl refl), tt) })

    -- ---- a scan

    scan_so : (k : Known) (s : Scanning) (i : Input) (a : Asked) → Took s i a → Goes (scans_on k q (record s { asked = a }) i)
    unfolding scans_on
    scan_so k s i a t =
        let d = transition s.scan i in
        let r = scanned k.owner d.state.opening.low a q d.outs in
        let f : Moves (known_follow k (record { scan = d.state; asked = r.state.asked }) r.state.ended) =
        ended_so k.owner d.state.opening.low a q None d.outs t.loses none_ended k (record { scan = d.state; asked = r.state.asked })
        (t.scans k.owner d.state.opening.low) in
        record { progress = f.progress; does = all_append E r.outs _ (t.says k.owner d.state.opening.low) f.does }

-- ---- the events

-- it took this input, or none
pub record Turn (P : Option Input → Scanning → Type 0) (E : Option Input → Effect → Type 0) (q : Questions) (w : Went) : Type 0 where
  pub by : Option Input
  pub goes : Goes (P by) (E by) q w

module _ (P : Option Input → Scanning → Type 0) (E : Option Input → Effect → Type 0) (q : Questions)
    (quiet : (x : Option Input) (to : NodeId) (b : Body) → NotFetch b → E x (Send to b))
    (acts : (x : Option Input) (name : SegName) → E x (Does (Filed name))) where
  abbrev Turned : Went → Type 0
  Turned w = Turn P E q w

  module _ (k : Known) (s : Scanning) (h : P None s) where
    abbrev its : Opening
    its = record { known = k; stage = stage.Scanning s }

    rests : (j : Known) → Turned (stays (known_scanning j s) q)
    rests j = record { by = None; goes = record { progress = h; does = tt } }

    module _ (packet : Packet) (takes : (i : Input) → CameBy k s packet i → (a : Asked) → AskedFrom s a
        → Took (P (Some i)) (E (Some i)) q s i a) where
      scans_by : (j : Known) (i : Input) → CameBy k s packet i → (a : Asked) → AskedFrom s a → Turned (scans_on j q (record s { asked = a }) i)
      scans_by j i came a from =
          record { by = Some i; goes = scan_so (P (Some i)) (E (Some i)) q (quiet (Some i)) (acts (Some i)) j s i a (takes i came a from) }

      took : (i : Input) → CameBy k s packet i → Turned (scans_on k q s i)
      took i came = scans_by k i came s.asked (inl refl)

      -- a Welcome
      with_so : (j : Known) (m : Welcome) (own : ℕ) (groups : Option GroupMapState)
          → ((g : GroupMapState) → groups ≡ Some g → CameBy k s packet (input.Welcome own m.news.slots g))
          → Turned (welcomed_with j q s m.news own groups)
      with_so j m own None came = rests j
      with_so j m own (Some groups) came =
          scans_by (record j { promised = promised_of m.news.slots }) (input.Welcome own m.news.slots groups) (came groups refl) nothing_asked (inr refl)

      some_group : (a b : GroupMapState) → Some a ≡ Some b → b ≡ a
      some_group a b e = cc

      welcomed_so : (m : Welcome) (own : ℕ) → packet.body ≡ body.Welcome m → is_meant k m ≡ true → own_of s.asked m.ask ≡ Some own
          → Turned (welcomed k q s m.news own)
      unfolding welcomed
      welcomed_so m own fact meant own_is =
          by_test (λ (maps : Maps). Turned (welcomed_with (record k { maps = maps }) q s m.news own maps.groups)) (is_older k.maps m.news)
          (record k.maps { version = m.news.version; groups = Some m.news.groups }) k.maps
          (λ t. with_so (record k { maps = record k.maps { version = m.news.version; groups = Some m.news.groups } }) m own (Some m.news.groups) (λ g e. (
            m,
            record { bears = fact; meant = meant; own_is = own_is; groups_are = inl (some_group m.news.groups g e) },
            refl,
          )))
          (λ t. with_so (record k { maps = k.maps }) m own k.maps.groups
          (λ g e. (m, record { bears = fact; meant = meant; own_is = own_is; groups_are = inr e }, refl)))

      as_so : (m : Welcome) → packet.body ≡ body.Welcome m → is_meant k m ≡ true → (own : Option ℕ) → own_of s.asked m.ask ≡ own
          → Turned (welcomed_as k q s m.news own)
      as_so m fact meant None e = rests k
      as_so m fact meant (Some own) e = welcomed_so m own fact meant e

      welcome_so : (m : Welcome) → packet.body ≡ body.Welcome m → Turned (on_welcome its q m)
      unfolding on_welcome
      welcome_so m fact =
          by_test Turned (is_meant k m) (welcomed_as k q s m.news (own_of s.asked m.ask)) (stays (known_scanning k s) q)
          (λ t. as_so m fact t (own_of s.asked m.ask) refl) (λ t. rests k)

      -- maps
      news_so : (news : News) → packet.body ≡ body.MapNews news → Turned (on_news its q news)
      unfolding on_news
      news_so news fact =
          by_test Turned (fits k.maps news && is_older k.maps news)
          (regrouped (record k { maps = maps_take k.maps news }) q news.groups (stage.Scanning s)) (drops its q)
          (λ t. scans_by (record k { maps = maps_take k.maps news }) (input.Maps news.groups) (news, fact, refl) s.asked (inl refl))
          (λ t. rests k)

      -- what servers tell
      fenced_so : (from : NodeId) (m : Fenced) → packet.body ≡ body.Fenced m → packet.from ≡ from → Turned (on_fenced its q from m)
      unfolding on_fenced
      fenced_so (Server v) m fact from =
          by_test Turned (is_fenced its m) (scans its q (input.Fenced v m.generation m.held)) (drops its q)
          (λ t. took (input.Fenced v m.generation m.held) (
            m,
            record {
              bears = fact;
              from = from;
              log = and_first (m.log.0 == k.owner.log.0) _ t;
              boot = and_first (m.pass.inc == k.owner.inc) (m.pass.att == 0)
                  (and_second (m.log.0 == k.owner.log.0) ((m.pass.inc == k.owner.inc) && (m.pass.att == 0)) t);
            },
            refl,
            refl,
          ))
          (λ t. rests k)
      fenced_so (Client v) m fact from = rests k
      fenced_so (Manager v) m fact from = rests k
      fenced_so Cleaner m fact from = rests k
      fenced_so Registry m fact from = rests k

      found_as : (m : Found) (v : ℕ) → packet.body ≡ body.Fragment m → (own : Option ℕ)
          → Turned (answers its q (λ own. input.Got own v m.generation m.fragment) own)
      found_as m v fact None = rests k
      found_as m v fact (Some own) = took (input.Got own v m.generation m.fragment) (m, fact, refl)

      found_so : (from : NodeId) (m : Found) → packet.body ≡ body.Fragment m → Turned (on_found its q from m)
      unfolding on_found
      found_so (Server v) m fact = found_as m v fact (own_of s.asked m.ask)
      found_so (Client v) m fact = rests k
      found_so (Manager v) m fact = rests k
      found_so Cleaner m fact = rests k
      found_so Registry m fact = rests k

      missing_as : (m : Missing) (v : ℕ) → packet.body ≡ body.Missing m → packet.from ≡ Server v → (own : Option ℕ) → own_of s.asked m.ask ≡ own
          → Turned (answers its q (λ own. input.Missing own v m.generation) own)
      missing_as m v fact from None e = rests k
      missing_as m v fact from (Some own) e =
          took (input.Missing own v m.generation) (m, record { bears = fact; from = from; own_is = e }, refl)

      missing_so : (from : NodeId) (m : Missing) → packet.body ≡ body.Missing m → packet.from ≡ from → Turned (on_missing its q from m)
      unfolding on_missing
      missing_so (Server v) m fact from = missing_as m v fact from (own_of s.asked m.ask) refl
      missing_so (Client v) m fact from = rests k
      missing_so (Manager v) m fact from = rests k
      missing_so Cleaner m fact from = rests k
      missing_so Registry m fact from = rests k

      stored_so : (m : Stored) → Turned (on_stored its q m)
      unfolding on_stored
      stored_so m = rests k

      body_so : (b : Body) → packet.body ≡ b → Turned (on_body its q packet.from b)
      unfolding on_body
      body_so (body.Welcome m) fact = welcome_so m fact
      body_so (body.MapNews m) fact = news_so m fact
      body_so (body.Fenced m) fact = fenced_so packet.from m fact refl
      body_so (body.Fragment m) fact = found_so packet.from m fact
      body_so (body.Missing m) fact = missing_so packet.from m fact refl
      body_so (body.Stored m) fact = stored_so m
      body_so _ fact = rests k

      pub packet_so : Turned (opening_take its q packet)
      unfolding opening_take
      packet_so =
          by_test Turned (names_known_groups k.maps packet.body) (on_body its q packet.from packet.body)
          (went (progress.Opening its) (draw q) (hello k.owner.inc (next_ask q) ∷ [])) (λ t. body_so packet.body refl)
          (λ t. record { by = None; goes = record { progress = h; does = (quiet None Registry _ tt, tt) } })

    -- time passes
    pub tick_so : Took (P (Some input.Tick)) (E (Some input.Tick)) q s input.Tick s.asked → Turned (on_tick its q)
    unfolding on_tick
    tick_so t = record {
      by = Some input.Tick;
      goes = scan_so (P (Some input.Tick)) (E (Some input.Tick)) q (quiet (Some input.Tick)) (acts (Some input.Tick)) k s input.Tick s.asked t;
    }

-- ---- one whose opening segment is in flight reads no more

module _ (k : Known) (s : Settling) (q : Questions) where
  abbrev NoScan : Scanning → Type 0
  NoScan x = ⊥

  abbrev Any : Effect → Type 0
  Any e = Unit {0}

  abbrev Settles : Went → Type 0
  Settles w = Goes NoScan Any q w

  abbrev then_one : Opening
  then_one = record { known = k; stage = stage.Settling s }

  settled_still : (j : Known) → Settles (stays (known_settling j s) q)
  settled_still j = record { progress = tt; does = tt }

  settled_writes : (j : Known) (i : LogIn) → Settles (asking q (known_write j s i))
  settled_writes j i =
      settled_on NoScan Any q (λ to b no_fetch. tt) (λ a. tt) (known_write j s i) (known_write_so NoScan Any q (λ to b no_fetch. tt) (λ a. tt) j s i)

  settled_news : (news : News) → Settles (on_news then_one q news)
  unfolding on_news
  settled_news news =
      by_test Settles (fits k.maps news && is_older k.maps news) (regrouped (record k { maps = maps_take k.maps news }) q news.groups (stage.Settling s))
      (drops then_one q) (λ t. settled_writes (record k { maps = maps_take k.maps news }) (log_in.Maps news.groups)) (λ t. settled_still k)

  settled_by : (server : Option ℕ) (f : ℕ → Went) → ((v : ℕ) → Settles (f v)) → Settles (by_server then_one q f server)
  settled_by None f each = settled_still k
  settled_by (Some v) f each = each v

  settled_body : (from : NodeId) (b : Body) → Settles (on_body then_one q from b)
  unfolding on_body on_welcome on_fenced on_found on_missing on_stored
  settled_body from (body.Welcome m) = settled_still k
  settled_body from (body.MapNews m) = settled_news m
  settled_body from (body.Fenced m) =
      settled_by (server_in from) (fenced_by then_one q m)
      (λ v. by_test Settles (is_fenced then_one m) (scans then_one q (input.Fenced v m.generation m.held)) (drops then_one q) (λ t. settled_still k)
      (λ t. settled_still k))
  settled_body from (body.Fragment m) = settled_by (server_in from) (found_by then_one q m) (λ v. settled_still k)
  settled_body from (body.Missing m) = settled_by (server_in from) (missing_by then_one q m) (λ v. settled_still k)
  settled_body from (body.Stored m) = settled_writes k (log_in.Acked m.name m.index m.generation)
  settled_body from _ = settled_still k

  pub settled_packet : (packet : Packet) → Settles (opening_take then_one q packet)
  unfolding opening_take
  settled_packet packet =
      by_test Settles (names_known_groups k.maps packet.body) (on_body then_one q packet.from packet.body)
      (went (progress.Opening then_one) (draw q) (hello k.owner.inc (next_ask q) ∷ [])) (λ t. settled_body packet.from packet.body)
      (λ t. record { progress = tt; does = (tt, tt) })

  pub settled_tick : Settles (on_tick then_one q)
  unfolding on_tick
  settled_tick = settled_writes k log_in.Tick
