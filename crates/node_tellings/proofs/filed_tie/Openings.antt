-- What each event makes of the opening of a log: it holds nothing beyond what was filed, and nor does the log that is open then, with its feed, since the
-- opening acts the chain that was read back and its opening segment to be filed.
use Rattle.std.proofs.Common.{⊎_elim, ◌≡◌, ℕ, ◌≤◌, ◌==◌, true, List, [], ◌∷◌, map, Option, Some, None, refl, sym, subst, nat_le, arith}
use Rattle.std.specs.Prelude.{length}
use Rattle.std.specs.List.{AllByRecursion}
use Rattle.std.proofs.lemmas.Bool.Decides.{nat_tests}
use Rattle.xfs_base.proofs.Booleans.{by_test, and_first}
use Rattle.xfs_base.specs.declared.node.NodeId.{NodeId}
use Rattle.xfs_base.specs.declared.segment.End.{End}
use Rattle.xfs_base.specs.Steps.{still, steps}
use Rattle.xfs_base.proofs.Alls.{all_append, all_map}
use Rattle.xfs_base.specs.Limits.{slot_count}
use Rattle.segment_format.specs.declared.segment.Segment.{Segment}
use Rattle.group_map.specs.GroupMapState.{GroupMapState}
use Rattle.client_log.specs.declared.input.In.{In as LogIn}
use Rattle.client_log.specs.declared.input.In.TheVariants as log_in
use Rattle.client_log.specs.declared.output.Out.{Out as LogOut}
use Rattle.client_log.specs.Transition as log_steps
use Rattle.log_owner.specs.declared.ended.Owner.{Owner}
use Rattle.log_owner.specs.declared.known.Known.{Known}
use Rattle.log_owner.specs.declared.opened.Progress.{Progress}
use Rattle.log_owner.specs.declared.opened.Progress.TheVariants as progress
use Rattle.log_owner.specs.declared.opening.Opening.{Opening}
use Rattle.log_owner.specs.declared.opening.Scanning.{Scanning}
use Rattle.log_owner.specs.declared.opening.Settling.{Settling}
use Rattle.log_owner.specs.declared.opening.Stage.{Stage}
use Rattle.log_owner.specs.Opened.{filed}
use Rattle.log_owner.specs.Opening.{Went, Moved, drops, known_scanning, known_settling, sent_send, scanned, send_one, written, known_go_on, logged, known_write, behind, start_log, settles_over, known_follow, stepped, scans_on, at_first, welcomed_with, welcomed, on_tick, opening_take, nothing_asked}
use Rattle.log_owner.specs.Promised.{promised_of}
use Rattle.log_owner.specs.Sending.{hello}
use Rattle.log_scan.specs.declared.input.In.{In}
use Rattle.log_scan.specs.declared.input.In.TheVariants as input
use Rattle.log_scan.specs.declared.output.Out.{Out}
use Rattle.log_scan.specs.declared.output.Out.TheVariants as out
use Rattle.log_scan.specs.Transition as scan
use Rattle.node_base.specs.Asking.{next_ask, asked_as, drawn_for}
use Rattle.node_base.specs.declared.effects.Effect.{Effect}
use Rattle.node_base.specs.declared.effects.Effect.TheVariants.{Lose}
use Rattle.node_base.specs.declared.maps.Maps.{Maps}
use Rattle.node_base.specs.declared.questions.Asked.{Asked}
use Rattle.node_base.specs.declared.questions.Questions.{Questions}
use Rattle.node_base.specs.Maps.{maps_take}
use Rattle.node_base.specs.Shape.{is_log, has_logs, is_news}
use Rattle.wire_msg.specs.declared.body.Body.{Body}
use Rattle.wire_msg.specs.declared.packet.Packet.{Packet}
use Rattle.wire_msg.specs.declared.registry.News.{News}
use Rattle.client_log.specs.LogState.{LogState}
use Rattle.log_flight.specs.Flights.{FlightState}
use Rattle.node_tellings.specs.filed_tie.OpeningReach.{AreOfLog, ScanReaches, SettlingReaches, StageReaches, OpeningReaches}
use Rattle.node_tellings.specs.filed_tie.Reach.{Reach, BodyTells}
use Rattle.node_tellings.proofs.filed_tie.Feeds.{opened_end}
use Rattle.node_tellings.proofs.filed_tie.Frames as frames
use Rattle.node_moves.proofs.OpeningSays.{log_says, scan_says, sends_end}
use Rattle.node_moves.proofs.OpeningWalk.{Comes, Walk, packet_so, tick_so}
use Rattle.node_moves.proofs.client_walk.LogTurns.{Rests, Lands, Turns, as_end, log_turns}
use Rattle.node_tellings.proofs.filed_tie.Scans.{ChainTells, NewsReach, InputTells, ScanKeeps, scan_keeps}

-- maps in a packet of the right shape are of some slots
some_slots : (news : News) → is_news news ≡ true → 1 ≤ length news.slots
some_slots news fact =
    let eight : (length news.slots == slot_count) ≡ true = and_first (length news.slots == slot_count) _ fact in
    grind (arith, nat_tests)

module _ (reach : Reach) (node : NodeId) (log : ℕ) where
  -- the log is open with nothing beyond what was filed
  pub record OpensReaching (end fed : ℕ) : Type 0 where
    pub end_reached : end ≤ reach log
    pub feed_reached : fed ≤ reach log

  abbrev pub ProgressReaches : Progress → Type 0
  ProgressReaches (progress.Opening o) = OpeningReaches reach log o
  ProgressReaches (progress.Opened r) = OpensReaching r.log.end.seq r.feed.end
  ProgressReaches (progress.Lost seg) = Unit {0}

  abbrev AllSay : List Effect → Type 0
  AllSay outs = frames.AllSay reach node outs

  abbrev Goes : Moved → Type 0
  Goes m = frames.Goes reach node ProgressReaches m

  -- an event of an opening, where it acts nothing to be filed that isn't reached
  abbrev pub WentSo : Went → Type 0
  WentSo w = frames.Goes reach node ProgressReaches (record { state = w.progress; outs = w.effects })

  opening_so : (o : Opening) (q : Questions) → OpeningReaches reach log o → WentSo (drops o q)
  opening_so o q h = frames.goes_still reach node ProgressReaches (progress.Opening o) h

  -- ---- the log of an opening

  module _ (k : Known) (own : k.owner.log.0 ≡ log) where
    known_scanning_so : (s : Scanning) → ScanReaches reach log s.scan → ProgressReaches (known_scanning k s)
    known_scanning_so s h = record { own = own; stage = h }

    known_settling_so : (s : Settling) → SettlingReaches reach log s → ProgressReaches (known_settling k s)
    known_settling_so s h = record { own = own; stage = h }

    filed_reached : (chain : List Segment) → AreOfLog log chain → frames.AllReached reach node (map filed chain)
        → AllByRecursion (λ s. s.name.seq ≤ reach log) chain
    filed_reached [] of_log acts = tt
    filed_reached (s ∷ chain) of_log acts = (subst (λ l. s.name.seq ≤ reach l) of_log.0 acts.0, filed_reached chain of_log.1 acts.1)

    filed_said : (chain : List Segment) → AllSay (map filed chain)
    filed_said chain = all_map (frames.Says reach node) filed (λ s. tt) chain

    -- the log is open: what was read back and its end are filed
    opened_so : (s : Settling) → SettlingReaches reach log s → Goes (known_go_on k s (Some s.log.end))
    opened_so s h acts =
        let last : s.log.end.seq ≤ reach log =
        subst (λ l. s.log.end.seq ≤ reach l) own (frames.all_behind (frames.Reached reach node) (map filed s.chain) _ acts).0 in
        let chain : AllByRecursion (λ x. x.name.seq ≤ reach log) s.chain =
        filed_reached s.chain h.chain (frames.all_before (frames.Reached reach node) (map filed s.chain) _ acts) in (
          record { end_reached = last; feed_reached = opened_end (reach log) s.low s.chain s.log.end h.low chain last },
          all_append (frames.Says reach node) (map filed s.chain) _ (filed_said s.chain) (tt, tt),
        )

    written_says : (outs : List LogOut) → AllSay (written outs).outs
    written_says outs = log_says (frames.Says reach node) (λ fragment member. tt) None outs

    landed_at : (was : Option FlightState) (r : log_steps.Done) → Lands was r → (written r.outs).state ≡ Some r.state.end
    unfolding send_one
    landed_at was r l =
        subst (λ outs. (written outs).state ≡ Some r.state.end) (sym (as_end was r l)) (sends_end (Some r.state.end) l.rest l.sends)

    logged_so : (s : Settling) (was : LogState) (r : log_steps.Done) → SettlingReaches reach log s → Turns was r → Goes (logged k s r)
    logged_so s was r h turns =
        let then_is : Settling = record s { log = r.state } in
        let g : SettlingReaches reach log then_is = record { low = h.low; chain = h.chain } in
        frames.goes_after reach node ProgressReaches (written r.outs).outs (known_go_on k then_is (written r.outs).state) (written_says r.outs)
        (⊎_elim
        (λ (rests : Rests was.end r). subst (λ o. Goes (known_go_on k then_is o)) (sym (sends_end None r.outs rests.sends))
        (frames.goes_still reach node ProgressReaches (known_settling k then_is) (known_settling_so then_is g)))
        (λ (lands : Lands was.flight r). subst (λ o. Goes (known_go_on k then_is o)) (sym (landed_at was.flight r lands)) (opened_so then_is g)) turns)

    known_write_so : (s : Settling) (i : LogIn) → SettlingReaches reach log s → Goes (known_write k s i)
    unfolding known_write
    known_write_so s i h = logged_so s s.log (log_steps.transition s.log i) h (log_turns s.log i)

    -- ---- the end of the scan

    starts_so : (s : Scanning) (segments : List Segment) (end : End) (low : ℕ) (groups : GroupMapState) → ScanReaches reach log s.scan → AreOfLog log segments
        → s.scan.opening.low ≡ low → Goes (start_log k s (record { segments = segments; end = end; low = low }) groups)
    starts_so s segments end low groups h of_log fact =
        by_test (λ (m : Moved). Goes m) (is_log k.owner.log.0)
        (known_write k (behind k (record { segments = segments; end = end; low = low }) groups) (log_in.Parts [])) (still (known_scanning k s))
        (λ t. known_write_so (behind k (record { segments = segments; end = end; low = low }) groups) (log_in.Parts [])
        (record { low = (let a = h.low (some t) in omega (arith, a, fact)); chain = of_log }))
        (λ t. frames.goes_still reach node ProgressReaches (known_scanning k s) (known_scanning_so s h))
      where
        some : is_log k.owner.log.0 ≡ true → 1 ≤ log
        some t = (let one : nat_le 1 k.owner.log.0 ≡ true = and_first (nat_le 1 k.owner.log.0) _ t in subst (λ l. 1 ≤ l) own (grind (arith, nat_tests)))

    settles_so : (s : Scanning) (segments : List Segment) (end : End) (low : ℕ) (groups : Option GroupMapState) → ScanReaches reach log s.scan
        → AreOfLog log segments
        → s.scan.opening.low ≡ low → Goes (settles_over k s (record { segments = segments; end = end; low = low }) groups)
    settles_so s segments end low None h of_log fact = frames.goes_still reach node ProgressReaches (known_scanning k s) (known_scanning_so s h)
    settles_so s segments end low (Some groups) h of_log fact = starts_so s segments end low groups h of_log fact

    module _ (low : ℕ) where
      -- whatever the scan tells, what is next behind it goes so
      scanned_ends : (a : Asked) (q : Questions) (e : _) (outs : List Out) → AllByRecursion (ChainTells log) outs
          → ((s : Scanning) → ScanReaches reach log s.scan → s.scan.opening.low ≡ low → Goes (known_follow k s e))
          → (s : Scanning) → ScanReaches reach log s.scan → s.scan.opening.low ≡ low
          → Goes (known_follow k s (steps (sent_send k.owner low) (record { asked = a; questions = q; ended = e }) outs).state.ended)
      unfolding known_follow sent_send
      scanned_ends a q e [] all ends = ends
      scanned_ends a q e (out.Hello own ∷ outs) all ends = scanned_ends (asked_as a q own) (drawn_for a q own) e outs all.1 ends
      scanned_ends a q e (out.Fence server ∷ outs) all ends = scanned_ends a q e outs all.1 ends
      scanned_ends a q e (out.Fetch server name own ∷ outs) all ends = scanned_ends (asked_as a q own) (drawn_for a q own) e outs all.1 ends
      scanned_ends a q e (out.Chain segments end prior ∷ outs) all ends =
          scanned_ends a q _ outs all.1 (λ s h fact. settles_so s segments end low k.maps.groups h all.0 fact)
      scanned_ends a q e (out.Lost name ∷ outs) all ends =
          scanned_ends a q _ outs all.1 (λ s h fact. frames.goes_plain reach node ProgressReaches (progress.Lost name) (Lose name ∷ []) tt (tt, tt))

      none_ends : (s : Scanning) → ScanReaches reach log s.scan → s.scan.opening.low ≡ low → Goes (known_follow k s None)
      unfolding known_follow
      none_ends s h fact = frames.goes_still reach node ProgressReaches (known_scanning k s) (known_scanning_so s h)

    stepped_so : (q : Questions) (s : Scanning) (r : scan.Done) → ScanKeeps reach log r → WentSo (stepped k q s r)
    stepped_so q s r kept =
        let low : ℕ = r.state.opening.low in
        let e = scanned k.owner low s.asked q r.outs in
        let next : Scanning = record { scan = r.state; asked = e.state.asked } in
        frames.goes_after reach node ProgressReaches e.outs (known_follow k next e.state.ended)
        (scan_says (frames.Says reach node) k.owner (λ ask. tt) (λ server. tt) (λ name ask server. tt) low
        (record { asked = s.asked; questions = q; ended = None }) r.outs)
        (scanned_ends low s.asked q None r.outs kept.outs (none_ends low) next kept.state refl)

    scans_so : (q : Questions) (s : Scanning) (i : In) → ScanReaches reach log s.scan → InputTells reach log i → WentSo (scans_on k q s i)
    unfolding scans_on
    scans_so q s i h tells = stepped_so q s (scan.transition s.scan i) (scan_keeps reach log s.scan i h tells)

  -- ---- the events

  -- one that just began
  pub first_so : (owner : Owner) (servers : ℕ) (q : Questions) → owner.log.0 ≡ log → OpeningReaches reach log (at_first owner servers q)
  first_so owner servers q own = record { own = own; stage = record { own = own; low = λ some. omega arith; chain = tt } }

  welcomed_with_so : (k : Known) (q : Questions) (s : Scanning) → k.owner.log.0 ≡ log → ScanReaches reach log s.scan → (maps : Maps) (news : News) (asked : ℕ)
      (groups : Option GroupMapState) → NewsReach reach log news.slots → WentSo (welcomed_with (record k { maps = maps }) q s news asked groups)
  welcomed_with_so k q s own h maps news asked None tells =
      frames.goes_still reach node ProgressReaches (known_scanning (record k { maps = maps }) s) (known_scanning_so (record k { maps = maps }) own s h)
  welcomed_with_so k q s own h maps news asked (Some groups) tells =
      scans_so (record k { maps = maps; promised = promised_of news.slots }) own q (record s { asked = nothing_asked })
      (input.Welcome asked news.slots groups) h tells

  welcomed_so : (k : Known) (q : Questions) (s : Scanning) (news : News) (asked : ℕ) → k.owner.log.0 ≡ log → ScanReaches reach log s.scan
      → NewsReach reach log news.slots → WentSo (welcomed k q s news asked)
  unfolding welcomed
  welcomed_so k q s news asked own h tells = (let maps : Maps = maps_take k.maps news in welcomed_with_so k q s own h maps news asked maps.groups tells)

  tells_nothing : (i : In) → Comes i → InputTells reach log i
  tells_nothing (input.Welcome own slots groups) comes = absurd comes
  tells_nothing _ comes = tt

  abbrev Said : NodeId → Body → Type 0
  Said from b = (has_logs b ≡ true) × BodyTells reach from b

  abbrev Holds : Known → Questions → Stage → Went → Type 0
  Holds k q at w = k.owner.log.0 ≡ log → StageReaches reach log at → WentSo w

  walk : Walk Said Holds
  walk = record {
    rests = λ o q own h. opening_so o q (record { own = own; stage = h });
    asks = λ o q own h.
        frames.goes_plain reach node ProgressReaches (progress.Opening o) (hello o.known.owner.inc (next_ask q) ∷ []) (record { own = own; stage = h }) (tt, tt);
    scan = λ k q s i comes own h. scans_so k own q s i h (tells_nothing i comes);
    log = λ k q s i heard own h. known_write_so k own s i h;
    welcome = λ from k q s m asked said own h. welcomed_so k q s m.news asked own h (some_slots m.news said.0, said.1);
    newer = λ from k news q at w said goes. goes;
  }

  pub packet_goes : (o : Opening) (q : Questions) (p : Packet) → OpeningReaches reach log o → has_logs p.body ≡ true → BodyTells reach p.from p.body
      → WentSo (opening_take o q p)
  packet_goes o q p h shape tells = packet_so Said Holds walk o q p (shape, tells) h.own h.stage

  pub tick_goes : (o : Opening) (q : Questions) → OpeningReaches reach log o → WentSo (on_tick o q)
  tick_goes o q h = tick_so Said Holds walk o q h.own h.stage
