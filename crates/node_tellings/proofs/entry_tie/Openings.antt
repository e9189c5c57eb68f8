-- What each event makes of the opening of a log: the log that is open then has a feed that keeps what is told, since the opening acts the chain that was read
-- back to be filed.
use Rattle.std.proofs.Common.{ℕ, List, [], ◌∷◌, map, Option, Some, None, sym, subst}
use Rattle.std.specs.List.{AllByRecursion}
use Rattle.client_log.specs.declared.input.In.{In as LogIn}
use Rattle.client_log.specs.declared.input.In.TheVariants as log_in
use Rattle.client_log.specs.declared.output.Out.{Out as LogOut}
use Rattle.client_log.specs.LogState.{LogState, log_start}
use Rattle.client_log.specs.Transition as log_steps
use Rattle.delta_feed.specs.FeedState.{FeedState}
use Rattle.group_map.specs.GroupMapState.{GroupMapState}
use Rattle.log_owner.specs.declared.known.Known.{Known}
use Rattle.log_owner.specs.declared.opened.Progress.{Progress}
use Rattle.log_owner.specs.declared.opened.Progress.TheVariants as progress
use Rattle.log_owner.specs.declared.opening.Opening.{Opening}
use Rattle.log_owner.specs.declared.opening.Scanning.{Scanning}
use Rattle.log_owner.specs.declared.opening.Settling.{Settling}
use Rattle.log_owner.specs.declared.opening.Stage.{Stage}
use Rattle.log_owner.specs.declared.opening.Stage.TheVariants as stage
use Rattle.log_owner.specs.Opened.{filed}
use Rattle.log_owner.specs.Opening.{Went, Moved, known_scanning, known_settling, scanned, written, known_go_on, logged, known_write, behind, settles_over, known_follow, stepped, scans_on, welcomed_with, welcomed, on_tick, opening_take, nothing_asked}
use Rattle.log_owner.specs.Promised.{promised_of}
use Rattle.log_owner.specs.Sending.{hello}
use Rattle.log_scan.specs.declared.input.In.{In}
use Rattle.log_scan.specs.declared.input.In.TheVariants as input
use Rattle.log_scan.specs.Transition as scan
use Rattle.node_base.specs.Asking.{next_ask}
use Rattle.node_base.specs.declared.effects.Effect.{Effect}
use Rattle.node_base.specs.declared.effects.Effect.TheVariants.{Lose}
use Rattle.node_base.specs.declared.maps.Maps.{Maps}
use Rattle.node_base.specs.declared.questions.Questions.{Questions}
use Rattle.node_base.specs.Maps.{maps_take}
use Rattle.node_base.specs.Shape.{is_log}
use Rattle.segment_format.specs.declared.segment.Segment.{Segment}
use Rattle.segment_format.specs.Rows.{rows_of}
use Rattle.version_model.specs.declared.act.Act.{Act}
use Rattle.wire_msg.specs.declared.packet.Packet.{Packet}
use Rattle.wire_msg.specs.declared.registry.News.{News}
use Rattle.xfs_base.proofs.Booleans.{by_test}
use Rattle.xfs_base.specs.declared.segment.End.{End}
use Rattle.xfs_base.specs.declared.segment.LogId.{LogId}
use Rattle.xfs_base.specs.Steps.{still}
use Rattle.xfs_base.proofs.Alls.{all_append, all_map}
use Rattle.node_tellings.proofs.filed_tie.Frames.{all_before}
use Rattle.node_tellings.specs.entry_tie.ClientTells.{FeedTold, SegmentOwed, StageOwed}
use Rattle.node_tellings.specs.entry_tie.Told.{Told, RowsTold}
use Rattle.node_tellings.proofs.entry_tie.Feeds.{opened_told}
use Rattle.node_tellings.proofs.entry_tie.Frames as frames
use Rattle.node_moves.proofs.LogWalk.{IsHeard}
use Rattle.node_moves.proofs.OpeningSays.{known_follow_so, log_says, scan_says, sends_end}
use Rattle.node_moves.proofs.OpeningWalk.{Any, Walk, packet_so, tick_so}
use Rattle.node_moves.proofs.client_walk.LogTurns.{Rests, parts_rest}

-- what an opening leaves of the log that it opens, whatever that is
pub record KeepsLog (Keeps : LogState → Type 0) : Type 0 where
  pub first : (log : LogId) (inc : ℕ) (end : End) (groups : GroupMapState) → Keeps (log_start log inc end groups)
  pub begins : (s : LogState) → Keeps s → Keeps (log_steps.on_parts s []).state
  pub hears : (s : LogState) (i : LogIn) → IsHeard i → Keeps s → Keeps (log_steps.transition s i).state

module _ (told : Told) (done : List Act) (Keeps : LogState → Type 0) (laws : KeepsLog Keeps) where
  abbrev pub StageKeeps : Stage → Type 0
  StageKeeps (stage.Scanning s) = Unit {0}
  StageKeeps (stage.Settling s) = Keeps s.log

  -- the log is open, and its feed keeps what is told
  pub record OpensTold (feed : FeedState) (log : LogState) : Type 0 where
    pub keeps : Keeps log
    pub fed : FeedTold told feed

  abbrev pub ProgressHolds : Progress → Type 0
  ProgressHolds (progress.Opening o) = StageKeeps o.stage
  ProgressHolds (progress.Opened r) = OpensTold r.feed r.log
  ProgressHolds (progress.Lost seg) = Unit {0}

  abbrev AllSay : List Effect → Type 0
  AllSay outs = frames.AllSay told done outs

  abbrev Goes : Moved → Type 0
  Goes m = frames.Goes told done ProgressHolds m

  abbrev pub WentSo : Went → Type 0
  WentSo w = frames.Goes told done ProgressHolds (record { state = w.progress; outs = w.effects })

  -- ---- the log of an opening

  module _ (k : Known) where
    scans_still : (s : Scanning) → Goes (still (known_scanning k s))
    scans_still s = frames.goes_still told done ProgressHolds (known_scanning k s) tt

    logs_still : (s : Settling) → Keeps s.log → Goes (still (known_settling k s))
    logs_still s c = frames.goes_still told done ProgressHolds (known_settling k s) c

    -- what was read back is acted to be filed
    filed_told : (chain : List Segment) → AllByRecursion (SegmentOwed told done) chain → frames.AllActed told done (map filed chain)
        → AllByRecursion (λ s. RowsTold told (rows_of s)) chain
    filed_told [] owed acts = tt
    filed_told (s ∷ chain) owed acts = (owed.0 acts.0, filed_told chain owed.1 acts.1)

    opened_so : (s : Settling) (end : End) → AllByRecursion (SegmentOwed told done) s.chain → Keeps s.log → Goes (known_go_on k s (Some end))
    opened_so s end owed c acts = (
      record { keeps = c; fed = opened_told told s.low s.chain end (filed_told s.chain owed (all_before (frames.Acted told done) (map filed s.chain) _ acts)) },
      all_append (frames.Says told done) (map filed s.chain) _ (all_map (frames.Says told done) filed (λ x. tt) s.chain) (tt, tt),
    )

    known_go_on_so : (s : Settling) (end : Option End) → AllByRecursion (SegmentOwed told done) s.chain → Keeps s.log → Goes (known_go_on k s end)
    known_go_on_so s None owed c = logs_still s c
    known_go_on_so s (Some end) owed c = opened_so s end owed c

    written_says : (outs : List LogOut) → AllSay (written outs).outs
    written_says outs = log_says (frames.Says told done) (λ fragment member. tt) None outs

    logged_so : (s : Settling) (r : log_steps.Done) → AllByRecursion (SegmentOwed told done) s.chain → Keeps r.state → Goes (logged k s r)
    logged_so s r owed c =
        let t : Settling = record s { log = r.state } in
        frames.goes_after told done ProgressHolds (written r.outs).outs (known_go_on k t (written r.outs).state) (written_says r.outs)
        (known_go_on_so t (written r.outs).state owed c)

    rests_so : (s : Settling) (r : log_steps.Done) → Rests s.log.end r → Keeps r.state → Goes (logged k s r)
    rests_so s r rests c =
        let t : Settling = record s { log = r.state } in
        frames.goes_after told done ProgressHolds (written r.outs).outs (known_go_on k t (written r.outs).state) (written_says r.outs)
        (subst (λ o. Goes (known_go_on k t o)) (sym (sends_end None r.outs rests.sends)) (logs_still t c))

    known_write_so : (s : Settling) (i : LogIn) → AllByRecursion (SegmentOwed told done) s.chain → Keeps (log_steps.transition s.log i).state → Goes (known_write k s i)
    unfolding known_write
    known_write_so s i owed c = logged_so s (log_steps.transition s.log i) owed c

    -- ---- the end of the scan: the opening segment is only begun

    begins_so : (s : Settling) → Keeps s.log → Goes (known_write k s (log_in.Parts []))
    unfolding known_write
    begins_so s c = rests_so s (log_steps.transition s.log (log_in.Parts [])) (parts_rest s.log []) (laws.begins s.log c)

    settles_so : (s : Scanning) (segments : List Segment) (end : End) (low : ℕ) (groups : Option GroupMapState)
        → Goes (settles_over k s (record { segments = segments; end = end; low = low }) groups)
    settles_so s segments end low None = scans_still s
    settles_so s segments end low (Some groups) =
        by_test (λ (m : Moved). Goes m) (is_log k.owner.log.0)
        (known_write k (behind k (record { segments = segments; end = end; low = low }) groups) (log_in.Parts [])) (still (known_scanning k s))
        (λ t. begins_so (behind k (record { segments = segments; end = end; low = low }) groups) (laws.first k.owner.log k.owner.inc end groups))
        (λ t. scans_still s)

    stepped_so : (q : Questions) (s : Scanning) (r : scan.Done) → WentSo (stepped k q s r)
    stepped_so q s r =
        let low : ℕ = r.state.opening.low in
        let e = scanned k.owner low s.asked q r.outs in
        let next : Scanning = record { scan = r.state; asked = e.state.asked } in
        frames.goes_after told done ProgressHolds e.outs (known_follow k next e.state.ended)
        (scan_says (frames.Says told done) k.owner (λ ask. tt) (λ server. tt) (λ name ask server. tt) low
        (record { asked = s.asked; questions = q; ended = None }) r.outs)
        (known_follow_so Goes k low scans_still (λ t segments end. settles_so t segments end low k.maps.groups)
        (λ name. frames.goes_plain told done ProgressHolds (progress.Lost name) (Lose name ∷ []) tt (tt, tt)) s.asked q r.outs next)

    scans_so : (q : Questions) (s : Scanning) (i : In) → WentSo (scans_on k q s i)
    unfolding scans_on
    scans_so q s i = stepped_so q s (scan.transition s.scan i)

  -- ---- a Welcome

  welcomed_with_so : (k : Known) (q : Questions) (s : Scanning) (maps : Maps) (news : News) (asked : ℕ) (groups : Option GroupMapState)
      → WentSo (welcomed_with (record k { maps = maps }) q s news asked groups)
  welcomed_with_so k q s maps news asked None = scans_still (record k { maps = maps }) s
  welcomed_with_so k q s maps news asked (Some groups) =
      scans_so (record k { maps = maps; promised = promised_of news.slots }) q (record s { asked = nothing_asked }) (input.Welcome asked news.slots groups)

  welcomed_so : (k : Known) (q : Questions) (s : Scanning) (news : News) (asked : ℕ) → WentSo (welcomed k q s news asked)
  unfolding welcomed
  welcomed_so k q s news asked = (let maps : Maps = maps_take k.maps news in welcomed_with_so k q s maps news asked maps.groups)

  -- ---- the events

  abbrev Holds : Known → Questions → Stage → Went → Type 0
  Holds k q at w = StageOwed told done at → StageKeeps at → WentSo w

  walk : Walk Any Holds
  walk = record {
    rests = λ o q owed c. frames.goes_still told done ProgressHolds (progress.Opening o) c;
    asks = λ o q owed c. frames.goes_plain told done ProgressHolds (progress.Opening o) (hello o.known.owner.inc (next_ask q) ∷ []) c (tt, tt);
    scan = λ k q s i comes owed c. scans_so k q s i;
    log = λ k q s i heard owed c. known_write_so k s i owed (laws.hears s.log i heard c);
    welcome = λ from k q s m own said owed c. welcomed_so k q s m.news own;
    newer = λ from k news q at w said goes. goes;
  }

  pub packet_goes : (o : Opening) (q : Questions) (p : Packet) → StageOwed told done o.stage → StageKeeps o.stage → WentSo (opening_take o q p)
  packet_goes o q p = packet_so Any Holds walk o q p tt

  pub tick_goes : (o : Opening) (q : Questions) → StageOwed told done o.stage → StageKeeps o.stage → WentSo (on_tick o q)
  tick_goes o q = tick_so Any Holds walk o q
