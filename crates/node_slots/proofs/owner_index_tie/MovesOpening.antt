-- The log of an opening of the cleaner has nothing in flight that says anything, so all of it was answered Live.
use Rattle.std.proofs.Common.{ℕ, List, [], Option, Some, None, sym}
use Rattle.client_log.specs.declared.input.In.{In as LogIn}
use Rattle.client_log.specs.declared.input.In.TheVariants as log_in
use Rattle.client_log.specs.Transition as log_steps
use Rattle.group_map.specs.GroupMapState.{GroupMapState}
use Rattle.index_tie.specs.Net.{Packet}
use Rattle.log_owner.specs.declared.known.Known.{Known}
use Rattle.log_owner.specs.declared.opened.Progress.{Progress}
use Rattle.log_owner.specs.declared.opened.Progress.TheVariants as progress
use Rattle.log_owner.specs.declared.opening.Opening.{Opening}
use Rattle.log_owner.specs.declared.opening.Scanning.{Scanning}
use Rattle.log_owner.specs.declared.opening.Settling.{Settling}
use Rattle.log_owner.specs.declared.opening.Stage.{Stage}
use Rattle.log_owner.specs.Opening.{Went, Moved, known_scanning, scanned, written, known_go_on, known_write, behind, start_log, settles_over, scans_on, welcomed_with, welcomed, on_tick, opening_take, nothing_asked}
use Rattle.log_owner.specs.Promised.{promised_of}
use Rattle.log_scan.specs.declared.input.In.{In}
use Rattle.log_scan.specs.declared.input.In.TheVariants as input
use Rattle.log_scan.specs.Transition as scan
use Rattle.node_base.specs.declared.maps.Maps.{Maps}
use Rattle.node_base.specs.declared.questions.Questions.{Questions}
use Rattle.node_base.specs.Maps.{maps_take}
use Rattle.node_base.specs.Shape.{is_log}
use Rattle.node_slots.proofs.node_index_tie.Moves.{some_none}
use Rattle.segment_format.specs.declared.segment.Segment.{Segment}
use Rattle.wire_msg.specs.declared.packet.Packet as packets
use Rattle.wire_msg.specs.declared.registry.News.{News}
use Rattle.xfs_base.proofs.Booleans.{by_test}
use Rattle.xfs_base.specs.declared.segment.End.{End}
use Rattle.xfs_base.specs.Steps.{still}
use Rattle.node_slots.specs.owner_index_tie.CleanerMoves.{LogMoves, StageMoves}
use Rattle.node_slots.proofs.owner_index_tie.MovesLog.{InputMoves, log_moves, walk}
use Rattle.node_moves.proofs.LogWalk as log_walk
use Rattle.node_moves.proofs.OpeningSays.{known_follow_so}
use Rattle.node_moves.proofs.OpeningWalk.{Any, Walk, packet_so, tick_so}

module _ (part : ℕ) (sent : List Packet) where
  -- the log of what comes of an opening
  abbrev pub ProgressMoves : Progress → Type 0
  ProgressMoves (progress.Opening o) = StageMoves part sent o.stage
  ProgressMoves (progress.Opened r) = LogMoves part sent r.log
  ProgressMoves (progress.Lost seg) = Unit {0}

  abbrev Goes : Moved → Type 0
  Goes m = ProgressMoves m.state

  abbrev So : Went → Type 0
  So w = ProgressMoves w.progress

  -- ---- the log

  known_go_on_so : (k : Known) (s : Settling) (end : Option End) → LogMoves part sent s.log → Goes (known_go_on k s end)
  known_go_on_so k s None h = h
  known_go_on_so k s (Some end) h = h

  known_write_so : (k : Known) (s : Settling) (i : LogIn) → LogMoves part sent s.log → InputMoves part sent i → Goes (known_write k s i)
  unfolding known_write
  known_write_so k s i h new =
      let r = log_steps.transition s.log i in
      known_go_on_so k (record s { log = r.state }) (written r.outs).state (log_moves part sent s.log i h new)

  -- ---- the scan

  starts_so : (k : Known) (s : Scanning) (segments : List Segment) (end : End) (low : ℕ) (groups : GroupMapState)
      → Goes (start_log k s (record { segments = segments; end = end; low = low }) groups)
  starts_so k s segments end low groups =
      let t : Settling = behind k (record { segments = segments; end = end; low = low }) groups in
      by_test Goes (is_log k.owner.log.0) (known_write k t (log_in.Parts [])) (still (known_scanning k s))
      (λ _. known_write_so k t (log_in.Parts []) (record { dirty = tt; flight = λ f fact. absurd (some_none f (sym fact)) }) tt) (λ _. tt)

  settles_so : (k : Known) (s : Scanning) (segments : List Segment) (end : End) (low : ℕ) (groups : Option GroupMapState)
      → Goes (settles_over k s (record { segments = segments; end = end; low = low }) groups)
  settles_so k s segments end low None = tt
  settles_so k s segments end low (Some groups) = starts_so k s segments end low groups

  scans_so : (k : Known) (q : Questions) (s : Scanning) (i : In) → So (scans_on k q s i)
  unfolding scans_on
  scans_so k q s i =
      let r = scan.transition s.scan i in
      let low : ℕ = r.state.opening.low in
      let e = scanned k.owner low s.asked q r.outs in
      known_follow_so Goes k low (λ _. tt) (λ next segments end. settles_so k next segments end low k.maps.groups) (λ name. tt) s.asked q r.outs
      (record { scan = r.state; asked = e.state.asked })

  -- ---- the events

  welcomed_with_so : (k : Known) (q : Questions) (s : Scanning) (maps : Maps) (news : News) (asked : ℕ) (groups : Option GroupMapState)
      → So (welcomed_with (record k { maps = maps }) q s news asked groups)
  welcomed_with_so k q s maps news asked None = tt
  welcomed_with_so k q s maps news asked (Some groups) =
      scans_so (record k { maps = maps; promised = promised_of news.slots }) q (record s { asked = nothing_asked }) (input.Welcome asked news.slots groups)

  welcomed_so : (k : Known) (q : Questions) (s : Scanning) (news : News) (asked : ℕ) → So (welcomed k q s news asked)
  unfolding welcomed
  welcomed_so k q s news asked = (let maps : Maps = maps_take k.maps news in welcomed_with_so k q s maps news asked maps.groups)

  abbrev Holds : Known → Questions → Stage → Went → Type 0
  Holds k q at w = StageMoves part sent at → So w

  walked : Walk Any Holds
  walked = record {
    rests = λ o q h. h;
    asks = λ o q h. h;
    scan = λ k q s i comes h. scans_so k q s i;
    log = λ k q s i heard h. known_write_so k s i h (log_walk.heard (walk part sent) i heard);
    welcome = λ from k q s m asked said h. welcomed_so k q s m.news asked;
    newer = λ from k news q at w said goes. goes;
  }

  pub packet_moves : (o : Opening) (q : Questions) (p : packets.Packet) → StageMoves part sent o.stage → So (opening_take o q p)
  packet_moves o q p = packet_so Any Holds walked o q p tt

  pub time_moves : (o : Opening) (q : Questions) → StageMoves part sent o.stage → So (on_tick o q)
  time_moves o q = tick_so Any Holds walked o q
