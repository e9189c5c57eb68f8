-- Of the maps that the opening of a log knows the same is known, whatever is told to it, as long as it is so of the maps that are said to it.
use Rattle.std.proofs.Common.{ℕ, List, [], Option, Some, None}
use Rattle.client_log.specs.declared.input.In.{In as LogIn}
use Rattle.client_log.specs.declared.input.In.TheVariants as log_in
use Rattle.client_log.specs.Transition as log_steps
use Rattle.group_map.specs.GroupMapState.{GroupMapState}
use Rattle.log_owner.specs.declared.known.Known.{Known}
use Rattle.log_owner.specs.declared.opened.Progress.{Progress}
use Rattle.log_owner.specs.declared.opened.Progress.TheVariants as progress
use Rattle.log_owner.specs.declared.opening.Opening.{Opening}
use Rattle.log_owner.specs.declared.opening.Scanning.{Scanning}
use Rattle.log_owner.specs.declared.opening.Settling.{Settling}
use Rattle.log_owner.specs.declared.opening.Stage.{Stage}
use Rattle.log_owner.specs.Opening.{Went, Moved, known_scanning, behind, known_write, known_go_on, settles_over, scanned, scans_on, welcomed_with, welcomed, on_tick, opening_take, written, nothing_asked}
use Rattle.log_owner.specs.Promised.{promised_of}
use Rattle.log_scan.specs.declared.input.In.{In}
use Rattle.log_scan.specs.declared.input.In.TheVariants as input
use Rattle.log_scan.specs.Transition as scan
use Rattle.node_base.specs.declared.maps.Maps.{Maps}
use Rattle.node_base.specs.declared.questions.Questions.{Questions}
use Rattle.node_base.specs.Maps.{maps_take}
use Rattle.node_base.specs.Shape.{is_log}
use Rattle.segment_format.specs.declared.segment.Segment.{Segment}
use Rattle.wire_msg.specs.declared.body.Body.{Body}
use Rattle.wire_msg.specs.declared.body.Body.TheVariants as body
use Rattle.wire_msg.specs.declared.packet.Packet.{Packet}
use Rattle.wire_msg.specs.declared.registry.News.{News}
use Rattle.wire_msg.specs.declared.registry.Welcome.{Welcome}
use Rattle.xfs_base.proofs.Booleans.{by_test}
use Rattle.xfs_base.specs.declared.node.NodeId.{NodeId}
use Rattle.xfs_base.specs.declared.segment.End.{End}
use Rattle.xfs_base.specs.Steps.{still}
use Rattle.node_moves.proofs.OpeningSays.{known_follow_so}
use Rattle.node_moves.proofs.OpeningWalk as walked
use Rattle.node_moves.proofs.OpeningWalk.{Walk}

pub record MapLaw : Type 1 where
  -- what is known of the maps of a node, if it has some, of the maps that are said, and of a body that comes from a node
  pub Knows : Option GroupMapState → Type 0
  pub Said : GroupMapState → Type 0
  pub Says : NodeId → Body → Type 0
  pub takes : (maps : Maps) (news : News) → Knows maps.groups → Said news.groups → Knows (maps_take maps news).groups
  pub welcomes : (from : NodeId) (m : Welcome) → Says from (body.Welcome m) → Said m.news.groups
  pub brings : (from : NodeId) (m : News) → Says from (body.MapNews m) → Said m.groups

module _ (w : MapLaw) where
  abbrev pub ProgressSo : Progress → Type 0
  ProgressSo (progress.Opening o) = w.Knows o.known.maps.groups
  ProgressSo (progress.Opened r) = w.Knows r.maps.groups
  ProgressSo (progress.Lost seg) = Unit {0}

  abbrev Goes : Moved → Type 0
  Goes m = ProgressSo m.state

  abbrev WentSo : Went → Type 0
  WentSo x = ProgressSo x.progress

  -- ---- where the maps are as they were

  module _ (k : Known) (h : w.Knows k.maps.groups) where
    known_go_on_so : (s : Settling) (end : Option End) → Goes (known_go_on k s end)
    known_go_on_so s None = h
    known_go_on_so s (Some end) = h

    known_write_so : (s : Settling) (i : LogIn) → Goes (known_write k s i)
    unfolding known_write
    known_write_so s i =
        let r : log_steps.Done = log_steps.transition s.log i in
        known_go_on_so (record s { log = r.state }) (written r.outs).state

    settles_so : (s : Scanning) (segments : List Segment) (end : End) (low : ℕ) (groups : Option GroupMapState)
        → Goes (settles_over k s (record { segments = segments; end = end; low = low }) groups)
    settles_so s segments end low None = h
    settles_so s segments end low (Some groups) =
        by_test Goes (is_log k.owner.log.0) (known_write k (behind k (record { segments = segments; end = end; low = low }) groups) (log_in.Parts []))
        (still (known_scanning k s)) (λ _. known_write_so (behind k (record { segments = segments; end = end; low = low }) groups) (log_in.Parts [])) (λ _. h)

    scans_so : (q : Questions) (s : Scanning) (i : In) → WentSo (scans_on k q s i)
    unfolding scans_on
    scans_so q s i =
        let r : scan.Done = scan.transition s.scan i in
        let low : ℕ = r.state.opening.low in
        let e = scanned k.owner low s.asked q r.outs in
        known_follow_so Goes k low (λ _. h) (λ next segments end. settles_so next segments end low k.maps.groups) (λ name. tt) s.asked q r.outs
        (record { scan = r.state; asked = e.state.asked })

  -- ---- a Welcome

  with_groups : (k : Known) (q : Questions) (s : Scanning) (maps : Maps) (news : News) (own : ℕ) (groups : Option GroupMapState) → w.Knows maps.groups
      → WentSo (welcomed_with (record k { maps = maps }) q s news own groups)
  with_groups k q s maps news own None fact = fact
  with_groups k q s maps news own (Some groups) fact =
      scans_so (record k { maps = maps; promised = promised_of news.slots }) fact q (record s { asked = nothing_asked }) (input.Welcome own news.slots groups)

  welcomed_so : (k : Known) (q : Questions) (s : Scanning) (news : News) (own : ℕ) → w.Said news.groups → w.Knows k.maps.groups
      → WentSo (welcomed k q s news own)
  unfolding welcomed
  welcomed_so k q s news own fact h = with_groups k q s (maps_take k.maps news) news own (maps_take k.maps news).groups (w.takes k.maps news h fact)

  -- ---- the events

  abbrev Holds : Known → Questions → Stage → Went → Type 0
  Holds k q at x = w.Knows k.maps.groups → WentSo x

  walk : Walk w.Says Holds
  walk = record {
    rests = λ o q h. h;
    asks = λ o q h. h;
    scan = λ k q s i comes h. scans_so k h q s i;
    log = λ k q s i heard h. known_write_so k h s i;
    welcome = λ from k q s m own fact h. welcomed_so k q s m.news own (w.welcomes from m fact) h;
    newer = λ from k news q at x fact goes h. goes (w.takes k.maps news h (w.brings from news fact));
  }

  pub packet_so : (o : Opening) (q : Questions) (p : Packet) → w.Says p.from p.body → w.Knows o.known.maps.groups
      → ProgressSo (opening_take o q p).progress
  packet_so o q p fact h = walked.packet_so w.Says Holds walk o q p fact h

  pub time_so : (o : Opening) (q : Questions) → w.Knows o.known.maps.groups → ProgressSo (on_tick o q).progress
  time_so o q h = walked.tick_so w.Says Holds walk o q h
