-- An opening of a log files nothing until the log is open.
use Rattle.std.proofs.Common.{ℕ, List, [], ◌++◌, Option, Some, None}
use Rattle.client_log.specs.declared.input.In.{In as LogIn}
use Rattle.client_log.specs.declared.input.In.TheVariants as log_in
use Rattle.client_log.specs.Transition as log
use Rattle.group_map.specs.GroupMapState.{GroupMapState}
use Rattle.log_owner.specs.declared.known.Known.{Known}
use Rattle.log_owner.specs.declared.opened.Progress.{Progress}
use Rattle.log_owner.specs.declared.opened.Progress.TheVariants as progress
use Rattle.log_owner.specs.declared.opening.Opening.{Opening}
use Rattle.log_owner.specs.declared.opening.Scanning.{Scanning}
use Rattle.log_owner.specs.declared.opening.Settling.{Settling}
use Rattle.log_owner.specs.declared.opening.Stage.{Stage}
use Rattle.log_owner.specs.Opening.{Moved, Went, behind, known_follow, known_go_on, known_scanning, known_write, opening_take, on_tick, scanned, scans_on, settles_over, welcomed, welcomed_with, written}
use Rattle.log_scan.specs.declared.input.In.{In as ScanIn}
use Rattle.log_scan.specs.declared.input.In.TheVariants as input
use Rattle.log_scan.specs.Transition as scan
use Rattle.node_base.specs.declared.effects.Effect.{Effect}
use Rattle.node_base.specs.declared.questions.Questions.{Questions}
use Rattle.node_base.specs.Maps.{maps_take}
use Rattle.node_base.specs.Shape.{is_log}
use Rattle.node_moves.proofs.OpeningSays.{known_follow_so, log_says, scan_says}
use Rattle.node_moves.proofs.OpeningWalk as walks
use Rattle.node_moves.proofs.OpeningWalk.{Any, Walk}
use Rattle.wire_msg.specs.declared.packet.Packet.{Packet}
use Rattle.wire_msg.specs.declared.registry.News.{News}
use Rattle.xfs_base.proofs.Alls.{all_append}
use Rattle.xfs_base.proofs.Booleans.{by_test}
use Rattle.xfs_base.specs.Steps.{saying, still}
use Rattle.run_answers.proofs.file_law.Acts.{AllFileNone, FilesNone}

-- these effects file nothing, unless the log is open now
abbrev pub Says : Progress → List Effect → Type 0
Says (progress.Opening o) outs = AllFileNone outs
Says (progress.Opened o) outs = Unit {0}
Says (progress.Lost name) outs = AllFileNone outs

abbrev pub WentSo : Went → Type 0
WentSo w = Says w.progress w.effects

abbrev MovedSo : Moved → Type 0
MovedSo m = Says m.state m.outs

said_after : (outs : List Effect) → AllFileNone outs → (m : Moved) → MovedSo m → MovedSo (saying outs m)
said_after outs none m so = by m.state m.outs so
  where
    by : (p : Progress) (more : List Effect) → Says p more → Says p (outs ++ more)
    by (progress.Opening o) more h = all_append FilesNone outs more none h
    by (progress.Opened o) more h = tt
    by (progress.Lost name) more h = all_append FilesNone outs more none h

-- ---- its log

goes_on_so : (k : Known) (s : Settling) (settled : Option _) → MovedSo (known_go_on k s settled)
goes_on_so k s None = tt
goes_on_so k s (Some end) = tt

write_so : (k : Known) (s : Settling) (i : LogIn) → MovedSo (known_write k s i)
unfolding known_write
write_so k s i =
    let r : log.Done = log.transition s.log i in
    said_after (written r.outs).outs (log_says FilesNone (λ fragment member. tt) None r.outs) (known_go_on k (record s { log = r.state }) (written r.outs).state)
    (goes_on_so k (record s { log = r.state }) (written r.outs).state)

-- ---- its scan

settles_so : (k : Known) (s : Scanning) (chain : _) (groups : Option GroupMapState) → MovedSo (settles_over k s chain groups)
settles_so k s chain None = tt
settles_so k s chain (Some groups) =
    by_test MovedSo (is_log k.owner.log.0) (known_write k (behind k chain groups) (log_in.Parts [])) (still (known_scanning k s))
    (λ _. write_so k (behind k chain groups) (log_in.Parts [])) (λ _. tt)

scan_so : (k : Known) (q : Questions) (s : Scanning) (i : ScanIn) → WentSo (scans_on k q s i)
unfolding scans_on
scan_so k q s i =
    let d = scan.transition s.scan i in
    let low = d.state.opening.low in
    let r = scanned k.owner low s.asked q d.outs in
    let next : Scanning = record { scan = d.state; asked = r.state.asked } in
    said_after r.outs (scan_says FilesNone k.owner (λ ask. tt) (λ server. tt) (λ name ask server. tt) low _ d.outs) (known_follow k next r.state.ended)
    (known_follow_so MovedSo k low (λ other. tt) (λ other segments end. settles_so k other _ k.maps.groups) (λ name. (tt, tt)) s.asked q d.outs next)

-- ---- the events

with_so : (k : Known) (q : Questions) (s : Scanning) (news : News) (own : ℕ) (groups : Option GroupMapState) → WentSo (welcomed_with k q s news own groups)
with_so k q s news own None = tt
with_so k q s news own (Some groups) = scan_so _ q _ (input.Welcome own news.slots groups)

welcomed_so : (k : Known) (q : Questions) (s : Scanning) (news : News) (own : ℕ) → WentSo (welcomed k q s news own)
unfolding welcomed
welcomed_so k q s news own = with_so (record k { maps = maps_take k.maps news }) q s news own (maps_take k.maps news).groups

abbrev Holds : Known → Questions → Stage → Went → Type 0
Holds k q at w = WentSo w

walk : Walk Any Holds
walk = record {
  rests = λ o q. tt;
  asks = λ o q. (tt, tt);
  scan = λ k q s i comes. scan_so k q s i;
  log = λ k q s i heard. write_so k s i;
  welcome = λ from k q s m own said. welcomed_so k q s m.news own;
  newer = λ from k news q at w said fact. fact;
}

pub tick_so : (o : Opening) (q : Questions) → WentSo (on_tick o q)
tick_so o q = walks.tick_so Any Holds walk o q

pub packet_so : (o : Opening) (q : Questions) (p : Packet) → WentSo (opening_take o q p)
packet_so o q p = walks.packet_so Any Holds walk o q p tt
