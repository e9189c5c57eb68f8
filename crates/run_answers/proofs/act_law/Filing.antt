-- Where the opening of a log ends, it has acted that its first segment is filed: it is of the incarnation that opens the log.
use Rattle.std.proofs.Common.{◌≡◌, ℕ, List, [], ◌∷◌, ◌++◌, map, Option, Some, None, inl, refl}
use Rattle.std.specs.List.{AllByRecursion}
use Rattle.std.specs.Prelude.{IfSome}
use Rattle.client_log.specs.declared.input.In.{In as LogIn}
use Rattle.client_log.specs.declared.input.In.TheVariants as log_in
use Rattle.client_log.specs.declared.output.Out.{Out as LogOut}
use Rattle.client_log.specs.declared.output.Out.TheVariants as log_out
use Rattle.client_log.specs.Transition as log
use Rattle.group_map.specs.GroupMapState.{GroupMapState}
use Rattle.log_owner.specs.declared.ended.Owner.{Owner}
use Rattle.log_owner.specs.declared.known.Known.{Known}
use Rattle.log_owner.specs.declared.opened.Progress.{Progress}
use Rattle.log_owner.specs.declared.opened.Progress.TheVariants as progress
use Rattle.log_owner.specs.declared.opening.Opening.{Opening}
use Rattle.log_owner.specs.declared.opening.Scanning.{Scanning}
use Rattle.log_owner.specs.declared.opening.Settling.{Settling}
use Rattle.log_owner.specs.declared.opening.Stage.{Stage}
use Rattle.log_owner.specs.declared.opening.Stage.TheVariants as stage
use Rattle.log_owner.specs.Opening.{Moved, Went, known_scanning, behind, known_follow, logged, opening_take, on_tick, known_go_on, sent_send, scanned, scans_on, settles_over, welcomed, welcomed_with, known_write, written, send_one}
use Rattle.log_owner.specs.Opened.{filed}
use Rattle.log_owner.specs.Sending.{name_of}
use Rattle.log_scan.specs.declared.input.In.{In as ScanIn}
use Rattle.log_scan.specs.declared.input.In.TheVariants as input
use Rattle.log_scan.specs.declared.output.Out.{Out}
use Rattle.log_scan.specs.declared.output.Out.TheVariants as out
use Rattle.log_scan.specs.Transition as scan
use Rattle.node_base.specs.Asking.{asked_as, drawn_for}
use Rattle.node_base.specs.declared.effects.Effect.{Effect}
use Rattle.node_base.specs.declared.effects.Effect.TheVariants.{Does}
use Rattle.node_base.specs.declared.questions.Asked.{Asked}
use Rattle.node_base.specs.declared.questions.Questions.{Questions}
use Rattle.node_base.specs.Maps.{maps_take}
use Rattle.node_base.specs.Shape.{is_log}
use Rattle.token_protocol.specs.Basics.{In}
use Rattle.version_model.specs.declared.act.Act.TheVariants as act
use Rattle.wire_msg.specs.declared.packet.Packet.{Packet}
use Rattle.wire_msg.specs.declared.registry.News.{News}
use Rattle.xfs_base.proofs.Booleans.{by_test}
use Rattle.xfs_base.specs.declared.segment.End.{End}
use Rattle.xfs_base.specs.Steps.{saying, steps, still}
use Rattle.node_moves.proofs.OpeningWalk as walks
use Rattle.node_moves.proofs.OpeningWalk.{Any, IsOpening, Walk, heard_opens}
use Rattle.run_answers.proofs.act_law.Incarnations.{EndsIn, IsOwn, Keeps, takes_keep}
use Rattle.run_answers.proofs.act_law.Telling.{effect_behind}

-- ---- it acts what is filed

-- what the log writes is of this incarnation
abbrev pub StageOwn : ℕ → Stage → Type 0
StageOwn inc (stage.Scanning s) = Unit {0}
StageOwn inc (stage.Settling s) = IsOwn inc s.log

-- where it ends, a segment of this log, and of this incarnation, is among what is acted to be filed
abbrev pub SaysFiled : Owner → Progress → List Effect → Type 0
SaysFiled owner (progress.Opening o) outs = StageOwn owner.inc o.stage
SaysFiled owner (progress.Opened o) outs = (end : End) × ((end.pass.inc ≡ owner.inc) × In (Does (act.Filed (name_of owner.log end))) outs)
SaysFiled owner (progress.Lost name) outs = Unit {0}

abbrev pub WentSo : Owner → Went → Type 0
WentSo owner w = SaysFiled owner w.progress w.effects

abbrev pub MovedSo : Owner → Moved → Type 0
MovedSo owner m = SaysFiled owner m.state m.outs

said_after : (owner : Owner) (outs : List Effect) (m : Moved) → MovedSo owner m → MovedSo owner (saying outs m)
said_after owner outs m so = by m.state m.outs so
  where
    by : (p : Progress) (more : List Effect) → SaysFiled owner p more → SaysFiled owner p (outs ++ more)
    by (progress.Opening o) more h = h
    by (progress.Opened o) more h = (h.0, (h.1.0, effect_behind (Does (act.Filed (name_of owner.log h.0))) outs more h.1.1))
    by (progress.Lost name) more h = tt

-- the end that is settled is of the incarnation
abbrev EndIn : ℕ → Option End → Type 0
EndIn inc o = IfSome o (λ (end : End). end.pass.inc ≡ inc)

written_end : (inc : ℕ) (before : Option End) (outs : List LogOut) → EndIn inc before → AllByRecursion (EndsIn inc) outs
    → EndIn inc (steps send_one before outs).state
unfolding send_one
written_end inc before [] h all = h
written_end inc before (log_out.Send fragment member ∷ outs) h all = written_end inc before outs h all.1
written_end inc before (log_out.Settled end rows ∷ outs) h all = written_end inc (Some end) outs all.0 all.1

known_go_on_so : (k : Known) (s : Settling) (settled : Option End) → IsOwn k.owner.inc s.log → EndIn k.owner.inc settled → MovedSo k.owner (known_go_on k s settled)
known_go_on_so k s None own ended = own
known_go_on_so k s (Some end) own ended = (end, (ended, effect_behind (Does (act.Filed (name_of k.owner.log end))) (map filed s.chain) _ (inl refl)))

logged_so : (k : Known) (s : Settling) (r : log.Done) → Keeps k.owner.inc r → MovedSo k.owner (logged k s r)
logged_so k s r keeps =
    said_after k.owner (written r.outs).outs (known_go_on k (record s { log = r.state }) (written r.outs).state)
    (known_go_on_so k (record s { log = r.state }) (written r.outs).state keeps.own (written_end k.owner.inc None r.outs tt keeps.ends))

known_write_so : (k : Known) (s : Settling) (i : LogIn) → IsOpening i → IsOwn k.owner.inc s.log → MovedSo k.owner (known_write k s i)
unfolding known_write
known_write_so k s i opening own = logged_so k s (log.transition s.log i) (takes_keep k.owner.inc s.log i opening own)

settles_so : (k : Known) (s : Scanning) (chain : _) (groups : Option GroupMapState) → MovedSo k.owner (settles_over k s chain groups)
settles_so k s chain None = tt
settles_so k s chain (Some groups) =
    by_test (MovedSo k.owner) (is_log k.owner.log.0) (known_write k (behind k chain groups) (log_in.Parts [])) (still (known_scanning k s))
    (λ _. known_write_so k (behind k chain groups) (log_in.Parts []) tt (record { its = refl; flies = tt })) (λ _. tt)

none_ended : (k : Known) (s : Scanning) → MovedSo k.owner (known_follow k s None)
unfolding known_follow
none_ended k s = tt

-- whatever the scan said
ended_so : (its : Owner) (low : ℕ) (a : Asked) (p : Questions) (e : _) (outs : List Out) → ((k : Known) (s : Scanning) → MovedSo k.owner (known_follow k s e))
    → (k : Known) (s : Scanning) → MovedSo k.owner (known_follow k s (steps (sent_send its low) (record { asked = a; questions = p; ended = e }) outs).state.ended)
unfolding known_follow sent_send
ended_so its low a p e [] ends = ends
ended_so its low a p e (out.Hello own ∷ outs) ends = ended_so its low (asked_as a p own) (drawn_for a p own) e outs ends
ended_so its low a p e (out.Fence server ∷ outs) ends = ended_so its low a p e outs ends
ended_so its low a p e (out.Fetch server name own ∷ outs) ends = ended_so its low (asked_as a p own) (drawn_for a p own) e outs ends
ended_so its low a p e (out.Chain segments end prior ∷ outs) ends = ended_so its low a p _ outs (λ k s. settles_so k s _ k.maps.groups)
ended_so its low a p e (out.Lost name ∷ outs) ends = ended_so its low a p _ outs (λ k s. tt)

scans_on_so : (k : Known) (q : Questions) (s : Scanning) (i : ScanIn) → WentSo k.owner (scans_on k q s i)
unfolding scans_on
scans_on_so k q s i =
    let d = scan.transition s.scan i in
    let r = scanned k.owner d.state.opening.low s.asked q d.outs in
    let next : Scanning = record { scan = d.state; asked = r.state.asked } in
    said_after k.owner r.outs (known_follow k next r.state.ended) (ended_so k.owner d.state.opening.low s.asked q None d.outs none_ended k next)

-- ---- the events

with_so : (k : Known) (q : Questions) (s : Scanning) (news : News) (own : ℕ) (groups : Option GroupMapState) → WentSo k.owner (welcomed_with k q s news own groups)
with_so k q s news own None = tt
with_so k q s news own (Some groups) = scans_on_so _ q _ (input.Welcome own news.slots groups)

welcomed_so : (k : Known) (q : Questions) (s : Scanning) (news : News) (own : ℕ) → WentSo k.owner (welcomed k q s news own)
unfolding welcomed
welcomed_so k q s news own = with_so (record k { maps = maps_take k.maps news }) q s news own (maps_take k.maps news).groups

-- what an opening has of its stage
abbrev pub Owns : Opening → Type 0
Owns o = StageOwn o.known.owner.inc o.stage

abbrev Holds : Known → Questions → Stage → Went → Type 0
Holds k q at w = StageOwn k.owner.inc at → WentSo k.owner w

walk : Walk Any Holds
walk = record {
  rests = λ o q own. own;
  asks = λ o q own. own;
  scan = λ k q s i comes own. scans_on_so k q s i;
  log = λ k q s i heard own. known_write_so k s i (heard_opens i heard) own;
  welcome = λ from k q s m asked said own. welcomed_so k q s m.news asked;
  newer = λ from k news q at w said fact. fact;
}

pub tick_so : (o : Opening) (q : Questions) → Owns o → WentSo o.known.owner (on_tick o q)
tick_so o q = walks.tick_so Any Holds walk o q

pub packet_so : (o : Opening) (q : Questions) (p : Packet) → Owns o → WentSo o.known.owner (opening_take o q p)
packet_so o q p = walks.packet_so Any Holds walk o q p tt
