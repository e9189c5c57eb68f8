-- An opening asks no more questions than its node, but for one by which it waits in vain.
use Rattle.std.proofs.Common.{⊎_elim, ◌≡◌, ◌≤◌, ◌<◌, ℕ, ◌+◌, ◌==◌, true, cond, List, [], ◌∷◌, Option, Some, None, nat_lt, sym, subst, inl, inr, arith}
use Rattle.std.specs.List.{AllByRecursion}
use Rattle.std.proofs.lemmas.Bool.Decides.{nat_tests}
use Rattle.std.proofs.lemmas.Bool.{lt-ltb}
use Rattle.xfs_base.proofs.Booleans.{by_test}
use Rattle.xfs_base.specs.declared.segment.End.{End}
use Rattle.xfs_base.specs.Limits.{u32_end}
use Rattle.xfs_base.specs.Steps.{steps, still}
use Rattle.group_map.specs.GroupMapState.{GroupMapState}
use Rattle.client_log.specs.declared.input.In.{In as LogIn}
use Rattle.client_log.specs.declared.input.In.TheVariants as log_in
use Rattle.client_log.specs.Transition as log
use Rattle.log_owner.specs.declared.ended.Owner.{Owner}
use Rattle.log_owner.specs.declared.known.Known.{Known}
use Rattle.log_owner.specs.declared.opening.Scanning.{Scanning}
use Rattle.log_owner.specs.declared.opening.Settling.{Settling}
use Rattle.log_owner.specs.declared.opening.Stage.{Stage}
use Rattle.log_owner.specs.declared.opening.Stage.TheVariants as stage
use Rattle.log_owner.specs.Opening.{Went, Moved, known_scanning, nothing_asked, sent_send, scanned, written, known_go_on, known_write, behind, settles_over, known_follow, scans_on, welcomed_with, welcomed}
use Rattle.log_owner.specs.Promised.{promised_of}
use Rattle.log_scan.specs.declared.input.In.{In}
use Rattle.log_scan.specs.declared.input.In.TheVariants as input
use Rattle.log_scan.specs.declared.output.Out.{Out}
use Rattle.log_scan.specs.declared.output.Out.TheVariants.{Hello, Fence, Fetch, Chain, Lost}
use Rattle.log_scan.specs.declared.stage.Stage.TheVariants.{Reads}
use Rattle.log_scan.specs.Transition as scan
use Rattle.node_base.specs.Asking.{draw, drawn_for, asked_as}
use Rattle.node_base.specs.declared.questions.Asked.{Asked}
use Rattle.node_base.specs.declared.questions.Questions.{Questions}
use Rattle.node_base.specs.Maps.{maps_take}
use Rattle.node_base.specs.Room.{has_room}
use Rattle.node_base.specs.Shape.{is_log}
use Rattle.wire_msg.specs.declared.registry.News.{News}
use Rattle.node_moves.proofs.OpeningWalk as walked
use Rattle.node_moves.proofs.OpeningWalk.{Any, Walk}
use Rattle.node_logs.specs.opening_law.Questions.{WaitsInVain, PastStage, ScanAsks, StageAsks, ProgressAsks, AsksOn, StartAsksFew, PacketAsksFew, TickAsksFew, GroupsAfter, GroupsCome, QuestionsAreLeft}
use Rattle.node_logs.proofs.opening_law.Steps.{UpTo, AsksBy, Old, New, Steps, Still, says_so, still_so}

-- ---- the questions of the node

last_rises : (k : ℕ) → k ≤ cond (nat_lt k u32_end) (k + 1) k
last_rises k = grind (arith, nat_tests)

last_drawn : (k : ℕ) → has_room k ≡ true → k + 1 ≤ cond (nat_lt k u32_end) (k + 1) k
last_drawn k room = grind (arith, nat_tests)

for_more : (a : Asked) (q : Questions) (own : ℕ) → q.last ≤ (drawn_for a q own).last
for_more a q own = by_test (λ (p : Questions). q.last ≤ p.last) (own == a.own) q (draw q) (λ t. omega arith) (λ t. last_rises q.last)

-- a number that is above another isn't the same
apart : (n m : ℕ) → m < n → (n == m) ≡ true → ⊥
apart n m less t = grind (arith, nat_tests)

for_new : (a : Asked) (q : Questions) (own : ℕ) → a.own < own → has_room q.last ≡ true → q.last + 1 ≤ (drawn_for a q own).last
for_new a q own less room =
    by_test (λ (p : Questions). q.last + 1 ≤ p.last) (own == a.own) q (draw q) (λ t. absurd (apart own a.own less t)) (λ t. last_drawn q.last room)

-- what is left where a scan said so much: it asked by no later number, and none of the node's is lost
record Left (limit : ℕ) (q : Questions) (a : Asked) (p : Questions) : Type 0 where
  past : a.own ≤ limit
  more : q.last ≤ p.last

said_left : (owner : Owner) (low limit : ℕ) (a : Asked) (q : Questions) (e : _) (outs : List Out) → AllByRecursion (UpTo limit) outs → a.own ≤ limit
    → (start : Questions) → start.last ≤ q.last
    → Left limit start (steps (sent_send owner low) (record { asked = a; questions = q; ended = e }) outs).state.asked
    (steps (sent_send owner low) (record { asked = a; questions = q; ended = e }) outs).state.questions
unfolding sent_send
said_left owner low limit a q e [] up past start more = record { past = past; more = more }
said_left owner low limit a q e (Hello own ∷ outs) up past start more =
    said_left owner low limit (asked_as a q own) (drawn_for a q own) e outs up.1 up.0 start (let m = for_more a q own in omega arith)
said_left owner low limit a q e (Fence server ∷ outs) up past start more = said_left owner low limit a q e outs up.1 past start more
said_left owner low limit a q e (Fetch server name own ∷ outs) up past start more =
    said_left owner low limit (asked_as a q own) (drawn_for a q own) e outs up.1 up.0 start (let m = for_more a q own in omega arith)
said_left owner low limit a q e (Chain segments end prior ∷ outs) up past start more = said_left owner low limit a q _ outs up.1 past start more
said_left owner low limit a q e (Lost name ∷ outs) up past start more = said_left owner low limit a q _ outs up.1 past start more

-- where the first thing is asked by a new question, one more of the node's is drawn
said_draws : (owner : Owner) (low limit : ℕ) (a : Asked) (q : Questions) (e : _) (outs : List Out) → AllByRecursion (UpTo limit) outs → AsksBy limit outs
    → a.own < limit
    → has_room q.last ≡ true → q.last + 1 ≤ (steps (sent_send owner low) (record { asked = a; questions = q; ended = e }) outs).state.questions.last
unfolding sent_send
said_draws owner low limit a q e [] up asks less room = absurd asks
said_draws owner low limit a q e (Hello own ∷ outs) up asks less room =
    let l = said_left owner low limit (asked_as a q own) (drawn_for a q own) e outs up.1 up.0 (drawn_for a q own) (omega arith) in
    let d = for_new a q own (omega arith) room in
    let m = l.more in
    omega arith
said_draws owner low limit a q e (Fence server ∷ outs) up asks less room = absurd asks
said_draws owner low limit a q e (Fetch server name own ∷ outs) up asks less room =
    let l = said_left owner low limit (asked_as a q own) (drawn_for a q own) e outs up.1 up.0 (drawn_for a q own) (omega arith) in
    let d = for_new a q own (omega arith) room in
    let m = l.more in
    omega arith
said_draws owner low limit a q e (Chain segments end prior ∷ outs) up asks less room = absurd asks
said_draws owner low limit a q e (Lost name ∷ outs) up asks less room = absurd asks

-- ---- a step of the scan

module _ (owner : Owner) (q : Questions) (s : Scanning) (room : has_room q.last ≡ true) (h : ScanAsks s q.last) where
  -- the scan and the questions of the node after it
  abbrev AfterStep : scan.Done → Type 0
  AfterStep d =
      ScanAsks (record { scan = d.state; asked = (scanned owner d.state.opening.low s.asked q d.outs).state.asked })
      (scanned owner d.state.opening.low s.asked q d.outs).state.questions.last

  old_few : (d : scan.Done) (groups : Option GroupMapState) → s.scan.opening.ask ≤ q.last → Old s.scan.opening.ask groups d → AfterStep d
  old_few d groups small x =
      let l = said_left owner d.state.opening.low s.scan.opening.ask s.asked q None d.outs x.outs h.past q (omega arith) in
      let m = l.more in
      let p = l.past in
      let e = x.last in
      record { few = inl (omega arith); past = omega arith; reads = subst (λ n. PastStage n d.state.stage) (sym x.last) x.reads }

  new_few : (d : scan.Done) (groups : Option GroupMapState) → s.scan.opening.ask ≤ q.last → New s.scan.opening.ask groups d → AfterStep d
  new_few d groups small x =
      let past = h.past in
      let limit : ℕ = s.scan.opening.ask + 1 in
      let l = said_left owner d.state.opening.low limit s.asked q None d.outs x.outs (omega arith) q (omega arith) in
      let m = l.more in
      let p = l.past in
      let e = x.last in
      record {
        few =
            ⊎_elim (λ asks. inl (let b = said_draws owner d.state.opening.low limit s.asked q None d.outs x.outs asks (omega arith) room in omega arith))
            (λ v. inr (v, omega arith)) x.draws;
        past = omega arith;
        reads = subst (λ n. PastStage n d.state.stage) (sym x.last) x.reads;
      }

  vain_few : (d : scan.Done) (v : WaitsInVain s.scan) → s.scan.opening.ask ≤ q.last + 1 → Still s.scan.opening (Reads v.back (Some v.round)) d → AfterStep d
  vain_few d v small x =
      let e = x.last in
      let past = h.past in
      let reads : v.round.ask ≤ s.scan.opening.ask = subst (λ st. PastStage s.scan.opening.ask st) v.reads h.reads in
      subst (λ outs. ScanAsks (record { scan = d.state; asked = (scanned owner d.state.opening.low s.asked q outs).state.asked })
      (scanned owner d.state.opening.low s.asked q outs).state.questions.last)
      (sym x.outs)
      (record {
        few = inr (record { back = v.back; round = v.round; reads = x.stage; asking = v.asking; nobody = v.nobody }, omega arith);
        past = omega arith;
        reads = subst (λ st. PastStage d.state.opening.ask st) (sym x.stage) (omega arith);
      })

  says_few : (i : In) → Steps s.scan.opening i (scan.transition s.scan i) → s.scan.opening.ask ≤ q.last → AfterStep (scan.transition s.scan i)
  says_few i x small = ⊎_elim (old_few (scan.transition s.scan i) x.groups small) (new_few (scan.transition s.scan i) x.groups small) x.says

  step_few : (i : In) → AfterStep (scan.transition s.scan i)
  step_few i =
      ⊎_elim (says_few i (says_so s.scan.opening s.scan.stage i h.reads))
      (λ v. vain_few (scan.transition s.scan i) v.0 v.1
      (subst (λ st. Still s.scan.opening (Reads v.0.back (Some v.0.round)) (scan.opening_take s.scan.opening st i)) (sym v.0.reads)
      (still_so s.scan.opening v.0.back v.0.round v.0.asking v.0.nobody i)))
      h.few

-- ---- what is next

opens_few : (k : Known) (s : Settling) (e : Option End) (last : ℕ) → ProgressAsks (known_go_on k s e).state last
opens_few k s None last = tt
opens_few k s (Some end) last = tt

writes_few : (k : Known) (s : Settling) (i : LogIn) (last : ℕ) → ProgressAsks (known_write k s i).state last
unfolding known_write
writes_few k s i last = opens_few k (record s { log = (log.transition s.log i).state }) (written (log.transition s.log i).outs).state last

starts_few_log : (k : Known) (s : Scanning) (chain : _) (m : Option GroupMapState) (last : ℕ) → ScanAsks s last
    → ProgressAsks (settles_over k s chain m).state last
starts_few_log k s chain None last h = h
starts_few_log k s chain (Some groups) last h =
    by_test (λ (x : Moved). ProgressAsks x.state last) (is_log k.owner.log.0) (known_write k (behind k chain groups) (log_in.Parts [])) (still (known_scanning k s))
    (λ t. writes_few k (behind k chain groups) (log_in.Parts []) last) (λ t. h)

ends_few : (its : Owner) (low : ℕ) (a : Asked) (q : Questions) (e : _) (outs : List Out)
    → ((k : Known) (s : Scanning) (last : ℕ) → ScanAsks s last → ProgressAsks (known_follow k s e).state last)
    → (k : Known) (s : Scanning) (last : ℕ) → ScanAsks s last
    → ProgressAsks (known_follow k s (steps (sent_send its low) (record { asked = a; questions = q; ended = e }) outs).state.ended).state last
unfolding known_follow sent_send
ends_few its low a q e [] ends = ends
ends_few its low a q e (Hello own ∷ outs) ends = ends_few its low (asked_as a q own) (drawn_for a q own) e outs ends
ends_few its low a q e (Fence server ∷ outs) ends = ends_few its low a q e outs ends
ends_few its low a q e (Fetch server name own ∷ outs) ends = ends_few its low (asked_as a q own) (drawn_for a q own) e outs ends
ends_few its low a q e (Chain segments end prior ∷ outs) ends = ends_few its low a q _ outs (λ k s last h. starts_few_log k s _ k.maps.groups last h)
ends_few its low a q e (Lost name ∷ outs) ends = ends_few its low a q _ outs (λ k s last h. tt)

none_ends : (k : Known) (s : Scanning) (last : ℕ) → ScanAsks s last → ProgressAsks (known_follow k s None).state last
unfolding known_follow
none_ends k s last h = h

-- ---- the events

module _ (q : Questions) (room : has_room q.last ≡ true) where
  scan_few : (k : Known) (s : Scanning) (i : In) → ScanAsks s q.last → AsksOn (scans_on k q s i)
  unfolding scans_on
  scan_few k s i h =
      let d : scan.Done = scan.transition s.scan i in
      ends_few k.owner d.state.opening.low s.asked q None d.outs none_ends k
      (record { scan = d.state; asked = (scanned k.owner d.state.opening.low s.asked q d.outs).state.asked })
      (scanned k.owner d.state.opening.low s.asked q d.outs).state.questions.last
      (step_few k.owner q s room h i)

  welcome_with : (k : Known) (s : Scanning) (news : News) (own : ℕ) (groups : Option GroupMapState) → ScanAsks s q.last
      → AsksOn (welcomed_with k q s news own groups)
  welcome_with k s news own None h = h
  welcome_with k s news own (Some groups) h =
      scan_few (record k { promised = promised_of news.slots }) (record s { asked = nothing_asked }) (input.Welcome own news.slots groups)
      (record { few = h.few; past = omega arith; reads = h.reads })

  welcome_few : (k : Known) (s : Scanning) (news : News) (own : ℕ) → ScanAsks s q.last → AsksOn (welcomed k q s news own)
  unfolding welcomed
  welcome_few k s news own h = welcome_with (record k { maps = maps_take k.maps news }) s news own (maps_take k.maps news).groups h

-- more questions of the node do no harm
drawn_few : (at : Stage) (q : Questions) → StageAsks at q.last → StageAsks at (draw q).last
drawn_few (stage.Scanning s) q h =
    let m = last_rises q.last in
    record { few = ⊎_elim (λ small. inl (omega arith)) (λ v. inr (v.0, (let b = v.1 in omega arith))) h.few; past = h.past; reads = h.reads }
drawn_few (stage.Settling s) q h = tt

abbrev Holds : Known → Questions → Stage → Went → Type 0
Holds k q at w = has_room q.last ≡ true → StageAsks at q.last → AsksOn w

walk : Walk Any Holds
walk = record {
  rests = λ o q room h. h;
  asks = λ o q room h. drawn_few o.stage q h;
  scan = λ k q s i comes room h. scan_few q room k s i h;
  log = λ k q s i heard room h. writes_few k s i q.last;
  welcome = λ from k q s m own said room h. welcome_few q room k s m.news own h;
  newer = λ from k news q at w said goes room h. goes room h;
}

pub packet_few : PacketAsksFew
packet_few o q packet room h = walked.packet_so Any Holds walk o q packet tt room h

pub tick_few : TickAsksFew
tick_few o q room h = walked.tick_so Any Holds walk o q room h

pub starts_few : StartAsksFew
starts_few owner servers q room = record { few = inl (let m = last_drawn q.last room in omega arith); past = omega arith; reads = tt }

below_end : (k : ℕ) → has_room k ≡ true → k + 1 < u32_end
below_end k room = grind (arith, nat_tests)

pub some_left : QuestionsAreLeft
some_left s last room few =
    let b = below_end last room in
    lt-ltb s.opening.ask u32_end (⊎_elim (λ small. (let x : s.opening.ask ≤ last = small in omega arith)) (λ v. (let x = v.1 in omega arith)) few)

pub groups_come : GroupsCome
groups_come s i past =
    let x : Steps s.opening i (scan.transition s i) = says_so s.opening s.stage i past in
    subst (GroupsAfter s.opening.groups i) (sym (⊎_elim (λ old. old.same) (λ new. new.same) x.says)) x.from
