-- Each input of an opening keeps what is known of it, and what it says is lost then is earned.
use Rattle.std.proofs.Common.{◌≡◌, ℕ, ◌≤◌, ◌==◌, ◌&&◌, true, max, List, [], ◌∷◌, ◌++◌, Option, Some, None, length, refl, sym, ap, subst, arith}
use Rattle.std.proofs.lemmas.Bool.{eqb-true}
use Rattle.xfs_base.specs.declared.fragment.Fragment.{Fragment}
use Rattle.xfs_base.specs.declared.news.SlotNews.{SlotNews}
use Rattle.xfs_base.specs.declared.segment.SegRef.{SegRef}
use Rattle.xfs_base.proofs.Booleans.{by_test, and_first}
use Rattle.group_map.specs.GroupMapState.{GroupMapState}
use Rattle.segment_reading.specs.Reading.{ReadingState, is_asking, reading_unanswered}
use Rattle.stripe_code.specs.declared.round.Told.{Told}
use Rattle.stripe_code.specs.declared.round.Told.TheVariants as told
use Rattle.log_scan.specs.declared.input.In.{In as Input}
use Rattle.log_scan.specs.declared.input.In.TheVariants as scan_in
use Rattle.log_scan.specs.declared.listing.Listing.{Listing}
use Rattle.log_scan.specs.declared.opening.Opening.{Opening as OpeningState}
use Rattle.log_scan.specs.declared.output.Out.{Out}
use Rattle.log_scan.specs.declared.output.Out.TheVariants.{Hello}
use Rattle.log_scan.specs.declared.stage.Backward.{Backward}
use Rattle.log_scan.specs.declared.stage.Stage.{Stage}
use Rattle.log_scan.specs.declared.stage.Stage.TheVariants.{Hails, Gathers, Asks, Reads, Over}
use Rattle.log_scan.specs.ScanState.{IsRead, ScanState}
use Rattle.log_scan.specs.Transition as scan
use Rattle.log_scan.specs.Transition.{Done, goes, stays, least_horizon}
use Rattle.log_protocol.specs.Tables.{In}
use Rattle.log_tie.specs.Setting.{Setting}
use Rattle.log_law.specs.Net.{Net}
use Rattle.log_law.specs.Net.Packet.{MapSent, WelcomeSent}
use Rattle.log_law.specs.Net.Owner.{Opening}
use Rattle.log_law.specs.Events.{CameToScan, Happens, Runs}
use Rattle.log_law.specs.Events.Runs.{On}
use Rattle.loss_law.specs.Losses.{is_opening, IsTorn, IsTrue}
use Rattle.loss_law.proofs.Pairs.{ToldSo}
use Rattle.loss_law.proofs.Growing.{AreNamed, Base, Grows}
use Rattle.loss_law.proofs.Interval.{Between}
use Rattle.loss_law.proofs.Kept.{WasTorn, Asks_on, Doubts, ReadingKept, ReadKept, StageKept, stage_on}
use Rattle.loss_law.proofs.Readings.{Loses, fetches_lose, fences_lose, Goes, Like, round_goes, picks_goes, over_goes, confirmed, answered}

at_least : (a b : ℕ) → b ≤ max a b
at_least a b = omega arith

module _ (g : Setting) (Was Now : SegRef → Type 0) (start n o : Net) (run : Runs g start n) (e : Happens g n o) (grows : Grows g n o) (boot : o.inc ≡ n.inc)
    (base : Base g n) (s : ScanState) (fact : n.owner ≡ Opening s) (up : is_opening o.owner ≡ true → (seg : SegRef) → Was seg → Now seg)
    (torn_now : (seg : SegRef) → IsRead s.stage seg → IsTorn g seg n → Was seg) where
  abbrev To : Done → Type 0
  To d = Goes g Was Now start n o run e grows boot base s fact up torn_now d

  abbrev Alike : OpeningState → Type 0
  Alike p = Like g Was Now start n o run e grows boot base s fact up torn_now p

  own : Alike s.opening
  own = record { ask = refl; log = (base.opening s fact).log; groups = (base.opening s fact).groups }

  -- the opening stays where it stands, with the same question
  still : (p : OpeningState) (stage : Stage) (outs : List Out) → p.ask ≡ s.opening.ask → StageKept g Was run s.opening.ask stage → Loses (WasTorn Was s) outs
      → To (goes p stage outs)
  still p stage outs same known quiet =
      record {
        kept = λ opens. subst (λ ask. StageKept g Now (On run e) ask stage) (sym same)
            (stage_on g Was Now start n o run e grows boot (up opens) s.opening.ask stage known);
        lost = quiet;
      }

  -- ---- a Welcome

  module _ (news : List SlotNews) (m : GroupMapState) (named : AreNamed g (Some m))
      (heard : (k : GroupMapState) × In (WelcomeSent n.inc s.opening.ask news k) n.sent) where
    abbrev least : ℕ
    least = least_horizon s.opening.log.0 news

    abbrev risen : OpeningState
    risen = scan.opening_rise (record s.opening { groups = Some m }) least

    risen_alike : Alike risen
    risen_alike = record { ask = refl; log = own.log; groups = named }

    confirms_goes : (b : Backward) (r : Option ReadingState) → s.stage ≡ Reads b r → ReadKept g Was run s.opening.ask b r → To (scan.opening_confirm risen b r)
    unfolding scan.opening_confirm
    confirms_goes b None at k =
        by_test To (scan.is_bottom risen.low b.next) (goes risen Over (scan.backward_told b ∷ [])) (scan.opening_begin_round risen b)
        (λ t. over_goes g Was Now start n o run e grows boot base s fact up torn_now risen b)
        (λ t. round_goes g Was Now start n o run e grows boot base s fact up torn_now risen b risen_alike)
    confirms_goes b (Some r) at k = confirmed g Was Now start n o run e grows boot base s fact up torn_now b r at k risen risen_alike reached
      where
        reached : (d : Doubts g Was run s.opening.ask r.target.seg) → d.bound ≤ risen.low
        reached d =
            let x : d.bound ≤ least_horizon g.log.0 news = d.heard news heard.0 heard.1 in
            let y : least_horizon s.opening.log.0 news ≡ least_horizon g.log.0 news = ap (λ l. least_horizon l.0 news) own.log in
            let z : least ≤ max s.opening.low least = at_least s.opening.low least in
            omega arith

    welcomed_goes : (stage : Stage) → s.stage ≡ stage → StageKept g Was run s.opening.ask stage
        → To (scan.opening_welcome (record s.opening { groups = Some m }) stage least)
    welcomed_goes Hails at k = record { kept = λ opens. tt; lost = fences_lose (WasTorn Was s) (scan.awaited (Some m) []) }
    welcomed_goes (Gathers lists) at k = record { kept = λ opens. tt; lost = tt }
    welcomed_goes (Asks lists) at k = picks_goes g Was Now start n o run e grows boot base s fact up torn_now risen lists risen_alike
    welcomed_goes (Reads b r) at k = confirms_goes b r at k
    welcomed_goes Over at k = record { kept = λ opens. tt; lost = tt }

  welcome_goes : (ask : ℕ) (news : List SlotNews) (m : GroupMapState) → CameToScan g n (scan_in.Welcome ask news m) → StageKept g Was run s.opening.ask s.stage
      → To (scan.on_welcome s.opening s.stage ask news m)
  unfolding scan.on_welcome
  welcome_goes ask news m came k =
      by_test To ((ask == s.opening.ask) && (scan.can_ask s.opening && scan.awaits_welcome s.stage))
      (scan.opening_welcome (record s.opening { groups = Some m }) s.stage (least_horizon s.opening.log.0 news)) (stays s.opening s.stage)
      (λ t. welcomed_goes news m (base.packets (MapSent m) came.1) (
        came.0.0,
        subst (λ z. In (WelcomeSent n.inc z news came.0.0) n.sent)
            (eqb-true ask s.opening.ask (and_first (ask == s.opening.ask) (scan.can_ask s.opening && scan.awaits_welcome s.stage) t)) came.0.1,
      ) s.stage refl k)
      (λ t. still s.opening s.stage [] refl k tt)

  -- ---- a list

  with_list_goes : (lists : List Listing) → To (scan.with_list s.opening lists)
  unfolding scan.with_list
  with_list_goes lists =
      by_test To (length (scan.awaited s.opening.groups lists) == 0) (scan.asks_anew s.opening (Asks lists)) (stays s.opening (Gathers lists))
      (λ t. record { kept = λ opens. tt; lost = tt }) (λ t. record { kept = λ opens. tt; lost = tt })

  fenced_goes : (stage : Stage) (l : Listing) → StageKept g Was run s.opening.ask stage → To (scan.on_fenced s.opening stage l)
  unfolding scan.on_fenced
  fenced_goes Hails l k = still s.opening Hails [] refl k tt
  fenced_goes (Gathers lists) l k =
      by_test To (scan.can_ask s.opening && scan.awaits s.opening.groups lists l.server) (scan.with_list s.opening (lists ++ l ∷ []))
      (stays s.opening (Gathers lists)) (λ t. with_list_goes (lists ++ l ∷ [])) (λ t. still s.opening (Gathers lists) [] refl k tt)
  fenced_goes (Asks lists) l k = still s.opening (Asks lists) [] refl k tt
  fenced_goes (Reads b r) l k = still s.opening (Reads b r) [] refl k tt
  fenced_goes Over l k = still s.opening Over [] refl k tt

  -- ---- an answer of a server

  -- what is told is true, where it answers the question of the round that is on
  abbrev TellsTrue : ℕ → ℕ → Told → Type 0
  TellsTrue ask server t =
      (b : Backward) (r : ReadingState) → s.stage ≡ Reads b (Some r) → (a : Asks_on g Was run r) → ask ≡ r.ask
      → ToldSo (Between g r.target.seg.name a.middle.net n) server t

  module _ (ask server : ℕ) (t : Told) (true_then : TellsTrue ask server t) where
    opening_read_goes : (b : Backward) (r : ReadingState) (groups : Option GroupMapState) → s.stage ≡ Reads b (Some r) → ReadingKept g Was run s.opening.ask b r
        → To (scan.opening_read s.opening b r groups ask server t)
    opening_read_goes b r None at k = still s.opening (Reads b (Some r)) [] refl k tt
    opening_read_goes b r (Some groups) at k =
        answered g Was Now start n o run e grows boot base s fact up torn_now b r at k groups ask server t own (true_then b r at)

    heard_goes : (b : Backward) (r : Option ReadingState) → s.stage ≡ Reads b r → ReadKept g Was run s.opening.ask b r
        → To (scan.opening_hear s.opening b r ask server t)
    heard_goes b None at k = still s.opening (Reads b None) [] refl k tt
    heard_goes b (Some r) at k =
        by_test To (scan.can_ask s.opening) (scan.opening_read s.opening b r s.opening.groups ask server t) (stays s.opening (Reads b (Some r)))
        (λ can. opening_read_goes b r s.opening.groups at k) (λ can. still s.opening (Reads b (Some r)) [] refl k tt)

    told_goes : (stage : Stage) → s.stage ≡ stage → StageKept g Was run s.opening.ask stage → To (scan.on_told s.opening stage ask server t)
    unfolding scan.on_told
    told_goes Hails at k = still s.opening Hails [] refl k tt
    told_goes (Gathers lists) at k = still s.opening (Gathers lists) [] refl k tt
    told_goes (Asks lists) at k = still s.opening (Asks lists) [] refl k tt
    told_goes (Reads b r) at k = heard_goes b r at k
    told_goes Over at k = still s.opening Over [] refl k tt

  -- ---- time

  asked_quiet : (r : Option ReadingState) → Loses (WasTorn Was s) (scan.opening_read_again s.opening r)
  asked_quiet None = tt
  asked_quiet (Some r) =
      by_test (Loses (WasTorn Was s)) (is_asking r.stage) (scan.backward_fetch r) (Hello s.opening.ask ∷ [])
      (λ t. fetches_lose (WasTorn Was s) r.target.seg.name r.ask (reading_unanswered r)) (λ t. tt)

  tick_quiet : (stage : Stage) → Loses (WasTorn Was s) (scan.on_tick s.opening stage)
  unfolding scan.on_tick
  tick_quiet Hails = tt
  tick_quiet (Gathers lists) = fences_lose (WasTorn Was s) (scan.awaited s.opening.groups lists)
  tick_quiet (Asks lists) = tt
  tick_quiet (Reads b r) = asked_quiet r
  tick_quiet Over = tt

  -- ---- each input

  held_true : (ask server : ℕ) (f : Fragment) → TellsTrue ask server (told.Held f)
  held_true ask server f b r at a same = tt

  missing_true : (ask server generation : ℕ) → IsTrue run s (scan_in.Missing ask server generation) → TellsTrue ask server (told.Missing generation)
  missing_true ask server generation truth b r at a same =
      a.drawn server generation (truth b r server generation at (ap (λ z. scan_in.Missing z server generation) same))

  pub takes_goes : (i : Input) → CameToScan g n i → IsTrue run s i → StageKept g Was run s.opening.ask s.stage → To (scan.transition s i)
  takes_goes (scan_in.Welcome ask news m) came truth k = welcome_goes ask news m came k
  takes_goes (scan_in.Fenced server generation held) came truth k = fenced_goes s.stage (record { server = server; generation = generation; held = held }) k
  takes_goes (scan_in.Got ask server generation f) came truth k = told_goes ask server (told.Held f) (held_true ask server f) s.stage refl k
  takes_goes (scan_in.Missing ask server generation) came truth k =
      told_goes ask server (told.Missing generation) (missing_true ask server generation truth) s.stage refl k
  takes_goes (scan_in.Maps m) came truth k = still (record s.opening { groups = Some m }) s.stage [] refl k tt
  takes_goes scan_in.Tick came truth k = still s.opening s.stage (scan.on_tick s.opening s.stage) refl k (tick_quiet s.stage)
