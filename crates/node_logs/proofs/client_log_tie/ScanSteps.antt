-- Each input of a client's scan is taken as the owner's in the small world.
use Rattle.std.proofs.Common.{◌≡◌, ◌<◌, ◌≤◌, ℕ, ◌+◌, ◌==◌, ◌&&◌, not, Bool, true, false, cond, List, [], ◌∷◌, ◌++◌, map, length, Option, Some, None, refl, sym, subst, inl, arith}
use Rattle.std.specs.List.{AllByRecursion}
use Rattle.std.proofs.lemmas.Bool.Decides.{nat_tests}
use Rattle.std.proofs.lemmas.Bool.{eq-eqb}
use Rattle.xfs_base.proofs.Booleans.{by_test, contrary}
use Rattle.xfs_base.specs.declared.news.SlotNews.{SlotNews}
use Rattle.xfs_base.specs.declared.segment.End.{End}
use Rattle.segment_format.specs.declared.segment.Segment.{Segment}
use Rattle.group_map.specs.declared.group.Group.{Group}
use Rattle.group_map.specs.GroupMapState.{GroupMapState}
use Rattle.segment_reading.specs.declared.reading.Next.TheVariants as next
use Rattle.segment_reading.specs.declared.reading.Stage as readings
use Rattle.segment_reading.specs.declared.reading.Stage.TheVariants as reading
use Rattle.segment_reading.specs.Reading.{ReadingState, Step, reading_start, is_asking, reading_unanswered, segment_found, counts, name_fits, ends, reading_reads, reading_judge, reading_take}
use Rattle.segment_reading.specs.Lost.{are_gone}
use Rattle.segment_reading.specs.Reading as rounds
use Rattle.stripe_code.specs.declared.round.RoundState.{RoundState}
use Rattle.stripe_code.specs.declared.round.RoundState.TheVariants as round
use Rattle.stripe_code.specs.declared.round.Told.{Told}
use Rattle.segment_format.specs.ReadingItems.{answer_of}
use Rattle.stripe_code.specs.Round.{asks as round_asks, round_take, told_fits, state_of}
use Rattle.log_scan.specs.declared.listing.Listing.{Listing}
use Rattle.log_scan.specs.declared.opening.Opening.{Opening}
use Rattle.log_scan.specs.declared.output.Out.TheVariants.{Hello, Fetch}
use Rattle.log_scan.specs.declared.stage.Backward.{Backward}
use Rattle.log_scan.specs.declared.stage.Stage.{Stage}
use Rattle.log_scan.specs.declared.stage.Stage.TheVariants.{Hails, Gathers, Asks, Reads, Over}
use Rattle.log_scan.specs.Pick.{known_group, start_of}
use Rattle.log_scan.specs.Transition as scan
use Rattle.log_owner.specs.declared.known.Known.{Known}
use Rattle.log_owner.specs.declared.opening.Scanning.{Scanning}
use Rattle.node_base.specs.declared.questions.Asked.{Asked}
use Rattle.node_base.specs.declared.questions.Questions.{Questions}
use Rattle.log_tie.specs.Setting.{Setting}
use Rattle.node_logs.specs.node_log_tie.Sight.{Question}
use Rattle.node_logs.specs.client_log_tie.Owner.{Scene, AsksRegistry, AsksServers, AsksIn, AsksOf, AsksReading, AsksAt}
use Rattle.node_logs.proofs.client_log_tie.ScanSays as says
use Rattle.node_logs.proofs.client_log_tie.ScanSays.{Opens}

first_of_four : (a b x y : Bool) → (a && b && x && y) ≡ true → a ≡ true
first_of_four true b x y e = refl
first_of_four false b x y e = contrary e

not_above : (a b : ℕ) → (b + 1 == a) ≡ true → a ≤ b → ⊥
not_above a b t le = grind (arith, nat_tests)

module _ (g : Setting) (c : ℕ) (w : Scene) (its life : ℕ) (k : Known) (q : Questions) (s : Scanning) (h : Opens g c w its life k q s) where
  abbrev pub Takes : scan.Done → Type 0
  Takes d = says.Takes g c w its life k q s h d

  abbrev Servers : ℕ → Type 0
  Servers ask = AsksServers w.asked s.asked ask

  -- what an opening has asked, at any stage
  pub record Stood (o : Opening) : Type 0 where
    pub groups : k.maps.groups ≡ o.groups
    pub past : s.asked.own ≤ o.ask
    pub some : 0 < o.ask

  -- ---- the registry is asked anew

  anew : (o : Opening) (st : Stage) → Stood o → ((t : ℕ → Question) (a : Asked) → AsksRegistry t a (o.ask + 1) → AsksAt t a (o.ask + 1) st)
      → Takes (scan.asks_anew o st)
  anew o st at registry =
      says.hello_goes g c w its life k q s h (scan.opening_ask_anew o) st at.groups (omega arith) (λ t. absurd (not_above s.asked.own o.ask t at.past)) registry

  -- ---- the chain is read

  all_fetch : (r : ReadingState) (limit : ℕ) (servers : List ℕ) → r.ask ≤ limit
      → AllByRecursion (says.IsRest g c w its life k q s h limit) (map (λ server. Fetch server r.target.seg.name r.ask) servers)
  all_fetch r limit [] small = tt
  all_fetch r limit (server ∷ servers) small = (small, all_fetch r limit servers small)

  -- a round is on
  fetches_go : (o : Opening) (b : Backward) (r : ReadingState) → Stood o → Servers o.ask → r.stage ≡ reading.Asking → r.ask ≤ o.ask
      → Takes (scan.goes o (Reads b (Some r)) (scan.backward_fetch r))
  fetches_go o b r at asks asking small =
      says.rest_goes g c w its life k q s h o (Reads b (Some r)) (scan.backward_fetch r) (all_fetch r o.ask (reading_unanswered r) small) at.groups asks
      (λ a servers. record { stage = subst (AsksIn w.asked a o.ask) (sym asking) servers; past = small }) at.past at.some

  begins_in_so : (o : Opening) (b : Backward) (group : Option Group) → Stood o → Servers o.ask → Takes (scan.begins_in o b group)
  begins_in_so o b None at asks = anew o (Reads b None) at (λ t a registry. registry)
  begins_in_so o b (Some group) at asks =
      fetches_go (scan.opening_ask_anew o) b (reading_start (scan.target_at o.log b.next) group (o.ask + 1))
      (record { groups = at.groups; past = (let e = at.past in omega arith); some = omega arith }) asks refl (omega arith)

  opening_begin_round_so : (o : Opening) (b : Backward) → Stood o → Servers o.ask → Takes (scan.opening_begin_round o b)
  unfolding scan.opening_begin_round
  opening_begin_round_so o b at asks = begins_in_so o b (known_group o.groups b.next.group) at asks

  chain_so : (o : Opening) (b : Backward) → Stood o → Servers o.ask → Takes (scan.goes o Over (scan.backward_told b ∷ []))
  chain_so o b at asks = says.chain_goes g c w its life k q s h o _ b.start _ at.groups asks at.past at.some

  opening_follow_so : (o : Opening) (b : Backward) → Stood o → Servers o.ask → Takes (scan.opening_follow o b)
  unfolding scan.opening_follow
  opening_follow_so o b at asks =
      by_test (λ (d : scan.Done). Takes d) (scan.is_bottom o.low b.next) (scan.goes o Over (scan.backward_told b ∷ [])) (scan.opening_begin_round o b)
      (λ t. chain_so o b at asks) (λ t. opening_begin_round_so o b at asks)

  -- ---- an answer

  stays_so : (o : Opening) (st : Stage) → Stood o → AsksAt w.asked s.asked o.ask st → Takes (scan.stays o st)
  stays_so o st at asks = says.quiet_goes g c w its life k q s h o st at.groups asks at.past at.some

  -- a round that ended: the registry is asked
  ends_so : (o : Opening) (b : Backward) (r : ReadingState) (pairs : List (ℕ × ℕ)) → Stood o → r.ask ≤ o.ask
      → Takes (scan.opening_go_on o b (ends r pairs).state next.Again)
  unfolding scan.opening_go_on
  ends_so o b r pairs at small =
      anew o (Reads b (Some (ends r pairs).state)) at
      (λ t a registry. record {
        stage = by_test (λ (x : readings.Stage). AsksIn t a (o.ask + 1) x) (are_gone r.round.parity r.kept pairs) reading.Doubted reading.Between
            (λ e. registry) (λ e. registry);
        past = omega arith;
      })

  read_so : (o : Opening) (b : Backward) (r : ReadingState) (found : Option Segment) → Stood o → Servers o.ask → r.ask ≤ o.ask
      → Takes (scan.opening_go_on o b (reading_reads r found).state (reading_reads r found).next)
  unfolding scan.opening_go_on
  read_so o b r (Some segment) at asks small = opening_follow_so o (scan.backward_with b segment) at asks
  read_so o b r None at asks small = ends_so o b r [] at small

  reading_judge_so : (o : Opening) (b : Backward) (r : ReadingState) (groups : GroupMapState) (x : RoundState) → Stood o → Servers o.ask → r.stage ≡ reading.Asking
      → r.ask ≤ o.ask
      → Takes (scan.opening_go_on o b (reading_judge r groups x).state (reading_judge r groups x).next)
  unfolding scan.opening_go_on
  reading_judge_so o b r groups (round.Read bytes) at asks asking small = read_so o b r (segment_found r.target groups (answer_of bytes)) at asks small
  reading_judge_so o b r groups (round.Short pairs) at asks asking small = ends_so o b r pairs at small
  reading_judge_so o b r groups round.Waiting at asks asking small =
      stays_so o (Reads b (Some r)) at (record { stage = subst (AsksIn w.asked s.asked o.ask) (sym asking) asks; past = small })

  -- where a round is on, servers are asked
  is_on : (ask : ℕ) (x : readings.Stage) → is_asking x ≡ true → AsksIn w.asked s.asked ask x → (x ≡ reading.Asking) × Servers ask
  is_on ask reading.Asking t asks = (refl, asks)
  is_on ask _ t asks = contrary t

  answer_so : (o : Opening) (b : Backward) (r : ReadingState) (groups : GroupMapState) (ask server : ℕ) (t : Told) → Stood o → AsksOf w.asked s.asked o.ask r
      → Takes (scan.opening_read o b r (Some groups) ask server t)
  unfolding reading_take scan.opening_go_on
  answer_so o b r groups ask server t at asks =
      let now : ReadingState = record r { round = round_take r.round server t } in
      by_test (λ (x : Step). Takes (scan.opening_go_on o b x.state x.next)) (counts r ask server t) (reading_judge now groups (state_of now.round))
      (record { state = r; next = next.Wait })
      (λ e.
      let on : (r.stage ≡ reading.Asking) × Servers o.ask =
      is_on o.ask r.stage
      (first_of_four (is_asking r.stage) (ask == r.ask) (round_asks r.round server) (name_fits r.target t && told_fits r.round t) e) asks.stage in
      reading_judge_so o b now groups (state_of now.round) at on.1 on.0 asks.past)
      (λ e. stays_so o (Reads b (Some r)) at asks)

  opening_hear_so : (o : Opening) (b : Backward) (r : Option ReadingState) (ask server : ℕ) (t : Told) → Stood o → AsksReading w.asked s.asked o.ask r
      → Takes (scan.opening_hear o b r ask server t)
  opening_hear_so o b None ask server t at asks = stays_so o (Reads b None) at asks
  opening_hear_so o b (Some r) ask server t at asks =
      by_test (λ (d : scan.Done). Takes d) (scan.can_ask o) (scan.opening_read o b r o.groups ask server t) (scan.stays o (Reads b (Some r)))
      (λ e. by_groups o.groups) (λ e. stays_so o (Reads b (Some r)) at asks)
    where
      by_groups : (m : Option GroupMapState) → Takes (scan.opening_read o b r m ask server t)
      by_groups None = stays_so o (Reads b (Some r)) at asks
      by_groups (Some groups) = answer_so o b r groups ask server t at asks

  pub told_so : (o : Opening) (st : Stage) (ask server : ℕ) (t : Told) → Stood o → AsksAt w.asked s.asked o.ask st → Takes (scan.on_told o st ask server t)
  unfolding scan.on_told
  told_so o Hails ask server t at asks = stays_so o Hails at asks
  told_so o (Gathers lists) ask server t at asks = stays_so o (Gathers lists) at asks
  told_so o (Asks lists) ask server t at asks = stays_so o (Asks lists) at asks
  told_so o (Reads b r) ask server t at asks = opening_hear_so o b r ask server t at asks
  told_so o Over ask server t at asks = stays_so o Over at asks

  -- ---- a list

  all_fence : (limit : ℕ) (servers : List ℕ) → AllByRecursion (says.IsRest g c w its life k q s h limit) (scan.fences servers)
  all_fence limit [] = tt
  all_fence limit (server ∷ servers) = (tt, all_fence limit servers)

  fences_go : (o : Opening) (lists : List Listing) (servers : List ℕ) → Stood o → Servers o.ask → Takes (scan.goes o (Gathers lists) (scan.fences servers))
  fences_go o lists servers at asks =
      says.rest_goes g c w its life k q s h o (Gathers lists) (scan.fences servers) (all_fence o.ask servers) at.groups asks (λ a x. x) at.past at.some

  with_list_so : (o : Opening) (lists : List Listing) → Stood o → Servers o.ask → Takes (scan.with_list o lists)
  unfolding scan.with_list
  with_list_so o lists at asks =
      by_test (λ (d : scan.Done). Takes d) (length (scan.awaited o.groups lists) == 0) (scan.asks_anew o (Asks lists)) (scan.stays o (Gathers lists))
      (λ e. anew o (Asks lists) at (λ t a registry. registry)) (λ e. stays_so o (Gathers lists) at asks)

  pub fenced_so : (o : Opening) (st : Stage) (l : Listing) → Stood o → AsksAt w.asked s.asked o.ask st → Takes (scan.on_fenced o st l)
  unfolding scan.on_fenced
  fenced_so o Hails l at asks = stays_so o Hails at asks
  fenced_so o (Gathers lists) l at asks =
      by_test (λ (d : scan.Done). Takes d) (scan.can_ask o && scan.awaits o.groups lists l.server) (scan.with_list o (lists ++ l ∷ []))
      (scan.stays o (Gathers lists))
      (λ e. with_list_so o (lists ++ l ∷ []) at asks) (λ e. stays_so o (Gathers lists) at asks)
  fenced_so o (Asks lists) l at asks = stays_so o (Asks lists) at asks
  fenced_so o (Reads b r) l at asks = stays_so o (Reads b r) at asks
  fenced_so o Over l at asks = stays_so o Over at asks

  -- ---- maps and time

  pub maps_so : (o : Opening) (st : Stage) → Stood o → AsksAt w.asked s.asked o.ask st → Takes (scan.stays o st)
  maps_so o st at asks = stays_so o st at asks

  hails_again : (o : Opening) (st : Stage) → Stood o → AsksRegistry w.asked s.asked o.ask
      → ((t : ℕ → Question) (a : Asked) → AsksRegistry t a o.ask → AsksAt t a o.ask st)
      → Takes (scan.goes o st (Hello o.ask ∷ []))
  hails_again o st at asks registry = says.hello_goes g c w its life k q s h o st at.groups at.some (λ t. asks.number) registry

  reading_again : (o : Opening) (b : Backward) (r : ReadingState) → Stood o → r.ask ≤ o.ask → (x : readings.Stage) → r.stage ≡ x
      → AsksIn w.asked s.asked o.ask x
      → Takes (scan.goes o (Reads b (Some r)) (cond (is_asking x) (scan.backward_fetch r) (Hello o.ask ∷ [])))
  reading_again o b r at small reading.Asking e asks = fetches_go o b r at asks e small
  reading_again o b r at small reading.Between e asks =
      hails_again o (Reads b (Some r)) at asks (λ t a registry. record { stage = subst (AsksIn t a o.ask) (sym e) registry; past = small })
  reading_again o b r at small reading.Doubted e asks =
      hails_again o (Reads b (Some r)) at asks (λ t a registry. record { stage = subst (AsksIn t a o.ask) (sym e) registry; past = small })
  reading_again o b r at small reading.Over e asks = absurd asks

  pub tick_so : (o : Opening) (st : Stage) → Stood o → AsksAt w.asked s.asked o.ask st → Takes (scan.goes o st (scan.on_tick o st))
  unfolding scan.on_tick
  tick_so o Hails at asks = hails_again o Hails at asks (λ t a registry. registry)
  tick_so o (Gathers lists) at asks = fences_go o lists (scan.awaited o.groups lists) at asks
  tick_so o (Asks lists) at asks = hails_again o (Asks lists) at asks (λ t a registry. registry)
  tick_so o (Reads b None) at asks = hails_again o (Reads b None) at asks (λ t a registry. registry)
  tick_so o (Reads b (Some r)) at asks = reading_again o b r at asks.past r.stage refl asks.stage
  tick_so o Over at asks = stays_so o Over at asks

  -- ---- a Welcome: the question is answered, and none is out

  module _ (none : s.asked.own ≡ 0) where
    confirmed_so : (o : Opening) (b : Backward) (r : ReadingState) (table : ℕ → Question) (a : Asked) → Stood o → (x : readings.Stage) → is_asking x ≡ false
        → AsksIn table a o.ask x
        → Takes (scan.opening_go_on o b (rounds.goes_on r (o.ask + 1) x).state (rounds.goes_on r (o.ask + 1) x).next)
    unfolding scan.opening_go_on
    confirmed_so o b r table a at reading.Asking t asks = contrary (sym t)
    confirmed_so o b r table a at reading.Between t asks =
        fetches_go (record o { ask = o.ask + 1 }) b (rounds.goes_on r (o.ask + 1) reading.Between).state
        (record { groups = at.groups; past = (let e = at.past in omega arith); some = omega arith }) (inl none) refl (omega arith)
    confirmed_so o b r table a at reading.Doubted t asks = says.lost_goes g c w its life k q s h o r.target.seg.name
    confirmed_so o b r table a at reading.Over t asks = absurd asks

    confirms_by_so : (o : Opening) (b : Backward) (r : Option ReadingState) (table : ℕ → Question) (a : Asked) → Stood o → scan.is_between r ≡ true
        → AsksReading table a o.ask r
        → Takes (scan.confirms_by o b r)
    unfolding rounds.on_confirmed
    confirms_by_so o b None table a at t asks = opening_begin_round_so o b at (inl none)
    confirms_by_so o b (Some r) table a at t asks = confirmed_so o b r table a at r.stage (is_not (is_asking r.stage) t) asks.stage
      where
        is_not : (x : Bool) → not x ≡ true → x ≡ false
        is_not true e = sym e
        is_not false e = refl

    picks_so : (o : Opening) (lists : List Listing) (start : Option End) → Stood o → Takes (scan.picks_at o lists start)
    picks_so o lists None at = anew o (Asks lists) at (λ t a registry. registry)
    picks_so o lists (Some start) at = opening_follow_so o (scan.backward_from start) at (inl none)

    opening_welcome_so : (o : Opening) (st : Stage) (least : ℕ) (table : ℕ → Question) (a : Asked) → Stood o → scan.awaits_welcome st ≡ true → AsksAt table a o.ask st
        → Takes (scan.opening_welcome o st least)
    unfolding scan.opening_pick scan.opening_confirm
    opening_welcome_so o Hails least table a at t asks = fences_go o [] (scan.awaited o.groups []) at (inl none)
    opening_welcome_so o (Gathers lists) least table a at t asks = contrary t
    opening_welcome_so o (Asks lists) least table a at t asks =
        picks_so (scan.opening_rise o least) lists (start_of o.groups lists (scan.opening_rise o least).low) (record { groups = at.groups; past = at.past; some = at.some })
    opening_welcome_so o (Reads b r) least table a at t asks =
        let p : Opening = scan.opening_rise o least in
        let there : Stood p = record { groups = at.groups; past = at.past; some = at.some } in
        by_test (λ (d : scan.Done). Takes d) (scan.is_bottom p.low b.next) (scan.goes p Over (scan.backward_told b ∷ [])) (scan.confirms_by p b r)
        (λ e. chain_so p b there (inl none)) (λ e. confirms_by_so p b r table a there t asks)
    opening_welcome_so o Over least table a at t asks = contrary t

    -- the answer that was awaited, by a scan that can ask further
    pub welcome_so : (o : Opening) (st : Stage) (ask : ℕ) (news : List SlotNews) (groups : GroupMapState) (table : ℕ → Question) (a : Asked)
        → k.maps.groups ≡ Some groups → 0 < o.ask
        → ask ≡ o.ask → scan.can_ask o ≡ true → scan.awaits_welcome st ≡ true → AsksAt table a o.ask st → Takes (scan.on_welcome o st ask news groups)
    unfolding scan.on_welcome
    welcome_so o st ask news groups table a known some fact can awaits asks =
        by_test (λ (d : scan.Done). Takes d) ((ask == o.ask) && (scan.can_ask o && scan.awaits_welcome st))
        (scan.opening_welcome (record o { groups = Some groups }) st (scan.least_horizon o.log.0 news)) (scan.stays o st)
        (λ t. opening_welcome_so (record o { groups = Some groups }) st (scan.least_horizon o.log.0 news) table a
        (record { groups = known; past = (let e = none in omega arith); some = some }) awaits asks)
        (λ t. absurd (taken_so (ask == o.ask) (scan.can_ask o) (scan.awaits_welcome st) (eq-eqb ask o.ask fact) can awaits t))
      where
        taken_so : (x y z : Bool) → x ≡ true → y ≡ true → z ≡ true → (x && (y && z)) ≡ false → ⊥
        taken_so true true true a b c t = contrary (sym t)
        taken_so true true false a b c t = contrary c
        taken_so true false z a b c t = contrary b
        taken_so false y z a b c t = contrary a
