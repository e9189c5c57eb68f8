-- What each input makes of the reading back of a log: all that is read is of the log, and the horizon below which nothing is read is above nothing but what was
-- filed, where the maps that come tell so.
use Rattle.std.proofs.Common.{◌≡◌, ℕ, ◌+◌, ◌≤◌, suc, ◌&&◌, List, [], ◌∷◌, ◌++◌, map, Option, Some, None, sym, ap, ◌∙◌, subst, arith}
use Rattle.std.specs.Prelude.{◌==◌, reverse, length, IfSome}
use Rattle.std.specs.List.{AllByRecursion}
use Rattle.std.proofs.lemmas.List.{reverse-append}
use Rattle.group_map.specs.declared.group.Group.{Group}
use Rattle.group_map.specs.GroupMapState.{GroupMapState}
use Rattle.segment_reading.specs.declared.reading.Next.{Next}
use Rattle.segment_reading.specs.declared.reading.Next.TheVariants as next
use Rattle.segment_reading.specs.Reading.{ReadingState, is_asking, reading_unanswered, reading_take, on_confirmed}
use Rattle.segment_reading.specs.Reading as reading
use Rattle.stripe_code.specs.declared.round.Told.{Told}
use Rattle.xfs_base.specs.declared.news.SlotNews.{SlotNews}
use Rattle.xfs_base.specs.declared.segment.End.{End}
use Rattle.xfs_base.specs.declared.segment.SegName.{SegName}
use Rattle.xfs_base.proofs.Booleans.{by_test}
use Rattle.xfs_base.proofs.Alls.{all_append}
use Rattle.log_scan.specs.declared.input.In.{In}
use Rattle.log_scan.specs.declared.input.In.TheVariants.{Welcome, Fenced, Got, Missing, Maps, Tick}
use Rattle.log_scan.specs.declared.listing.Listing.{Listing}
use Rattle.log_scan.specs.declared.opening.Opening.{Opening}
use Rattle.log_scan.specs.declared.output.Out.{Out}
use Rattle.log_scan.specs.declared.output.Out.TheVariants as out
use Rattle.log_scan.specs.declared.stage.Backward.{Backward}
use Rattle.log_scan.specs.declared.stage.Stage.{Stage}
use Rattle.log_scan.specs.declared.stage.Stage.TheVariants.{Hails, Gathers, Asks, Reads, Over}
use Rattle.log_scan.specs.Pick.{known_group, start_of}
use Rattle.log_scan.specs.ScanState.{ScanState}
use Rattle.log_scan.specs.Transition.{Done, goes, stays, can_ask, asks_anew, least_horizon, opening_rise, target_at, is_bottom, backward_from, backward_with, backward_told, backward_fetch, begins_in, opening_begin_round, opening_follow, opening_go_on, awaits_welcome, awaits, awaited, fences, picks_at, opening_pick, confirms_by, opening_confirm, opening_welcome, on_welcome, with_list, on_fenced, opening_read, opening_hear, on_told, opening_read_again, on_tick, opening_take, transition}
use Rattle.log_scan.proofs.Targets.{ReadsName, KeepsTarget, answered_keeps, confirmed_keeps}
use Rattle.node_tellings.specs.filed_tie.OpeningReach.{AreOfLog, ReadsLog, ScanReaches}
use Rattle.node_tellings.specs.filed_tie.Reach.{Reach, SlotsReach}
use Rattle.node_tellings.proofs.filed_tie.Rising.{least_low}

all_reverse : {X : Type 0} (P : X → Type 0) (xs : List X) → AllByRecursion P xs → AllByRecursion P (reverse xs)
all_reverse P [] all = tt
all_reverse P (x ∷ xs) all =
    subst (AllByRecursion P) (sym (reverse-append (x ∷ []) xs)) (all_append P (reverse xs) (x ∷ []) (all_reverse P xs all.1) (all.0, tt))

-- a chain that is told is of the log
abbrev pub ChainTells : ℕ → Out → Type 0
ChainTells log (out.Chain segments end prior) = AreOfLog log segments
ChainTells log _ = Unit {0}

module _ (reach : Reach) (log : ℕ) where
  record IsOpening (o : Opening) : Type 0 where
    own : o.log.0 ≡ log
    low : 1 ≤ log → o.low ≤ suc (reach log)

  record Keeps (d : Done) : Type 0 where
    opening : IsOpening d.state.opening
    stage : ReadsLog log d.state.stage
    outs : AllByRecursion (ChainTells log) d.outs

  -- what it looks for is of the log
  abbrev LooksFor : Option ReadingState → Type 0
  LooksFor r = IfSome r (λ x. x.target.seg.name.log.0 ≡ log)

  fetches_tell : (name : SegName) (ask : ℕ) (servers : List ℕ) → AllByRecursion (ChainTells log) (map (λ server. out.Fetch server name ask) servers)
  fetches_tell name ask [] = tt
  fetches_tell name ask (s ∷ ss) = (tt, fetches_tell name ask ss)

  fences_tell : (servers : List ℕ) → AllByRecursion (ChainTells log) (fences servers)
  fences_tell [] = tt
  fences_tell (s ∷ ss) = (tt, fences_tell ss)

  module _ (o : Opening) (fact : IsOpening o) where
    keeps_stay : (stage : Stage) → ReadsLog log stage → Keeps (stays o stage)
    keeps_stay stage st = record { opening = fact; stage = st; outs = tt }

    keeps_anew : (stage : Stage) → ReadsLog log stage → Keeps (asks_anew o stage)
    keeps_anew stage st = record { opening = record { own = fact.own; low = fact.low }; stage = st; outs = (tt, tt) }

    keeps_chain : (b : Backward) → AreOfLog log b.chain → Keeps (goes o Over (backward_told b ∷ []))
    keeps_chain b so = record { opening = fact; stage = tt; outs = (all_reverse (λ s. s.name.log.0 ≡ log) b.chain so, tt) }

    keeps_begins_in : (b : Backward) (g : Option Group) → AreOfLog log b.chain → Keeps (begins_in o b g)
    keeps_begins_in b None so = keeps_anew (Reads b None) (so, tt)
    keeps_begins_in b (Some g) so =
        let r = reading.reading_start (target_at o.log b.next) g (o.ask + 1) in
        record { opening = record { own = fact.own; low = fact.low }; stage = (so, fact.own); outs = fetches_tell r.target.seg.name r.ask (reading_unanswered r) }

    keeps_begins : (b : Backward) → AreOfLog log b.chain → Keeps (opening_begin_round o b)
    unfolding opening_begin_round
    keeps_begins b so = keeps_begins_in b (known_group o.groups b.next.group) so

    keeps_follows : (b : Backward) → AreOfLog log b.chain → Keeps (opening_follow o b)
    unfolding opening_follow
    keeps_follows b so =
        by_test (λ (d : Done). Keeps d) (is_bottom o.low b.next) (goes o Over (backward_told b ∷ [])) (opening_begin_round o b) (λ t. keeps_chain b so)
        (λ t. keeps_begins b so)

    keeps_goes_on : (b : Backward) (r : ReadingState) (n : Next) → AreOfLog log b.chain → LooksFor (Some r) → ReadsName r.target.seg.name n
        → Keeps (opening_go_on o b r n)
    unfolding opening_go_on
    keeps_goes_on b r next.Wait so looks name = keeps_stay (Reads b (Some r)) (so, looks)
    keeps_goes_on b r next.Ask so looks name =
        record { opening = record { own = fact.own; low = fact.low }; stage = (so, looks); outs = fetches_tell r.target.seg.name r.ask (reading_unanswered r) }
    keeps_goes_on b r next.Again so looks name = keeps_anew (Reads b (Some r)) (so, looks)
    keeps_goes_on b r (next.Read s) so looks name =
        keeps_follows (backward_with b s) (all_append (λ x. x.name.log.0 ≡ log) b.chain (s ∷ []) so (ap (λ (n : SegName). n.log.0) name ∙ looks, tt))
    keeps_goes_on b r next.Lost so looks name = record { opening = fact; stage = tt; outs = (tt, tt) }

    keeps_step : (b : Backward) (r : ReadingState) (step : reading.Step) → AreOfLog log b.chain → LooksFor (Some r) → KeepsTarget r step
        → Keeps (opening_go_on o b step.state step.next)
    keeps_step b r step so looks k =
        keeps_goes_on b step.state step.next so (ap (λ t. t.seg.name.log.0) k.same ∙ looks) (subst (λ t. ReadsName t.seg.name step.next) (sym k.same) k.name)

    keeps_confirms_by : (b : Backward) (r : Option ReadingState) → AreOfLog log b.chain → LooksFor r → Keeps (confirms_by o b r)
    keeps_confirms_by b None so looks = keeps_begins b so
    keeps_confirms_by b (Some r) so looks = keeps_step b r (on_confirmed r (o.ask + 1)) so looks (confirmed_keeps r (o.ask + 1))

    keeps_confirms : (b : Backward) (r : Option ReadingState) → AreOfLog log b.chain → LooksFor r → Keeps (opening_confirm o b r)
    unfolding opening_confirm
    keeps_confirms b r so looks =
        by_test (λ (d : Done). Keeps d) (is_bottom o.low b.next) (goes o Over (backward_told b ∷ [])) (confirms_by o b r) (λ t. keeps_chain b so)
        (λ t. keeps_confirms_by b r so looks)

    keeps_picks_at : (lists : List Listing) (e : Option End) → Keeps (picks_at o lists e)
    keeps_picks_at lists None = keeps_anew (Asks lists) tt
    keeps_picks_at lists (Some e) = keeps_follows (backward_from e) tt

    keeps_picks : (lists : List Listing) → Keeps (opening_pick o lists)
    unfolding opening_pick
    keeps_picks lists = keeps_picks_at lists (start_of o.groups lists o.low)

  -- ---- a Welcome

  IsLow : ℕ → Type 0
  IsLow least = 1 ≤ log → least ≤ suc (reach log)

  risen : (o : Opening) (least : ℕ) → IsOpening o → IsLow least → IsOpening (opening_rise o least)
  unfolding IsLow
  risen o least fact low = record { own = fact.own; low = λ some. (let a = fact.low some in let b = low some in omega (arith, a, b)) }

  keeps_welcomed : (o : Opening) (stage : Stage) (least : ℕ) → IsOpening o → IsLow least → ReadsLog log stage → Keeps (opening_welcome o stage least)
  keeps_welcomed o Hails least fact low st = record { opening = fact; stage = tt; outs = fences_tell (awaited o.groups []) }
  keeps_welcomed o (Gathers lists) least fact low st = keeps_stay o fact (Gathers lists) tt
  keeps_welcomed o (Asks lists) least fact low st = keeps_picks (opening_rise o least) (risen o least fact low) lists
  keeps_welcomed o (Reads b r) least fact low st = keeps_confirms (opening_rise o least) (risen o least fact low) b r st.0 st.1
  keeps_welcomed o Over least fact low st = keeps_stay o fact Over tt

  -- maps of some slots that tell so
  abbrev pub NewsReach : List SlotNews → Type 0
  NewsReach slots = (1 ≤ length slots) × SlotsReach reach slots

  least_is_low : (o : Opening) (slots : List SlotNews) → IsOpening o → NewsReach slots → IsLow (least_horizon o.log.0 slots)
  unfolding IsLow
  least_is_low o slots fact news some =
      subst (λ (l : ℕ). least_horizon l slots ≤ suc (reach log)) (sym fact.own) (least_low reach log slots some news.0 news.1)

  keeps_on_welcome : (o : Opening) (stage : Stage) (ask : ℕ) (slots : List SlotNews) (groups : GroupMapState) → IsOpening o → NewsReach slots
      → ReadsLog log stage → Keeps (on_welcome o stage ask slots groups)
  unfolding on_welcome
  keeps_on_welcome o stage ask slots groups fact news st =
      let p : Opening = record o { groups = Some groups } in
      let least : ℕ = least_horizon o.log.0 slots in
      by_test (λ (d : Done). Keeps d) ((ask == o.ask) && (can_ask o && awaits_welcome stage)) (opening_welcome p stage least) (stays o stage)
      (λ t. keeps_welcomed p stage least (record { own = fact.own; low = fact.low }) (least_is_low o slots fact news) st) (λ t. keeps_stay o fact stage st)

  -- ---- the other inputs

  keeps_with_list : (o : Opening) (lists : List Listing) → IsOpening o → Keeps (with_list o lists)
  unfolding with_list
  keeps_with_list o lists fact =
      by_test (λ (d : Done). Keeps d) (length (awaited o.groups lists) == 0) (asks_anew o (Asks lists)) (stays o (Gathers lists))
      (λ t. keeps_anew o fact (Asks lists) tt) (λ t. keeps_stay o fact (Gathers lists) tt)

  keeps_on_fenced : (o : Opening) (stage : Stage) (l : Listing) → IsOpening o → ReadsLog log stage → Keeps (on_fenced o stage l)
  unfolding on_fenced
  keeps_on_fenced o Hails l fact st = keeps_stay o fact Hails tt
  keeps_on_fenced o (Gathers lists) l fact st =
      by_test (λ (d : Done). Keeps d) (can_ask o && awaits o.groups lists l.server) (with_list o (lists ++ l ∷ [])) (stays o (Gathers lists))
      (λ t. keeps_with_list o (lists ++ l ∷ []) fact) (λ t. keeps_stay o fact (Gathers lists) tt)
  keeps_on_fenced o (Asks lists) l fact st = keeps_stay o fact (Asks lists) tt
  keeps_on_fenced o (Reads b r) l fact st = keeps_stay o fact (Reads b r) st
  keeps_on_fenced o Over l fact st = keeps_stay o fact Over tt

  keeps_heard_with : (o : Opening) (b : Backward) (r : ReadingState) (groups : Option GroupMapState) (ask server : ℕ) (t : Told) → IsOpening o
      → AreOfLog log b.chain
      → LooksFor (Some r) → Keeps (opening_read o b r groups ask server t)
  keeps_heard_with o b r None ask server t fact so looks = keeps_stay o fact (Reads b (Some r)) (so, looks)
  keeps_heard_with o b r (Some groups) ask server t fact so looks =
      keeps_step o fact b r (reading_take r groups ask server t) so looks (answered_keeps r groups ask server t)

  keeps_heard : (o : Opening) (b : Backward) (r : Option ReadingState) (ask server : ℕ) (t : Told) → IsOpening o → AreOfLog log b.chain → LooksFor r
      → Keeps (opening_hear o b r ask server t)
  keeps_heard o b None ask server t fact so looks = keeps_stay o fact (Reads b None) (so, looks)
  keeps_heard o b (Some r) ask server t fact so looks =
      by_test (λ (d : Done). Keeps d) (can_ask o) (opening_read o b r o.groups ask server t) (stays o (Reads b (Some r)))
      (λ e. keeps_heard_with o b r o.groups ask server t fact so looks) (λ e. keeps_stay o fact (Reads b (Some r)) (so, looks))

  keeps_on_told : (o : Opening) (stage : Stage) (ask server : ℕ) (t : Told) → IsOpening o → ReadsLog log stage → Keeps (on_told o stage ask server t)
  unfolding on_told
  keeps_on_told o Hails ask server t fact st = keeps_stay o fact Hails tt
  keeps_on_told o (Gathers lists) ask server t fact st = keeps_stay o fact (Gathers lists) tt
  keeps_on_told o (Asks lists) ask server t fact st = keeps_stay o fact (Asks lists) tt
  keeps_on_told o (Reads b r) ask server t fact st = keeps_heard o b r ask server t fact st.0 st.1
  keeps_on_told o Over ask server t fact st = keeps_stay o fact Over tt

  again_tells : (o : Opening) (r : Option ReadingState) → AllByRecursion (ChainTells log) (opening_read_again o r)
  again_tells o None = (tt, tt)
  again_tells o (Some r) =
      by_test (AllByRecursion (ChainTells log)) (is_asking r.stage) (backward_fetch r) (out.Hello o.ask ∷ []) (λ t. fetches_tell r.target.seg.name r.ask (reading_unanswered r))
      (λ t. (tt, tt))

  tick_tells : (o : Opening) (stage : Stage) → AllByRecursion (ChainTells log) (on_tick o stage)
  unfolding on_tick
  tick_tells o Hails = (tt, tt)
  tick_tells o (Gathers lists) = fences_tell (awaited o.groups lists)
  tick_tells o (Asks lists) = (tt, tt)
  tick_tells o (Reads b r) = again_tells o r
  tick_tells o Over = tt

  -- what an input tells of horizons
  abbrev pub InputTells : In → Type 0
  InputTells (Welcome ask news groups) = NewsReach news
  InputTells _ = Unit {0}

  keeps_takes : (o : Opening) (stage : Stage) (input : In) → IsOpening o → ReadsLog log stage → InputTells input → Keeps (opening_take o stage input)
  keeps_takes o stage (Welcome ask news groups) fact st tells = keeps_on_welcome o stage ask news groups fact tells st
  keeps_takes o stage (Fenced server generation held) fact st tells =
      keeps_on_fenced o stage (record { server = server; generation = generation; held = held }) fact st
  keeps_takes o stage (Got ask server generation fragment) fact st tells = keeps_on_told o stage ask server _ fact st
  keeps_takes o stage (Missing ask server generation) fact st tells = keeps_on_told o stage ask server _ fact st
  keeps_takes o stage (Maps groups) fact st tells = record { opening = record { own = fact.own; low = fact.low }; stage = st; outs = tt }
  keeps_takes o stage Tick fact st tells = record { opening = fact; stage = st; outs = tick_tells o stage }

  pub record ScanKeeps (d : Done) : Type 0 where
    pub state : ScanReaches reach log d.state
    pub outs : AllByRecursion (ChainTells log) d.outs

  pub scan_keeps : (s : ScanState) (input : In) → ScanReaches reach log s → InputTells input → ScanKeeps (transition s input)
  scan_keeps s input h tells =
      let k : Keeps (transition s input) = keeps_takes s.opening s.stage input (record { own = h.own; low = h.low }) h.chain tells in
      record { state = record { own = k.opening.own; low = k.opening.low; chain = k.stage }; outs = k.outs }
