-- What a step of a scan asks servers for: the segment that it reads then, by the question of its round; and that is the one that it read before, or a later
-- one.
use Rattle.std.proofs.Common.{◌≡◌, ℕ, ◌+◌, ◌<◌, ◌⊎◌, ◌==◌, ◌&&◌, List, [], ◌∷◌, ◌++◌, map, length, Option, Some, None, refl, inl, inr, arith}
use Rattle.std.specs.List.{AllByRecursion}
use Rattle.xfs_base.proofs.Booleans.{by_test}
use Rattle.xfs_base.specs.declared.news.SlotNews.{SlotNews}
use Rattle.xfs_base.specs.declared.segment.End.{End}
use Rattle.xfs_base.specs.declared.segment.SegName.{SegName}
use Rattle.segment_format.specs.declared.segment.Segment.{Segment}
use Rattle.segment_format.specs.ReadingItems.{answer_of}
use Rattle.group_map.specs.declared.group.Group.{Group}
use Rattle.group_map.specs.GroupMapState.{GroupMapState}
use Rattle.segment_reading.specs.declared.reading.Next.TheVariants as next
use Rattle.segment_reading.specs.declared.reading.Stage as readings
use Rattle.segment_reading.specs.declared.reading.Stage.TheVariants as reading
use Rattle.segment_reading.specs.Reading.{ReadingState, Step, is_asking, reading_unanswered, segment_found, counts, ends, reading_reads, reading_judge, reading_take, on_confirmed}
use Rattle.segment_reading.specs.Reading as rounds
use Rattle.stripe_code.specs.declared.round.RoundState.{RoundState}
use Rattle.stripe_code.specs.declared.round.RoundState.TheVariants as round
use Rattle.stripe_code.specs.declared.round.Told.{Told}
use Rattle.stripe_code.specs.declared.round.Told.TheVariants as told
use Rattle.stripe_code.specs.Round.{round_take, state_of}
use Rattle.log_scan.specs.declared.input.In.{In}
use Rattle.log_scan.specs.declared.input.In.TheVariants as input
use Rattle.log_scan.specs.declared.listing.Listing.{Listing}
use Rattle.log_scan.specs.declared.opening.Opening.{Opening}
use Rattle.log_scan.specs.declared.output.Out.{Out}
use Rattle.log_scan.specs.declared.output.Out.TheVariants.{Hello, Fence, Fetch, Chain, Lost}
use Rattle.log_scan.specs.declared.stage.Backward.{Backward}
use Rattle.log_scan.specs.declared.stage.Stage.{Stage}
use Rattle.log_scan.specs.declared.stage.Stage.TheVariants.{Hails, Gathers, Asks, Reads, Over}
use Rattle.log_scan.specs.Pick.{known_group, start_of}
use Rattle.log_scan.specs.ScanState.{ScanState}
use Rattle.log_scan.specs.Transition as scan
use Rattle.log_scan.specs.Transition.{Done, goes, stays, can_ask}

-- ---- what is asked

-- a segment is read under this name and by this question
abbrev ReadingFor : Option ReadingState → SegName → ℕ → Type 0
ReadingFor None name own = ⊥
ReadingFor (Some r) name own = (name ≡ r.target.seg.name) × (own ≡ r.ask)

abbrev pub ReadFor : Stage → SegName → ℕ → Type 0
ReadFor Hails name own = ⊥
ReadFor (Gathers lists) name own = ⊥
ReadFor (Asks lists) name own = ⊥
ReadFor (Reads b r) name own = ReadingFor r name own
ReadFor Over name own = ⊥

abbrev pub FetchOf : Stage → Out → Type 0
FetchOf st (Hello own) = Unit {0}
FetchOf st (Fence server) = Unit {0}
FetchOf st (Fetch server name own) = ReadFor st name own
FetchOf st (Chain segments end prior) = Unit {0}
FetchOf st (Lost name) = Unit {0}

-- it is the same reading as before
abbrev SameAs : Option ReadingState → ReadingState → Type 0
SameAs None later = ⊥
SameAs (Some r) later = (later.ask ≡ r.ask) × (later.target ≡ r.target)

abbrev pub ReadBefore : Stage → ReadingState → Type 0
ReadBefore Hails later = ⊥
ReadBefore (Gathers lists) later = ⊥
ReadBefore (Asks lists) later = ⊥
ReadBefore (Reads b r) later = SameAs r later
ReadBefore Over later = ⊥

abbrev ReadsMore : ℕ → Stage → Option ReadingState → Type 0
ReadsMore ask before None = Unit {0}
ReadsMore ask before (Some r) = (ask < r.ask) ⊎ ReadBefore before r

-- or one by a question that is drawn now
abbrev pub ReadsOn : ℕ → Stage → Stage → Type 0
ReadsOn ask before Hails = Unit {0}
ReadsOn ask before (Gathers lists) = Unit {0}
ReadsOn ask before (Asks lists) = Unit {0}
ReadsOn ask before (Reads b r) = ReadsMore ask before r
ReadsOn ask before Over = Unit {0}

pub record AsksFor (ask : ℕ) (before : Stage) (d : Done) : Type 0 where
  pub fetches : AllByRecursion (FetchOf d.state.stage) d.outs
  pub reads : ReadsOn ask before d.state.stage

-- ---- readings

fetches_so : (b : Backward) (r : ReadingState) (servers : List ℕ)
    → AllByRecursion (FetchOf (Reads b (Some r))) (map (λ server. Fetch server r.target.seg.name r.ask) servers)
fetches_so b r [] = tt
fetches_so b r (s ∷ ss) = ((refl, refl), fetches_so b r ss)

fences_so : (st : Stage) (servers : List ℕ) → AllByRecursion (FetchOf st) (map (λ server. Fence server) servers)
fences_so st [] = tt
fences_so st (s ∷ ss) = (tt, fences_so st ss)

same_read : (ask : ℕ) (b : Backward) (r : Option ReadingState) → ReadsMore ask (Reads b r) r
same_read ask b None = tt
same_read ask b (Some r) = inr (refl, refl)

same_stage : (ask : ℕ) (st : Stage) → ReadsOn ask st st
same_stage ask Hails = tt
same_stage ask (Gathers lists) = tt
same_stage ask (Asks lists) = tt
same_stage ask (Reads b r) = same_read ask b r
same_stage ask Over = tt

rests : (o : Opening) (st : Stage) → AsksFor o.ask st (stays o st)
rests o st = record { fetches = tt; reads = same_stage o.ask st }

module _ (before : Stage) where
  anew : (o : Opening) (st : Stage) → ReadsOn o.ask before st → AsksFor o.ask before (scan.asks_anew o st)
  anew o st reads = record { fetches = (tt, tt); reads = reads }

  round_begins : (o : Opening) (b : Backward) (r : ReadingState) → o.ask < r.ask
      → AsksFor o.ask before (goes (record o { ask = o.ask + 1 }) (Reads b (Some r)) (scan.backward_fetch r))
  round_begins o b r less = record { fetches = fetches_so b r (reading_unanswered r); reads = inl less }

  begins_in_so : (o : Opening) (b : Backward) (group : Option Group) → AsksFor o.ask before (scan.begins_in o b group)
  begins_in_so o b None = anew o (Reads b None) tt
  begins_in_so o b (Some group) = round_begins o b (rounds.reading_start (scan.target_at o.log b.next) group (o.ask + 1)) (omega arith)

  over_so : (o : Opening) (out : Out) → FetchOf Over out → AsksFor o.ask before (goes o Over (out ∷ []))
  over_so o out fact = record { fetches = (fact, tt); reads = tt }

  opening_follow_so : (o : Opening) (b : Backward) → AsksFor o.ask before (scan.opening_follow o b)
  unfolding scan.opening_follow scan.opening_begin_round
  opening_follow_so o b =
      by_test (AsksFor o.ask before) (scan.is_bottom o.low b.next) (goes o Over (scan.backward_told b ∷ []))
      (scan.begins_in o b (known_group o.groups b.next.group))
      (λ t. over_so o (scan.backward_told b) tt) (λ t. begins_in_so o b (known_group o.groups b.next.group))

  picks_so : (o : Opening) (lists : List Listing) (start : Option End) → AsksFor o.ask before (scan.picks_at o lists start)
  picks_so o lists None = anew o (Asks lists) tt
  picks_so o lists (Some start) = opening_follow_so o (scan.backward_from start)

-- ---- an answer

module _ (o : Opening) (b : Backward) (first : ReadingState) where
  abbrev On : Done → Type 0
  On d = AsksFor o.ask (Reads b (Some first)) d

  -- a reading of the same segment by the same question
  record Like (r : ReadingState) : Type 0 where
    ask : r.ask ≡ first.ask
    target : r.target ≡ first.target

  waits : (r : ReadingState) → Like r → On (stays o (Reads b (Some r)))
  waits r like = record { fetches = tt; reads = inr (like.ask, like.target) }

  ends_so : (r : ReadingState) → Like r → (pairs : List (ℕ × ℕ)) → On (scan.opening_go_on o b (ends r pairs).state next.Again)
  unfolding scan.opening_go_on
  ends_so r like pairs = anew (Reads b (Some first)) o (Reads b (Some (ends r pairs).state)) (inr (like.ask, like.target))

  read_so : (r : ReadingState) → Like r → (found : Option Segment) → On (scan.opening_go_on o b (reading_reads r found).state (reading_reads r found).next)
  unfolding scan.opening_go_on
  read_so r like (Some segment) = opening_follow_so (Reads b (Some first)) o (scan.backward_with b segment)
  read_so r like None = ends_so r like []

  reading_judge_so : (r : ReadingState) → Like r → (groups : GroupMapState) (x : RoundState)
      → On (scan.opening_go_on o b (reading_judge r groups x).state (reading_judge r groups x).next)
  unfolding scan.opening_go_on
  reading_judge_so r like groups (round.Read bytes) = read_so r like (segment_found r.target groups (answer_of bytes))
  reading_judge_so r like groups (round.Short pairs) = ends_so r like pairs
  reading_judge_so r like groups round.Waiting = waits r like

  answer_so : (m : Option GroupMapState) (ask server : ℕ) (t : Told) → On (scan.opening_read o b first m ask server t)
  unfolding reading_take scan.opening_go_on
  answer_so None ask server t = waits first (record { ask = refl; target = refl })
  answer_so (Some groups) ask server t =
      let now : ReadingState = record first { round = round_take first.round server t } in
      by_test (λ (x : Step). On (scan.opening_go_on o b x.state x.next)) (counts first ask server t) (reading_judge now groups (state_of now.round))
      (record { state = first; next = next.Wait })
      (λ e. reading_judge_so now (record { ask = refl; target = refl }) groups (state_of now.round))
      (λ e. waits first (record { ask = refl; target = refl }))

  -- the question of the reader is answered
  confirmed_so : (p : Opening) → p.ask ≡ o.ask → (at : readings.Stage)
      → AsksFor p.ask (Reads b (Some first)) (scan.opening_go_on p b (rounds.goes_on first (p.ask + 1) at).state (rounds.goes_on first (p.ask + 1) at).next)
  unfolding scan.opening_go_on
  confirmed_so p same reading.Asking = record { fetches = tt; reads = inr (refl, refl) }
  confirmed_so p same reading.Between =
      round_begins (Reads b (Some first)) p b (rounds.goes_on first (p.ask + 1) reading.Between).state (omega arith)
  confirmed_so p same reading.Doubted = record { fetches = (tt, tt); reads = tt }
  confirmed_so p same reading.Over = record { fetches = tt; reads = inr (refl, refl) }

opening_hear_so : (o : Opening) (b : Backward) (r : Option ReadingState) (ask server : ℕ) (t : Told) → AsksFor o.ask (Reads b r) (scan.opening_hear o b r ask server t)
opening_hear_so o b None ask server t = rests o (Reads b None)
opening_hear_so o b (Some r) ask server t =
    by_test (AsksFor o.ask (Reads b (Some r))) (can_ask o) (scan.opening_read o b r o.groups ask server t) (stays o (Reads b (Some r)))
    (λ e. answer_so o b r o.groups ask server t) (λ e. rests o (Reads b (Some r)))

told_so : (o : Opening) (st : Stage) (ask server : ℕ) (t : Told) → AsksFor o.ask st (scan.on_told o st ask server t)
unfolding scan.on_told
told_so o Hails ask server t = rests o Hails
told_so o (Gathers lists) ask server t = rests o (Gathers lists)
told_so o (Asks lists) ask server t = rests o (Asks lists)
told_so o (Reads b r) ask server t = opening_hear_so o b r ask server t
told_so o Over ask server t = rests o Over

-- ---- a list

fenced_so : (o : Opening) (st : Stage) (l : Listing) → AsksFor o.ask st (scan.on_fenced o st l)
unfolding scan.on_fenced scan.with_list
fenced_so o Hails l = rests o Hails
fenced_so o (Gathers lists) l =
    let more : List Listing = lists ++ l ∷ [] in
    by_test (AsksFor o.ask (Gathers lists)) (can_ask o && scan.awaits o.groups lists l.server) (scan.with_list o more) (stays o (Gathers lists))
    (λ e. by_test (AsksFor o.ask (Gathers lists)) (length (scan.awaited o.groups more) == 0) (scan.asks_anew o (Asks more)) (stays o (Gathers more))
    (λ k. anew (Gathers lists) o (Asks more) tt)
    (λ k. record { fetches = tt; reads = tt }))
    (λ e. rests o (Gathers lists))
fenced_so o (Asks lists) l = rests o (Asks lists)
fenced_so o (Reads b r) l = rests o (Reads b r)
fenced_so o Over l = rests o Over

-- ---- time

again_so : (o : Opening) (b : Backward) (r : Option ReadingState) → AllByRecursion (FetchOf (Reads b r)) (scan.opening_read_again o r)
again_so o b None = (tt, tt)
again_so o b (Some r) =
    by_test (AllByRecursion (FetchOf (Reads b (Some r)))) (is_asking r.stage) (scan.backward_fetch r) (Hello o.ask ∷ []) (λ t. fetches_so b r (reading_unanswered r))
    (λ t. (tt, tt))

tick_so : (o : Opening) (st : Stage) → AllByRecursion (FetchOf st) (scan.on_tick o st)
unfolding scan.on_tick
tick_so o Hails = (tt, tt)
tick_so o (Gathers lists) = fences_so (Gathers lists) (scan.awaited o.groups lists)
tick_so o (Asks lists) = (tt, tt)
tick_so o (Reads b r) = again_so o b r
tick_so o Over = tt

-- ---- a Welcome

confirms_so : (o : Opening) (b : Backward) (r : Option ReadingState) → AsksFor o.ask (Reads b r) (scan.confirms_by o b r)
unfolding on_confirmed scan.opening_begin_round
confirms_so o b None = begins_in_so (Reads b None) o b (known_group o.groups b.next.group)
confirms_so o b (Some r) = confirmed_so o b r o refl r.stage

opening_welcome_so : (o : Opening) (st : Stage) (least : ℕ) → AsksFor o.ask st (scan.opening_welcome o st least)
unfolding scan.opening_pick scan.opening_confirm
opening_welcome_so o Hails least = record { fetches = fences_so (Gathers []) (scan.awaited o.groups []); reads = tt }
opening_welcome_so o (Gathers lists) least = rests o (Gathers lists)
opening_welcome_so o (Asks lists) least =
    picks_so (Asks lists) (scan.opening_rise o least) lists (start_of o.groups lists (scan.opening_rise o least).low)
opening_welcome_so o (Reads b r) least =
    let p : Opening = scan.opening_rise o least in
    by_test (AsksFor o.ask (Reads b r)) (scan.is_bottom p.low b.next) (goes p Over (scan.backward_told b ∷ [])) (scan.confirms_by p b r)
    (λ e. over_so (Reads b r) p (scan.backward_told b) tt) (λ e. confirms_so p b r)
opening_welcome_so o Over least = rests o Over

welcome_so : (o : Opening) (st : Stage) (ask : ℕ) (news : List SlotNews) (m : GroupMapState) → AsksFor o.ask st (scan.on_welcome o st ask news m)
unfolding scan.on_welcome
welcome_so o st ask news m =
    by_test (AsksFor o.ask st) ((ask == o.ask) && (can_ask o && scan.awaits_welcome st))
    (scan.opening_welcome (record o { groups = Some m }) st (scan.least_horizon o.log.0 news)) (stays o st)
    (λ t. opening_welcome_so (record o { groups = Some m }) st (scan.least_horizon o.log.0 news)) (λ t. rests o st)

-- ---- all inputs

step_so : (o : Opening) (st : Stage) (i : In) → AsksFor o.ask st (scan.opening_take o st i)
step_so o st (input.Welcome ask news groups) = welcome_so o st ask news groups
step_so o st (input.Fenced server generation held) = fenced_so o st (record { server = server; generation = generation; held = held })
step_so o st (input.Got ask server generation fragment) = told_so o st ask server (told.Held fragment)
step_so o st (input.Missing ask server generation) = told_so o st ask server (told.Missing generation)
step_so o st (input.Maps groups) = record { fetches = tt; reads = same_stage o.ask st }
step_so o st input.Tick = record { fetches = tick_so o st; reads = same_stage o.ask st }

pub asks_for : (s : ScanState) (i : In) → AsksFor s.opening.ask s.stage (scan.transition s i)
asks_for s i = step_so s.opening s.stage i
