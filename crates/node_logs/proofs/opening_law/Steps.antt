-- What a step of a scan asks: by its last question or an earlier one, or by the next; where it waits in vain it asks nothing.
use Rattle.std.proofs.Common.{⊎_elim, ◌≡◌, ◌≤◌, ◌⊎◌, ℕ, ◌+◌, ◌==◌, ◌&&◌, not, Bool, true, false, cond, List, [], ◌∷◌, ◌++◌, map, length, Option, Some, None, refl, ap, subst, ◌∙◌, inl, inr, arith}
use Rattle.std.specs.List.{AllByRecursion, list_any}
use Rattle.xfs_base.proofs.Booleans.{by_test, and_first, and_second, contrary}
use Rattle.xfs_base.specs.declared.news.SlotNews.{SlotNews}
use Rattle.xfs_base.specs.declared.segment.End.{End}
use Rattle.segment_format.specs.declared.segment.Segment.{Segment}
use Rattle.segment_format.specs.ReadingItems.{answer_of}
use Rattle.group_map.specs.declared.group.Group.{Group}
use Rattle.group_map.specs.GroupMapState.{GroupMapState}
use Rattle.segment_reading.specs.declared.reading.Next.TheVariants as next
use Rattle.segment_reading.specs.declared.reading.Stage as readings
use Rattle.segment_reading.specs.declared.reading.Stage.TheVariants as reading
use Rattle.segment_reading.specs.declared.target.Target.{Target}
use Rattle.segment_reading.specs.Reading.{ReadingState, Step, is_asking, reading_unanswered, name_fits, segment_found, counts, ends, reading_reads, reading_judge, reading_take, on_confirmed}
use Rattle.segment_reading.specs.Reading as rounds
use Rattle.stripe_code.specs.declared.round.RoundState.{RoundState}
use Rattle.stripe_code.specs.declared.round.RoundState.TheVariants as round
use Rattle.stripe_code.specs.declared.round.Told.{Told}
use Rattle.stripe_code.specs.declared.round.Told.TheVariants as told
use Rattle.stripe_code.specs.Round.{asks as round_asks, round_take, state_of, told_fits, unanswered}
use Rattle.log_scan.specs.declared.input.In.{In}
use Rattle.log_scan.specs.declared.input.In.TheVariants as input
use Rattle.log_scan.specs.declared.listing.Listing.{Listing}
use Rattle.log_scan.specs.declared.opening.Opening.{Opening}
use Rattle.log_scan.specs.declared.output.Out.{Out}
use Rattle.log_scan.specs.declared.output.Out.TheVariants.{Hello, Fence, Fetch, Chain, Lost}
use Rattle.log_scan.specs.declared.stage.Backward.{Backward}
use Rattle.log_scan.specs.declared.stage.Stage.{Stage}
use Rattle.log_scan.specs.declared.stage.Stage.TheVariants.{Hails, Gathers, Asks, Reads, Over}
use Rattle.log_scan.specs.Pick.{known_group, start_of}
use Rattle.log_scan.specs.Transition as scan
use Rattle.log_scan.specs.Transition.{Done, goes, stays, can_ask}
use Rattle.node_logs.specs.opening_law.Questions.{WaitsInVain, PastReading, PastStage, GroupsAfter}

-- ---- what is asked

-- by no later question than this
abbrev pub UpTo : ℕ → Out → Type 0
UpTo limit (Hello own) = own ≤ limit
UpTo limit (Fetch server name own) = own ≤ limit
UpTo limit _ = Unit {0}

-- the first thing that is said is asked by this question
abbrev pub AsksBy : ℕ → List Out → Type 0
AsksBy limit [] = ⊥
AsksBy limit (Hello own ∷ outs) = own ≡ limit
AsksBy limit (Fetch server name own ∷ outs) = own ≡ limit
AsksBy limit (Fence server ∷ outs) = ⊥
AsksBy limit (Chain segments end prior ∷ outs) = ⊥
AsksBy limit (Lost name ∷ outs) = ⊥

-- by the last question or an earlier one
pub record Old (ask : ℕ) (groups : Option GroupMapState) (d : Done) : Type 0 where
  pub last : d.state.opening.ask ≡ ask
  pub same : d.state.opening.groups ≡ groups
  pub outs : AllByRecursion (UpTo ask) d.outs
  pub reads : PastStage ask d.state.stage

-- by the next one, unless nobody is asked by it
pub record New (ask : ℕ) (groups : Option GroupMapState) (d : Done) : Type 0 where
  pub last : d.state.opening.ask ≡ ask + 1
  pub same : d.state.opening.groups ≡ groups
  pub outs : AllByRecursion (UpTo (ask + 1)) d.outs
  pub draws : AsksBy (ask + 1) d.outs ⊎ WaitsInVain d.state
  pub reads : PastStage (ask + 1) d.state.stage

abbrev pub Says : ℕ → Option GroupMapState → Done → Type 0
Says ask groups d = Old ask groups d ⊎ New ask groups d

-- ---- readings

all_up : {X : Type 0} (limit : ℕ) (f : X → Out) → ((x : X) → UpTo limit (f x)) → (xs : List X) → AllByRecursion (UpTo limit) (map f xs)
all_up limit f each [] = tt
all_up limit f each (x ∷ xs) = (each x, all_up limit f each xs)

fetches_up : (limit : ℕ) (r : ReadingState) → r.ask ≤ limit → AllByRecursion (UpTo limit) (scan.backward_fetch r)
fetches_up limit r small = all_up limit (λ server. Fetch server r.target.seg.name r.ask) (λ server. small) (reading_unanswered r)

-- a round that begins asks its servers
begins_asking : (target : Target) (ask : ℕ) (kept : List (ℕ × ℕ)) (n parity : ℕ) (servers : List ℕ)
    → AsksBy ask (scan.backward_fetch
    (record { target = target; ask = ask; kept = kept; round = record { n = n; parity = parity; servers = servers; answers = [] }; stage = reading.Asking }))
    ⊎ (servers ≡ [])
begins_asking target ask kept n parity [] = inr refl
begins_asking target ask kept n parity (server ∷ servers) = inl refl

-- the round of a reading begins, by the next question
round_begins : (o : Opening) (b : Backward) (target : Target) (kept : List (ℕ × ℕ)) (n parity : ℕ) (servers : List ℕ)
    → let r : ReadingState =
    record { target = target; ask = o.ask + 1; kept = kept; round = record { n = n; parity = parity; servers = servers; answers = [] }; stage = reading.Asking }
    in
    Says o.ask o.groups (goes (record o { ask = o.ask + 1 }) (Reads b (Some r)) (scan.backward_fetch r))
round_begins o b target kept n parity servers =
    let r : ReadingState =
    record { target = target; ask = o.ask + 1; kept = kept; round = record { n = n; parity = parity; servers = servers; answers = [] }; stage = reading.Asking }
    in
    inr (record {
      last = refl;
      same = refl;
      outs = fetches_up (o.ask + 1) r (omega arith);
      draws =
          ⊎_elim (λ a. inl a) (λ e. inr (record { back = b; round = r; reads = refl; asking = refl; nobody = e }))
          (begins_asking target (o.ask + 1) kept n parity servers);
      reads = omega arith;
    })

anew : (o : Opening) (st : Stage) → PastStage (o.ask + 1) st → Says o.ask o.groups (scan.asks_anew o st)
anew o st past = inr (record { last = refl; same = refl; outs = (omega arith, tt); draws = inl refl; reads = past })

rests : (o : Opening) (st : Stage) → PastStage o.ask st → Says o.ask o.groups (stays o st)
rests o st past = inl (record { last = refl; same = refl; outs = tt; reads = past })

begins_in_so : (o : Opening) (b : Backward) (group : Option Group) → Says o.ask o.groups (scan.begins_in o b group)
begins_in_so o b None = anew o (Reads b None) tt
begins_in_so o b (Some group) = round_begins o b (scan.target_at o.log b.next) [] (length group.members) group.parity (rounds.servers_of group)

opening_follow_so : (o : Opening) (b : Backward) → Says o.ask o.groups (scan.opening_follow o b)
unfolding scan.opening_follow scan.opening_begin_round
opening_follow_so o b =
    by_test (Says o.ask o.groups) (scan.is_bottom o.low b.next) (goes o Over (scan.backward_told b ∷ [])) (scan.begins_in o b (known_group o.groups b.next.group))
    (λ t. inl (record { last = refl; same = refl; outs = (tt, tt); reads = tt })) (λ t. begins_in_so o b (known_group o.groups b.next.group))

-- ---- an answer

ends_so : (o : Opening) (b : Backward) (r : ReadingState) (pairs : List (ℕ × ℕ)) → r.ask ≤ o.ask
    → Says o.ask o.groups (scan.opening_go_on o b (ends r pairs).state next.Again)
unfolding scan.opening_go_on
ends_so o b r pairs small = anew o (Reads b (Some (ends r pairs).state)) (omega arith)

read_so : (o : Opening) (b : Backward) (r : ReadingState) (found : Option Segment) → r.ask ≤ o.ask
    → Says o.ask o.groups (scan.opening_go_on o b (reading_reads r found).state (reading_reads r found).next)
unfolding scan.opening_go_on
read_so o b r (Some segment) small = opening_follow_so o (scan.backward_with b segment)
read_so o b r None small = ends_so o b r [] small

reading_judge_so : (o : Opening) (b : Backward) (r : ReadingState) (groups : GroupMapState) (x : RoundState) → r.ask ≤ o.ask
    → Says o.ask o.groups (scan.opening_go_on o b (reading_judge r groups x).state (reading_judge r groups x).next)
unfolding scan.opening_go_on
reading_judge_so o b r groups (round.Read bytes) small = read_so o b r (segment_found r.target groups (answer_of bytes)) small
reading_judge_so o b r groups (round.Short pairs) small = ends_so o b r pairs small
reading_judge_so o b r groups round.Waiting small = rests o (Reads b (Some r)) small

answer_so : (o : Opening) (b : Backward) (r : ReadingState) (m : Option GroupMapState) (ask server : ℕ) (t : Told) → r.ask ≤ o.ask
    → Says o.ask o.groups (scan.opening_read o b r m ask server t)
unfolding reading_take scan.opening_go_on
answer_so o b r None ask server t small = rests o (Reads b (Some r)) small
answer_so o b r (Some groups) ask server t small =
    let now : ReadingState = record r { round = round_take r.round server t } in
    by_test (λ (x : Step). Says o.ask o.groups (scan.opening_go_on o b x.state x.next)) (counts r ask server t) (reading_judge now groups (state_of now.round))
    (record { state = r; next = next.Wait })
    (λ e. reading_judge_so o b now groups (state_of now.round) small) (λ e. rests o (Reads b (Some r)) small)

opening_hear_so : (o : Opening) (b : Backward) (r : Option ReadingState) (ask server : ℕ) (t : Told) → PastReading o.ask r
    → Says o.ask o.groups (scan.opening_hear o b r ask server t)
opening_hear_so o b None ask server t small = rests o (Reads b None) tt
opening_hear_so o b (Some r) ask server t small =
    by_test (Says o.ask o.groups) (can_ask o) (scan.opening_read o b r o.groups ask server t) (stays o (Reads b (Some r)))
    (λ e. answer_so o b r o.groups ask server t small) (λ e. rests o (Reads b (Some r)) small)

told_so : (o : Opening) (st : Stage) (ask server : ℕ) (t : Told) → PastStage o.ask st → Says o.ask o.groups (scan.on_told o st ask server t)
unfolding scan.on_told
told_so o Hails ask server t past = rests o Hails tt
told_so o (Gathers lists) ask server t past = rests o (Gathers lists) tt
told_so o (Asks lists) ask server t past = rests o (Asks lists) tt
told_so o (Reads b r) ask server t past = opening_hear_so o b r ask server t past
told_so o Over ask server t past = rests o Over tt

-- ---- a list

fenced_so : (o : Opening) (st : Stage) (l : Listing) → PastStage o.ask st → Says o.ask o.groups (scan.on_fenced o st l)
unfolding scan.on_fenced scan.with_list
fenced_so o Hails l past = rests o Hails tt
fenced_so o (Gathers lists) l past =
    let more : List Listing = lists ++ l ∷ [] in
    by_test (Says o.ask o.groups) (can_ask o && scan.awaits o.groups lists l.server) (scan.with_list o more) (stays o (Gathers lists))
    (λ e. by_test (Says o.ask o.groups) (length (scan.awaited o.groups more) == 0) (scan.asks_anew o (Asks more)) (stays o (Gathers more))
    (λ k. anew o (Asks more) tt)
    (λ k. rests o (Gathers more) tt))
    (λ e. rests o (Gathers lists) tt)
fenced_so o (Asks lists) l past = rests o (Asks lists) tt
fenced_so o (Reads b r) l past = rests o (Reads b r) past
fenced_so o Over l past = rests o Over tt

-- ---- time

fences_up : (limit : ℕ) (servers : List ℕ) → AllByRecursion (UpTo limit) (scan.fences servers)
fences_up limit servers = all_up limit (λ server. Fence server) (λ server. tt) servers

again_up : (o : Opening) (r : Option ReadingState) → PastReading o.ask r → AllByRecursion (UpTo o.ask) (scan.opening_read_again o r)
again_up o None past = (omega arith, tt)
again_up o (Some r) past =
    by_test (AllByRecursion (UpTo o.ask)) (is_asking r.stage) (scan.backward_fetch r) (Hello o.ask ∷ []) (λ t. fetches_up o.ask r past) (λ t. (omega arith, tt))

tick_up : (o : Opening) (st : Stage) → PastStage o.ask st → AllByRecursion (UpTo o.ask) (scan.on_tick o st)
unfolding scan.on_tick
tick_up o Hails past = (omega arith, tt)
tick_up o (Gathers lists) past = fences_up o.ask (scan.awaited o.groups lists)
tick_up o (Asks lists) past = (omega arith, tt)
tick_up o (Reads b r) past = again_up o r past
tick_up o Over past = tt

-- ---- a Welcome

confirmed_so : (o : Opening) (b : Backward) (r : ReadingState) (at : readings.Stage) → r.ask ≤ o.ask
    → Says o.ask o.groups (scan.opening_go_on o b (rounds.goes_on r (o.ask + 1) at).state (rounds.goes_on r (o.ask + 1) at).next)
unfolding scan.opening_go_on
confirmed_so o b r reading.Asking small = rests o (Reads b (Some r)) small
confirmed_so o b r reading.Between small = round_begins o b r.target r.kept r.round.n r.round.parity r.round.servers
confirmed_so o b r reading.Doubted small = inl (record { last = refl; same = refl; outs = (tt, tt); reads = tt })
confirmed_so o b r reading.Over small = rests o (Reads b (Some r)) small

confirms_so : (o : Opening) (b : Backward) (r : Option ReadingState) → PastReading o.ask r → Says o.ask o.groups (scan.confirms_by o b r)
unfolding on_confirmed scan.opening_begin_round
confirms_so o b None small = begins_in_so o b (known_group o.groups b.next.group)
confirms_so o b (Some r) small = confirmed_so o b r r.stage small

picks_so : (o : Opening) (lists : List Listing) (start : Option End) → Says o.ask o.groups (scan.picks_at o lists start)
picks_so o lists None = anew o (Asks lists) tt
picks_so o lists (Some start) = opening_follow_so o (scan.backward_from start)

opening_welcome_so : (o : Opening) (st : Stage) (least : ℕ) → PastStage o.ask st → Says o.ask o.groups (scan.opening_welcome o st least)
unfolding scan.opening_pick scan.opening_confirm
opening_welcome_so o Hails least past = inl (record { last = refl; same = refl; outs = fences_up o.ask (scan.awaited o.groups []); reads = tt })
opening_welcome_so o (Gathers lists) least past = rests o (Gathers lists) tt
opening_welcome_so o (Asks lists) least past = picks_so (scan.opening_rise o least) lists (start_of o.groups lists (scan.opening_rise o least).low)
opening_welcome_so o (Reads b r) least past =
    let p : Opening = scan.opening_rise o least in
    by_test (Says o.ask o.groups) (scan.is_bottom p.low b.next) (goes p Over (scan.backward_told b ∷ [])) (scan.confirms_by p b r)
    (λ e. inl (record { last = refl; same = refl; outs = (tt, tt); reads = tt })) (λ e. confirms_so p b r past)
opening_welcome_so o Over least past = rests o Over tt

-- what it says at an input, with the groups that it has then
pub record Steps (o : Opening) (i : In) (d : Done) : Type 0 where
  pub groups : Option GroupMapState
  pub says : Says o.ask groups d
  pub from : GroupsAfter o.groups i groups

welcome_so : (o : Opening) (st : Stage) (ask : ℕ) (news : List SlotNews) (m : GroupMapState) → PastStage o.ask st
    → Steps o (input.Welcome ask news m) (scan.on_welcome o st ask news m)
unfolding scan.on_welcome
welcome_so o st ask news m past =
    by_test (Steps o (input.Welcome ask news m)) ((ask == o.ask) && (can_ask o && scan.awaits_welcome st))
    (scan.opening_welcome (record o { groups = Some m }) st (scan.least_horizon o.log.0 news)) (stays o st)
    (λ t. record { groups = Some m; says = opening_welcome_so (record o { groups = Some m }) st (scan.least_horizon o.log.0 news) past; from = inr refl })
    (λ t. record { groups = o.groups; says = rests o st past; from = inl refl })

-- ---- all inputs

pub says_so : (o : Opening) (st : Stage) (i : In) → PastStage o.ask st → Steps o i (scan.opening_take o st i)
says_so o st (input.Welcome ask news groups) past = welcome_so o st ask news groups past
says_so o st (input.Fenced server generation held) past =
    record { groups = o.groups; says = fenced_so o st (record { server = server; generation = generation; held = held }) past; from = refl }
says_so o st (input.Got ask server generation fragment) past =
    record { groups = o.groups; says = told_so o st ask server (told.Held fragment) past; from = refl }
says_so o st (input.Missing ask server generation) past =
    record { groups = o.groups; says = told_so o st ask server (told.Missing generation) past; from = refl }
says_so o st (input.Maps groups) past = record { groups = Some groups; says = inl (record { last = refl; same = refl; outs = tt; reads = past }); from = refl }
says_so o st input.Tick past =
    record { groups = o.groups; says = inl (record { last = refl; same = refl; outs = tick_up o st past; reads = past }); from = refl }

-- ---- where it waits in vain, nothing is asked

pub record Still (o : Opening) (st : Stage) (d : Done) : Type 0 where
  pub stage : d.state.stage ≡ st
  pub last : d.state.opening.ask ≡ o.ask
  pub outs : d.outs ≡ []

third_of_four : (a b c d : Bool) → (a && b && c && d) ≡ true → c ≡ true
third_of_four true true c d e = and_first c d e
third_of_four true false c d e = contrary e
third_of_four false b c d e = contrary e

module _ (o : Opening) (b : Backward) (r : ReadingState) (asking : r.stage ≡ reading.Asking) (nobody : r.round.servers ≡ []) where
  abbrev at : Stage
  at = Reads b (Some r)

  it_stays : Still o at (stays o at)
  it_stays = record { stage = refl; last = refl; outs = refl }

  no_answer : (m : Option GroupMapState) (ask server : ℕ) (t : Told) → Still o at (scan.opening_read o b r m ask server t)
  unfolding reading_take scan.opening_go_on
  no_answer None ask server t = it_stays
  no_answer (Some groups) ask server t =
      let now : ReadingState = record r { round = round_take r.round server t } in
      by_test (λ (x : Step). Still o at (scan.opening_go_on o b x.state x.next)) (counts r ask server t) (reading_judge now groups (state_of now.round))
      (record { state = r; next = next.Wait })
      (λ e. contrary (subst (λ servers. list_any (λ s. s == server) servers ≡ true) nobody
      (third_of_four (is_asking r.stage) (ask == r.ask) (round_asks r.round server) (name_fits r.target t && told_fits r.round t) e)))
      (λ e. it_stays)

  not_told : (ask server : ℕ) (t : Told) → Still o at (scan.on_told o at ask server t)
  unfolding scan.on_told
  not_told ask server t =
      by_test (Still o at) (can_ask o) (scan.opening_read o b r o.groups ask server t) (stays o at) (λ e. no_answer o.groups ask server t) (λ e. it_stays)

  not_welcomed : (ask : ℕ) (news : List SlotNews) (groups : GroupMapState) → Still o at (scan.on_welcome o at ask news groups)
  unfolding scan.on_welcome
  not_welcomed ask news groups =
      by_test (Still o at) ((ask == o.ask) && (can_ask o && scan.awaits_welcome at))
      (scan.opening_welcome (record o { groups = Some groups }) at (scan.least_horizon o.log.0 news)) (stays o at)
      (λ t. contrary (subst (λ (s : readings.Stage). not (is_asking s) ≡ true) asking
      (and_second (can_ask o) (scan.awaits_welcome at) (and_second (ask == o.ask) (can_ask o && scan.awaits_welcome at) t))))
      (λ t. it_stays)

  not_asked : scan.on_tick o at ≡ []
  unfolding scan.on_tick
  not_asked =
      ap (λ (s : readings.Stage). cond (is_asking s) (map (λ server. Fetch server r.target.seg.name r.ask) (cond (is_asking s) (unanswered r.round) []))
      (Hello o.ask ∷ [])) asking
      ∙ ap (λ servers. map (λ server. Fetch server r.target.seg.name r.ask) (unanswered (record r.round { servers = servers }))) nobody

  pub still_so : (i : In) → Still o at (scan.opening_take o at i)
  unfolding scan.on_fenced
  still_so (input.Welcome ask news groups) = not_welcomed ask news groups
  still_so (input.Fenced server generation held) = it_stays
  still_so (input.Got ask server generation fragment) = not_told ask server (told.Held fragment)
  still_so (input.Missing ask server generation) = not_told ask server (told.Missing generation)
  still_so (input.Maps groups) = record { stage = refl; last = refl; outs = refl }
  still_so input.Tick = record { stage = refl; last = refl; outs = not_asked }
