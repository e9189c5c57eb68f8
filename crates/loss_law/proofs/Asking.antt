-- What an opening does at an input: it stays of its log, and the questions that it draws are later ones.
use Rattle.std.proofs.Common.{◌≡◌, ℕ, ◌+◌, ◌≤◌, ◌⊎◌, ◌==◌, ◌&&◌, map, List, [], ◌∷◌, ◌++◌, Option, Some, None, length, refl, inl, inr, arith}
use Rattle.xfs_base.specs.declared.news.SlotNews.{SlotNews}
use Rattle.xfs_base.specs.declared.segment.End.{End}
use Rattle.xfs_base.specs.declared.segment.SegName.{SegName}
use Rattle.xfs_base.proofs.Booleans.{by_test}
use Rattle.segment_format.specs.declared.segment.Segment.{Segment}
use Rattle.segment_format.specs.ReadingItems.{answer_of}
use Rattle.group_map.specs.declared.group.Group.{Group}
use Rattle.group_map.specs.GroupMapState.{GroupMapState}
use Rattle.segment_reading.specs.declared.reading.Next.TheVariants as next
use Rattle.segment_reading.specs.declared.reading.Stage as rounds
use Rattle.segment_reading.specs.declared.reading.Stage.TheVariants as stand
use Rattle.segment_reading.specs.Reading.{ReadingState, Step, reading_unanswered, is_asking}
use Rattle.segment_reading.specs.Reading as reading
use Rattle.stripe_code.specs.declared.round.RoundState.{RoundState}
use Rattle.stripe_code.specs.declared.round.RoundState.TheVariants as round
use Rattle.stripe_code.specs.declared.round.Told.{Told}
use Rattle.stripe_code.specs.declared.round.Told.TheVariants as told
use Rattle.stripe_code.specs.Round.{round_take, state_of}
use Rattle.log_scan.specs.declared.input.In.{In as Input}
use Rattle.log_scan.specs.declared.input.In.TheVariants as scan_in
use Rattle.log_scan.specs.declared.listing.Listing.{Listing}
use Rattle.log_scan.specs.declared.opening.Opening.{Opening}
use Rattle.log_scan.specs.declared.output.Out.{Out}
use Rattle.log_scan.specs.declared.output.Out.TheVariants.{Hello, Fence, Fetch, Chain, Lost}
use Rattle.log_scan.specs.declared.stage.Backward.{Backward}
use Rattle.log_scan.specs.declared.stage.Stage.{Stage}
use Rattle.log_scan.specs.declared.stage.Stage.TheVariants.{Hails, Gathers, Asks, Reads, Over}
use Rattle.log_scan.specs.Pick.{known_group, start_of}
use Rattle.log_scan.specs.Transition as scan
use Rattle.log_scan.specs.Transition.{Done, goes, stays}

-- no question to the registry has a number above this one
abbrev pub AllAskedBy : ℕ → List Out → Type 0
AllAskedBy highest [] = Unit {0}
AllAskedBy highest (Hello ask ∷ outs) = (ask ≤ highest) × AllAskedBy highest outs
AllAskedBy highest (Fence server ∷ outs) = AllAskedBy highest outs
AllAskedBy highest (Fetch server name ask ∷ outs) = AllAskedBy highest outs
AllAskedBy highest (Chain segments end prior ∷ outs) = AllAskedBy highest outs
AllAskedBy highest (Lost name ∷ outs) = AllAskedBy highest outs

pub record Follows (o : Opening) (d : Done) : Type 0 where
  pub ask : o.ask ≤ d.state.opening.ask
  pub log : d.state.opening.log ≡ o.log
  pub groups : d.state.opening.groups ≡ o.groups
  pub asked : AllAskedBy d.state.opening.ask d.outs

asked_fetches : (highest ask : ℕ) (name : SegName) (servers : List ℕ) → AllAskedBy highest (map (λ server. Fetch server name ask) servers)
asked_fetches highest ask name [] = tt
asked_fetches highest ask name (s ∷ ss) = asked_fetches highest ask name ss

asked_fences : (highest : ℕ) (servers : List ℕ) → AllAskedBy highest (map (λ server. Fence server) servers)
asked_fences highest [] = tt
asked_fences highest (s ∷ ss) = asked_fences highest ss

stays_so : (o : Opening) (stage : Stage) → Follows o (stays o stage)
stays_so o stage = record { ask = omega arith; log = refl; groups = refl; asked = tt }

asks_so : (o : Opening) (stage : Stage) → Follows o (scan.asks_anew o stage)
asks_so o stage = record { ask = omega arith; log = refl; groups = refl; asked = (omega arith, tt) }

begins_so : (o : Opening) (b : Backward) (group : Option Group) → Follows o (scan.begins_in o b group)
begins_so o b None = asks_so o (Reads b None)
begins_so o b (Some group) =
    (let r = reading.reading_start (scan.target_at o.log b.next) group (o.ask + 1) in
    record { ask = omega arith; log = refl; groups = refl; asked = asked_fetches (o.ask + 1) (o.ask + 1) r.target.seg.name (reading_unanswered r) })

round_so : (o : Opening) (b : Backward) → Follows o (scan.opening_begin_round o b)
unfolding scan.opening_begin_round
round_so o b = begins_so o b (known_group o.groups b.next.group)

over_so : (o : Opening) (out : Out) → AllAskedBy o.ask (out ∷ []) → Follows o (goes o Over (out ∷ []))
over_so o out asked = record { ask = omega arith; log = refl; groups = refl; asked = asked }

opening_follow_so : (o : Opening) (b : Backward) → Follows o (scan.opening_follow o b)
unfolding scan.opening_follow
opening_follow_so o b =
    by_test (Follows o) (scan.is_bottom o.low b.next) (goes o Over (scan.backward_told b ∷ [])) (scan.opening_begin_round o b) (λ t. over_so o (scan.backward_told b) tt)
    (λ t. round_so o b)

read_so : (o : Opening) (b : Backward) (r : ReadingState) (s : Segment) → Follows o (scan.opening_go_on o b r (next.Read s))
unfolding scan.opening_go_on
read_so o b r s = opening_follow_so o (scan.backward_with b s)

wait_so : (o : Opening) (b : Backward) (r : ReadingState) → Follows o (scan.opening_go_on o b r next.Wait)
unfolding scan.opening_go_on
wait_so o b r = stays_so o (Reads b (Some r))

again_so : (o : Opening) (b : Backward) (r : ReadingState) → Follows o (scan.opening_go_on o b r next.Again)
unfolding scan.opening_go_on
again_so o b r = asks_so o (Reads b (Some r))

lost_so : (o : Opening) (b : Backward) (r : ReadingState) → Follows o (scan.opening_go_on o b r next.Lost)
unfolding scan.opening_go_on
lost_so o b r = over_so o (Lost r.target.seg.name) tt

ask_so : (o : Opening) (b : Backward) (r : ReadingState) → o.ask ≤ r.ask → Follows o (scan.opening_go_on o b r next.Ask)
unfolding scan.opening_go_on
ask_so o b r more = record { ask = more; log = refl; groups = refl; asked = asked_fetches r.ask r.ask r.target.seg.name (reading_unanswered r) }

-- ---- a step of the reading

abbrev StepSo : Opening → Backward → Step → Type 0
StepSo o b step = Follows o (scan.opening_go_on o b step.state step.next)

found_so : (o : Opening) (b : Backward) (r : ReadingState) (found : Option Segment) → StepSo o b (reading.reading_reads r found)
found_so o b r (Some s) = read_so o b (record r { stage = stand.Over }) s
found_so o b r None = again_so o b (reading.ends r []).state

reading_judge_so : (o : Opening) (b : Backward) (r : ReadingState) (groups : GroupMapState) (st : RoundState) → StepSo o b (reading.reading_judge r groups st)
reading_judge_so o b r groups (round.Read bytes) = found_so o b r (reading.segment_found r.target groups (answer_of bytes))
reading_judge_so o b r groups (round.Short pairs) = again_so o b (reading.ends r pairs).state
reading_judge_so o b r groups round.Waiting = wait_so o b r

answered_so : (o : Opening) (b : Backward) (r : ReadingState) (groups : GroupMapState) (ask server : ℕ) (t : Told)
    → StepSo o b (reading.reading_take r groups ask server t)
unfolding reading.reading_take
answered_so o b r groups ask server t =
    by_test (StepSo o b) (reading.counts r ask server t)
    (reading.reading_judge (record r { round = round_take r.round server t }) groups (state_of (round_take r.round server t))) (record { state = r; next = next.Wait })
    (λ e. reading_judge_so o b (record r { round = round_take r.round server t }) groups (state_of (round_take r.round server t))) (λ e. wait_so o b r)

decided_so : (o : Opening) (b : Backward) (r : ReadingState) (stage : rounds.Stage) → StepSo o b (reading.goes_on r (o.ask + 1) stage)
decided_so o b r stand.Asking = wait_so o b r
decided_so o b r stand.Between = ask_so o b (reading.goes_on r (o.ask + 1) stand.Between).state (omega arith)
decided_so o b r stand.Doubted = lost_so o b (record r { stage = stand.Over })
decided_so o b r stand.Over = wait_so o b r

confirmed_so : (o : Opening) (b : Backward) (r : ReadingState) → StepSo o b (reading.on_confirmed r (o.ask + 1))
unfolding reading.on_confirmed
confirmed_so o b r = decided_so o b r r.stage

-- ---- each input

confirms_by_so : (o : Opening) (b : Backward) (r : Option ReadingState) → Follows o (scan.confirms_by o b r)
confirms_by_so o b None = round_so o b
confirms_by_so o b (Some r) = confirmed_so o b r

opening_confirm_so : (o : Opening) (b : Backward) (r : Option ReadingState) → Follows o (scan.opening_confirm o b r)
unfolding scan.opening_confirm
opening_confirm_so o b r =
    by_test (Follows o) (scan.is_bottom o.low b.next) (goes o Over (scan.backward_told b ∷ [])) (scan.confirms_by o b r) (λ t. over_so o (scan.backward_told b) tt)
    (λ t. confirms_by_so o b r)

picks_at_so : (o : Opening) (lists : List Listing) (start : Option End) → Follows o (scan.picks_at o lists start)
picks_at_so o lists None = asks_so o (Asks lists)
picks_at_so o lists (Some start) = opening_follow_so o (scan.backward_from start)

opening_pick_so : (o : Opening) (lists : List Listing) → Follows o (scan.opening_pick o lists)
unfolding scan.opening_pick
opening_pick_so o lists = picks_at_so o lists (start_of o.groups lists o.low)

-- with these groups
pub record With (o : Opening) (groups : Option GroupMapState) (d : Done) : Type 0 where
  pub ask : o.ask ≤ d.state.opening.ask
  pub log : d.state.opening.log ≡ o.log
  pub groups_are : d.state.opening.groups ≡ groups
  pub asked : AllAskedBy d.state.opening.ask d.outs

with_own : (o : Opening) (d : Done) → Follows o d → With o o.groups d
with_own o d f = record { ask = f.ask; log = f.log; groups_are = f.groups; asked = f.asked }

opening_welcome_so : (o : Opening) (m : GroupMapState) (stage : Stage) (least : ℕ) → With o (Some m) (scan.opening_welcome (record o { groups = Some m }) stage least)
opening_welcome_so o m Hails least = record { ask = omega arith; log = refl; groups_are = refl; asked = asked_fences o.ask (scan.awaited (Some m) []) }
opening_welcome_so o m (Gathers lists) least = record { ask = omega arith; log = refl; groups_are = refl; asked = tt }
opening_welcome_so o m (Asks lists) least =
    (let f = opening_pick_so (scan.opening_rise (record o { groups = Some m }) least) lists in record { ask = f.ask; log = f.log; groups_are = f.groups; asked = f.asked })
opening_welcome_so o m (Reads b r) least =
    (let f = opening_confirm_so (scan.opening_rise (record o { groups = Some m }) least) b r in record { ask = f.ask; log = f.log; groups_are = f.groups; asked = f.asked })
opening_welcome_so o m Over least = record { ask = omega arith; log = refl; groups_are = refl; asked = tt }

-- its groups are those that it had, or those that came
abbrev pub FollowsWith : Opening → Input → Done → Type 0
FollowsWith o (scan_in.Welcome ask news m) d = (groups : Option GroupMapState) × ((groups ≡ o.groups) ⊎ (groups ≡ Some m)) × With o groups d
FollowsWith o (scan_in.Fenced server generation held) d = With o o.groups d
FollowsWith o (scan_in.Got ask server generation fragment) d = With o o.groups d
FollowsWith o (scan_in.Missing ask server generation) d = With o o.groups d
FollowsWith o (scan_in.Maps m) d = With o (Some m) d
FollowsWith o scan_in.Tick d = With o o.groups d

welcome_so : (o : Opening) (stage : Stage) (ask : ℕ) (news : List SlotNews) (m : GroupMapState)
    → FollowsWith o (scan_in.Welcome ask news m) (scan.on_welcome o stage ask news m)
unfolding scan.on_welcome
welcome_so o stage ask news m =
    by_test (FollowsWith o (scan_in.Welcome ask news m)) ((ask == o.ask) && (scan.can_ask o && scan.awaits_welcome stage))
    (scan.opening_welcome (record o { groups = Some m }) stage (scan.least_horizon o.log.0 news)) (stays o stage)
    (λ t. (Some m, inr refl, opening_welcome_so o m stage (scan.least_horizon o.log.0 news)))
    (λ t. (o.groups, inl refl, with_own o (stays o stage) (stays_so o stage)))

with_list_so : (o : Opening) (lists : List Listing) → Follows o (scan.with_list o lists)
unfolding scan.with_list
with_list_so o lists =
    by_test (Follows o) (length (scan.awaited o.groups lists) == 0) (scan.asks_anew o (Asks lists)) (stays o (Gathers lists)) (λ t. asks_so o (Asks lists))
    (λ t. stays_so o (Gathers lists))

fenced_so : (o : Opening) (stage : Stage) (l : Listing) → Follows o (scan.on_fenced o stage l)
unfolding scan.on_fenced
fenced_so o Hails l = stays_so o Hails
fenced_so o (Gathers lists) l =
    by_test (Follows o) (scan.can_ask o && scan.awaits o.groups lists l.server) (scan.with_list o (lists ++ l ∷ [])) (stays o (Gathers lists))
    (λ t. with_list_so o (lists ++ l ∷ [])) (λ t. stays_so o (Gathers lists))
fenced_so o (Asks lists) l = stays_so o (Asks lists)
fenced_so o (Reads b r) l = stays_so o (Reads b r)
fenced_so o Over l = stays_so o Over

opening_read_so : (o : Opening) (b : Backward) (r : ReadingState) (groups : Option GroupMapState) (ask server : ℕ) (t : Told)
    → Follows o (scan.opening_read o b r groups ask server t)
opening_read_so o b r None ask server t = stays_so o (Reads b (Some r))
opening_read_so o b r (Some groups) ask server t = answered_so o b r groups ask server t

opening_hear_so : (o : Opening) (b : Backward) (r : Option ReadingState) (ask server : ℕ) (t : Told) → Follows o (scan.opening_hear o b r ask server t)
opening_hear_so o b None ask server t = stays_so o (Reads b None)
opening_hear_so o b (Some r) ask server t =
    by_test (Follows o) (scan.can_ask o) (scan.opening_read o b r o.groups ask server t) (stays o (Reads b (Some r)))
    (λ e. opening_read_so o b r o.groups ask server t) (λ e. stays_so o (Reads b (Some r)))

told_so : (o : Opening) (stage : Stage) (ask server : ℕ) (t : Told) → Follows o (scan.on_told o stage ask server t)
unfolding scan.on_told
told_so o Hails ask server t = stays_so o Hails
told_so o (Gathers lists) ask server t = stays_so o (Gathers lists)
told_so o (Asks lists) ask server t = stays_so o (Asks lists)
told_so o (Reads b r) ask server t = opening_hear_so o b r ask server t
told_so o Over ask server t = stays_so o Over

again_asked : (o : Opening) (r : Option ReadingState) → AllAskedBy o.ask (scan.opening_read_again o r)
again_asked o None = (omega arith, tt)
again_asked o (Some r) =
    by_test (AllAskedBy o.ask) (is_asking r.stage) (scan.backward_fetch r) (Hello o.ask ∷ []) (λ t. asked_fetches o.ask r.ask r.target.seg.name (reading_unanswered r))
    (λ t. (omega arith, tt))

tick_asked : (o : Opening) (stage : Stage) → AllAskedBy o.ask (scan.on_tick o stage)
unfolding scan.on_tick
tick_asked o Hails = (omega arith, tt)
tick_asked o (Gathers lists) = asked_fences o.ask (scan.awaited o.groups lists)
tick_asked o (Asks lists) = (omega arith, tt)
tick_asked o (Reads b r) = again_asked o r
tick_asked o Over = tt

pub opening_take_so : (o : Opening) (stage : Stage) (i : Input) → FollowsWith o i (scan.opening_take o stage i)
opening_take_so o stage (scan_in.Welcome ask news m) = welcome_so o stage ask news m
opening_take_so o stage (scan_in.Fenced server generation held) =
    with_own o (scan.on_fenced o stage (record { server = server; generation = generation; held = held }))
    (fenced_so o stage (record { server = server; generation = generation; held = held }))
opening_take_so o stage (scan_in.Got ask server generation fragment) =
    with_own o (scan.on_told o stage ask server (told.Held fragment)) (told_so o stage ask server (told.Held fragment))
opening_take_so o stage (scan_in.Missing ask server generation) =
    with_own o (scan.on_told o stage ask server (told.Missing generation)) (told_so o stage ask server (told.Missing generation))
opening_take_so o stage (scan_in.Maps m) = record { ask = omega arith; log = refl; groups_are = refl; asked = tt }
opening_take_so o stage scan_in.Tick = record { ask = omega arith; log = refl; groups_are = refl; asked = tick_asked o stage }
