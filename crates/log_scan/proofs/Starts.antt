-- The log goes on behind the start that was picked: what is read and told at each input has that start.
use Rattle.std.proofs.Common.{◌≡◌, ℕ, ◌+◌, true, ◌&&◌, List, [], ◌∷◌, ◌++◌, map, Option, Some, None, inl, inr, ◌⊎◌, refl, arith}
use Rattle.std.specs.Prelude.{◌==◌, length}
use Rattle.std.specs.List.{AllByRecursion}
use Rattle.std.proofs.lemmas.Bool.{eqb-true}
use Rattle.group_map.specs.declared.group.Group.{Group}
use Rattle.group_map.specs.GroupMapState.{GroupMapState}
use Rattle.segment_reading.specs.declared.reading.Next.{Next}
use Rattle.segment_reading.specs.declared.reading.Next.TheVariants as next
use Rattle.segment_reading.specs.Reading.{ReadingState, is_asking, reading_unanswered, reading_take, on_confirmed}
use Rattle.segment_reading.specs.Reading as reading
use Rattle.stripe_code.specs.declared.round.Told.{Told}
use Rattle.xfs_base.specs.declared.news.SlotNews.{SlotNews}
use Rattle.xfs_base.specs.declared.segment.End.{End}
use Rattle.xfs_base.specs.declared.segment.SegName.{SegName}
use Rattle.xfs_base.proofs.Booleans.{by_test}
use Rattle.log_scan.specs.declared.input.In.{In}
use Rattle.log_scan.specs.declared.input.In.TheVariants.{Welcome, Fenced, Got, Missing, Maps, Tick}
use Rattle.log_scan.specs.declared.listing.Listing.{Listing}
use Rattle.log_scan.specs.declared.opening.Opening.{Opening}
use Rattle.log_scan.specs.declared.output.Out.{Out}
use Rattle.log_scan.specs.declared.output.Out.TheVariants.{Hello, Fence, Fetch, Chain, Lost}
use Rattle.log_scan.specs.declared.stage.Backward.{Backward}
use Rattle.log_scan.specs.declared.stage.Stage.{Stage}
use Rattle.log_scan.specs.declared.stage.Stage.TheVariants.{Hails, Gathers, Asks, Reads, Over}
use Rattle.log_scan.specs.Linked.{IsStartFrom, KeepsStart, TellsStart}
use Rattle.log_scan.specs.Pick.{known_group, start_of}
use Rattle.log_scan.specs.ScanState.{ScanState}
use Rattle.log_scan.specs.Transition.{Done, goes, stays, can_ask, asks_anew, least_horizon, opening_rise, target_at, is_bottom, backward_from, backward_with, backward_told, backward_fetch, begins_in, opening_begin_round, opening_follow, opening_go_on, awaits_welcome, awaits, awaited, fences, picks_at, opening_pick, confirms_by, opening_confirm, opening_welcome, on_welcome, with_list, on_fenced, opening_read, opening_hear, on_told, opening_read_again, on_tick, opening_take, transition}

none_left : (xs : List ℕ) → (length xs == 0) ≡ true → xs ≡ []
none_left [] h = refl
none_left (x ∷ xs) h = absurd (let e : length (x ∷ xs) ≡ 0 = eqb-true (length (x ∷ xs)) 0 h in omega arith)

-- of whatever starts and lists are meant
module _ (Q : End → Type 0) (A : List Listing → Type 0) where
  abbrev Stands : Stage → Type 0
  Stands Hails = Unit {0}
  Stands (Gathers lists) = Unit {0}
  Stands (Asks lists) = A lists
  Stands (Reads b r) = Q b.start
  Stands Over = Unit {0}

  abbrev Says : Out → Type 0
  Says (Hello ask) = Unit {0}
  Says (Fence server) = Unit {0}
  Says (Fetch server name ask) = Unit {0}
  Says (Chain segments end prior) = Q end
  Says (Lost name) = Unit {0}

  -- what is read and what is told starts so
  record From (d : Done) : Type 0 where
    stage : Stands d.state.stage
    outs : AllByRecursion Says d.outs

  fetches_say : (name : SegName) (ask : ℕ) (servers : List ℕ) → AllByRecursion Says (map (λ server. Fetch server name ask) servers)
  fetches_say name ask [] = tt
  fetches_say name ask (s ∷ ss) = (tt, fetches_say name ask ss)

  fences_say : (servers : List ℕ) → AllByRecursion Says (fences servers)
  fences_say [] = tt
  fences_say (s ∷ ss) = (tt, fences_say ss)

  from_stays : (o : Opening) (stage : Stage) → Stands stage → From (stays o stage)
  from_stays o stage q = record { stage = q; outs = tt }

  from_anew : (o : Opening) (stage : Stage) → Stands stage → From (asks_anew o stage)
  from_anew o stage q = record { stage = q; outs = (tt, tt) }

  from_chain : (o : Opening) (b : Backward) → Q b.start → From (goes o Over (backward_told b ∷ []))
  from_chain o b q = record { stage = tt; outs = (q, tt) }

  from_begins_in : (o : Opening) (b : Backward) (g : Option Group) → Q b.start → From (begins_in o b g)
  from_begins_in o b None q = from_anew o (Reads b None) q
  from_begins_in o b (Some g) q =
      let r = reading.reading_start (target_at o.log b.next) g (o.ask + 1) in
      record { stage = q; outs = fetches_say r.target.seg.name r.ask (reading_unanswered r) }

  from_begins : (o : Opening) (b : Backward) → Q b.start → From (opening_begin_round o b)
  unfolding opening_begin_round
  from_begins o b q = from_begins_in o b (known_group o.groups b.next.group) q

  from_follows : (o : Opening) (b : Backward) → Q b.start → From (opening_follow o b)
  unfolding opening_follow
  from_follows o b q = by_test From (is_bottom o.low b.next) (goes o Over (backward_told b ∷ [])) (opening_begin_round o b) (λ t. from_chain o b q) (λ t. from_begins o b q)

  from_goes_on : (o : Opening) (b : Backward) (r : ReadingState) (n : Next) → Q b.start → From (opening_go_on o b r n)
  unfolding opening_go_on
  from_goes_on o b r next.Wait q = from_stays o (Reads b (Some r)) q
  from_goes_on o b r next.Ask q = record { stage = q; outs = fetches_say r.target.seg.name r.ask (reading_unanswered r) }
  from_goes_on o b r next.Again q = from_anew o (Reads b (Some r)) q
  from_goes_on o b r (next.Read s) q = from_follows o (backward_with b s) q
  from_goes_on o b r next.Lost q = record { stage = tt; outs = (tt, tt) }

  from_confirms_by : (o : Opening) (b : Backward) (r : Option ReadingState) → Q b.start → From (confirms_by o b r)
  from_confirms_by o b None q = from_begins o b q
  from_confirms_by o b (Some r) q = (let step = on_confirmed r (o.ask + 1) in from_goes_on o b step.state step.next q)

  from_confirms : (o : Opening) (b : Backward) (r : Option ReadingState) → Q b.start → From (opening_confirm o b r)
  unfolding opening_confirm
  from_confirms o b r q =
      by_test From (is_bottom o.low b.next) (goes o Over (backward_told b ∷ [])) (confirms_by o b r) (λ t. from_chain o b q) (λ t. from_confirms_by o b r q)

  from_picks_at : (o : Opening) (lists : List Listing) (start : Option End) → A lists → ((e : End) → start ≡ Some e → Q e) → From (picks_at o lists start)
  from_picks_at o lists None a q = from_anew o (Asks lists) a
  from_picks_at o lists (Some e) a q = from_follows o (backward_from e) (q e refl)

  from_picks : (o : Opening) (lists : List Listing) → A lists → ((e : End) → start_of o.groups lists o.low ≡ Some e → Q e) → From (opening_pick o lists)
  unfolding opening_pick
  from_picks o lists a q = from_picks_at o lists (start_of o.groups lists o.low) a q

  from_with_list : (o : Opening) (lists : List Listing) → (awaited o.groups lists ≡ [] → A lists) → From (with_list o lists)
  unfolding with_list
  from_with_list o lists a =
      by_test From (length (awaited o.groups lists) == 0) (asks_anew o (Asks lists)) (stays o (Gathers lists))
      (λ t. from_anew o (Asks lists) (a (none_left (awaited o.groups lists) t)))
      (λ t. from_stays o (Gathers lists) tt)

  from_fenced : (o : Opening) (stage : Stage) (l : Listing) → ((lists : List Listing) → awaited o.groups lists ≡ [] → A lists) → Stands stage
      → From (on_fenced o stage l)
  unfolding on_fenced
  from_fenced o Hails l a q = from_stays o Hails tt
  from_fenced o (Gathers lists) l a q =
      by_test From (can_ask o && awaits o.groups lists l.server) (with_list o (lists ++ l ∷ [])) (stays o (Gathers lists))
      (λ t. from_with_list o (lists ++ l ∷ []) (a (lists ++ l ∷ [])))
      (λ t. from_stays o (Gathers lists) tt)
  from_fenced o (Asks lists) l a q = from_stays o (Asks lists) q
  from_fenced o (Reads b r) l a q = from_stays o (Reads b r) q
  from_fenced o Over l a q = from_stays o Over tt

  from_heard_with : (o : Opening) (b : Backward) (r : ReadingState) (groups : Option GroupMapState) (ask server : ℕ) (t : Told) → Q b.start
      → From (opening_read o b r groups ask server t)
  from_heard_with o b r None ask server t q = from_stays o (Reads b (Some r)) q
  from_heard_with o b r (Some groups) ask server t q = (let step = reading_take r groups ask server t in from_goes_on o b step.state step.next q)

  from_heard : (o : Opening) (b : Backward) (r : Option ReadingState) (ask server : ℕ) (t : Told) → Q b.start → From (opening_hear o b r ask server t)
  from_heard o b None ask server t q = from_stays o (Reads b None) q
  from_heard o b (Some r) ask server t q =
      by_test From (can_ask o) (opening_read o b r o.groups ask server t) (stays o (Reads b (Some r)))
      (λ e. from_heard_with o b r o.groups ask server t q)
      (λ e. from_stays o (Reads b (Some r)) q)

  from_told : (o : Opening) (stage : Stage) (ask server : ℕ) (t : Told) → Stands stage → From (on_told o stage ask server t)
  unfolding on_told
  from_told o Hails ask server t q = from_stays o Hails tt
  from_told o (Gathers lists) ask server t q = from_stays o (Gathers lists) tt
  from_told o (Asks lists) ask server t q = from_stays o (Asks lists) q
  from_told o (Reads b r) ask server t q = from_heard o b r ask server t q
  from_told o Over ask server t q = from_stays o Over tt

  again_says : (o : Opening) (r : Option ReadingState) → AllByRecursion Says (opening_read_again o r)
  again_says o None = (tt, tt)
  again_says o (Some r) =
      by_test (AllByRecursion Says) (is_asking r.stage) (backward_fetch r) (Hello o.ask ∷ []) (λ t. fetches_say r.target.seg.name r.ask (reading_unanswered r)) (λ t. (tt, tt))

  tick_says : (o : Opening) (stage : Stage) → AllByRecursion Says (on_tick o stage)
  unfolding on_tick
  tick_says o Hails = (tt, tt)
  tick_says o (Gathers lists) = fences_say (awaited o.groups lists)
  tick_says o (Asks lists) = (tt, tt)
  tick_says o (Reads b r) = again_says o r
  tick_says o Over = tt

-- the lists before, or those with which all are in
abbrev AreIn : Opening → Stage → List Listing → Type 0
AreIn o stage lists = (stage ≡ Asks lists) ⊎ (awaited o.groups lists ≡ [])

-- what stands before an input starts as is meant
stands : (o : Opening) (stage : Stage) (input : In) → Stands (IsStartFrom o stage input) (AreIn o stage) stage
stands o Hails input = tt
stands o (Gathers lists) input = tt
stands o (Asks lists) input = inl refl
stands o (Reads b r) input = refl
stands o Over input = tt

module _ (o : Opening) (ask : ℕ) (news : List SlotNews) (groups : GroupMapState) where
  from_welcomed : (stage : Stage)
      → From (IsStartFrom o stage (Welcome ask news groups)) (AreIn o stage) (opening_welcome (record o { groups = Some groups }) stage (least_horizon o.log.0 news))
  from_welcomed Hails = record { stage = tt; outs = fences_say (IsStartFrom o Hails (Welcome ask news groups)) (AreIn o Hails) (awaited (Some groups) []) }
  from_welcomed (Gathers lists) = record { stage = tt; outs = tt }
  from_welcomed (Asks lists) =
      from_picks (IsStartFrom o (Asks lists) (Welcome ask news groups)) (AreIn o (Asks lists))
      (opening_rise (record o { groups = Some groups }) (least_horizon o.log.0 news)) lists (inl refl) (λ e h. h)
  from_welcomed (Reads b r) =
      from_confirms (IsStartFrom o (Reads b r) (Welcome ask news groups)) (AreIn o (Reads b r))
      (opening_rise (record o { groups = Some groups }) (least_horizon o.log.0 news)) b r refl
  from_welcomed Over = record { stage = tt; outs = tt }

  from_welcome : (stage : Stage) → From (IsStartFrom o stage (Welcome ask news groups)) (AreIn o stage) (on_welcome o stage ask news groups)
  unfolding on_welcome
  from_welcome stage =
      by_test (From (IsStartFrom o stage (Welcome ask news groups)) (AreIn o stage)) ((ask == o.ask) && (can_ask o && awaits_welcome stage))
      (opening_welcome (record o { groups = Some groups }) stage (least_horizon o.log.0 news)) (stays o stage)
      (λ t. from_welcomed stage)
      (λ t. from_stays (IsStartFrom o stage (Welcome ask news groups)) (AreIn o stage) o stage (stands o stage (Welcome ask news groups)))

from_takes : (o : Opening) (stage : Stage) (input : In) → From (IsStartFrom o stage input) (AreIn o stage) (opening_take o stage input)
from_takes o stage (Welcome ask news groups) = from_welcome o ask news groups stage
from_takes o stage (Fenced server generation held) =
    from_fenced (IsStartFrom o stage (Fenced server generation held)) (AreIn o stage) o stage (record { server = server; generation = generation; held = held })
    (λ lists e. inr e) (stands o stage (Fenced server generation held))
from_takes o stage (Got ask server generation fragment) =
    from_told (IsStartFrom o stage (Got ask server generation fragment)) (AreIn o stage) o stage ask server _
    (stands o stage (Got ask server generation fragment))
from_takes o stage (Missing ask server generation) =
    from_told (IsStartFrom o stage (Missing ask server generation)) (AreIn o stage) o stage ask server _ (stands o stage (Missing ask server generation))
from_takes o stage (Maps groups) = record { stage = stands o stage (Maps groups); outs = tt }
from_takes o stage Tick = record { stage = stands o stage Tick; outs = tick_says (IsStartFrom o stage Tick) (AreIn o stage) o stage }

-- ---- the laws

as_kept : (s : ScanState) (input : In) (stage : Stage) → Stands (IsStartFrom s.opening s.stage input) (AreIn s.opening s.stage) stage → KeepsStart s input stage
as_kept s input Hails q = tt
as_kept s input (Gathers lists) q = tt
as_kept s input (Asks lists) q = q
as_kept s input (Reads b r) q = q
as_kept s input Over q = tt

as_told : (s : ScanState) (input : In) (out : Out) → Says (IsStartFrom s.opening s.stage input) (AreIn s.opening s.stage) out → TellsStart s input out
as_told s input (Hello ask) q = tt
as_told s input (Fence server) q = tt
as_told s input (Fetch server name ask) q = tt
as_told s input (Chain segments end prior) q = q
as_told s input (Lost name) q = tt

all_told : (s : ScanState) (input : In) (outs : List Out) → AllByRecursion (Says (IsStartFrom s.opening s.stage input) (AreIn s.opening s.stage)) outs
    → AllByRecursion (TellsStart s input) outs
all_told s input [] q = tt
all_told s input (out ∷ outs) q = (as_told s input out q.0, all_told s input outs q.1)

pub start_kept : (s : ScanState) (input : In) → KeepsStart s input (transition s input).state.stage
start_kept s input = as_kept s input (transition s input).state.stage (from_takes s.opening s.stage input).stage

pub start_told : (s : ScanState) (input : In) → AllByRecursion (TellsStart s input) (transition s input).outs
start_told s input = all_told s input (transition s input).outs (from_takes s.opening s.stage input).outs
