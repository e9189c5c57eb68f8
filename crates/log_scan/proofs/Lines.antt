-- The chain hangs together: what an opening that reads it back keeps true, at each input.
use Rattle.std.proofs.Common.{◌≡◌, ℕ, ◌+◌, ◌≤◌, ◌&&◌, List, [], ◌∷◌, ◌++◌, map, Option, Some, None, refl, sym, ap, ◌∙◌, subst, arith}
use Rattle.std.specs.Prelude.{◌==◌, reverse, nat_lt, length}
use Rattle.std.specs.List.{AllByRecursion}
use Rattle.std.proofs.lemmas.Bool.{or_parts, ltb-false}
use Rattle.std.proofs.lemmas.List.{reverse-reverse, reverse-append}
use Rattle.group_map.specs.declared.group.Group.{Group}
use Rattle.group_map.specs.GroupMapState.{GroupMapState}
use Rattle.segment_format.specs.declared.segment.Segment.{Segment}
use Rattle.segment_reading.specs.declared.reading.Next.{Next}
use Rattle.segment_reading.specs.declared.reading.Next.TheVariants as next
use Rattle.segment_reading.specs.Reading.{ReadingState, is_asking, reading_unanswered, reading_take, on_confirmed}
use Rattle.segment_reading.specs.Reading as reading
use Rattle.stripe_code.specs.declared.round.Told.{Told}
use Rattle.xfs_base.specs.declared.news.SlotNews.{SlotNews}
use Rattle.xfs_base.specs.declared.segment.End.{End}
use Rattle.xfs_base.specs.declared.segment.LogId.{LogId}
use Rattle.xfs_base.specs.declared.segment.SegName.{SegName}
use Rattle.xfs_base.proofs.Booleans.{by_test}
use Rattle.xfs_base.proofs.StepLoops.{steps_keep}
use Rattle.xfs_base.proofs.Alls.{all_append}
use Rattle.xfs_base.specs.Segments.{names_none}
use Rattle.log_scan.specs.declared.input.In.{In}
use Rattle.log_scan.specs.declared.input.In.TheVariants.{Welcome, Fenced, Got, Missing, Maps, Tick}
use Rattle.log_scan.specs.declared.listing.Listing.{Listing}
use Rattle.log_scan.specs.declared.opening.Opening.{Opening}
use Rattle.log_scan.specs.declared.output.Out.TheVariants.{Hello, Fetch}
use Rattle.log_scan.specs.declared.stage.Backward.{Backward}
use Rattle.log_scan.specs.declared.stage.Stage.{Stage}
use Rattle.log_scan.specs.declared.stage.Stage.TheVariants.{Hails, Gathers, Asks, Reads, Over}
use Rattle.log_scan.specs.Linked.{AreLinked, TellsLinked, state_after}
use Rattle.log_scan.specs.Pick.{known_group, start_of}
use Rattle.log_scan.specs.ScanState.{ScanState, scan_start}
use Rattle.log_scan.specs.Transition.{Done, goes, stays, can_ask, asks_anew, least_horizon, opening_rise, name_at, target_at, prior_at, is_bottom, backward_from, end_below, backward_with, backward_told, backward_fetch, begins_in, opening_begin_round, opening_follow, opening_go_on, awaits_welcome, awaits, awaited, fences, picks_at, opening_pick, confirms_by, opening_confirm, opening_welcome, on_welcome, with_list, on_fenced, opening_read, opening_hear, on_told, opening_read_again, on_tick, opening_take, transition}
use Rattle.log_scan.proofs.Targets.{ReadsName, KeepsTarget, answered_keeps, confirmed_keeps}

-- ---- links

-- what is below these segments
abbrev foot : End → List Segment → End
foot e [] = e
foot e (s ∷ rest) = foot (end_below s) rest

foot_more : (e : End) (ss : List Segment) (s : Segment) → foot e (ss ++ s ∷ []) ≡ end_below s
foot_more e [] s = refl
foot_more e (t ∷ ss) s = foot_more (end_below t) ss s

linked_more : (log : LogId) (e : End) (ss : List Segment) (s : Segment) → AreLinked log e ss → s.name ≡ name_at log (foot e ss) → 1 ≤ (foot e ss).seq
    → AreLinked log e (ss ++ s ∷ [])
linked_more log e [] s linked name some = (name, some, tt)
linked_more log e (t ∷ ss) s linked name some = (linked.0, linked.1, linked_more log (end_below t) ss s linked.2 name some)

-- no segment has a number above the end's
none_above : (log : LogId) (highest : ℕ) (e : End) (ss : List Segment) → e.seq ≤ highest → AreLinked log e ss → AllByRecursion (λ s. s.name.seq ≤ highest) ss
none_above log highest e [] le linked = tt
none_above log highest e (s ∷ ss) le linked =
    let number : s.name.seq ≡ e.seq = ap (λ (n : SegName). n.seq) linked.0 in
    (omega (arith, number, le), none_above log highest (end_below s) ss (omega (arith, number, le)) linked.2)

all_reverse : {X : Type 0} (P : X → Type 0) (xs : List X) → AllByRecursion P xs → AllByRecursion P (reverse xs)
all_reverse P [] all = tt
all_reverse P (x ∷ xs) all =
    subst (AllByRecursion P) (sym (reverse-append (x ∷ []) xs)) (all_append P (reverse xs) (x ∷ []) (all_reverse P xs all.1) (all.0, tt))

-- ---- what is kept true

-- what was read hangs together, and what is read next is below it
record SoFar (log : LogId) (b : Backward) : Type 0 where
  linked : AreLinked log b.start b.chain
  next : b.next ≡ foot b.start b.chain

-- the reading looks for what is read next
abbrev LooksFor : LogId → End → Option ReadingState → Type 0
LooksFor log e None = Unit {0}
LooksFor log e (Some r) = r.target ≡ target_at log e

record IsBack (log : LogId) (b : Backward) (r : Option ReadingState) : Type 0 where
  so_far : SoFar log b
  some : 1 ≤ b.next.seq
  looks : LooksFor log b.next r

abbrev IsStage : LogId → Stage → Type 0
IsStage log Hails = Unit {0}
IsStage log (Gathers lists) = Unit {0}
IsStage log (Asks lists) = Unit {0}
IsStage log (Reads b r) = IsBack log b r
IsStage log Over = Unit {0}

record IsOpening (log : LogId) (o : Opening) : Type 0 where
  of_log : o.log ≡ log
  low : 1 ≤ o.low

-- a step keeps all this, and a chain that it tells hangs together
record Keeps (log : LogId) (d : Done) : Type 0 where
  opening : IsOpening log d.state.opening
  stage : IsStage log d.state.stage
  outs : AllByRecursion (TellsLinked log) d.outs

-- ---- steps

module _ (log : LogId) where
  fetches_tell : (name : SegName) (ask : ℕ) (servers : List ℕ) → AllByRecursion (TellsLinked log) (map (λ server. Fetch server name ask) servers)
  fetches_tell name ask [] = tt
  fetches_tell name ask (s ∷ ss) = (tt, fetches_tell name ask ss)

  fences_tell : (servers : List ℕ) → AllByRecursion (TellsLinked log) (fences servers)
  fences_tell [] = tt
  fences_tell (s ∷ ss) = (tt, fences_tell ss)

  chain_tells : (b : Backward) → SoFar log b → TellsLinked log (backward_told b)
  chain_tells b so = record {
    linked = subst (AreLinked log b.start) (sym (reverse-reverse b.chain)) so.linked;
    below = all_reverse (λ s. s.name.seq ≤ b.start.seq) b.chain (none_above log b.start.seq b.start b.chain (omega arith) so.linked);
    prior_is = refl;
  }

  module _ (o : Opening) (fact : IsOpening log o) where
    keeps_stay : (stage : Stage) → IsStage log stage → Keeps log (stays o stage)
    keeps_stay stage st = record { opening = fact; stage = st; outs = tt }

    keeps_anew : (stage : Stage) → IsStage log stage → Keeps log (asks_anew o stage)
    keeps_anew stage st = record { opening = record { of_log = fact.of_log; low = fact.low }; stage = st; outs = (tt, tt) }

    keeps_chain : (b : Backward) → SoFar log b → Keeps log (goes o Over (backward_told b ∷ []))
    keeps_chain b so = record { opening = fact; stage = tt; outs = (chain_tells b so, tt) }

    keeps_begins_in : (b : Backward) (g : Option Group) → SoFar log b → 1 ≤ b.next.seq → Keeps log (begins_in o b g)
    keeps_begins_in b None so some = keeps_anew (Reads b None) (record { so_far = so; some = some; looks = tt })
    keeps_begins_in b (Some g) so some =
        let r = reading.reading_start (target_at o.log b.next) g (o.ask + 1) in
        record {
          opening = record { of_log = fact.of_log; low = fact.low };
          stage = record { so_far = so; some = some; looks = ap (λ l. target_at l b.next) fact.of_log };
          outs = fetches_tell r.target.seg.name r.ask (reading_unanswered r);
        }

    keeps_begins : (b : Backward) → SoFar log b → 1 ≤ b.next.seq → Keeps log (opening_begin_round o b)
    unfolding opening_begin_round
    keeps_begins b so some = keeps_begins_in b (known_group o.groups b.next.group) so some

    keeps_follows : (b : Backward) → SoFar log b → Keeps log (opening_follow o b)
    unfolding opening_follow
    keeps_follows b so =
        by_test (λ (d : Done). Keeps log d) (is_bottom o.low b.next) (goes o Over (backward_told b ∷ [])) (opening_begin_round o b)
        (λ t. keeps_chain b so)
        (λ t. (
        let below : o.low ≤ b.next.seq = ltb-false b.next.seq o.low (or_parts (nat_lt b.next.seq o.low) (names_none (prior_at b.next)) t).0 in
        keeps_begins b so (omega (arith, below, fact.low))
        ))

    -- a segment of the next name was read
    so_far_more : (b : Backward) (s : Segment) → SoFar log b → 1 ≤ b.next.seq → s.name ≡ name_at log b.next → SoFar log (backward_with b s)
    so_far_more b s so some name = record {
      linked = linked_more log b.start b.chain s so.linked (name ∙ ap (name_at log) so.next) (subst (λ (e : End). 1 ≤ e.seq) so.next some);
      next = sym (foot_more b.start b.chain s);
    }

    keeps_goes_on : (b : Backward) (r : ReadingState) (n : Next) → IsBack log b (Some r) → ReadsName r.target.seg.name n → Keeps log (opening_go_on o b r n)
    unfolding opening_go_on
    keeps_goes_on b r next.Wait back name = keeps_stay (Reads b (Some r)) back
    keeps_goes_on b r next.Ask back name = record {
      opening = record { of_log = fact.of_log; low = fact.low };
      stage = back;
      outs = fetches_tell r.target.seg.name r.ask (reading_unanswered r);
    }
    keeps_goes_on b r next.Again back name = keeps_anew (Reads b (Some r)) back
    keeps_goes_on b r (next.Read s) back name =
        keeps_follows (backward_with b s) (so_far_more b s back.so_far back.some (name ∙ ap (λ t. t.seg.name) back.looks))
    keeps_goes_on b r next.Lost back name = record { opening = fact; stage = tt; outs = (tt, tt) }

    keeps_step : (b : Backward) (r : ReadingState) (step : reading.Step) → IsBack log b (Some r) → KeepsTarget r step
        → Keeps log (opening_go_on o b step.state step.next)
    keeps_step b r step back k =
        keeps_goes_on b step.state step.next (record { so_far = back.so_far; some = back.some; looks = k.same ∙ back.looks })
        (subst (λ t. ReadsName t.seg.name step.next) (sym k.same) k.name)

    keeps_confirms_by : (b : Backward) (r : Option ReadingState) → IsBack log b r → Keeps log (confirms_by o b r)
    keeps_confirms_by b None back = keeps_begins b back.so_far back.some
    keeps_confirms_by b (Some r) back = keeps_step b r (on_confirmed r (o.ask + 1)) back (confirmed_keeps r (o.ask + 1))

    keeps_confirms : (b : Backward) (r : Option ReadingState) → IsBack log b r → Keeps log (opening_confirm o b r)
    unfolding opening_confirm
    keeps_confirms b r back =
        by_test (λ (d : Done). Keeps log d) (is_bottom o.low b.next) (goes o Over (backward_told b ∷ [])) (confirms_by o b r)
        (λ t. keeps_chain b back.so_far)
        (λ t. keeps_confirms_by b r back)

    keeps_picks_at : (lists : List Listing) (e : Option End) → Keeps log (picks_at o lists e)
    keeps_picks_at lists None = keeps_anew (Asks lists) tt
    keeps_picks_at lists (Some e) = keeps_follows (backward_from e) (record { linked = tt; next = refl })

    keeps_picks : (lists : List Listing) → Keeps log (opening_pick o lists)
    unfolding opening_pick
    keeps_picks lists = keeps_picks_at lists (start_of o.groups lists o.low)

  risen : (o : Opening) (least : ℕ) → IsOpening log o → IsOpening log (opening_rise o least)
  risen o least fact = record { of_log = fact.of_log; low = (let one = fact.low in omega (arith, one)) }

  keeps_welcomed : (o : Opening) (stage : Stage) (least : ℕ) → IsOpening log o → IsStage log stage → Keeps log (opening_welcome o stage least)
  keeps_welcomed o Hails least fact st = record { opening = fact; stage = tt; outs = fences_tell (awaited o.groups []) }
  keeps_welcomed o (Gathers lists) least fact st = keeps_stay o fact (Gathers lists) tt
  keeps_welcomed o (Asks lists) least fact st = keeps_picks (opening_rise o least) (risen o least fact) lists
  keeps_welcomed o (Reads b r) least fact st = keeps_confirms (opening_rise o least) (risen o least fact) b r st
  keeps_welcomed o Over least fact st = keeps_stay o fact Over tt

  keeps_on_welcome : (o : Opening) (stage : Stage) (ask : ℕ) (news : List SlotNews) (groups : GroupMapState) → IsOpening log o → IsStage log stage
      → Keeps log (on_welcome o stage ask news groups)
  unfolding on_welcome
  keeps_on_welcome o stage ask news groups fact st =
      by_test (λ (d : Done). Keeps log d) ((ask == o.ask) && (can_ask o && awaits_welcome stage))
      (opening_welcome (record o { groups = Some groups }) stage (least_horizon o.log.0 news)) (stays o stage)
      (λ t. keeps_welcomed (record o { groups = Some groups }) stage (least_horizon o.log.0 news) (record { of_log = fact.of_log; low = fact.low }) st)
      (λ t. keeps_stay o fact stage st)

  keeps_with_list : (o : Opening) (lists : List Listing) → IsOpening log o → Keeps log (with_list o lists)
  unfolding with_list
  keeps_with_list o lists fact =
      by_test (λ (d : Done). Keeps log d) (length (awaited o.groups lists) == 0) (asks_anew o (Asks lists)) (stays o (Gathers lists))
      (λ t. keeps_anew o fact (Asks lists) tt)
      (λ t. keeps_stay o fact (Gathers lists) tt)

  keeps_on_fenced : (o : Opening) (stage : Stage) (l : Listing) → IsOpening log o → IsStage log stage → Keeps log (on_fenced o stage l)
  unfolding on_fenced
  keeps_on_fenced o Hails l fact st = keeps_stay o fact Hails tt
  keeps_on_fenced o (Gathers lists) l fact st =
      by_test (λ (d : Done). Keeps log d) (can_ask o && awaits o.groups lists l.server) (with_list o (lists ++ l ∷ [])) (stays o (Gathers lists))
      (λ t. keeps_with_list o (lists ++ l ∷ []) fact)
      (λ t. keeps_stay o fact (Gathers lists) tt)
  keeps_on_fenced o (Asks lists) l fact st = keeps_stay o fact (Asks lists) tt
  keeps_on_fenced o (Reads b r) l fact st = keeps_stay o fact (Reads b r) st
  keeps_on_fenced o Over l fact st = keeps_stay o fact Over tt

  keeps_heard_with : (o : Opening) (b : Backward) (r : ReadingState) (groups : Option GroupMapState) (ask server : ℕ) (t : Told) → IsOpening log o
      → IsBack log b (Some r) → Keeps log (opening_read o b r groups ask server t)
  keeps_heard_with o b r None ask server t fact back = keeps_stay o fact (Reads b (Some r)) back
  keeps_heard_with o b r (Some groups) ask server t fact back =
      keeps_step o fact b r (reading_take r groups ask server t) back (answered_keeps r groups ask server t)

  keeps_heard : (o : Opening) (b : Backward) (r : Option ReadingState) (ask server : ℕ) (t : Told) → IsOpening log o → IsBack log b r
      → Keeps log (opening_hear o b r ask server t)
  keeps_heard o b None ask server t fact back = keeps_stay o fact (Reads b None) back
  keeps_heard o b (Some r) ask server t fact back =
      by_test (λ (d : Done). Keeps log d) (can_ask o) (opening_read o b r o.groups ask server t) (stays o (Reads b (Some r)))
      (λ e. keeps_heard_with o b r o.groups ask server t fact back)
      (λ e. keeps_stay o fact (Reads b (Some r)) back)

  keeps_on_told : (o : Opening) (stage : Stage) (ask server : ℕ) (t : Told) → IsOpening log o → IsStage log stage → Keeps log (on_told o stage ask server t)
  unfolding on_told
  keeps_on_told o Hails ask server t fact st = keeps_stay o fact Hails tt
  keeps_on_told o (Gathers lists) ask server t fact st = keeps_stay o fact (Gathers lists) tt
  keeps_on_told o (Asks lists) ask server t fact st = keeps_stay o fact (Asks lists) tt
  keeps_on_told o (Reads b r) ask server t fact st = keeps_heard o b r ask server t fact st
  keeps_on_told o Over ask server t fact st = keeps_stay o fact Over tt

  again_tells : (o : Opening) (r : Option ReadingState) → AllByRecursion (TellsLinked log) (opening_read_again o r)
  again_tells o None = (tt, tt)
  again_tells o (Some r) =
      by_test (AllByRecursion (TellsLinked log)) (is_asking r.stage) (backward_fetch r) (Hello o.ask ∷ []) (λ t. fetches_tell r.target.seg.name r.ask (reading_unanswered r))
      (λ t. (tt, tt))

  tick_tells : (o : Opening) (stage : Stage) → AllByRecursion (TellsLinked log) (on_tick o stage)
  unfolding on_tick
  tick_tells o Hails = (tt, tt)
  tick_tells o (Gathers lists) = fences_tell (awaited o.groups lists)
  tick_tells o (Asks lists) = (tt, tt)
  tick_tells o (Reads b r) = again_tells o r
  tick_tells o Over = tt

  keeps_takes : (o : Opening) (stage : Stage) (input : In) → IsOpening log o → IsStage log stage → Keeps log (opening_take o stage input)
  keeps_takes o stage (Welcome ask news groups) fact st = keeps_on_welcome o stage ask news groups fact st
  keeps_takes o stage (Fenced server generation held) fact st =
      keeps_on_fenced o stage (record { server = server; generation = generation; held = held }) fact st
  keeps_takes o stage (Got ask server generation fragment) fact st = keeps_on_told o stage ask server _ fact st
  keeps_takes o stage (Missing ask server generation) fact st = keeps_on_told o stage ask server _ fact st
  keeps_takes o stage (Maps groups) fact st = record { opening = record { of_log = fact.of_log; low = fact.low }; stage = st; outs = tt }
  keeps_takes o stage Tick fact st = record { opening = fact; stage = st; outs = tick_tells o stage }

  -- ---- over any history

  -- what is true of an opening at its start, and after each input
  record Sound (s : ScanState) : Type 0 where
    opening : IsOpening log s.opening
    stage : IsStage log s.stage

  sound_start : (inc : ℕ) → Sound (scan_start log inc)
  sound_start inc = record { opening = record { of_log = refl; low = omega arith }; stage = tt }

  sound_transition : (s : ScanState) (input : In) → Sound s → Sound (transition s input).state
  sound_transition s input sound =
      let k = keeps_takes s.opening s.stage input sound.opening sound.stage in
      record { opening = k.opening; stage = k.stage }

  sound_after : (s : ScanState) → Sound s → (history : List In) → Sound (state_after s history)
  sound_after s sound history = steps_keep transition Sound sound_transition s history sound

pub all_linked : (log : LogId) (inc : ℕ) (history : List In) (input : In)
    → AllByRecursion (TellsLinked log) (transition (state_after (scan_start log inc) history) input).outs
all_linked log inc history input =
    let before = state_after (scan_start log inc) history in
    let sound = sound_after log (scan_start log inc) (sound_start log inc) history in
    (keeps_takes log before.opening before.stage input sound.opening sound.stage).outs
