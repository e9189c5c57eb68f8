-- The end that a scan tells is the start that it picked: what holds of that, wherever it picks, holds of the end that is told.
use Rattle.std.proofs.Common.{ℕ, ◌+◌, ◌==◌, ◌&&◌, List, [], ◌∷◌, ◌++◌, map, length, Option, Some, None}
use Rattle.std.specs.Prelude.{IfSome}
use Rattle.std.specs.List.{AllByRecursion}
use Rattle.xfs_base.proofs.Booleans.{by_test}
use Rattle.xfs_base.specs.declared.segment.End.{End}
use Rattle.group_map.specs.declared.group.Group.{Group}
use Rattle.group_map.specs.GroupMapState.{GroupMapState}
use Rattle.segment_reading.specs.declared.reading.Next.{Next}
use Rattle.segment_reading.specs.declared.reading.Next.TheVariants as next
use Rattle.segment_reading.specs.Reading.{ReadingState, reading_start, is_asking, reading_unanswered, reading_take, on_confirmed}
use Rattle.stripe_code.specs.declared.round.Told.{Told}
use Rattle.stripe_code.specs.declared.round.Told.TheVariants as told
use Rattle.log_scan.specs.declared.input.In.{In}
use Rattle.log_scan.specs.declared.input.In.TheVariants as input
use Rattle.log_scan.specs.declared.listing.Listing.{Listing}
use Rattle.log_scan.specs.declared.opening.Opening.{Opening}
use Rattle.log_scan.specs.declared.output.Out.{Out}
use Rattle.log_scan.specs.declared.output.Out.TheVariants.{Hello, Fence, Fetch, Chain, Lost}
use Rattle.log_scan.specs.declared.stage.Backward.{Backward}
use Rattle.log_scan.specs.declared.stage.Stage.{Stage}
use Rattle.log_scan.specs.declared.stage.Stage.TheVariants.{Hails, Gathers, Asks, Reads, Over}
use Rattle.log_scan.specs.Pick.{known_group, start_of}
use Rattle.log_scan.specs.Transition as scan
use Rattle.log_scan.specs.Transition.{Done, goes, stays, can_ask}
use Rattle.log_law.specs.Net.{chain_in}

module _ (P : End → Type 0) where
  -- where it reads back, the start is so
  abbrev pub StartIs : Stage → Type 0
  StartIs Hails = Unit {0}
  StartIs (Gathers lists) = Unit {0}
  StartIs (Asks lists) = Unit {0}
  StartIs (Reads b r) = P b.start
  StartIs Over = Unit {0}

  -- so is the end that is told
  abbrev TellsIs : Out → Type 0
  TellsIs (Hello ask) = Unit {0}
  TellsIs (Fence server) = Unit {0}
  TellsIs (Fetch server name ask) = Unit {0}
  TellsIs (Chain segments end prior) = P end
  TellsIs (Lost name) = Unit {0}

  -- so is where a Welcome has it pick
  abbrev pub PickIs : Opening → Stage → ℕ → Type 0
  PickIs o Hails least = Unit {0}
  PickIs o (Gathers lists) least = Unit {0}
  PickIs o (Asks lists) least = IfSome (start_of o.groups lists (scan.opening_rise o least).low) P
  PickIs o (Reads b r) least = Unit {0}
  PickIs o Over least = Unit {0}

  abbrev pub BringsPick : Opening → Stage → In → Type 0
  BringsPick o st (input.Welcome ask news groups) = PickIs (record o { groups = Some groups }) st (scan.least_horizon o.log.0 news)
  BringsPick o st (input.Fenced server generation held) = Unit {0}
  BringsPick o st (input.Got ask server generation fragment) = Unit {0}
  BringsPick o st (input.Missing ask server generation) = Unit {0}
  BringsPick o st (input.Maps groups) = Unit {0}
  BringsPick o st input.Tick = Unit {0}

  pub record Keeps (d : Done) : Type 0 where
    pub stage : StartIs d.state.stage
    pub tells : AllByRecursion TellsIs d.outs

  -- what is told of a chain
  pub told_end : (outs : List Out) → AllByRecursion TellsIs outs → IfSome (chain_in outs) (λ t. P t.end)
  told_end [] all = tt
  told_end (Hello ask ∷ os) all = told_end os all.1
  told_end (Fence server ∷ os) all = told_end os all.1
  told_end (Fetch server name ask ∷ os) all = told_end os all.1
  told_end (Chain segments end prior ∷ os) all = all.0
  told_end (Lost name ∷ os) all = told_end os all.1

  -- ---- questions

  all_so : {X : Type 0} (f : X → Out) → ((x : X) → TellsIs (f x)) → (xs : List X) → AllByRecursion TellsIs (map f xs)
  all_so f each [] = tt
  all_so f each (x ∷ xs) = (each x, all_so f each xs)

  backward_fetch_so : (r : ReadingState) → AllByRecursion TellsIs (scan.backward_fetch r)
  backward_fetch_so r = all_so (λ server. Fetch server r.target.seg.name r.ask) (λ server. tt) (reading_unanswered r)

  fences_so : (servers : List ℕ) → AllByRecursion TellsIs (scan.fences servers)
  fences_so servers = all_so (λ server. Fence server) (λ server. tt) servers

  rests : (o : Opening) (st : Stage) → StartIs st → Keeps (stays o st)
  rests o st h = record { stage = h; tells = tt }

  anew : (o : Opening) (st : Stage) → StartIs st → Keeps (scan.asks_anew o st)
  anew o st h = record { stage = h; tells = (tt, tt) }

  -- ---- reading back

  begins_in_so : (o : Opening) (b : Backward) (group : Option Group) → P b.start → Keeps (scan.begins_in o b group)
  begins_in_so o b None h = anew o (Reads b None) h
  begins_in_so o b (Some group) h = record { stage = h; tells = backward_fetch_so (reading_start (scan.target_at o.log b.next) group (o.ask + 1)) }

  begins_so : (o : Opening) (b : Backward) → P b.start → Keeps (scan.opening_begin_round o b)
  unfolding scan.opening_begin_round
  begins_so o b h = begins_in_so o b (known_group o.groups b.next.group) h

  opening_follow_so : (o : Opening) (b : Backward) → P b.start → Keeps (scan.opening_follow o b)
  unfolding scan.opening_follow
  opening_follow_so o b h =
      by_test Keeps (scan.is_bottom o.low b.next) (goes o Over (scan.backward_told b ∷ [])) (scan.opening_begin_round o b) (λ t. record { stage = tt; tells = (h, tt) })
      (λ t. begins_so o b h)

  next_so : (o : Opening) (b : Backward) (r : ReadingState) (n : Next) → P b.start → Keeps (scan.opening_go_on o b r n)
  unfolding scan.opening_go_on
  next_so o b r next.Wait h = rests o (Reads b (Some r)) h
  next_so o b r next.Ask h = record { stage = h; tells = backward_fetch_so r }
  next_so o b r next.Again h = anew o (Reads b (Some r)) h
  next_so o b r (next.Read s) h = opening_follow_so o (scan.backward_with b s) h
  next_so o b r next.Lost h = record { stage = tt; tells = (tt, tt) }

  -- ---- an answer, a list, time

  opening_read_so : (o : Opening) (b : Backward) (r : ReadingState) (m : Option GroupMapState) (ask server : ℕ) (t : Told) → P b.start
      → Keeps (scan.opening_read o b r m ask server t)
  opening_read_so o b r None ask server t h = rests o (Reads b (Some r)) h
  opening_read_so o b r (Some groups) ask server t h = next_so o b (reading_take r groups ask server t).state (reading_take r groups ask server t).next h

  opening_hear_so : (o : Opening) (b : Backward) (r : Option ReadingState) (ask server : ℕ) (t : Told) → P b.start → Keeps (scan.opening_hear o b r ask server t)
  opening_hear_so o b None ask server t h = rests o (Reads b None) h
  opening_hear_so o b (Some r) ask server t h =
      by_test Keeps (can_ask o) (scan.opening_read o b r o.groups ask server t) (stays o (Reads b (Some r))) (λ e. opening_read_so o b r o.groups ask server t h)
      (λ e. rests o (Reads b (Some r)) h)

  told_so : (o : Opening) (st : Stage) (ask server : ℕ) (t : Told) → StartIs st → Keeps (scan.on_told o st ask server t)
  unfolding scan.on_told
  told_so o Hails ask server t h = rests o Hails h
  told_so o (Gathers lists) ask server t h = rests o (Gathers lists) h
  told_so o (Asks lists) ask server t h = rests o (Asks lists) h
  told_so o (Reads b r) ask server t h = opening_hear_so o b r ask server t h
  told_so o Over ask server t h = rests o Over h

  with_list_so : (o : Opening) (lists : List Listing) → Keeps (scan.with_list o lists)
  unfolding scan.with_list
  with_list_so o lists =
      by_test Keeps (length (scan.awaited o.groups lists) == 0) (scan.asks_anew o (Asks lists)) (stays o (Gathers lists)) (λ t. anew o (Asks lists) tt)
      (λ t. rests o (Gathers lists) tt)

  fenced_so : (o : Opening) (st : Stage) (l : Listing) → StartIs st → Keeps (scan.on_fenced o st l)
  unfolding scan.on_fenced
  fenced_so o Hails l h = rests o Hails h
  fenced_so o (Gathers lists) l h =
      by_test Keeps (can_ask o && scan.awaits o.groups lists l.server) (scan.with_list o (lists ++ l ∷ [])) (stays o (Gathers lists))
      (λ t. with_list_so o (lists ++ l ∷ [])) (λ t. rests o (Gathers lists) h)
  fenced_so o (Asks lists) l h = rests o (Asks lists) h
  fenced_so o (Reads b r) l h = rests o (Reads b r) h
  fenced_so o Over l h = rests o Over h

  ticks : (o : Opening) (st : Stage) → AllByRecursion TellsIs (scan.on_tick o st)
  unfolding scan.on_tick
  ticks o Hails = (tt, tt)
  ticks o (Gathers lists) = fences_so (scan.awaited o.groups lists)
  ticks o (Asks lists) = (tt, tt)
  ticks o (Reads b None) = (tt, tt)
  ticks o (Reads b (Some r)) = by_test (AllByRecursion TellsIs) (is_asking r.stage) (scan.backward_fetch r) (Hello o.ask ∷ []) (λ t. backward_fetch_so r) (λ t. (tt, tt))
  ticks o Over = tt

  -- ---- a Welcome

  picked_so : (o : Opening) (lists : List Listing) (start : Option End) → IfSome start P → Keeps (scan.picks_at o lists start)
  picked_so o lists None h = anew o (Asks lists) tt
  picked_so o lists (Some start) h = opening_follow_so o (scan.backward_from start) h

  opening_pick_so : (o : Opening) (lists : List Listing) → IfSome (start_of o.groups lists o.low) P → Keeps (scan.opening_pick o lists)
  unfolding scan.opening_pick
  opening_pick_so o lists h = picked_so o lists (start_of o.groups lists o.low) h

  confirms_by_so : (o : Opening) (b : Backward) (r : Option ReadingState) → P b.start → Keeps (scan.confirms_by o b r)
  confirms_by_so o b None h = begins_so o b h
  confirms_by_so o b (Some r) h = next_so o b (on_confirmed r (o.ask + 1)).state (on_confirmed r (o.ask + 1)).next h

  opening_confirm_so : (o : Opening) (b : Backward) (r : Option ReadingState) → P b.start → Keeps (scan.opening_confirm o b r)
  unfolding scan.opening_confirm
  opening_confirm_so o b r h =
      by_test Keeps (scan.is_bottom o.low b.next) (goes o Over (scan.backward_told b ∷ [])) (scan.confirms_by o b r) (λ t. record { stage = tt; tells = (h, tt) })
      (λ t. confirms_by_so o b r h)

  opening_welcome_so : (o : Opening) (st : Stage) (least : ℕ) → StartIs st → PickIs o st least → Keeps (scan.opening_welcome o st least)
  opening_welcome_so o Hails least h pick = record { stage = tt; tells = fences_so (scan.awaited o.groups []) }
  opening_welcome_so o (Gathers lists) least h pick = rests o (Gathers lists) h
  opening_welcome_so o (Asks lists) least h pick = opening_pick_so (scan.opening_rise o least) lists pick
  opening_welcome_so o (Reads b r) least h pick = opening_confirm_so (scan.opening_rise o least) b r h
  opening_welcome_so o Over least h pick = rests o Over h

  -- ---- all inputs

  pub keeps_start : (o : Opening) (st : Stage) (i : In) → StartIs st → BringsPick o st i → Keeps (scan.opening_take o st i)
  unfolding scan.on_welcome
  keeps_start o st (input.Welcome ask news groups) h pick =
      by_test Keeps ((ask == o.ask) && (can_ask o && scan.awaits_welcome st))
      (scan.opening_welcome (record o { groups = Some groups }) st (scan.least_horizon o.log.0 news))
      (stays o st) (λ t. opening_welcome_so (record o { groups = Some groups }) st (scan.least_horizon o.log.0 news) h pick) (λ t. rests o st h)
  keeps_start o st (input.Fenced server generation held) h pick = fenced_so o st (record { server = server; generation = generation; held = held }) h
  keeps_start o st (input.Got ask server generation fragment) h pick = told_so o st ask server (told.Held fragment) h
  keeps_start o st (input.Missing ask server generation) h pick = told_so o st ask server (told.Missing generation) h
  keeps_start o st (input.Maps groups) h pick = rests (record o { groups = Some groups }) st h
  keeps_start o st input.Tick h pick = record { stage = h; tells = ticks o st }
