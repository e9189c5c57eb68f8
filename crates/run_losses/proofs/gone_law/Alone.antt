-- That a segment is lost a takeover says alone, of what it reads, and only when a server has answered it.
use Rattle.std.proofs.Common.{◌≡◌, ◌⊎◌, ℕ, ◌+◌, ◌==◌, ◌&&◌, List, [], ◌∷◌, ◌++◌, length, Option, Some, None, inl, inr, refl}
use Rattle.std.specs.List.{AllByRecursion}
use Rattle.group_map.specs.declared.group.Group.{Group}
use Rattle.group_map.specs.Groups.{group_of}
use Rattle.group_map.specs.GroupMapState.{GroupMapState}
use Rattle.segment_format.specs.declared.segment.Segment.{Segment}
use Rattle.segment_reading.specs.declared.reading.Next.{Next}
use Rattle.segment_reading.specs.declared.reading.Next.TheVariants as next
use Rattle.segment_reading.specs.Reading.{ReadingState, reading_start, reading_unanswered, reading_take, on_confirmed}
use Rattle.stripe_code.specs.declared.round.Told.{Told}
use Rattle.takeover.specs.declared.input.In.{In}
use Rattle.takeover.specs.declared.input.In.TheVariants as input
use Rattle.takeover.specs.declared.output.Out.{Out}
use Rattle.takeover.specs.declared.output.Out.TheVariants as out
use Rattle.takeover.specs.declared.report.Report.{Report}
use Rattle.takeover.specs.declared.source.Present.{Present}
use Rattle.takeover.specs.declared.source.Source.{Source}
use Rattle.takeover.specs.Rows.{told_of}
use Rattle.takeover.specs.Sources.{back_from, sources_of}
use Rattle.takeover.specs.TakeState.{TakeState}
use Rattle.takeover.specs.Transition.{Done, active, again, awaited, awaits, begin_if_all, can_ask, confirmed_as, fetches, go_on, go_on_from, has_read, is_index, take_follow, next_of, on_maps, on_report, on_tick, on_told, polls, repeated, seek, sought_again, sought_over, target_of, told_at, take_judge, transition, present_repeat, waiting, join_chain}
use Rattle.run_losses.proofs.taking_law.TakeTurns.{Heard, heard_in}
use Rattle.xfs_base.proofs.Booleans.{by_test}
use Rattle.xfs_base.specs.declared.segment.SegName.{SegName}
use Rattle.xfs_base.specs.Steps.{still}
use Rattle.xfs_base.proofs.Alls.{all_append, all_map}

abbrev pub NotLost : Out → Type 0
NotLost (out.Poll to) = Unit {0}
NotLost (out.Fetch server name own) = Unit {0}
NotLost (out.Active epoch index beliefs applied) = Unit {0}
NotLost (out.Lost name) = ⊥

abbrev pub NoneLost : List Out → Type 0
NoneLost outs = AllByRecursion NotLost outs

-- nothing is said to be lost, or nothing else is said
abbrev pub LostAlone : List Out → Type 0
LostAlone outs = NoneLost outs ⊎ ((name : SegName) × (outs ≡ out.Lost name ∷ []))

-- ---- one source after the other

fetches_none : (name : SegName) (ask : ℕ) (servers : List ℕ) → NoneLost (fetches name ask servers)
fetches_none name ask servers = all_map NotLost (λ v. out.Fetch v name ask) (λ v. tt) servers

sought_none : (s : TakeState) (source : Source) → NoneLost (seek s source).outs
unfolding seek
sought_none s source = by (group_of s.groups source.seg.group)
  where
    by : (o : Option Group) → NoneLost (sought_over s source o).outs
    by None = tt
    by (Some group) = fetches_none source.seg.name (s.ask + 1) (reading_unanswered (reading_start (target_of source) group (s.ask + 1)))

go_on_none : (s : TakeState) → NoneLost (go_on s).outs
unfolding go_on
go_on_none s = by s.sources
  where
    by : (sources : List Source) → NoneLost (next_of sources s).outs
    by [] = by_test NoneLost (is_index s.index) (active s s.index ∷ []) [] (λ _. (tt, tt)) (λ _. tt)
    by (source ∷ rest) = sought_none (record s { sources = rest }) source

has_read_none : (s : TakeState) (source : Source) (segment : Segment) → NoneLost (has_read s source segment).outs
unfolding has_read
has_read_none s source segment = by (back_from source segment)
  where
    by : (before : Option Source) → NoneLost (go_on_from (record s { chain = told_of s.news.slot segment ∷ s.chain }) before).outs
    by None = go_on_none (join_chain (record s { chain = told_of s.news.slot segment ∷ s.chain }))
    by (Some before) = sought_none (record s { chain = told_of s.news.slot segment ∷ s.chain }) before

-- ---- an answer

again_so : (s : TakeState) (source : Source) (r : ReadingState) → LostAlone (again s source r).outs
unfolding again
again_so s source r = by (on_confirmed r (s.ask + 1)).next
  where
    by : (n : Next) → LostAlone (confirmed_as s source (on_confirmed r (s.ask + 1)).state n).outs
    by next.Ask = inl (fetches_none source.seg.name (s.ask + 1) (reading_unanswered (on_confirmed r (s.ask + 1)).state))
    by next.Lost = inr (source.seg.name, refl)
    by next.Wait = inl tt
    by next.Again = inl tt
    by (next.Read segment) = inl tt

told_so : (s : TakeState) (ask server : ℕ) (told : Told) → LostAlone (on_told s ask server told).outs
unfolding on_told
told_so s ask server told =
    by_test (λ (d : Done). LostAlone d.outs) (can_ask s) (told_at (record s { present = None }) s.present ask server told) (still s) (λ _. by s.present)
    (λ _. inl tt)
  where
    x : TakeState
    x = record s { present = None }

    judged : (source : Source) (r : ReadingState) (n : Next) → LostAlone (take_follow (record s { present = None }) source r n).outs
    judged source r next.Again = again_so x source r
    judged source r (next.Read segment) = inl (has_read_none x source segment)
    judged source r next.Wait = inl tt
    judged source r next.Ask = inl tt
    judged source r next.Lost = inl tt

    by_reading : (source : Source) (o : Option ReadingState) → LostAlone (take_judge (record s { present = None }) source o ask server told).outs
    by_reading source None = inl tt
    by_reading source (Some r) =
        judged source (reading_take r s.groups ask server told).state (reading_take r s.groups ask server told).next

    by : (o : Option Present) → LostAlone (told_at (record s { present = None }) o ask server told).outs
    by None = inl tt
    by (Some p) = by_reading p.source p.reading

-- ---- what brings no answer

report_none : (s : TakeState) (report : Report) → NoneLost (on_report s report).outs
unfolding on_report
report_none s report =
    let heard : TakeState = record s { reports = s.reports ++ report ∷ [] } in
    by_test (λ (d : Done). NoneLost d.outs) (can_ask s && awaits s report.from) (begin_if_all heard) (still s)
    (λ _. by_test (λ (d : Done). NoneLost d.outs) (length (awaited heard) == 0) (go_on (record heard { sources = sources_of heard.news heard.reports }))
    (still heard) (λ _. go_on_none (record heard { sources = sources_of heard.news heard.reports })) (λ _. tt)) (λ _. tt)

maps_none : (s : TakeState) (groups : GroupMapState) → NoneLost (on_maps s groups).outs
unfolding on_maps
maps_none s groups = by (waiting s.present)
  where
    by : (o : Option Source) → NoneLost (sought_again (record s { groups = groups }) o).outs
    by None = tt
    by (Some source) =
        by_test (λ (d : Done). NoneLost d.outs) (can_ask s) (seek (record s { groups = groups }) source) (still (record s { groups = groups }))
        (λ _. sought_none (record s { groups = groups }) source) (λ _. tt)

tick_none : (s : TakeState) → NoneLost (on_tick s)
tick_none s = all_append NotLost (polls (awaited s)) (repeated s.present) (all_map NotLost (λ node. out.Poll node) (λ node. tt) (awaited s)) (by s.present)
  where
    by_reading : (source : Source) (o : Option ReadingState) → NoneLost (present_repeat source o)
    by_reading source None = tt
    by_reading source (Some r) = fetches_none source.seg.name r.ask (reading_unanswered r)

    by : (o : Option Present) → NoneLost (repeated o)
    by None = tt
    by (Some p) = by_reading p.source p.reading

-- ---- all inputs

some_none : (h : Heard) → Some h ≡ None → ⊥
some_none h e = cc

pub calm_none : (s : TakeState) (given : In) → heard_in given ≡ None → NoneLost (transition s given).outs
calm_none s (input.Report from held end) calm = report_none s (record { from = from; held = held; end = end })
calm_none s (input.Got own server generation fragment) calm = absurd (some_none _ calm)
calm_none s (input.Missing own server generation) calm = absurd (some_none _ calm)
calm_none s (input.Maps groups) calm = maps_none s groups
calm_none s input.Tick calm = tick_none s

pub says_alone : (s : TakeState) (given : In) → LostAlone (transition s given).outs
says_alone s (input.Report from held end) = inl (report_none s (record { from = from; held = held; end = end }))
says_alone s (input.Got own server generation fragment) = told_so s own server _
says_alone s (input.Missing own server generation) = told_so s own server _
says_alone s (input.Maps groups) = inl (maps_none s groups)
says_alone s input.Tick = inl (tick_none s)
