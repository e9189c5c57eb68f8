-- Whatever a takeover says: where it hands a slot out, the slot may start with it.
use Rattle.std.proofs.Common.{◌≡◌, ℕ, ◌+◌, List, [], ◌∷◌, ◌++◌, Option, Some, None, length, refl, sym, subst}
use Rattle.std.specs.Prelude.{All, IfOk, Result, Ok, Err, ◌&&◌, ◌==◌}
use Rattle.std.proofs.lemmas.Bool.{leb-true}
use Rattle.std.proofs.lemmas.List.Elements.{All-nil, All-cons, All-append}
use Rattle.group_map.specs.GroupMapState.{GroupMapState}
use Rattle.group_map.specs.Groups.{group_of}
use Rattle.segment_format.specs.declared.segment.Segment.{Segment}
use Rattle.segment_reading.specs.Reading.{ReadingState, reading_start, reading_unanswered, reading_take, on_confirmed}
use Rattle.segment_reading.specs.declared.reading.Next.{Next}
use Rattle.segment_reading.specs.declared.reading.Next.TheVariants as next
use Rattle.stripe_code.specs.declared.round.Told.{Told}
use Rattle.stripe_code.specs.declared.round.Told.TheVariants.{Held}
use Rattle.stripe_code.specs.declared.round.Told.TheVariants as told
use Rattle.xfs_base.specs.declared.node.NodeId.{NodeId}
use Rattle.xfs_base.specs.declared.segment.SegName.{SegName}
use Rattle.xfs_base.specs.Limits.{u32_end}
use Rattle.xfs_base.specs.Steps.{still}
use Rattle.xfs_base.proofs.Booleans.{by_test}
use Rattle.takeover.specs.declared.input.In.{In}
use Rattle.takeover.specs.declared.input.In.TheVariants as input
use Rattle.takeover.specs.declared.output.Out.{Out}
use Rattle.takeover.specs.declared.output.Out.TheVariants.{Poll, Fetch, Active, Lost}
use Rattle.takeover.specs.declared.report.Report.{Report}
use Rattle.takeover.specs.declared.source.Present.{Present}
use Rattle.takeover.specs.declared.source.Source.{Source}
use Rattle.takeover.specs.Course.{StartsSlot}
use Rattle.takeover.specs.Reports.{applied_of, beliefs_of}
use Rattle.takeover.specs.Rows.{told_of}
use Rattle.takeover.specs.Sources.{sources_of, back_from}
use Rattle.takeover.specs.TakeState.{TakeState}
use Rattle.takeover.specs.Transition.{Done, awaited, awaits, can_ask, fetches, polls, target_of, sought_over, seek, is_index, hand_over, next_of, go_on, join_chain, go_on_from, has_read, take_lose, confirmed_as, again, take_follow, take_judge, told_at, on_told, begin_if_all, on_report, waiting, sought_again, on_maps, present_repeat, repeated, transition}

-- what is said may start a slot, where it hands one out
abbrev Start : Done → Type 0
Start d = All StartsSlot d.outs

starts_nothing : All StartsSlot []
starts_nothing = All-nil StartsSlot

starts-fetches : (name : SegName) (ask : ℕ) (servers : List ℕ) → All StartsSlot (fetches name ask servers)
starts-fetches name ask [] = starts_nothing
starts-fetches name ask (s ∷ ss) = All-cons StartsSlot (Fetch s name ask) (fetches name ask ss) tt (starts-fetches name ask ss)

starts-polls : (nodes : List NodeId) → All StartsSlot (polls nodes)
starts-polls [] = starts_nothing
starts-polls (n ∷ ns) = All-cons StartsSlot (Poll n) (polls ns) tt (starts-polls ns)

starts-seek : (s : TakeState) (source : Source) → Start (seek s source)
unfolding seek
starts-seek s source =
    elim (group_of s.groups source.seg.group) as (λ o. Start (sought_over s source o)) [
      | None ↦ starts_nothing
      | Some group ↦ starts-fetches source.seg.name (s.ask + 1) (reading_unanswered (reading_start (target_of source) group (s.ask + 1)))
    ]

starts-hand_over : (s : TakeState) → All StartsSlot (hand_over s)
unfolding applied_of
starts-hand_over s =
    let out = Active s.news.epoch s.index (beliefs_of s.reports) (applied_of s.news.horizon s.reports) in
    by_test (λ (outs : List Out). All StartsSlot outs) (is_index s.index) (out ∷ []) []
    (λ t. All-cons StartsSlot out [] (record { nine = refl; few = leb-true (length s.index) u32_end t }) starts_nothing)
    (λ t. starts_nothing)

starts-next_of : (sources : List Source) (s : TakeState) → Start (next_of sources s)
starts-next_of [] s = starts-hand_over s
starts-next_of (source ∷ rest) s = starts-seek (record s { sources = rest }) source

starts-go_on : (s : TakeState) → Start (go_on s)
unfolding go_on
starts-go_on s = starts-next_of s.sources s

starts-go_on_from : (s : TakeState) (before : Option Source) → Start (go_on_from s before)
starts-go_on_from s None = starts-go_on (join_chain s)
starts-go_on_from s (Some before) = starts-seek s before

starts-has_read : (s : TakeState) (source : Source) (segment : Segment) → Start (has_read s source segment)
unfolding has_read
starts-has_read s source segment = starts-go_on_from (record s { chain = told_of s.news.slot segment ∷ s.chain }) (back_from source segment)

starts-take_lose : (s : TakeState) (name : SegName) → Start (take_lose s name)
starts-take_lose s name = All-cons StartsSlot (Lost name) [] tt starts_nothing

starts-confirmed_as : (s : TakeState) (source : Source) (r : ReadingState) (n : Next) → Start (confirmed_as s source r n)
starts-confirmed_as s source r next.Ask = starts-fetches source.seg.name (s.ask + 1) (reading_unanswered r)
starts-confirmed_as s source r next.Lost = starts-take_lose s source.seg.name
starts-confirmed_as s source r next.Wait = starts_nothing
starts-confirmed_as s source r next.Again = starts_nothing
starts-confirmed_as s source r (next.Read segment) = starts_nothing

starts-again : (s : TakeState) (source : Source) (r : ReadingState) → Start (again s source r)
unfolding again
starts-again s source r = let step = on_confirmed r (s.ask + 1) in starts-confirmed_as s source step.state step.next

starts-take_follow : (s : TakeState) (source : Source) (r : ReadingState) (n : Next) → Start (take_follow s source r n)
starts-take_follow s source r next.Again = starts-again s source r
starts-take_follow s source r (next.Read segment) = starts-has_read s source segment
starts-take_follow s source r next.Wait = starts_nothing
starts-take_follow s source r next.Ask = starts_nothing
starts-take_follow s source r next.Lost = starts_nothing

starts-take_judge : (s : TakeState) (source : Source) (o : Option ReadingState) (ask server : ℕ) (t : Told) → Start (take_judge s source o ask server t)
starts-take_judge s source None ask server t = starts_nothing
starts-take_judge s source (Some r) ask server t = let step = reading_take r s.groups ask server t in starts-take_follow s source step.state step.next

starts-told_at : (s : TakeState) (o : Option Present) (ask server : ℕ) (t : Told) → Start (told_at s o ask server t)
starts-told_at s None ask server t = starts_nothing
starts-told_at s (Some p) ask server t = starts-take_judge s p.source p.reading ask server t

starts-on_told : (s : TakeState) (ask server : ℕ) (t : Told) → Start (on_told s ask server t)
unfolding on_told
starts-on_told s ask server t =
    by_test Start (can_ask s) (told_at (record s { present = None }) s.present ask server t) (still s)
    (λ _. starts-told_at (record s { present = None }) s.present ask server t) (λ _. starts_nothing)

starts-begin_if_all : (s : TakeState) → Start (begin_if_all s)
starts-begin_if_all s =
    let all = record s { sources = sources_of s.news s.reports } in
    by_test Start (length (awaited s) == 0) (go_on all) (still s) (λ _. starts-go_on all) (λ _. starts_nothing)

starts-on_report : (s : TakeState) (report : Report) → Start (on_report s report)
unfolding on_report
starts-on_report s report =
    let heard = record s { reports = s.reports ++ report ∷ [] } in
    by_test Start (can_ask s && awaits s report.from) (begin_if_all heard) (still s) (λ _. starts-begin_if_all heard) (λ _. starts_nothing)

starts-sought_again : (s : TakeState) (o : Option Source) → Start (sought_again s o)
starts-sought_again s None = starts_nothing
starts-sought_again s (Some source) = by_test Start (can_ask s) (seek s source) (still s) (λ _. starts-seek s source) (λ _. starts_nothing)

starts-on_maps : (s : TakeState) (groups : GroupMapState) → Start (on_maps s groups)
unfolding on_maps
starts-on_maps s groups = starts-sought_again (record s { groups = groups }) (waiting s.present)

starts-present_repeat : (source : Source) (o : Option ReadingState) → All StartsSlot (present_repeat source o)
starts-present_repeat source None = starts_nothing
starts-present_repeat source (Some r) = starts-fetches source.seg.name r.ask (reading_unanswered r)

starts-repeated : (o : Option Present) → All StartsSlot (repeated o)
starts-repeated None = starts_nothing
starts-repeated (Some p) = starts-present_repeat p.source p.reading

pub starts-transition : (s : TakeState) (i : In) → All StartsSlot (transition s i).outs
starts-transition s (input.Report from held end) = starts-on_report s (record { from = from; held = held; end = end })
starts-transition s (input.Got ask server generation fragment) = starts-on_told s ask server (Held fragment)
starts-transition s (input.Missing ask server generation) = starts-on_told s ask server (told.Missing generation)
starts-transition s (input.Maps groups) = starts-on_maps s groups
starts-transition s input.Tick = All-append StartsSlot (polls (awaited s)) (repeated s.present) (starts-polls (awaited s)) (starts-repeated s.present)

pub starts-outs : {E : Type 0} (r : Result (List Out) E) (s : TakeState) (i : In) → IfOk r (λ outs. outs ≡ (transition s i).outs)
    → IfOk r (λ outs. All StartsSlot outs)
starts-outs (Ok outs) s i e = subst (All StartsSlot) (sym e) (starts-transition s i)
starts-outs (Err e) s i h = tt
