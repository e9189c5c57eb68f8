-- What a takeover has read fits, whatever it is told, and so does the index of the slot that it hands out.
use Rattle.std.proofs.Common.{ℕ, ◌+◌, ◌==◌, ◌&&◌, List, [], ◌∷◌, ◌++◌, length}
use Rattle.std.specs.Prelude.{Option, Some, None, IfSome}
use Rattle.std.specs.List.{AllByRecursion}
use Rattle.group_map.specs.GroupMapState.{GroupMapState}
use Rattle.group_map.specs.Groups.{group_of}
use Rattle.group_map.specs.declared.group.Group.{Group}
use Rattle.segment_format.specs.declared.segment.Segment.{Segment}
use Rattle.segment_format.specs.Ranges.{Fits}
use Rattle.segment_reading.specs.Reading.{ReadingState, reading_start, reading_unanswered, reading_take, on_confirmed}
use Rattle.segment_reading.specs.declared.reading.Next.{Next}
use Rattle.segment_reading.specs.declared.reading.Next.TheVariants as next
use Rattle.stripe_code.specs.declared.round.Told.{Told}
use Rattle.stripe_code.specs.declared.round.Told.TheVariants.{Held}
use Rattle.stripe_code.specs.declared.round.Told.TheVariants as told
use Rattle.stripe_code.specs.Stripe.{IsBytes}
use Rattle.takeover.specs.declared.input.In.{In as Input}
use Rattle.takeover.specs.declared.input.In.TheVariants as input
use Rattle.takeover.specs.declared.output.Out.{Out}
use Rattle.takeover.specs.declared.output.Out.TheVariants.{Poll, Fetch, Active}
use Rattle.takeover.specs.declared.report.Report.{Report}
use Rattle.takeover.specs.declared.source.Present.{Present}
use Rattle.takeover.specs.declared.source.Source.{Source}
use Rattle.takeover.specs.Rows.{told_of}
use Rattle.takeover.specs.Sources.{sources_of, back_from}
use Rattle.takeover.specs.TakeState.{TakeState}
use Rattle.takeover.specs.Transition.{Done, awaited, awaits, can_ask, fetches, polls, take_read, ask_servers, target_of, sought_over, seek, is_index, active, hand_over, next_of, go_on, join_chain, go_on_from, has_read, confirmed_as, again, take_follow, take_judge, told_at, on_told, begin_if_all, on_report, waiting, sought_again, on_maps, present_repeat, repeated, on_tick, transition}
use Rattle.xfs_base.proofs.Booleans.{by_test}
use Rattle.xfs_base.specs.declared.node.NodeId.{NodeId}
use Rattle.xfs_base.specs.declared.segment.SegName.{SegName}
use Rattle.xfs_base.specs.Steps.{still}
use Rattle.xfs_base.proofs.Alls.{all_append, all_map}
use Rattle.xfs_base.proofs.Leaving.{Leaves}
use Rattle.node_logs.specs.cleaner_log_tie.Fitting.{ToldFits, RoundFits}
use Rattle.node_logs.specs.manager_log_tie.Fitting.{RowsFit, PagesFit, PresentFits, TakeFits}
use Rattle.node_logs.proofs.cleaner_log_tie.Bytes.{NextFits, StepFits, answered_fits, confirmed_fits}
use Rattle.node_logs.proofs.manager_log_tie.Rows.{all_joined_fit, told_fit}

-- the index of a slot that is handed out fits
abbrev pub OutFits : Out → Type 0
OutFits (Active epoch index beliefs applied) = RowsFit index
OutFits _ = Unit {0}

abbrev pub Goes : Done → Type 0
Goes d = Leaves TakeFits OutFits d

abbrev AllOut : List Out → Type 0
AllOut outs = AllByRecursion OutFits outs

-- all but what is read at present
record Sources (s : TakeState) : Type 0 where
  index : RowsFit s.index
  chain : PagesFit s.chain

fetches_fit : (name : SegName) (ask : ℕ) (servers : List ℕ) → AllOut (fetches name ask servers)
fetches_fit name ask servers = all_map OutFits (λ server. Fetch server name ask) (λ server. tt) servers

polls_fit : (nodes : List NodeId) → AllOut (polls nodes)
polls_fit nodes = all_map OutFits (λ node. Poll node) (λ node. tt) nodes

handed_fit : (s : TakeState) → Sources s → AllOut (hand_over s)
handed_fit s h = by_test AllOut (is_index s.index) (active s s.index ∷ []) [] (λ t. (h.index, tt)) (λ t. tt)

-- ---- what is read

quiet : (s : TakeState) → TakeFits s → Goes (still s)
quiet s h = record { state = h; outs = tt }

-- a source is read at present
reads_on : (s : TakeState) (source : Source) (r : ReadingState) → Sources s → RoundFits r.round → TakeFits (take_read s source (Some r))
reads_on s source r h round = record { index = h.index; chain = h.chain; present = round }

asks_on : (s : TakeState) (source : Source) (r : ReadingState) → Sources s → RoundFits r.round → Goes (ask_servers s source r)
asks_on s source r h round = record {
  state = record { index = h.index; chain = h.chain; present = round };
  outs = fetches_fit source.seg.name (s.ask + 1) (reading_unanswered r);
}

sought_on : (s : TakeState) (source : Source) → Sources s → Goes (seek s source)
unfolding seek
sought_on s source h = by (group_of s.groups source.seg.group)
  where
    by : (group : Option Group) → Goes (sought_over s source group)
    by None = record { state = record { index = h.index; chain = h.chain; present = tt }; outs = tt }
    by (Some group) = asks_on s source (reading_start (target_of source) group (s.ask + 1)) h tt

next_on : (s : TakeState) → Sources s → Goes (go_on s)
unfolding go_on
next_on s h = by s.sources
  where
    by : (sources : List Source) → Goes (next_of sources s)
    by [] = record { state = record { index = h.index; chain = h.chain; present = tt }; outs = handed_fit s h }
    by (source ∷ rest) = sought_on (record s { sources = rest }) source (record { index = h.index; chain = h.chain })

read_on : (s : TakeState) (source : Source) (segment : Segment) → Sources s → Fits segment → Goes (has_read s source segment)
unfolding has_read
read_on s source segment h fits = by (back_from source segment)
  where
    longer : Sources (record s { chain = told_of s.news.slot segment ∷ s.chain })
    longer = record { index = h.index; chain = (told_fit s.news.slot segment fits, h.chain) }

    by : (before : Option Source) → Goes (go_on_from (record s { chain = told_of s.news.slot segment ∷ s.chain }) before)
    by None =
        next_on (join_chain (record s { chain = told_of s.news.slot segment ∷ s.chain }))
        (record { index = all_joined_fit s.index (told_of s.news.slot segment ∷ s.chain) h.index longer.chain; chain = tt })
    by (Some before) = sought_on (record s { chain = told_of s.news.slot segment ∷ s.chain }) before longer

again_on : (s : TakeState) (source : Source) (r : ReadingState) → Sources s → RoundFits r.round → Goes (again s source r)
unfolding again
again_on s source r h round =
    (let k : StepFits (on_confirmed r (s.ask + 1)) = confirmed_fits r (s.ask + 1) round in
    by (on_confirmed r (s.ask + 1)).state (on_confirmed r (s.ask + 1)).next k.round)
  where
    by : (q : ReadingState) (n : Next) → RoundFits q.round → Goes (confirmed_as s source q n)
    by q next.Ask fit = asks_on s source q h fit
    by q next.Lost fit = record { state = record { index = h.index; chain = h.chain; present = tt }; outs = (tt, tt) }
    by q next.Wait fit = quiet (take_read s source (Some q)) (reads_on s source q h fit)
    by q next.Again fit = quiet (take_read s source (Some q)) (reads_on s source q h fit)
    by q (next.Read segment) fit = quiet (take_read s source (Some q)) (reads_on s source q h fit)

judged_on : (s : TakeState) (source : Source) (r : ReadingState) (n : Next) → Sources s → RoundFits r.round → NextFits n → Goes (take_follow s source r n)
judged_on s source r next.Again h round fits = again_on s source r h round
judged_on s source r (next.Read segment) h round fits = read_on s source segment h fits.1
judged_on s source r _ h round fits = quiet (take_read s source (Some r)) (reads_on s source r h round)

-- ---- the inputs

told_on : (s : TakeState) (ask server : ℕ) (t : Told) → TakeFits s → ToldFits t → Goes (on_told s ask server t)
unfolding on_told
told_on s ask server t h fits =
    by_test Goes (can_ask s) (told_at (record s { present = None }) s.present ask server t) (still s) (λ u. by s.present h.present) (λ u. quiet s h)
  where
    none : TakeState
    none = record s { present = None }

    sources : Sources (record s { present = None })
    sources = record { index = h.index; chain = h.chain }

    by_reading : (source : Source) (r : Option ReadingState) → IfSome r (λ (x : ReadingState). RoundFits x.round)
        → Goes (take_judge (record s { present = None }) source r ask server t)
    by_reading source None round = quiet (take_read (record s { present = None }) source None) (record { index = h.index; chain = h.chain; present = tt })
    by_reading source (Some r) round =
        let k : StepFits (reading_take r s.groups ask server t) = answered_fits r s.groups ask server t round fits in
        judged_on (record s { present = None }) source (reading_take r s.groups ask server t).state (reading_take r s.groups ask server t).next sources k.round k.next

    by : (present : Option Present) → IfSome present PresentFits → Goes (told_at (record s { present = None }) present ask server t)
    by None fit = quiet (record s { present = None }) (record { index = h.index; chain = h.chain; present = tt })
    by (Some p) fit = by_reading p.source p.reading fit

maps_on : (s : TakeState) (groups : GroupMapState) → TakeFits s → Goes (on_maps s groups)
unfolding on_maps
maps_on s groups h = by (waiting s.present)
  where
    kept : TakeFits (record s { groups = groups })
    kept = record { index = h.index; chain = h.chain; present = h.present }

    by : (source : Option Source) → Goes (sought_again (record s { groups = groups }) source)
    by None = quiet (record s { groups = groups }) kept
    by (Some source) =
        by_test Goes (can_ask s) (seek (record s { groups = groups }) source) (still (record s { groups = groups }))
        (λ t. sought_on (record s { groups = groups }) source (record { index = h.index; chain = h.chain })) (λ t. quiet (record s { groups = groups }) kept)

tick_fits : (s : TakeState) → AllOut (on_tick s)
tick_fits s = all_append OutFits (polls (awaited s)) (repeated s.present) (polls_fit (awaited s)) (by s.present)
  where
    by_reading : (source : Source) (r : Option ReadingState) → AllOut (present_repeat source r)
    by_reading source None = tt
    by_reading source (Some r) = fetches_fit source.seg.name r.ask (reading_unanswered r)

    by : (present : Option Present) → AllOut (repeated present)
    by None = tt
    by (Some p) = by_reading p.source p.reading

reported_on : (s : TakeState) (report : Report) → TakeFits s → Goes (on_report s report)
unfolding on_report
reported_on s report h =
    by_test Goes (can_ask s && awaits s report.from) (begin_if_all heard) (still s)
    (λ t. by_test Goes (length (awaited heard) == 0) (go_on (record heard { sources = sources_of heard.news heard.reports })) (still heard)
    (λ u. next_on (record heard { sources = sources_of heard.news heard.reports }) (record { index = h.index; chain = h.chain }))
    (λ u. quiet heard (record { index = h.index; chain = h.chain; present = h.present })))
    (λ t. quiet s h)
  where
    heard : TakeState
    heard = record s { reports = s.reports ++ report ∷ [] }

-- ---- all inputs

-- a fragment that comes is bytes
abbrev pub TakeInFits : Input → Type 0
TakeInFits (input.Got ask server generation fragment) = IsBytes fragment.bytes
TakeInFits _ = Unit {0}

pub take_goes : (s : TakeState) (given : Input) → TakeFits s → TakeInFits given → Goes (transition s given)
take_goes s (input.Report from held end) h fits = reported_on s (record { from = from; held = held; end = end }) h
take_goes s (input.Got ask server generation fragment) h fits = told_on s ask server (Held fragment) h fits
take_goes s (input.Missing ask server generation) h fits = told_on s ask server (told.Missing generation) h tt
take_goes s (input.Maps groups) h fits = maps_on s groups h
take_goes s input.Tick h fits = record { state = h; outs = tick_fits s }
