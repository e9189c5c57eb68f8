-- What a takeover does at each input.
use Rattle.std.specs.Prelude.{ℕ, ◌+◌, Bool, ◌==◌, ◌&&◌, nat_lt, nat_le, List, [], ◌∷◌, ◌++◌, Option, Some, None, length, map, fold, if◌then◌else◌}
use Rattle.std.specs.List.{list_any}
use Rattle.group_map.specs.GroupMapState.{GroupMapState}
use Rattle.group_map.specs.Groups.{group_of}
use Rattle.group_map.specs.declared.group.Group.{Group}
use Rattle.delta_index.specs.Index.{merged_all}
use Rattle.segment_format.specs.declared.segment.Segment.{Segment}
use Rattle.segment_reading.specs.Reading.{ReadingState, Step, reading_start, reading_unanswered, reading_take, on_confirmed}
use Rattle.segment_reading.specs.declared.reading.Next.{Next}
use Rattle.segment_reading.specs.declared.reading.Next.TheVariants as next
use Rattle.segment_reading.specs.declared.target.Target.{Target}
use Rattle.stripe_code.specs.declared.round.Told.{Told}
use Rattle.stripe_code.specs.declared.round.Told.TheVariants.{Held}
use Rattle.stripe_code.specs.declared.round.Told.TheVariants as told
use Rattle.xfs_base.specs.declared.block.BlockId.{BlockId}
use Rattle.xfs_base.specs.declared.entry.Entry.{Entry}
use Rattle.xfs_base.specs.declared.node.NodeId.{NodeId}
use Rattle.xfs_base.specs.declared.segment.SegName.{SegName}
use Rattle.xfs_base.specs.Limits.{u32_end}
use Rattle.xfs_base.specs.Steps.{Stepped, still}
use Rattle.xfs_base.specs.Nodes.{same_node}
use Rattle.takeover.specs.declared.input.In.{In}
use Rattle.takeover.specs.declared.input.In.TheVariants as input
use Rattle.takeover.specs.declared.output.Out.{Out}
use Rattle.takeover.specs.declared.output.Out.TheVariants.{Poll, Fetch, Active, Lost}
use Rattle.takeover.specs.declared.report.Report.{Report}
use Rattle.takeover.specs.declared.source.Present.{Present}
use Rattle.takeover.specs.declared.source.Source.{Source}
use Rattle.takeover.specs.Reports.{awaited_of, applied_of, beliefs_of}
use Rattle.takeover.specs.Rows.{told_of}
use Rattle.takeover.specs.Sources.{sources_of, back_from}
use Rattle.takeover.specs.TakeState.{TakeState}

abbrev pub Done : Type 0
Done = Stepped TakeState Out

-- the nodes whose report is not in
abbrev pub awaited : TakeState → List NodeId
awaited s = awaited_of s.clients s.reports

-- whether a further question can be numbered
abbrev pub can_ask : TakeState → Bool
can_ask s = nat_lt s.ask u32_end

-- ---- one source after the other

-- these servers are asked for their fragments of a segment
abbrev pub fetches : SegName → ℕ → List ℕ → List Out
fetches name ask servers = map (λ server. Fetch server name ask) servers

-- this is read at present
abbrev pub take_read : TakeState → Source → Option ReadingState → TakeState
take_read s source reading = record s { present = Some (record { source = source; reading = reading }) }

-- a round begins under the next question
abbrev pub ask_servers : TakeState → Source → ReadingState → Done
ask_servers s source r = record { state = take_read (record s { ask = s.ask + 1 }) source (Some r); outs = fetches source.seg.name (s.ask + 1) (reading_unanswered r) }

abbrev pub target_of : Source → Target
target_of source = record { seg = source.seg; block = None }

-- its segment is read over its group, or waits until that is known
abbrev pub sought_over : TakeState → Source → Option Group → Done
sought_over s source None = still (take_read s source None)
sought_over s source (Some group) = ask_servers s source (reading_start (target_of source) group (s.ask + 1))

unfoldable pub seek : TakeState → Source → Done
seek s source = sought_over s source (group_of s.groups source.seg.group)

-- an index may have no more rows than a slot's index may have pages, 4,294,967,295
abbrev pub is_index : List (BlockId × Entry) → Bool
is_index rows = nat_le (length rows) u32_end

-- the slot is active with this index: what its manager goes on with
abbrev pub active : TakeState → List (BlockId × Entry) → Out
active s index = Active s.news.epoch index (beliefs_of s.reports) (applied_of s.news.horizon s.reports)

abbrev pub hand_over : TakeState → List Out
hand_over s = if is_index s.index then active s s.index ∷ [] else []

-- the next source is read; where none is left, the slot is handed over
abbrev pub next_of : List Source → TakeState → Done
next_of [] s = record { state = record s { sources = []; present = None }; outs = hand_over s }
next_of (source ∷ rest) s = seek (record s { sources = rest }) source

unfoldable pub go_on : TakeState → Done
go_on s = next_of s.sources s

-- ---- a segment was read

-- what a source told, each segment before those above it, is merged
abbrev pub rows_join : List (BlockId × Entry) → List (List (BlockId × Entry)) → List (BlockId × Entry)
rows_join index chain = fold merged_all index chain

abbrev pub join_chain : TakeState → TakeState
join_chain s = record s { index = rows_join s.index s.chain; chain = [] }

-- the segment before it is read, or the source is read whole
abbrev pub go_on_from : TakeState → Option Source → Done
go_on_from s None = go_on (join_chain s)
go_on_from s (Some before) = seek s before

unfoldable pub has_read : TakeState → Source → Segment → Done
has_read s source segment = go_on_from (record s { chain = told_of s.news.slot segment ∷ s.chain }) (back_from source segment)

-- the slot is broken: from here on nothing is read
abbrev pub take_lose : TakeState → SegName → Done
take_lose s name = record { state = record s { sources = []; present = None }; outs = Lost name ∷ [] }

-- ---- an answer

-- between two rounds a takeover asks nothing: the next round begins at once, or the segment is lost
abbrev pub confirmed_as : TakeState → Source → ReadingState → Next → Done
confirmed_as s source r next.Ask = ask_servers s source r
confirmed_as s source r next.Lost = take_lose s source.seg.name
confirmed_as s source r next.Wait = still (take_read s source (Some r))
confirmed_as s source r next.Again = still (take_read s source (Some r))
confirmed_as s source r (next.Read segment) = still (take_read s source (Some r))

abbrev pub confirmed_by : TakeState → Source → Step → Done
confirmed_by s source step = confirmed_as s source step.state step.next

unfoldable pub again : TakeState → Source → ReadingState → Done
again s source r = confirmed_by s source (on_confirmed r (s.ask + 1))

abbrev pub take_follow : TakeState → Source → ReadingState → Next → Done
take_follow s source r next.Again = again s source r
take_follow s source r (next.Read segment) = has_read s source segment
take_follow s source r next.Wait = still (take_read s source (Some r))
take_follow s source r next.Ask = still (take_read s source (Some r))
take_follow s source r next.Lost = still (take_read s source (Some r))

abbrev pub judged_by : TakeState → Source → Step → Done
judged_by s source step = take_follow s source step.state step.next

-- an answer to the reading of a source, where its group is known
abbrev pub take_judge : TakeState → Source → Option ReadingState → ℕ → ℕ → Told → Done
take_judge s source None ask server told = still (take_read s source None)
take_judge s source (Some r) ask server told = judged_by s source (reading_take r s.groups ask server told)

abbrev pub told_at : TakeState → Option Present → ℕ → ℕ → Told → Done
told_at s None ask server told = still s
told_at s (Some p) ask server told = take_judge s p.source p.reading ask server told

-- what a server told in answer to a question
unfoldable pub on_told : TakeState → ℕ → ℕ → Told → Done
on_told s ask server told = if can_ask s then told_at (record s { present = None }) s.present ask server told else still s

-- ---- reports

abbrev pub awaits : TakeState → NodeId → Bool
awaits s node = list_any (λ n. same_node n node) (awaited s)

-- once all reports are in, the reading begins
abbrev pub begin_if_all : TakeState → Done
begin_if_all s = if length (awaited s) == 0 then go_on (record s { sources = sources_of s.news s.reports }) else still s

-- the first report of a node that was polled is kept
unfoldable pub on_report : TakeState → Report → Done
on_report s report = if can_ask s && awaits s report.from then begin_if_all (record s { reports = s.reports ++ report ∷ [] }) else still s

-- ---- the groups, and time

abbrev pub present_waiting : Source → Option ReadingState → Option Source
present_waiting source None = Some source
present_waiting source (Some r) = None

-- the source that waits for its group
abbrev pub waiting : Option Present → Option Source
waiting None = None
waiting (Some p) = present_waiting p.source p.reading

abbrev pub sought_again : TakeState → Option Source → Done
sought_again s None = still s
sought_again s (Some source) = if can_ask s then seek s source else still s

unfoldable pub on_maps : TakeState → GroupMapState → Done
on_maps s groups = sought_again (record s { groups = groups }) (waiting s.present)

abbrev pub polls : List NodeId → List Out
polls nodes = map (λ node. Poll node) nodes

abbrev pub present_repeat : Source → Option ReadingState → List Out
present_repeat source None = []
present_repeat source (Some r) = fetches source.seg.name r.ask (reading_unanswered r)

abbrev pub repeated : Option Present → List Out
repeated None = []
repeated (Some p) = present_repeat p.source p.reading

-- what is unanswered is asked again
abbrev pub on_tick : TakeState → List Out
on_tick s = polls (awaited s) ++ repeated s.present

abbrev pub transition : TakeState → In → Done
transition s (input.Report from held end) = on_report s (record { from = from; held = held; end = end })
transition s (input.Got ask server generation fragment) = on_told s ask server (Held fragment)
transition s (input.Missing ask server generation) = on_told s ask server (told.Missing generation)
transition s (input.Maps groups) = on_maps s groups
transition s input.Tick = record { state = s; outs = on_tick s }
