-- What each input makes of a takeover, and what it says: what it has read, and what it was reported, is as it should be.
use Rattle.std.proofs.Common.{◌≡◌, ℕ, ◌+◌, ◌==◌, ◌&&◌, List, [], ◌∷◌, ◌++◌, length, refl}
use Rattle.std.specs.Prelude.{Option, Some, None}
use Rattle.std.specs.List.{AllByRecursion}
use Rattle.group_map.specs.GroupMapState.{GroupMapState}
use Rattle.group_map.specs.Groups.{group_of}
use Rattle.group_map.specs.declared.group.Group.{Group}
use Rattle.segment_format.specs.declared.segment.Segment.{Segment}
use Rattle.segment_reading.specs.Reading.{ReadingState, reading_start, reading_unanswered, reading_take, on_confirmed}
use Rattle.segment_reading.specs.declared.reading.Next.{Next}
use Rattle.segment_reading.specs.declared.reading.Next.TheVariants as next
use Rattle.stripe_code.specs.declared.round.Told.{Told as Answered}
use Rattle.stripe_code.specs.declared.round.Told.TheVariants.{Held}
use Rattle.stripe_code.specs.declared.round.Told.TheVariants as answered
use Rattle.takeover.specs.Course.{segment_of}
use Rattle.takeover.specs.declared.input.In.{In as Input}
use Rattle.takeover.specs.declared.input.In.TheVariants as input
use Rattle.takeover.specs.declared.output.Out.{Out}
use Rattle.takeover.specs.declared.output.Out.TheVariants.{Poll, Fetch, Active, Lost}
use Rattle.takeover.specs.declared.report.Report.{Report}
use Rattle.takeover.specs.declared.source.Present.{Present}
use Rattle.takeover.specs.declared.source.Source.{Source}
use Rattle.takeover.specs.Rows.{told_of}
use Rattle.takeover.specs.Sources.{sources_of, back_from}
use Rattle.takeover.specs.TakeState.{TakeState}
use Rattle.takeover.specs.Transition.{Done, awaited, awaits, can_ask, fetches, polls, take_read, ask_servers, target_of, sought_over, seek, is_index, active, hand_over, next_of, go_on, join_chain, go_on_from, has_read, confirmed_as, again, take_follow, take_judge, told_at, on_told, begin_if_all, on_report, waiting, sought_again, on_maps, present_repeat, repeated, on_tick, transition}
use Rattle.xfs_base.proofs.Booleans.{by_test}
use Rattle.xfs_base.specs.declared.node.NodeId.{NodeId}
use Rattle.xfs_base.specs.declared.segment.SegName.{SegName}
use Rattle.xfs_base.specs.Steps.{still}
use Rattle.xfs_base.proofs.Alls.{all_append, all_map}
use Rattle.xfs_base.proofs.Leaving.{Leaves}
use Rattle.node_moves.proofs.manager_walk.Laws.{Walk}

module _ (w : Walk) (k : ℕ) where
  -- ---- what is said

  abbrev pub TakeSo : TakeState → Type 0
  TakeSo s = w.Taken k s.news s.index s.chain s.reports

  -- what is handed out
  abbrev pub OutSo : Out → Type 0
  OutSo (Active epoch index beliefs applied) = w.Handed k epoch index applied
  OutSo _ = Unit {0}

  abbrev pub Goes : Done → Type 0
  Goes d = Leaves TakeSo OutSo d

  abbrev AllOut : List Out → Type 0
  AllOut outs = AllByRecursion OutSo outs

  fetches_so : (name : SegName) (ask : ℕ) (servers : List ℕ) → AllOut (fetches name ask servers)
  fetches_so name ask servers = all_map OutSo (λ server. Fetch server name ask) (λ server. tt) servers

  polls_so : (nodes : List NodeId) → AllOut (polls nodes)
  polls_so nodes = all_map OutSo (λ node. Poll node) (λ node. tt) nodes

  hand_over_so : (s : TakeState) → TakeSo s → AllOut (hand_over s)
  hand_over_so s known =
      by_test AllOut (is_index s.index) (active s s.index ∷ []) [] (λ _. (w.hands k s known, tt)) (λ _. tt)

  -- ---- what is read

  quiet : (s : TakeState) → TakeSo s → Goes (still s)
  quiet s known = record { state = known; outs = tt }

  asks_on : (s : TakeState) (source : Source) (r : ReadingState) → TakeSo s → Goes (ask_servers s source r)
  asks_on s source r known = record { state = known; outs = fetches_so source.seg.name (s.ask + 1) (reading_unanswered r) }

  sought_on : (s : TakeState) (source : Source) → TakeSo s → Goes (seek s source)
  unfolding seek
  sought_on s source known = by (group_of s.groups source.seg.group)
    where
      by : (group : Option Group) → Goes (sought_over s source group)
      by None = record { state = known; outs = tt }
      by (Some group) = asks_on s source (reading_start (target_of source) group (s.ask + 1)) known

  go_on-on : (s : TakeState) → TakeSo s → Goes (go_on s)
  unfolding go_on
  go_on-on s known = by s.sources
    where
      by : (sources : List Source) → Goes (next_of sources s)
      by [] = record { state = known; outs = hand_over_so s known }
      by (source ∷ rest) = sought_on (record s { sources = rest }) source known

  has_read-on : (s : TakeState) (source : Source) (segment : Segment) → w.Read (told_of s.news.slot segment) → TakeSo s
      → Goes (has_read s source segment)
  unfolding has_read
  has_read-on s source segment new known = by (back_from source segment)
    where
      by : (before : Option Source) → Goes (go_on_from (record s { chain = told_of s.news.slot segment ∷ s.chain }) before)
      by None =
          go_on-on (join_chain (record s { chain = told_of s.news.slot segment ∷ s.chain }))
          (w.joins k s.news s.index (told_of s.news.slot segment ∷ s.chain) s.reports
          (w.chained k s.news s.index s.chain s.reports (told_of s.news.slot segment) new known))
      by (Some before) =
          sought_on (record s { chain = told_of s.news.slot segment ∷ s.chain }) before
          (w.chained k s.news s.index s.chain s.reports (told_of s.news.slot segment) new known)

  again_on : (s : TakeState) (source : Source) (r : ReadingState) → TakeSo s → Goes (again s source r)
  unfolding again
  again_on s source r known = by (on_confirmed r (s.ask + 1)).state (on_confirmed r (s.ask + 1)).next
    where
      by : (q : ReadingState) (n : Next) → Goes (confirmed_as s source q n)
      by q next.Ask = asks_on s source q known
      by q next.Lost = record { state = known; outs = (tt, tt) }
      by q next.Wait = quiet (take_read s source (Some q)) known
      by q next.Again = quiet (take_read s source (Some q)) known
      by q (next.Read segment) = quiet (take_read s source (Some q)) known

  judged_on : (s : TakeState) (source : Source) (r : ReadingState) (n : Next)
      → ((segment : Segment) → segment_of n ≡ Some segment → w.Read (told_of s.news.slot segment)) → TakeSo s → Goes (take_follow s source r n)
  judged_on s source r next.Again new known = again_on s source r known
  judged_on s source r (next.Read segment) new known = has_read-on s source segment (new segment refl) known
  judged_on s source r _ new known = quiet (take_read s source (Some r)) known

  -- ---- the inputs

  told_on : (s : TakeState) (ask server : ℕ) (t : Answered) → w.Completes s ask server t → TakeSo s → Goes (on_told s ask server t)
  unfolding on_told
  told_on s ask server t owed known =
      by_test Goes (can_ask s) (told_at (record s { present = None }) s.present ask server t) (still s) (λ _. by s.present refl) (λ _. quiet s known)
    where
      by_reading : (p : Present) (r : Option ReadingState) → s.present ≡ Some p → p.reading ≡ r
          → Goes (take_judge (record s { present = None }) p.source r ask server t)
      by_reading p None here fact = quiet (take_read (record s { present = None }) p.source None) known
      by_reading p (Some r) here fact =
          judged_on (record s { present = None }) p.source (reading_take r s.groups ask server t).state (reading_take r s.groups ask server t).next
          (λ segment completes. w.reads s ask server t p r segment owed here fact completes) known

      by : (present : Option Present) → s.present ≡ present → Goes (told_at (record s { present = None }) present ask server t)
      by None here = quiet (record s { present = None }) known
      by (Some p) here = by_reading p p.reading here refl

  maps_on : (s : TakeState) (groups : GroupMapState) → TakeSo s → Goes (on_maps s groups)
  unfolding on_maps
  maps_on s groups known = by (waiting s.present)
    where
      by : (source : Option Source) → Goes (sought_again (record s { groups = groups }) source)
      by None = quiet (record s { groups = groups }) known
      by (Some source) =
          by_test Goes (can_ask s) (seek (record s { groups = groups }) source) (still (record s { groups = groups }))
          (λ _. sought_on (record s { groups = groups }) source known) (λ _. quiet (record s { groups = groups }) known)

  tick_so : (s : TakeState) → AllOut (on_tick s)
  tick_so s = all_append OutSo (polls (awaited s)) (repeated s.present) (polls_so (awaited s)) (by s.present)
    where
      by_reading : (source : Source) (r : Option ReadingState) → AllOut (present_repeat source r)
      by_reading source None = tt
      by_reading source (Some r) = fetches_so source.seg.name r.ask (reading_unanswered r)

      by : (present : Option Present) → AllOut (repeated present)
      by None = tt
      by (Some p) = by_reading p.source p.reading

  reported_on : (s : TakeState) (report : Report) → w.Reported report.from report.end → TakeSo s → Goes (on_report s report)
  unfolding on_report
  reported_on s report told known =
      by_test Goes (can_ask s && awaits s report.from) (begin_if_all heard) (still s)
      (λ _. by_test Goes (length (awaited heard) == 0) (go_on (record heard { sources = sources_of heard.news heard.reports })) (still heard)
      (λ _. go_on-on (record heard { sources = sources_of heard.news heard.reports }) more) (λ _. quiet heard more))
      (λ _. quiet s known)
    where
      heard : TakeState
      heard = record s { reports = s.reports ++ report ∷ [] }

      more : TakeSo heard
      more = w.heard k s.news s.index s.chain s.reports report told known

  -- ---- all inputs

  -- what is known of an input: of a report, and of what an answer completes
  abbrev pub InputSo : TakeState → Input → Type 0
  InputSo s (input.Report from held end) = w.Reported from end
  InputSo s (input.Got ask server generation fragment) = w.Completes s ask server (Held fragment)
  InputSo s (input.Missing ask server generation) = w.Completes s ask server (answered.Missing generation)
  InputSo s (input.Maps groups) = Unit {0}
  InputSo s input.Tick = Unit {0}

  pub take_goes : (s : TakeState) (given : Input) → InputSo s given → TakeSo s → Leaves TakeSo OutSo (transition s given)
  take_goes s (input.Report from held end) owed known = reported_on s (record { from = from; held = held; end = end }) owed known
  take_goes s (input.Got ask server generation fragment) owed known = told_on s ask server (Held fragment) owed known
  take_goes s (input.Missing ask server generation) owed known = told_on s ask server (answered.Missing generation) owed known
  take_goes s (input.Maps groups) owed known = maps_on s groups known
  take_goes s input.Tick owed known = record { state = known; outs = tick_so s }
