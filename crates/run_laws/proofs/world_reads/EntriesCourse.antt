-- Over the course of a takeover its sources stay so: whatever it is told, what it reads is a source of its news and reports, or where one that was read leads.
use Rattle.std.proofs.Common.{◌≡◌, ℕ, ◌+◌, ◌==◌, ◌&&◌, true, false, List, [], ◌∷◌, ◌++◌, Option, None, Some, length, refl, sym, subst, ◌∙◌}
use Rattle.std.specs.List.{AllByRecursion}
use Rattle.group_map.specs.declared.group.Group.{Group}
use Rattle.group_map.specs.GroupMapState.{GroupMapState}
use Rattle.group_map.specs.Groups.{group_of}
use Rattle.segment_format.specs.declared.segment.Segment.{Segment}
use Rattle.segment_reading.specs.declared.reading.Next.{Next}
use Rattle.segment_reading.specs.declared.reading.Next.TheVariants as next
use Rattle.segment_reading.specs.Reading.{ReadingState, reading_start, reading_take, on_confirmed}
use Rattle.stripe_code.specs.declared.round.Told.{Told}
use Rattle.stripe_code.specs.declared.round.Told.TheVariants as told
use Rattle.takeover.proofs.Readings.{IsNamed, named-reading_take, target-reading_take, target-on_confirmed}
use Rattle.takeover.specs.Course.{Course, after_input, after_inputs, course_of, and_of, read_after, read_at, read_by, read_in, segment_of}
use Rattle.takeover.specs.declared.input.In.{In as Input}
use Rattle.takeover.specs.declared.input.In.TheVariants as input
use Rattle.takeover.specs.declared.report.Report.{Report}
use Rattle.takeover.specs.declared.source.Present.{Present}
use Rattle.takeover.specs.declared.source.Source.{Source}
use Rattle.takeover.specs.ReadBack.{Read, and_read, nothing_read}
use Rattle.takeover.specs.Rows.{told_of}
use Rattle.takeover.specs.Sources.{back_from, goes_back, sources_of}
use Rattle.takeover.specs.TakeState.{TakeState, take_start}
use Rattle.takeover.specs.Transition.{Done, again, awaited, awaits, begin_if_all, can_ask, confirmed_as, go_on, go_on_from, has_read, take_follow, next_of, on_maps, on_report, on_told, take_read, seek, sought_again, sought_over, target_of, told_at, take_judge, transition, waiting, present_waiting, join_chain}
use Rattle.node_tellings.proofs.part_tie.Same.{go_on_same, maps_same, told_same}
use Rattle.xfs_base.proofs.Booleans.{by_test}
use Rattle.xfs_base.specs.declared.news.SlotNews.{SlotNews}
use Rattle.xfs_base.specs.Steps.{still}

all_of_both : {X : Type 0} (P : X → Type 0) (xs ys : List X) → AllByRecursion P (xs ++ ys) → AllByRecursion P xs × AllByRecursion P ys
all_of_both P [] ys all = (tt, all)
all_of_both P (x ∷ xs) ys all = (let rest = all_of_both P xs ys all.1 in ((all.0, rest.0), rest.1))

-- it looks for the segment of its source, whole
abbrev pub LooksFor : Source → Option ReadingState → Type 0
LooksFor source None = Unit {0}
LooksFor source (Some r) = r.target ≡ target_of source

-- ---- what was read

-- each segment that was read is so
pub record AllRead (So : Segment → Type 0) (r : Read) : Type 0 where
  pub whole : AllByRecursion (AllByRecursion So) r.whole
  pub present : AllByRecursion So r.present

module _ (So : Segment → Type 0) where
  -- so was what was read before, and what was read last
  before_read : (r : Read) (source : Source) (s : Segment) → AllRead So (and_read r source s) → So s × AllRead So r
  before_read r source s =
      by_test (λ (x : Read). AllRead So x → So s × AllRead So r) (goes_back source s) (record { whole = r.whole; present = s ∷ r.present })
      (record { whole = r.whole ++ (s ∷ r.present) ∷ []; present = [] })
      (λ _ all. (all.present.0, record { whole = all.whole; present = all.present.1 }))
      (λ _ all. (let both = all_of_both (AllByRecursion So) r.whole ((s ∷ r.present) ∷ []) all.whole in
      (both.1.0.0, record { whole = both.0; present = both.1.0.1 })))

  -- the segment that an answer completes
  abbrev Completed : Option Segment → Type 0
  Completed o = (s : Segment) → o ≡ Some s → So s

  abbrev CompletedIn : TakeState → Option ReadingState → ℕ → ℕ → Told → Type 0
  CompletedIn s None ask server t = Unit {0}
  CompletedIn s (Some reading) ask server t = Completed (segment_of (reading_take reading s.groups ask server t).next)

  abbrev CompletedAt : TakeState → Option Present → ℕ → ℕ → Told → Type 0
  CompletedAt s None ask server t = Unit {0}
  CompletedAt s (Some p) ask server t = CompletedIn s p.reading ask server t

  before_one : (r : Read) (p : Present) (o : Option Segment) → AllRead So (and_of r p o) → Completed o × AllRead So r
  before_one r p None all = ((λ s fact. absurd (let clash : None ≡ Some s = fact in cc)), all)
  before_one r p (Some x) all =
      (let one = before_read r p.source x all in ((λ s fact. (let same : x ≡ s = cc in subst So same one.0)), one.1))

  before_at : (s : TakeState) (r : Read) (o : Option Present) (ask server : ℕ) (t : Told) → AllRead So (read_at s r o ask server t)
      → CompletedAt s o ask server t × AllRead So r
  before_at s r None ask server t all = (tt, all)
  before_at s r (Some p) ask server t all = by p.reading all
    where
      by : (o : Option ReadingState) → AllRead So (read_in s r p o ask server t) → CompletedIn s o ask server t × AllRead So r
      by None all = (tt, all)
      by (Some reading) all = before_one r p (segment_of (reading_take reading s.groups ask server t).next) all

  before_by : (s : TakeState) (r : Read) (ask server : ℕ) (t : Told) → AllRead So (read_by s r ask server t)
      → (can_ask s ≡ true → CompletedAt s s.present ask server t) × AllRead So r
  before_by s r ask server t =
      by_test (λ (x : Read). AllRead So x → (can_ask s ≡ true → CompletedAt s s.present ask server t) × AllRead So r) (can_ask s)
      (read_at s r s.present ask server t) r
      (λ _ all. (let b = before_at s r s.present ask server t all in ((λ _. b.0), b.1)))
      (λ no all. ((λ yes. absurd (let clash : true ≡ false = sym yes ∙ no in cc)), all))

  read_before : (s : TakeState) (r : Read) (i : Input) → AllRead So (read_after s r i) → AllRead So r
  read_before s r (input.Report from held end) all = all
  read_before s r (input.Got ask server generation fragment) all = (before_by s r ask server (told.Held fragment) all).1
  read_before s r (input.Missing ask server generation) all = (before_by s r ask server (told.Missing generation) all).1
  read_before s r (input.Maps groups) all = all
  read_before s r input.Tick all = all

-- ---- what it has heard

module _ (Good : Report → Type 0) where
  earlier_report : (s : TakeState) (report : Report) → AllByRecursion Good (on_report s report).state.reports → AllByRecursion Good s.reports
  unfolding on_report
  earlier_report s report =
      by_test (λ (d : Done). AllByRecursion Good d.state.reports → AllByRecursion Good s.reports) (can_ask s && awaits s report.from) (begin_if_all heard)
      (still s)
      (λ _. begins) (λ _ good. good)
    where
      heard : TakeState
      heard = record s { reports = s.reports ++ report ∷ [] }

      all : TakeState
      all = record heard { sources = sources_of heard.news heard.reports }

      before : AllByRecursion Good heard.reports → AllByRecursion Good s.reports
      before good = (all_of_both Good s.reports (report ∷ []) good).0

      begins : AllByRecursion Good (begin_if_all heard).state.reports → AllByRecursion Good s.reports
      begins =
          by_test (λ (d : Done). AllByRecursion Good d.state.reports → AllByRecursion Good s.reports) (length (awaited heard) == 0) (go_on all) (still heard)
          (λ _ good. before (subst (AllByRecursion Good) (go_on_same all).1 good)) (λ _ good. before good)

  earlier : (s : TakeState) (i : Input) → AllByRecursion Good (transition s i).state.reports → AllByRecursion Good s.reports
  earlier s (input.Report from held end) good = earlier_report s (record { from = from; held = held; end = end }) good
  earlier s (input.Got ask server generation fragment) good = subst (AllByRecursion Good) (told_same s ask server (told.Held fragment)).1 good
  earlier s (input.Missing ask server generation) good = subst (AllByRecursion Good) (told_same s ask server (told.Missing generation)).1 good
  earlier s (input.Maps groups) good = subst (AllByRecursion Good) (maps_same s groups).1 good
  earlier s input.Tick good = good

-- ---- its sources

-- Of these news, where what follows a source is so again, once its segment is read; and the sources of these reports are so, where each report is.
module _ (SourceSo : Source → Type 0) (So : Segment → Type 0) (Good : Report → Type 0) (news : SlotNews)
    (before : (source : Source) (s : Segment) (left : Source) → SourceSo source → s.name ≡ source.seg.name → So s → back_from source s ≡ Some left
    → SourceSo left)
    (of_reports : (reports : List Report) → AllByRecursion Good reports → AllByRecursion SourceSo (sources_of news reports)) where
  abbrev pub PresentSo : Option Present → Type 0
  PresentSo None = Unit {0}
  PresentSo (Some p) = SourceSo p.source × LooksFor p.source p.reading

  -- a takeover of these news: its sources are so
  pub record SourcesSo (s : TakeState) : Type 0 where
    pub of : s.news ≡ news
    pub behind : AllByRecursion SourceSo s.sources
    pub present : PresentSo s.present

  -- but for what is read at present
  record Ready (s : TakeState) : Type 0 where
    of : s.news ≡ news
    behind : AllByRecursion SourceSo s.sources

  abbrev Goes : Done → Type 0
  Goes d = SourcesSo d.state

  take_read_so : (s : TakeState) (source : Source) (r : Option ReadingState) → Ready s → SourceSo source → LooksFor source r → SourcesSo (take_read s source r)
  take_read_so s source r ready so looks = record { of = ready.of; behind = ready.behind; present = (so, looks) }

  sought_on : (s : TakeState) (source : Source) → Ready s → SourceSo source → Goes (seek s source)
  unfolding seek
  sought_on s source ready so = by (group_of s.groups source.seg.group)
    where
      by : (group : Option Group) → Goes (sought_over s source group)
      by None = take_read_so s source None ready so tt
      by (Some group) =
          take_read_so (record s { ask = s.ask + 1 }) source (Some (reading_start (target_of source) group (s.ask + 1)))
          (record { of = ready.of; behind = ready.behind }) so refl

  go_on-on : (s : TakeState) → Ready s → Goes (go_on s)
  unfolding go_on
  go_on-on s ready = by s.sources ready.behind
    where
      by : (sources : List Source) → AllByRecursion SourceSo sources → Goes (next_of sources s)
      by [] all = record { of = ready.of; behind = tt; present = tt }
      by (source ∷ rest) all =
          sought_on (record s { sources = rest }) source (record { of = ready.of; behind = all.1 }) all.0

  has_read-on : (s : TakeState) (source : Source) (segment : Segment) → Ready s → SourceSo source → segment.name ≡ source.seg.name → So segment
      → Goes (has_read s source segment)
  unfolding has_read
  has_read-on s source segment ready so named read = by (back_from source segment) refl
    where
      more : TakeState
      more = record s { chain = told_of s.news.slot segment ∷ s.chain }

      by : (left : Option Source) → back_from source segment ≡ left
          → Goes (go_on_from (record s { chain = told_of s.news.slot segment ∷ s.chain }) left)
      by None fact =
          go_on-on (join_chain (record s { chain = told_of s.news.slot segment ∷ s.chain }))
          (record { of = ready.of; behind = ready.behind })
      by (Some left) fact =
          sought_on (record s { chain = told_of s.news.slot segment ∷ s.chain }) left
          (record { of = ready.of; behind = ready.behind }) (before source segment left so named read fact)

  again_on : (s : TakeState) (source : Source) (r : ReadingState) → Ready s → SourceSo source → r.target ≡ target_of source → Goes (again s source r)
  unfolding again
  again_on s source r ready so looks = by (on_confirmed r (s.ask + 1)).state (on_confirmed r (s.ask + 1)).next (target-on_confirmed r (s.ask + 1) ∙ looks)
    where
      by : (q : ReadingState) (n : Next) → q.target ≡ target_of source → Goes (confirmed_as s source q n)
      by q next.Ask its =
          take_read_so (record s { ask = s.ask + 1 }) source (Some q) (record { of = ready.of; behind = ready.behind }) so its
      by q next.Lost its = record { of = ready.of; behind = tt; present = tt }
      by q next.Wait its = take_read_so s source (Some q) ready so its
      by q next.Again its = take_read_so s source (Some q) ready so its
      by q (next.Read segment) its = take_read_so s source (Some q) ready so its

  judged_on : (s : TakeState) (source : Source) (q : ReadingState) (n : Next) → Ready s → SourceSo source → q.target ≡ target_of source
      → IsNamed (target_of source) n → Completed So (segment_of n) → Goes (take_follow s source q n)
  judged_on s source q next.Again ready so looks named done = again_on s source q ready so looks
  judged_on s source q (next.Read segment) ready so looks named done = has_read-on s source segment ready so named (done segment refl)
  judged_on s source q next.Wait ready so looks named done = take_read_so s source (Some q) ready so looks
  judged_on s source q next.Ask ready so looks named done = take_read_so s source (Some q) ready so looks
  judged_on s source q next.Lost ready so looks named done = take_read_so s source (Some q) ready so looks

  told_on : (s : TakeState) (ask server : ℕ) (t : Told) → SourcesSo s → (can_ask s ≡ true → CompletedAt So s s.present ask server t)
      → Goes (on_told s ask server t)
  unfolding on_told
  told_on s ask server t h done =
      by_test Goes (can_ask s) (told_at (record s { present = None }) s.present ask server t) (still s) (λ yes. by s.present h.present (done yes)) (λ _. h)
    where
      ready : Ready (record s { present = None })
      ready = record { of = h.of; behind = h.behind }

      by_reading : (source : Source) (r : Option ReadingState) → SourceSo source → LooksFor source r → CompletedIn So s r ask server t
          → Goes (take_judge (record s { present = None }) source r ask server t)
      by_reading source None so looks completes = take_read_so (record s { present = None }) source None ready so tt
      by_reading source (Some r) so looks completes =
          judged_on (record s { present = None }) source (reading_take r s.groups ask server t).state (reading_take r s.groups ask server t).next ready so
          (target-reading_take r s.groups ask server t ∙ looks)
          (subst (λ target. IsNamed target (reading_take r s.groups ask server t).next) looks (named-reading_take r s.groups ask server t)) completes

      by : (o : Option Present) → PresentSo o → CompletedAt So s o ask server t → Goes (told_at (record s { present = None }) o ask server t)
      by None so completes = record { of = h.of; behind = h.behind; present = tt }
      by (Some p) so completes = by_reading p.source p.reading so.0 so.1 completes

  maps_on : (s : TakeState) (groups : GroupMapState) → SourcesSo s → Goes (on_maps s groups)
  unfolding on_maps
  maps_on s groups h = by s.present h.present
    where
      kept : SourcesSo (record s { groups = groups })
      kept = record { of = h.of; behind = h.behind; present = h.present }

      by_reading : (source : Source) (r : Option ReadingState) → SourceSo source → Goes (sought_again (record s { groups = groups }) (present_waiting source r))
      by_reading source None so =
          by_test Goes (can_ask s) (seek (record s { groups = groups }) source) (still (record s { groups = groups }))
          (λ _. sought_on (record s { groups = groups }) source (record { of = h.of; behind = h.behind }) so) (λ _. kept)
      by_reading source (Some r) so = kept

      by : (o : Option Present) → PresentSo o → Goes (sought_again (record s { groups = groups }) (waiting o))
      by None so = kept
      by (Some p) so = by_reading p.source p.reading so.0

  -- ---- reports

  reports_on : (s : TakeState) (report : Report) → SourcesSo s → AllByRecursion Good (on_report s report).state.reports → Goes (on_report s report)
  unfolding on_report
  reports_on s report h =
      by_test (λ (d : Done). AllByRecursion Good d.state.reports → Goes d) (can_ask s && awaits s report.from) (begin_if_all heard) (still s)
      (λ _. begins) (λ _ _. h)
    where
      heard : TakeState
      heard = record s { reports = s.reports ++ report ∷ [] }

      all : TakeState
      all = record heard { sources = sources_of heard.news heard.reports }

      begins : AllByRecursion Good (begin_if_all heard).state.reports → Goes (begin_if_all heard)
      begins =
          by_test (λ (d : Done). AllByRecursion Good d.state.reports → Goes d) (length (awaited heard) == 0) (go_on all) (still heard)
          (λ _ good. go_on-on all (record {
            of = h.of;
            behind = subst (λ n. AllByRecursion SourceSo (sources_of n heard.reports)) (sym h.of)
                (of_reports heard.reports (subst (AllByRecursion Good) (go_on_same all).1 good));
          }))
          (λ _ _. record { of = h.of; behind = h.behind; present = h.present })

  -- ---- all inputs

  sources_on : (s : TakeState) (r : Read) (i : Input) → SourcesSo s → AllByRecursion Good (transition s i).state.reports → AllRead So (read_after s r i)
      → SourcesSo (transition s i).state
  sources_on s r (input.Report from held end) h good all = reports_on s (record { from = from; held = held; end = end }) h good
  sources_on s r (input.Got ask server generation fragment) h good all =
      told_on s ask server (told.Held fragment) h (before_by So s r ask server (told.Held fragment) all).0
  sources_on s r (input.Missing ask server generation) h good all =
      told_on s ask server (told.Missing generation) h (before_by So s r ask server (told.Missing generation) all).0
  sources_on s r (input.Maps groups) h good all = maps_on s groups h
  sources_on s r input.Tick h good all = h

  -- what is so of all that it has heard and read
  pub record CourseSo (c : Course) : Type 0 where
    pub reports : AllByRecursion Good c.state.reports
    pub read : AllRead So c.read

  told_before : (c : Course) (i : Input) → CourseSo (after_input c i) → CourseSo c
  told_before c i t = record { reports = earlier Good c.state i t.reports; read = read_before So c.state c.read i t.read }

  told_first : (c : Course) (inputs : List Input) → CourseSo (after_inputs c inputs) → CourseSo c
  told_first c [] t = t
  told_first c (i ∷ rest) t = told_before c i (told_first (after_input c i) rest t)

  pub course_so : (c : Course) (inputs : List Input) → SourcesSo c.state → CourseSo (after_inputs c inputs) → SourcesSo (after_inputs c inputs).state
  course_so c [] h t = h
  course_so c (i ∷ rest) h t =
      let one : CourseSo (after_input c i) = told_first (after_input c i) rest t in
      course_so (after_input c i) rest (sources_on c.state c.read i h one.reports one.read) t

  -- so the sources of a takeover are so at each moment of its course
  pub its_sources : (groups : GroupMapState) (clients : ℕ) (inputs : List Input) → CourseSo (course_of news groups clients inputs)
      → SourcesSo (course_of news groups clients inputs).state
  its_sources groups clients inputs =
      course_so (record { state = take_start news groups clients; read = nothing_read }) inputs (record { of = refl; behind = tt; present = tt })
