-- What a takeover holds came, whatever it is told; it reads where its sources lead, and what it reads is joined of what came.
use Rattle.std.proofs.Common.{◌≡◌, ℕ, ◌+◌, ◌==◌, ◌&&◌, true, List, [], ◌∷◌, ◌++◌, length, refl, sym, subst, ◌∙◌, arith}
use Rattle.std.proofs.lemmas.Bool.{eqb-true}
use Rattle.std.specs.Prelude.{Contains, Option, Some, None}
use Rattle.std.specs.List.{AllByRecursion}
use Rattle.group_map.specs.declared.group.Group.{Group}
use Rattle.group_map.specs.GroupMapState.{GroupMapState}
use Rattle.group_map.specs.Groups.{group_of}
use Rattle.segment_format.specs.declared.segment.Segment.{Segment}
use Rattle.segment_reading.specs.declared.reading.Next.{Next}
use Rattle.segment_reading.specs.declared.reading.Next.TheVariants as next
use Rattle.segment_reading.specs.declared.target.Target.{Target}
use Rattle.segment_reading.specs.Reading.{ReadingState, reading_start, reading_take, on_confirmed}
use Rattle.stripe_code.specs.declared.round.Told.{Told as Answered}
use Rattle.stripe_code.specs.declared.round.Told.TheVariants.{Held}
use Rattle.stripe_code.specs.declared.round.Told.TheVariants as answered
use Rattle.takeover.proofs.Ending.{nobody}
use Rattle.takeover.proofs.Readings.{target-reading_take, target-on_confirmed}
use Rattle.takeover.specs.Course.{segment_of}
use Rattle.takeover.specs.declared.input.In.{In as Input}
use Rattle.takeover.specs.declared.input.In.TheVariants as input
use Rattle.takeover.specs.declared.report.Report.{Report}
use Rattle.takeover.specs.declared.source.Present.{Present}
use Rattle.takeover.specs.declared.source.Source.{Source}
use Rattle.takeover.specs.Rows.{told_of}
use Rattle.takeover.specs.Sources.{sources_of, back_from}
use Rattle.takeover.specs.TakeState.{TakeState, take_start}
use Rattle.takeover.specs.Transition.{Done, awaited, awaits, can_ask, take_read, target_of, sought_over, seek, next_of, go_on, join_chain, go_on_from, has_read, confirmed_as, again, take_follow, take_judge, told_at, on_told, begin_if_all, on_report, present_waiting, waiting, sought_again, on_maps, transition}
use Rattle.xfs_base.proofs.Booleans.{by_test, and_second}
use Rattle.xfs_base.proofs.Members.{contains_first, contains_rest}
use Rattle.xfs_base.specs.declared.news.SlotNews.{SlotNews}
use Rattle.xfs_base.specs.declared.node.NodeId.{NodeId}
use Rattle.xfs_base.specs.Steps.{still}
use Rattle.xfs_base.proofs.Alls.{all_weaker}
use Rattle.node_tellings.specs.reading_tie.Came.{Came, Striped, MapStriped, ReadingCame, AnyReadingCame, ReadsJoined}
use Rattle.node_tellings.proofs.reading_tie.Came.{CameMore, StripedMore}
use Rattle.node_tellings.specs.reading_tie.TakeoverReads.{to_any, ReadsDown, LeadsDown, LooksFor, PresentHolds, StandsBy, TakeHolds}
use Rattle.node_tellings.proofs.reading_tie.Readings.{begun_came, answered_came, answered_reads, confirmed_came, any_rises, joined_rises, map_rises}

-- a list contains each of its items
contains_each : {X : Type 0} (xs : List X) → AllByRecursion (Contains xs) xs
contains_each [] = tt
contains_each (x ∷ xs) = (contains_first x xs, all_weaker (Contains xs) (Contains (x ∷ xs)) (λ y. contains_rest x y xs) xs (contains_each xs))

none_left : (nodes : List NodeId) → (length nodes == 0) ≡ true → nodes ≡ []
none_left [] fact = refl
none_left (x ∷ nodes) fact = (let e = eqb-true (length (x ∷ nodes)) 0 fact in absurd (omega arith))

-- what completes a segment reads it
completed : (n : Next) (segment : Segment) → segment_of n ≡ Some segment → n ≡ next.Read segment
completed (next.Read s) segment fact = cc
completed _ segment fact = absurd cc

module _ (came : Came) (striped : Striped) where
  -- all have reported, and each source behind is one of those that are to be read
  record IsReady (groups : GroupMapState) (waits : List NodeId) (all behind : List Source) : Type 0 where
    known : MapStriped striped groups
    reported : waits ≡ []
    among : AllByRecursion (Contains all) behind

  abbrev Ready : TakeState → Type 0
  Ready s = IsReady s.groups (awaited s) (sources_of s.news s.reports) s.sources

  abbrev Leads : TakeState → Source → Type 0
  Leads s source = LeadsDown came striped (sources_of s.news s.reports) source

  abbrev Holds : TakeState → Type 0
  Holds s = TakeHolds came striped s

  abbrev Goes : Done → Type 0
  Goes d = Holds d.state

  -- ---- one source after the other

  take_read_so : (s : TakeState) (source : Source) (r : Option ReadingState) → Ready s → Leads s source → LooksFor source r → AnyReadingCame (to_any came) striped r
      → Holds (take_read s source r)
  take_read_so s source r ready leads looks reading = record {
    groups = ready.known;
    stands = record { reported = ready.reported; behind = ready.among; leads = leads; looks = looks; reading = reading };
  }

  sought_on : (s : TakeState) (source : Source) → Ready s → Leads s source → Goes (seek s source)
  unfolding seek
  sought_on s source ready leads = by (group_of s.groups source.seg.group) refl
    where
      by : (group : Option Group) → group_of s.groups source.seg.group ≡ group → Goes (sought_over s source group)
      by None fact = take_read_so s source None ready leads tt tt
      by (Some group) fact =
          take_read_so (record s { ask = s.ask + 1 }) source (Some (reading_start (target_of source) group (s.ask + 1))) ready leads refl
          (begun_came (to_any came) striped (target_of source) group (s.ask + 1) (ready.known source.seg.group group fact))

  go_on-on : (s : TakeState) → Ready s → Goes (go_on s)
  unfolding go_on
  go_on-on s ready = by s.sources refl
    where
      by : (sources : List Source) → s.sources ≡ sources → Goes (next_of sources s)
      by [] fact = record { groups = ready.known; stands = refl }
      by (source ∷ rest) fact =
          let all : AllByRecursion (Contains (sources_of s.news s.reports)) (source ∷ rest) =
          subst (AllByRecursion (Contains (sources_of s.news s.reports))) fact ready.among
          in
          sought_on (record s { sources = rest }) source (record { known = ready.known; reported = ready.reported; among = all.1 })
          (record { first = source; among = all.0; segments = []; down = refl })

  has_read-on : (s : TakeState) (source : Source) (segment : Segment) → Ready s → Leads s source → ReadsJoined (to_any came) striped source.seg segment
      → Goes (has_read s source segment)
  unfolding has_read
  has_read-on s source segment ready leads joined = by (back_from source segment) refl
    where
      more : TakeState
      more = record s { chain = told_of s.news.slot segment ∷ s.chain }

      by : (before : Option Source) → back_from source segment ≡ before
          → Goes (go_on_from (record s { chain = told_of s.news.slot segment ∷ s.chain }) before)
      by None fact = go_on-on (join_chain (record s { chain = told_of s.news.slot segment ∷ s.chain })) ready
      by (Some before) fact =
          sought_on (record s { chain = told_of s.news.slot segment ∷ s.chain }) before ready
          (record { first = leads.first; among = leads.among; segments = segment ∷ leads.segments; down = (source, leads.down, joined, fact) })

  again_on : (s : TakeState) (source : Source) (r : ReadingState) → Ready s → Leads s source → r.target ≡ target_of source
      → ReadingCame (to_any came) striped r → Goes (again s source r)
  unfolding again
  again_on s source r ready leads looks reading =
      by (on_confirmed r (s.ask + 1)).state (on_confirmed r (s.ask + 1)).next (target-on_confirmed r (s.ask + 1) ∙ looks)
      (confirmed_came (to_any came) striped r (s.ask + 1) reading)
    where
      by : (q : ReadingState) (n : Next) → q.target ≡ target_of source → ReadingCame (to_any came) striped q → Goes (confirmed_as s source q n)
      by q next.Ask its fact = take_read_so (record s { ask = s.ask + 1 }) source (Some q) ready leads its fact
      by q next.Lost its fact = record { groups = ready.known; stands = refl }
      by q next.Wait its fact = take_read_so s source (Some q) ready leads its fact
      by q next.Again its fact = take_read_so s source (Some q) ready leads its fact
      by q (next.Read segment) its fact = take_read_so s source (Some q) ready leads its fact

  judged_on : (s : TakeState) (source : Source) (q : ReadingState) (n : Next) → Ready s → Leads s source → q.target ≡ target_of source
      → ReadingCame (to_any came) striped q
      → ((segment : Segment) → segment_of n ≡ Some segment → ReadsJoined (to_any came) striped source.seg segment) → Goes (take_follow s source q n)
  judged_on s source q next.Again ready leads looks reading joined = again_on s source q ready leads looks reading
  judged_on s source q (next.Read segment) ready leads looks reading joined = has_read-on s source segment ready leads (joined segment refl)
  judged_on s source q _ ready leads looks reading joined = take_read_so s source (Some q) ready leads looks reading

  -- ---- an answer

  -- what an answer completes is joined of what came
  completes_so : (r : ReadingState) (source : Source) (groups : GroupMapState) (own server : ℕ) (t : Answered) (segment : Segment)
      → r.target ≡ target_of source → ReadingCame (to_any came) striped r → to_any came own server t
      → segment_of (reading_take r groups own server t).next ≡ Some segment → ReadsJoined (to_any came) striped source.seg segment
  completes_so r source groups own server t segment looks reading fact e =
      let read = answered_reads (to_any came) striped r groups own server t segment reading fact (completed (reading_take r groups own server t).next segment e) in
      subst (λ (target : Target). ReadsJoined (to_any came) striped target.seg segment) looks read.joined

  told_on : (s : TakeState) (own server : ℕ) (t : Answered) → to_any came own server t → Holds s → Goes (on_told s own server t)
  unfolding on_told
  told_on s own server t fact h =
      by_test Goes (can_ask s) (told_at (record s { present = None }) s.present own server t) (still s) (λ _. by s.present h.stands) (λ _. h)
    where
      by_reading : (p : Present) (r : Option ReadingState) → PresentHolds came striped s p → LooksFor p.source r → AnyReadingCame (to_any came) striped r
          → Goes (take_judge (record s { present = None }) p.source r own server t)
      by_reading p None stands looks reading =
          take_read_so (record s { present = None }) p.source None
          (record { known = h.groups; reported = stands.reported; among = stands.behind }) stands.leads tt tt
      by_reading p (Some r) stands looks reading =
          judged_on (record s { present = None }) p.source (reading_take r s.groups own server t).state (reading_take r s.groups own server t).next
          (record { known = h.groups; reported = stands.reported; among = stands.behind }) stands.leads (target-reading_take r s.groups own server t ∙ looks)
          (answered_came (to_any came) striped r s.groups own server t reading fact)
          (λ segment e. completes_so r p.source s.groups own server t segment looks reading fact e)

      by : (o : Option Present) → StandsBy came striped s o → Goes (told_at (record s { present = None }) o own server t)
      by None stands = record { groups = h.groups; stands = stands }
      by (Some p) stands = by_reading p p.reading stands stands.looks stands.reading

  -- ---- the groups

  maps_on : (s : TakeState) (groups : GroupMapState) → MapStriped striped groups → Holds s → Goes (on_maps s groups)
  unfolding on_maps
  maps_on s groups new h = by s.present h.stands
    where
      grouped : (o : Option Present) → StandsBy came striped s o → StandsBy came striped (record s { groups = groups }) o
      grouped None stands = stands
      grouped (Some p) stands =
          record { reported = stands.reported; behind = stands.behind; leads = stands.leads; looks = stands.looks; reading = stands.reading }

      kept : Holds (record s { groups = groups })
      kept = record { groups = new; stands = grouped s.present h.stands }

      by_reading : (p : Present) (r : Option ReadingState) → PresentHolds came striped s p
          → Goes (sought_again (record s { groups = groups }) (present_waiting p.source r))
      by_reading p None stands =
          by_test Goes (can_ask s) (seek (record s { groups = groups }) p.source) (still (record s { groups = groups }))
          (λ _. sought_on (record s { groups = groups }) p.source (record { known = new; reported = stands.reported; among = stands.behind }) stands.leads)
          (λ _. kept)
      by_reading p (Some r) stands = kept

      by : (o : Option Present) → StandsBy came striped s o → Goes (sought_again (record s { groups = groups }) (waiting o))
      by None stands = kept
      by (Some p) stands = by_reading p p.reading stands

  -- ---- reports

  reported_on : (s : TakeState) (report : Report) → Holds s → Goes (on_report s report)
  unfolding on_report
  reported_on s report h =
      by_test Goes (can_ask s && awaits s report.from) (begin_if_all heard) (still s)
      (λ t. by s.present refl h.stands (and_second (can_ask s) (awaits s report.from) t)) (λ _. h)
    where
      heard : TakeState
      heard = record s { reports = s.reports ++ report ∷ [] }

      by : (o : Option Present) → s.present ≡ o → StandsBy came striped s o → awaits s report.from ≡ true → Goes (begin_if_all heard)
      by None at stands some =
          by_test Goes (length (awaited heard) == 0) (go_on (record heard { sources = sources_of heard.news heard.reports })) (still heard)
          (λ t. go_on-on (record heard { sources = sources_of heard.news heard.reports })
          (record { known = h.groups; reported = none_left (awaited heard) t; among = contains_each (sources_of heard.news heard.reports) }))
          (λ _. record { groups = h.groups; stands = subst (StandsBy came striped heard) (sym at) stands })
      by (Some p) at stands some = absurd (nobody s report.from stands.reported some)

  -- ---- all inputs

  -- what an input brings
  abbrev pub InputBrought : Input → Type 0
  InputBrought (input.Report from held end) = Unit {0}
  InputBrought (input.Got own server generation fragment) = to_any came own server (Held fragment)
  InputBrought (input.Missing own server generation) = to_any came own server (answered.Missing generation)
  InputBrought (input.Maps groups) = MapStriped striped groups
  InputBrought input.Tick = Unit {0}

  pub take_goes : (s : TakeState) (given : Input) → InputBrought given → TakeHolds came striped s → TakeHolds came striped (transition s given).state
  take_goes s (input.Report from held end) fact h = reported_on s (record { from = from; held = held; end = end }) h
  take_goes s (input.Got own server generation fragment) fact h = told_on s own server (Held fragment) fact h
  take_goes s (input.Missing own server generation) fact h = told_on s own server (answered.Missing generation) fact h
  take_goes s (input.Maps groups) fact h = maps_on s groups fact h
  take_goes s input.Tick fact h = h

  -- one that begins
  pub take_starts : (news : SlotNews) (groups : GroupMapState) (clients : ℕ) → MapStriped striped groups → TakeHolds came striped (take_start news groups clients)
  take_starts news groups clients known = record { groups = known; stands = refl }

  -- ---- what it reads

  pub take_reads : (s : TakeState) (p : Present) (r : ReadingState) (ask own server : ℕ) (t : Answered) (segment : Segment) → TakeHolds came striped s
      → s.present ≡ Some p → p.reading ≡ Some r → came ask server t → segment_of (reading_take r s.groups own server t).next ≡ Some segment
      → ReadsJoined (to_any came) striped p.source.seg segment
  take_reads s p r ask own server t segment h at fact it e =
      let stands : PresentHolds came striped s p = subst (StandsBy came striped s) at h.stands in
      completes_so r p.source s.groups own server t segment (subst (LooksFor p.source) fact stands.looks)
      (subst (AnyReadingCame (to_any came) striped) fact stands.reading) (record { ask = ask; came_so = it }) e

-- ---- more came

module _ (came later : Came) (striped more : Striped) (grows : CameMore came later) (widens : StripedMore striped more) where
  any_grows : CameMore (to_any came) (to_any later)
  any_grows own server t fact = record { ask = fact.ask; came_so = grows fact.ask server t fact.came_so }

  down_rises : (first : Source) (segments : List Segment) (source : Source) → ReadsDown came striped first segments source
      → ReadsDown later more first segments source
  down_rises first [] source fact = fact
  down_rises first (s ∷ above) source fact =
      (fact.0, down_rises first above fact.0 fact.1, joined_rises (to_any came) (to_any later) striped more any_grows widens fact.0.seg s fact.2, fact.3)

  present_rises : (s : TakeState) (o : Option Present) → StandsBy came striped s o → StandsBy later more s o
  present_rises s None stands = stands
  present_rises s (Some p) stands =
      let leads = stands.leads in
      record {
        reported = stands.reported;
        behind = stands.behind;
        leads = record {
          first = leads.first;
          among = leads.among;
          segments = leads.segments;
          down = down_rises leads.first leads.segments p.source leads.down;
        };
        looks = stands.looks;
        reading = any_rises (to_any came) (to_any later) striped more any_grows widens p.reading stands.reading;
      }

  pub take_rises : (s : TakeState) → TakeHolds came striped s → TakeHolds later more s
  take_rises s h = record {
    groups = map_rises came later striped more grows widens s.groups h.groups;
    stands = present_rises s s.present h.stands;
  }
