-- What each input makes of a takeover: of the segment that it reads at present, of what it asks servers for, and of what it says is lost.
use Rattle.std.proofs.Common.{◌≡◌, ◌⊎◌, ℕ, ◌+◌, ◌==◌, ◌&&◌, ◌≤◌, Bool, List, [], ◌∷◌, ◌++◌, length, Option, Some, None, inl, inr, refl, sym, ap, subst, ◌∙◌, filter, arith}
use Rattle.std.specs.List.{AllByRecursion}
use Rattle.group_map.specs.declared.group.Group.{Group}
use Rattle.group_map.specs.Groups.{group_of}
use Rattle.group_map.specs.GroupMapState.{GroupMapState}
use Rattle.run_losses.proofs.taking_law.TakeReadings.{IsEnded, NextSo, all_asked, next_so, reading_unanswered_none}
use Rattle.segment_format.specs.declared.segment.Segment.{Segment}
use Rattle.segment_reading.specs.declared.reading.Next.{Next}
use Rattle.segment_reading.specs.declared.reading.Next.TheVariants as next
use Rattle.segment_reading.specs.declared.reading.Stage as readings
use Rattle.segment_reading.specs.declared.reading.Stage.TheVariants as stand
use Rattle.segment_reading.specs.Reading.{ReadingState, Step, reading_start, reading_unanswered, reading_take, on_confirmed, goes_on}
use Rattle.stripe_code.specs.declared.round.Told.{Told as Answered}
use Rattle.stripe_code.specs.declared.round.Told.TheVariants as told
use Rattle.takeover.specs.declared.input.In.{In}
use Rattle.takeover.specs.declared.input.In.TheVariants as input
use Rattle.takeover.specs.declared.output.Out.{Out}
use Rattle.takeover.specs.declared.output.Out.TheVariants as out
use Rattle.takeover.specs.declared.report.Report.{Report}
use Rattle.takeover.specs.declared.source.Present.{Present}
use Rattle.takeover.specs.declared.source.Source.{Source}
use Rattle.takeover.specs.Sources.{back_from, sources_of}
use Rattle.takeover.specs.TakeState.{TakeState}
use Rattle.takeover.specs.Transition.{Done, again, ask_servers, awaited, awaits, begin_if_all, can_ask, confirmed_by, fetches, go_on, go_on_from, has_read, is_index, take_follow, judged_by, next_of, on_maps, on_report, on_tick, on_told, polls, take_read, repeated, seek, sought_again, sought_over, target_of, told_at, take_judge, transition, present_repeat as asked_again, present_waiting, waiting, join_chain}
use Rattle.takeover.specs.Rows.{told_of}
use Rattle.xfs_base.proofs.Booleans.{by_test}
use Rattle.xfs_base.specs.declared.segment.SegName.{SegName}
use Rattle.xfs_base.specs.Steps.{still}
use Rattle.xfs_base.proofs.Alls.{all_append, all_filter, all_map}

-- ---- what an input tells

-- what a server told in answer to a question of the takeover's
pub record Heard : Type 0 where
  pub own : ℕ
  pub server : ℕ
  pub told : Answered

abbrev pub heard_in : In → Option Heard
heard_in (input.Report from held end) = None
heard_in (input.Got own server generation fragment) = Some (record { own = own; server = server; told = told.Held fragment })
heard_in (input.Missing own server generation) = Some (record { own = own; server = server; told = told.Missing generation })
heard_in (input.Maps groups) = None
heard_in input.Tick = None

-- newer groups, and time: these may come after other parts of an event
abbrev pub IsCalm : In → Type 0
IsCalm (input.Report from held end) = ⊥
IsCalm (input.Got own server generation fragment) = ⊥
IsCalm (input.Missing own server generation) = ⊥
IsCalm (input.Maps groups) = Unit {0}
IsCalm input.Tick = Unit {0}

abbrev pub answered : ReadingState → GroupMapState → Heard → Step
answered r groups h = reading_take r groups h.own h.server h.told

-- ---- what is asked

-- a segment is asked for as what is read, by the question of its round, of servers that there are
abbrev pub AsksAs : SegName → Option ReadingState → SegName → ℕ → Type 0
AsksAs seg None name own = ⊥
AsksAs seg (Some r) name own = (name ≡ seg) × ((own ≡ r.ask) × (r.round.servers ≡ [] → ⊥))

abbrev pub AsksFor : Option Present → SegName → ℕ → Type 0
AsksFor None name own = ⊥
AsksFor (Some p) name own = AsksAs p.source.seg.name p.reading name own

abbrev pub NotFetch : Out → Type 0
NotFetch (out.Poll to) = Unit {0}
NotFetch (out.Fetch server name own) = ⊥
NotFetch (out.Active epoch index beliefs applied) = Unit {0}
NotFetch (out.Lost name) = Unit {0}

module _ (Named : ℕ → Group → Type 0) where
  -- each group of a map is so
  abbrev pub MapNamed : GroupMapState → Type 0
  MapNamed m = (id : ℕ) (group : Group) → group_of m id ≡ Some group → Named id group

  abbrev pub InputNamed : In → Type 0
  InputNamed (input.Report from held end) = Unit {0}
  InputNamed (input.Got own server generation fragment) = Unit {0}
  InputNamed (input.Missing own server generation) = Unit {0}
  InputNamed (input.Maps groups) = MapNamed groups
  InputNamed input.Tick = Unit {0}

  -- ---- what became of what is read: before, and after with what was said

  -- a round has begun, by the takeover's next question, and all its servers are asked
  pub record Fresh (s after : TakeState) (outs : List Out) (source : Source) (r : ReadingState) : Type 0 where
    pub counted : after.ask ≡ s.ask + 1
    pub own : r.ask ≡ s.ask + 1
    pub says : outs ≡ fetches source.seg.name (s.ask + 1) r.round.servers

  -- it stays
  pub record Kept (s after : TakeState) (source : Source) (r : ReadingState) : Type 0 where
    pub was : s.present ≡ Some (record { source = source; reading = Some r })
    pub counted : after.ask ≡ s.ask

  -- what was read took what is heard
  pub record Takes (s : TakeState) (given : In) (source : Source) (n : Next) : Type 0 where
    pub reading : ReadingState
    pub was : s.present ≡ Some (record { source = source; reading = Some reading })
    pub heard : Heard
    pub gives : heard_in given ≡ Some heard
    pub goes : (answered reading s.groups heard).next ≡ n

  -- and waits for more
  pub record Waits (s : TakeState) (given : In) (after : TakeState) (source : Source) (r : ReadingState) : Type 0 where
    pub takes : Takes s given source next.Wait
    pub now : r ≡ (answered takes.reading s.groups takes.heard).state
    pub counted : after.ask ≡ s.ask

  -- or its round has ended, and another one begins
  pub record Renewed (s : TakeState) (given : In) (after : TakeState) (outs : List Out) (source : Source) (r : ReadingState) : Type 0 where
    pub takes : Takes s given source next.Again
    pub now : r ≡ (on_confirmed (answered takes.reading s.groups takes.heard).state (s.ask + 1)).state
    pub confirmed : (on_confirmed (answered takes.reading s.groups takes.heard).state (s.ask + 1)).next ≡ next.Ask
    pub fresh : Fresh s after outs source r

  -- it is one that begins
  pub record Begins (s after : TakeState) (outs : List Out) (source : Source) (r : ReadingState) : Type 0 where
    pub group : Group
    pub named : Named source.seg.group group
    pub now : r ≡ reading_start (target_of source) group (s.ask + 1)
    pub fresh : Fresh s after outs source r

  abbrev pub Became : TakeState → In → TakeState → List Out → Source → ReadingState → Type 0
  Became s given after outs source r =
      Kept s after source r ⊎ (Waits s given after source r ⊎ (Renewed s given after outs source r ⊎ Begins s after outs source r))

  abbrev pub ReadingBecame : TakeState → In → TakeState → List Out → Source → Option ReadingState → Type 0
  ReadingBecame s given after outs source None = Unit {0}
  ReadingBecame s given after outs source (Some r) = Became s given after outs source r

  abbrev pub PresentBecame : TakeState → In → TakeState → List Out → Option Present → Type 0
  PresentBecame s given after outs None = Unit {0}
  PresentBecame s given after outs (Some p) = ReadingBecame s given after outs p.source p.reading

  -- after newer groups, or time, it reads only where it read before
  abbrev pub CalmSo : TakeState → In → Option Present → Type 0
  CalmSo s given None = Unit {0}
  CalmSo s given (Some p) = IsCalm given → (q : Present) × (s.present ≡ Some q)

  -- ---- what is said

  -- a segment is lost: its second round has ended so
  pub record IsLost (s : TakeState) (given : In) (name : SegName) : Type 0 where
    pub source : Source
    pub named : name ≡ source.seg.name
    pub takes : Takes s given source next.Again
    pub confirmed : (on_confirmed (answered takes.reading s.groups takes.heard).state (s.ask + 1)).next ≡ next.Lost

  abbrev pub Says : TakeState → In → TakeState → Out → Type 0
  Says s given after (out.Poll to) = Unit {0}
  Says s given after (out.Fetch server name own) = AsksFor after.present name own
  Says s given after (out.Active epoch index beliefs applied) = Unit {0}
  Says s given after (out.Lost name) = IsLost s given name

  pub record Turn (s : TakeState) (given : In) (after : TakeState) (outs : List Out) : Type 0 where
    pub says : AllByRecursion (Says s given after) outs
    pub reads : PresentBecame s given after outs after.present
    pub calm : CalmSo s given after.present
    pub groups : MapNamed after.groups
    pub low : s.ask ≤ after.ask

  -- ---- one source after the other

  abbrev AllFetch : (Out → Type 0) → SegName → ℕ → List ℕ → Type 0
  AllFetch P name own servers = AllByRecursion P (fetches name own servers)

  fetch_each : (P : Out → Type 0) (name : SegName) (own : ℕ) (servers : List ℕ) → ((servers ≡ [] → ⊥) → (v : ℕ) → P (out.Fetch v name own))
      → AllFetch P name own servers
  fetch_each P name own [] some = tt
  fetch_each P name own (v ∷ vs) some = (some never v, all_map P (λ w. out.Fetch w name own) (some never) vs)
    where
      never : v ∷ vs ≡ [] → ⊥
      never none = cc

  module _ (s : TakeState) (given : In) where
    abbrev Goes : Done → Type 0
    Goes d = Turn s given d.state d.outs

    -- where it may begin to read
    abbrev Calm : Type 0
    Calm = IsCalm given → (q : Present) × (s.present ≡ Some q)

    -- a round that begins
    fresh_round : (x : TakeState) (source : Source) (r : ReadingState) → x.ask ≡ s.ask → r.ask ≡ x.ask + 1 → reading_unanswered r ≡ r.round.servers
        → Fresh s (ask_servers x source r).state (ask_servers x source r).outs source r
    fresh_round x source r same own all = record {
      counted = ap (λ (n : ℕ). n + 1) same;
      own = own ∙ ap (λ (n : ℕ). n + 1) same;
      says = ap (λ (n : ℕ). fetches source.seg.name (n + 1) (reading_unanswered r)) same ∙ ap (fetches source.seg.name (s.ask + 1)) all;
    }

    asks_turn : (x : TakeState) (source : Source) (r : ReadingState) → x.ask ≡ s.ask → r.ask ≡ x.ask + 1 → MapNamed x.groups → Calm
        → Became s given (ask_servers x source r).state (ask_servers x source r).outs source r → Goes (ask_servers x source r)
    asks_turn x source r same own named calm became = record {
      says = fetch_each (Says s given (ask_servers x source r).state) source.seg.name (x.ask + 1) (reading_unanswered r)
          (λ some v. (refl, (sym own, λ none. some (reading_unanswered_none r none))));
      reads = became;
      calm = calm;
      groups = named;
      low = omega arith;
    }

    sought_turn : (x : TakeState) (source : Source) → x.ask ≡ s.ask → MapNamed x.groups → Calm → Goes (seek x source)
    unfolding seek
    sought_turn x source same named calm = by (group_of x.groups source.seg.group) refl
      where
        by : (o : Option Group) → group_of x.groups source.seg.group ≡ o → Goes (sought_over x source o)
        by None fact = record { says = tt; reads = tt; calm = calm; groups = named; low = omega arith }
        by (Some group) fact =
            let r : ReadingState = reading_start (target_of source) group (x.ask + 1) in
            asks_turn x source r same refl named calm
            (inr (inr (inr (record {
              group = group;
              named = named source.seg.group group fact;
              now = ap (λ (n : ℕ). reading_start (target_of source) group (n + 1)) same;
              fresh = fresh_round x source r same refl (all_asked r.round.servers);
            }))))

    -- nothing is read from here on
    handed_turn : (x : TakeState) → x.ask ≡ s.ask → MapNamed x.groups → Goes (next_of [] x)
    handed_turn x same named = record {
      says = by_test (AllByRecursion (Says s given (record x { sources = []; present = None }))) (is_index x.index) _ [] (λ _. (tt, tt)) (λ _. tt);
      reads = tt;
      calm = tt;
      groups = named;
      low = omega arith;
    }

    go_on_turn : (x : TakeState) → x.ask ≡ s.ask → MapNamed x.groups → Calm → Goes (go_on x)
    unfolding go_on
    go_on_turn x same named calm = by x.sources
      where
        by : (sources : List Source) → Goes (next_of sources x)
        by [] = handed_turn x same named
        by (source ∷ rest) = sought_turn (record x { sources = rest }) source same named calm

    has_read_turn : (x : TakeState) (source : Source) (segment : Segment) → x.ask ≡ s.ask → MapNamed x.groups → Calm → Goes (has_read x source segment)
    unfolding has_read
    has_read_turn x source segment same named calm = by (back_from source segment)
      where
        more : TakeState
        more = record x { chain = told_of x.news.slot segment ∷ x.chain }

        by : (before : Option Source) → Goes (go_on_from (record x { chain = told_of x.news.slot segment ∷ x.chain }) before)
        by None = go_on_turn (join_chain (record x { chain = told_of x.news.slot segment ∷ x.chain })) same named calm
        by (Some before) = sought_turn (record x { chain = told_of x.news.slot segment ∷ x.chain }) before same named calm

  -- ---- an answer

  module _ (s : TakeState) (given : In) (h : Heard) (gives : heard_in given ≡ Some h) (named : MapNamed s.groups) (source : Source) (first : ReadingState)
      (was : s.present ≡ Some (record { source = source; reading = Some first })) where
    abbrev x : TakeState
    x = record s { present = None }

    abbrev step : Step
    step = answered first s.groups h

    calm : IsCalm given → (q : Present) × (s.present ≡ Some q)
    calm fact = (record { source = source; reading = Some first }, was)

    abbrev takes : (n : Next) → step.next ≡ n → Takes s given source n
    takes n goes = record { reading = first; was = was; heard = h; gives = gives; goes = goes }

    waits_turn : step.next ≡ next.Wait → Goes s given (still (take_read x source (Some step.state)))
    waits_turn goes = record {
      says = tt;
      reads = inr (inl (record { takes = takes next.Wait goes; now = refl; counted = refl }));
      calm = calm;
      groups = named;
      low = omega arith;
    }

    -- its round has ended
    again_turn : step.next ≡ next.Again → IsEnded step.state.stage → Goes s given (again x source step.state)
    unfolding again on_confirmed
    again_turn goes ended = by step.state.stage refl ended
      where
        by : (at : readings.Stage) → step.state.stage ≡ at → IsEnded at → Goes s given (confirmed_by x source (goes_on step.state (s.ask + 1) at))
        by stand.Asking fact none = absurd none
        by stand.Over fact none = absurd none
        by stand.Between fact some =
            let r : ReadingState = (goes_on step.state (s.ask + 1) stand.Between).state in
            asks_turn s given x source r refl refl named calm
            (inr (inr (inl (record {
              takes = takes next.Again goes;
              now = ap (λ st. (goes_on step.state (s.ask + 1) st).state) (sym fact);
              confirmed = ap (λ st. (goes_on step.state (s.ask + 1) st).next) fact;
              fresh = fresh_round s given x source r refl refl (all_asked r.round.servers);
            }))))
        by stand.Doubted fact some = record {
          says = (
            record {
              source = source;
              named = refl;
              takes = takes next.Again goes;
              confirmed = ap (λ st. (goes_on step.state (s.ask + 1) st).next) fact;
            },
            tt,
          );
          reads = tt;
          calm = tt;
          groups = named;
          low = omega arith;
        }

    answer_turn : Goes s given (judged_by x source step)
    answer_turn = by step.next refl (next_so first s.groups h.own h.server h.told)
      where
        by : (n : Next) → step.next ≡ n → NextSo n step.state.stage → Goes s given (take_follow x source step.state n)
        by next.Wait goes so = waits_turn goes
        by next.Again goes so = again_turn goes so
        by (next.Read segment) goes so = has_read_turn s given x source segment refl named calm
        by next.Ask goes so = absurd so
        by next.Lost goes so = absurd so

  module _ (s : TakeState) (given : In) (named : MapNamed s.groups) where
    -- nothing happens
    rests : (after : TakeState) → after.present ≡ s.present → after.ask ≡ s.ask → MapNamed after.groups → (outs : List Out)
        → AllByRecursion (Says s given after) outs
        → Turn s given after outs
    rests after same counted its outs says = record {
      says = says;
      reads = became after.present same;
      calm = calm after.present same;
      groups = its;
      low = omega arith;
    }
      where
        reading_became : (source : Source) (r : Option ReadingState)
            → Some (record { source = source; reading = r }) ≡ s.present → ReadingBecame s given after outs source r
        reading_became source None fact = tt
        reading_became source (Some r) fact = inl (record { was = sym fact; counted = counted })

        became : (o : Option Present) → o ≡ s.present → PresentBecame s given after outs o
        became None fact = tt
        became (Some p) fact = reading_became p.source p.reading fact

        calm : (o : Option Present) → o ≡ s.present → CalmSo s given o
        calm None fact = tt
        calm (Some p) fact = λ calmly. (p, sym fact)

    told_turn : (h : Heard) → heard_in given ≡ Some h → Goes s given (on_told s h.own h.server h.told)
    unfolding on_told
    told_turn h gives =
        by_test (Goes s given) (can_ask s) (told_at (record s { present = None }) s.present h.own h.server h.told) (still s)
        (λ _. by s.present refl) (λ _. rests s refl refl named [] tt)
      where
        by_reading : (p : Present) (r : Option ReadingState) → s.present ≡ Some (record { source = p.source; reading = r })
            → Goes s given (take_judge (record s { present = None }) p.source r h.own h.server h.told)
        by_reading p None fact = record {
          says = tt;
          reads = tt;
          calm = λ calmly. (record { source = p.source; reading = None }, fact);
          groups = named;
          low = omega arith;
        }
        by_reading p (Some r) fact = answer_turn s given h gives named p.source r fact

        by : (o : Option Present) → s.present ≡ o → Goes s given (told_at (record s { present = None }) o h.own h.server h.told)
        by None fact = record { says = tt; reads = tt; calm = tt; groups = named; low = omega arith }
        by (Some p) fact = by_reading p p.reading fact

  -- ---- reports

  report_turn : (s : TakeState) (report : Report) → MapNamed s.groups → Goes s (input.Report report.from report.held report.end) (on_report s report)
  unfolding on_report
  report_turn s report named =
      let given : In = input.Report report.from report.held report.end in
      let heard : TakeState = record s { reports = s.reports ++ report ∷ [] } in
      by_test (Goes s given) (can_ask s && awaits s report.from) (begin_if_all heard) (still s)
      (λ _. by_test (Goes s given) (length (awaited heard) == 0) (go_on (record heard { sources = sources_of heard.news heard.reports })) (still heard)
      (λ _. go_on_turn s given (record heard { sources = sources_of heard.news heard.reports }) refl named (λ calmly. absurd calmly))
      (λ _. rests s given named heard refl refl named [] tt))
      (λ _. rests s given named s refl refl named [] tt)

  -- ---- the groups, and time

  maps_turn : (s : TakeState) (groups : GroupMapState) → MapNamed groups → MapNamed s.groups → Goes s (input.Maps groups) (on_maps s groups)
  unfolding on_maps
  maps_turn s groups new named = by s.present refl
    where
      with_groups : TakeState
      with_groups = record s { groups = groups }

      kept : Goes s (input.Maps groups) (still (record s { groups = groups }))
      kept = rests s (input.Maps groups) named with_groups refl refl new [] tt

      by_reading : (p : Present) (r : Option ReadingState) → s.present ≡ Some p
          → Goes s (input.Maps groups) (sought_again (record s { groups = groups }) (present_waiting p.source r))
      by_reading p None fact =
          by_test (Goes s (input.Maps groups)) (can_ask s) (seek with_groups p.source) (still with_groups)
          (λ _. sought_turn s (input.Maps groups) with_groups p.source refl new (λ calmly. (p, fact))) (λ _. kept)
      by_reading p (Some r) fact = kept

      by : (o : Option Present) → s.present ≡ o → Goes s (input.Maps groups) (sought_again (record s { groups = groups }) (waiting o))
      by None fact = kept
      by (Some p) fact = by_reading p p.reading fact

  -- what is asked again
  again_says : (s : TakeState) (given : In) (o : Option Present) → s.present ≡ o → AllByRecursion (Says s given s) (repeated o)
  again_says s given None at = tt
  again_says s given (Some p) at = by p.reading refl
    where
      asks_it : (r : ReadingState) → p.reading ≡ Some r → (r.round.servers ≡ [] → ⊥) → AsksFor s.present p.source.seg.name r.ask
      asks_it r fact some =
          subst (λ o. AsksFor o p.source.seg.name r.ask) (sym at)
          (subst (λ o. AsksAs p.source.seg.name o p.source.seg.name r.ask) (sym fact) (refl, (refl, some)))

      by : (o : Option ReadingState) → p.reading ≡ o → AllByRecursion (Says s given s) (asked_again p.source o)
      by None fact = tt
      by (Some r) fact =
          fetch_each (Says s given s) p.source.seg.name r.ask (reading_unanswered r) (λ some v. asks_it r fact (λ none. some (reading_unanswered_none r none)))

  pub tick_turn : (s : TakeState) → MapNamed s.groups → Turn s input.Tick s (on_tick s)
  tick_turn s named = rests s input.Tick named s refl refl named (on_tick s)
      (all_append (Says s input.Tick s) (polls (awaited s)) (repeated s.present)
      (all_map (Says s input.Tick s) (λ node. out.Poll node) (λ node. tt) (awaited s))
      (again_says s input.Tick s.present refl))

  -- or a part of that
  pub tick_part : (s : TakeState) → MapNamed s.groups → (keep : Out → Bool) → Turn s input.Tick s (filter keep (on_tick s))
  tick_part s named keep =
      rests s input.Tick named s refl refl named (filter keep (on_tick s)) (all_filter (Says s input.Tick s) keep (on_tick s) (tick_turn s named).says)

  -- ---- all inputs

  pub take_turn : (s : TakeState) (given : In) → InputNamed given → MapNamed s.groups → Turn s given (transition s given).state (transition s given).outs
  take_turn s (input.Report from held end) fact named = report_turn s (record { from = from; held = held; end = end }) named
  take_turn s (input.Got own server generation fragment) fact named =
      told_turn s (input.Got own server generation fragment) named (record { own = own; server = server; told = told.Held fragment }) refl
  take_turn s (input.Missing own server generation) fact named =
      told_turn s (input.Missing own server generation) named (record { own = own; server = server; told = told.Missing generation }) refl
  take_turn s (input.Maps groups) fact named = maps_turn s groups fact named
  take_turn s input.Tick fact named = tick_turn s named
