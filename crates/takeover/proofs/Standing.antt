-- At each moment a takeover's index and chain are what it has read tells, and what it has read is where its sources led.
use Rattle.std.proofs.Common.{inl, inr, ◌≡◌, ℕ, ◌+◌, ◌⊎◌, Bool, true, false, List, [], ◌∷◌, ◌++◌, Option, Some, None, length, map, refl, sym, ap, subst, ◌∙◌, append_assoc, append-nil, arith}
use Rattle.std.specs.Prelude.{All, Contains, ◌&&◌, ◌==◌, if◌then◌else◌}
use Rattle.std.proofs.lemmas.Bool.{eqb-true}
use Rattle.std.proofs.lemmas.List.Elements.{All-nil, All-cons, All-append, All-contains}
use Rattle.group_map.specs.GroupMapState.{GroupMapState}
use Rattle.group_map.specs.Groups.{group_of}
use Rattle.delta_index.specs.Index.{entry_of, merged_all}
use Rattle.delta_index.proofs.IndexJoin.{index_join}
use Rattle.segment_format.specs.declared.segment.Segment.{Segment}
use Rattle.segment_reading.specs.Reading.{ReadingState, reading_start, reading_unanswered, reading_take, on_confirmed}
use Rattle.segment_reading.specs.declared.reading.Next.{Next}
use Rattle.segment_reading.specs.declared.reading.Next.TheVariants as next
use Rattle.segment_reading.specs.declared.target.Target.{Target}
use Rattle.stripe_code.specs.declared.round.Told.{Told}
use Rattle.stripe_code.specs.declared.round.Told.TheVariants.{Held}
use Rattle.stripe_code.specs.declared.round.Told.TheVariants as told
use Rattle.xfs_base.specs.declared.block.BlockId.{BlockId}
use Rattle.xfs_base.specs.declared.entry.Entry.{Entry}
use Rattle.xfs_base.specs.declared.news.SlotNews.{SlotNews}
use Rattle.xfs_base.specs.declared.node.NodeId.{NodeId}
use Rattle.xfs_base.specs.declared.segment.SegName.{SegName}
use Rattle.xfs_base.specs.declared.token.Mode.{Mode}
use Rattle.xfs_base.specs.Steps.{still}
use Rattle.xfs_base.proofs.Booleans.{by_test, and_second}
use Rattle.takeover.specs.declared.input.In.{In}
use Rattle.takeover.specs.declared.input.In.TheVariants as input
use Rattle.takeover.specs.declared.output.Out.{Out}
use Rattle.takeover.specs.declared.output.Out.TheVariants.{Poll, Fetch, Active, Lost}
use Rattle.takeover.specs.declared.report.Report.{Report}
use Rattle.takeover.specs.declared.source.Present.{Present}
use Rattle.takeover.specs.declared.source.Source.{Source}
use Rattle.takeover.specs.Course.{Course, IsTakenOver, IsOver, segment_of, and_of, read_in, read_at, read_by, read_after, after_input, after_inputs, course_of}
use Rattle.takeover.specs.ReadBack.{IsReadBack, AreReadBack, Read, nothing_read, and_read, told_by_all}
use Rattle.takeover.specs.Reports.{applied_of, beliefs_of}
use Rattle.takeover.specs.Rows.{told_of}
use Rattle.takeover.specs.Sources.{sources_of, prior_of, goes_back}
use Rattle.takeover.specs.TakeState.{TakeState, take_start}
use Rattle.takeover.specs.Transition.{Done, awaited, awaits, can_ask, fetches, polls, take_read, ask_servers, target_of, sought_over, seek, is_index, hand_over, next_of, go_on, join_chain, go_on_from, has_read, take_lose, confirmed_as, again, take_follow, take_judge, told_at, on_told, begin_if_all, on_report, present_waiting, waiting, sought_again, on_maps, present_repeat, repeated, transition}
use Rattle.takeover.proofs.Chains.{all_merged, one_more_whole}
use Rattle.takeover.proofs.Ending.{nobody}
use Rattle.takeover.proofs.Readings.{IsNamed, target-reading_take, target-on_confirmed, named-reading_take}

-- ---- how a takeover stands

-- nothing is read yet
record IsFresh (s : TakeState) (r : Read) : Type 0 where
  whole : r.whole ≡ []
  present : r.present ≡ []
  index : s.index ≡ []
  chain : s.chain ≡ []

-- some sources were read whole, and none is read at present
record IsBetween (news : SlotNews) (s : TakeState) (r : Read) : Type 0 where
  past : List Source
  sources : sources_of news s.reports ≡ past ++ s.sources
  whole : AreReadBack past r.whole
  present : r.present ≡ []
  reported : awaited s ≡ []
  index : s.index ≡ merged_all [] (told_by_all news.slot r.whole)
  chain : s.chain ≡ []

-- some sources were read whole, and this is left of the next one
record IsReading (news : SlotNews) (s : TakeState) (r : Read) (left : Source) : Type 0 where
  past : List Source
  first : Source
  sources : sources_of news s.reports ≡ past ++ first ∷ s.sources
  whole : AreReadBack past r.whole
  present : IsReadBack first r.present (Some left)
  reported : awaited s ≡ []
  index : s.index ≡ merged_all [] (told_by_all news.slot r.whole)
  chain : s.chain ≡ map (told_of news.slot) r.present

abbrev LooksFor : Source → Option ReadingState → Type 0
LooksFor source None = Unit {0}
LooksFor source (Some reading) = reading.target ≡ target_of source

-- where nothing is read at present, nothing was read yet, or all is over
abbrev StandsBy : SlotNews → TakeState → Read → Option Present → Type 0
StandsBy news s r None = IsFresh s r ⊎ (awaited s ≡ [])
StandsBy news s r (Some p) = IsReading news s r p.source × LooksFor p.source p.reading

record Stands (news : SlotNews) (s : TakeState) (r : Read) : Type 0 where
  of : s.news ≡ news
  by : StandsBy news s r s.present

-- what is said of a slot that is handed out
abbrev Claims : SlotNews → TakeState → Read → Out → Type 0
Claims news s r (Poll to) = Unit {0}
Claims news s r (Fetch server name ask) = Unit {0}
Claims news s r (Active epoch index beliefs applied) = IsTakenOver news (record { state = s; read = r }) epoch index beliefs applied × IsOver s
Claims news s r (Lost name) = IsOver s

-- a step by which this was read
record Goes (news : SlotNews) (d : Done) (r : Read) : Type 0 where
  stands : Stands news d.state r
  claims : All (Claims news d.state r) d.outs

module _ (news : SlotNews) where
  -- ---- what no news, reports, sources, index or chain changes

  fresh_still : (s : TakeState) (r : Read) (groups : GroupMapState) (reports : List Report) (present : Option Present) → IsFresh s r
      → IsFresh (record s { groups = groups; reports = reports; present = present }) r
  fresh_still s r groups reports present h = record { whole = h.whole; present = h.present; index = h.index; chain = h.chain }

  reading_still : (s : TakeState) (r : Read) (left : Source) (groups : GroupMapState) (present : Option Present) (ask : ℕ) → IsReading news s r left
      → IsReading news (record s { groups = groups; present = present; ask = ask }) r left
  reading_still s r left groups present ask h =
      record {
        past = h.past;
        first = h.first;
        sources = h.sources;
        whole = h.whole;
        present = h.present;
        reported = h.reported;
        index = h.index;
        chain = h.chain;
      }

  claims_nothing : (s : TakeState) (r : Read) → All (Claims news s r) []
  claims_nothing s r = All-nil (Claims news s r)

  claims-fetches : (s : TakeState) (r : Read) (name : SegName) (ask : ℕ) (servers : List ℕ) → All (Claims news s r) (fetches name ask servers)
  claims-fetches s r name ask [] = claims_nothing s r
  claims-fetches s r name ask (v ∷ vs) = All-cons (Claims news s r) (Fetch v name ask) (fetches name ask vs) tt (claims-fetches s r name ask vs)

  claims-polls : (s : TakeState) (r : Read) (nodes : List NodeId) → All (Claims news s r) (polls nodes)
  claims-polls s r [] = claims_nothing s r
  claims-polls s r (n ∷ ns) = All-cons (Claims news s r) (Poll n) (polls ns) tt (claims-polls s r ns)

  -- ---- one source after the other

  reads_goes : (s : TakeState) (r : Read) (source : Source) (o : Option ReadingState) → s.news ≡ news → IsReading news s r source → LooksFor source o
      → Goes news (still (take_read s source o)) r
  reads_goes s r source o of h looks = record {
    stands = record { of = of; by = (reading_still s r source s.groups (take_read s source o).present s.ask h, looks) };
    claims = claims_nothing (take_read s source o) r;
  }

  asks_goes : (s : TakeState) (r : Read) (source : Source) (reading : ReadingState) → s.news ≡ news → IsReading news s r source
      → reading.target ≡ target_of source → Goes news (ask_servers s source reading) r
  asks_goes s r source reading of h looks = record {
    stands = record { of = of; by = (reading_still s r source s.groups (take_read s source (Some reading)).present (s.ask + 1) h, looks) };
    claims = claims-fetches (ask_servers s source reading).state r source.seg.name (s.ask + 1) (reading_unanswered reading);
  }

  sought_goes : (s : TakeState) (r : Read) (source : Source) → s.news ≡ news → IsReading news s r source → Goes news (seek s source) r
  unfolding seek
  sought_goes s r source of h =
      elim (group_of s.groups source.seg.group) as (λ o. Goes news (sought_over s source o) r) [
        | None ↦ reads_goes s r source None of h tt
        | Some group ↦ asks_goes s r source (reading_start (target_of source) group (s.ask + 1)) of h refl
      ]

  -- all sources were read whole
  ended_goes : (s : TakeState) (r : Read) → s.sources ≡ [] → s.news ≡ news → IsBetween news s r → Goes news (next_of [] s) r
  ended_goes s r e of b = record { stands = record { of = of; by = inr b.reported }; claims = claims }
    where
      over : TakeState
      over = record s { sources = []; present = None }

      all : sources_of news s.reports ≡ b.past
      all = b.sources ∙ ap (λ xs. b.past ++ xs) e ∙ append-nil b.past

      taken : IsTakenOver news (record { state = over; read = r }) s.news.epoch s.index (beliefs_of s.reports) (applied_of s.news.horizon s.reports)
      taken = record {
        reported = b.reported;
        sources = subst (λ xs. AreReadBack xs r.whole) (sym all) b.whole;
        nothing_else = b.present;
        rows = b.index;
        joined = λ block. ap (λ rows. entry_of rows block) b.index ∙ index_join (told_by_all news.slot r.whole) block;
        applied_to = ap (λ (n : SlotNews). applied_of n.horizon s.reports) of;
        believed = refl;
        of_epoch = ap (λ (n : SlotNews). n.epoch) of;
      }

      out : Out
      out = Active s.news.epoch s.index (beliefs_of s.reports) (applied_of s.news.horizon s.reports)

      claims : All (Claims news over r) (hand_over s)
      claims =
          by_test (λ (outs : List Out). All (Claims news over r) outs) (is_index s.index) (out ∷ []) []
          (λ t. All-cons (Claims news over r) out [] (taken, record { reported = b.reported; nothing_read = refl }) (claims_nothing over r))
          (λ t. claims_nothing over r)

  next_goes : (sources : List Source) (s : TakeState) (r : Read) → s.sources ≡ sources → s.news ≡ news → IsBetween news s r → Goes news (next_of sources s) r
  next_goes [] s r e of b = ended_goes s r e of b
  next_goes (source ∷ rest) s r e of b = sought_goes (record s { sources = rest }) r source of (record {
    past = b.past;
    first = source;
    sources = b.sources ∙ ap (λ xs. b.past ++ xs) e;
    whole = b.whole;
    present = subst (λ xs. IsReadBack source xs (Some source)) (sym b.present) refl;
    reported = b.reported;
    index = b.index;
    chain = b.chain ∙ ap (map (told_of news.slot)) (sym b.present);
  })

  go_on_goes : (s : TakeState) (r : Read) → s.news ≡ news → IsBetween news s r → Goes news (go_on s) r
  unfolding go_on
  go_on_goes s r of b = next_goes s.sources s r refl of b

  -- ---- a segment was read

  abbrev left_of : Source → Segment → Bool → Option Source
  left_of source segment back = if back then Some (record { seg = prior_of segment; low = source.low }) else None

  abbrev read_of : Read → Segment → Bool → Read
  read_of r segment back =
      if back then record { whole = r.whole; present = segment ∷ r.present } else record { whole = r.whole ++ (segment ∷ r.present) ∷ []; present = [] }

  read_goes : (s : TakeState) (r : Read) (source : Source) (segment : Segment) (back : Bool) → goes_back source segment ≡ back → s.news ≡ news
      → IsReading news s r source → segment.name ≡ source.seg.name
      → Goes news (go_on_from (record s { chain = told_of s.news.slot segment ∷ s.chain }) (left_of source segment back)) (read_of r segment back)
  read_goes s r source segment back e of h name =
      elim back as (λ b. goes_back source segment ≡ b → Goes news (go_on_from more (left_of source segment b)) (read_of r segment b)) [
        | true ↦ λ t. sought_goes more (read_of r segment true) before of (record {
          past = h.past;
          first = h.first;
          sources = h.sources;
          whole = h.whole;
          present = (source, h.present, name, sym (ap (left_of source segment) t));
          reported = h.reported;
          index = h.index;
          chain = grown;
        })
        | false ↦ λ t. go_on_goes (join_chain more) (read_of r segment false) of (record {
          past = h.past ++ h.first ∷ [];
          sources = h.sources ∙ sym (append_assoc h.past (h.first ∷ []) s.sources);
          whole = one_more_whole h.past r.whole h.first (segment ∷ r.present) h.whole (source, h.present, name, sym (ap (left_of source segment) t));
          present = refl;
          reported = h.reported;
          index = all_merged news.slot s.index (told_of s.news.slot segment ∷ s.chain) r.whole (segment ∷ r.present) h.index grown;
          chain = refl;
        })
      ] e
    where
      more : TakeState
      more = record s { chain = told_of s.news.slot segment ∷ s.chain }

      before : Source
      before = record { seg = prior_of segment; low = source.low }

      grown : told_of s.news.slot segment ∷ s.chain ≡ map (told_of news.slot) (segment ∷ r.present)
      grown = ap (λ (n : SlotNews). told_of n.slot segment ∷ s.chain) of ∙ ap (λ c. told_of news.slot segment ∷ c) h.chain

  has_read_goes : (s : TakeState) (r : Read) (source : Source) (segment : Segment) → s.news ≡ news → IsReading news s r source → segment.name ≡ source.seg.name
      → Goes news (has_read s source segment) (and_read r source segment)
  unfolding has_read
  has_read_goes s r source segment of h name = read_goes s r source segment (goes_back source segment) refl of h name

  -- ---- an answer

  lost_goes : (s : TakeState) (r : Read) (source : Source) → s.news ≡ news → IsReading news s r source → Goes news (take_lose s source.seg.name) r
  lost_goes s r source of h = record {
    stands = record { of = of; by = inr h.reported };
    claims = All-cons (Claims news (take_lose s source.seg.name).state r) (Lost source.seg.name) [] (record { reported = h.reported; nothing_read = refl })
        (claims_nothing (take_lose s source.seg.name).state r);
  }

  confirmed_goes : (s : TakeState) (r : Read) (source : Source) (reading : ReadingState) (n : Next) → s.news ≡ news → IsReading news s r source
      → reading.target ≡ target_of source → Goes news (confirmed_as s source reading n) r
  confirmed_goes s r source reading next.Ask of h looks = asks_goes s r source reading of h looks
  confirmed_goes s r source reading next.Lost of h looks = lost_goes s r source of h
  confirmed_goes s r source reading next.Wait of h looks = reads_goes s r source (Some reading) of h looks
  confirmed_goes s r source reading next.Again of h looks = reads_goes s r source (Some reading) of h looks
  confirmed_goes s r source reading (next.Read segment) of h looks = reads_goes s r source (Some reading) of h looks

  again_goes : (s : TakeState) (r : Read) (source : Source) (reading : ReadingState) → s.news ≡ news → IsReading news s r source
      → reading.target ≡ target_of source → Goes news (again s source reading) r
  unfolding again
  again_goes s r source reading of h looks =
      let step = on_confirmed reading (s.ask + 1) in
      confirmed_goes s r source step.state step.next of h (target-on_confirmed reading (s.ask + 1) ∙ looks)

  judged_goes : (s : TakeState) (r : Read) (p : Present) (reading : ReadingState) (n : Next) → s.news ≡ news → IsReading news s r p.source
      → reading.target ≡ target_of p.source → IsNamed (target_of p.source) n → Goes news (take_follow s p.source reading n) (and_of r p (segment_of n))
  judged_goes s r p reading next.Again of h looks named = again_goes s r p.source reading of h looks
  judged_goes s r p reading (next.Read segment) of h looks named = has_read_goes s r p.source segment of h named
  judged_goes s r p reading next.Wait of h looks named = reads_goes s r p.source (Some reading) of h looks
  judged_goes s r p reading next.Ask of h looks named = reads_goes s r p.source (Some reading) of h looks
  judged_goes s r p reading next.Lost of h looks named = reads_goes s r p.source (Some reading) of h looks

  take_judge_goes : (s : TakeState) (r : Read) (p : Present) (o : Option ReadingState) (ask server : ℕ) (t : Told) → s.news ≡ news → IsReading news s r p.source
      → LooksFor p.source o → Goes news (take_judge s p.source o ask server t) (read_in s r p o ask server t)
  take_judge_goes s r p None ask server t of h looks = reads_goes s r p.source None of h tt
  take_judge_goes s r p (Some reading) ask server t of h looks =
      let step = reading_take reading s.groups ask server t in
      judged_goes s r p step.state step.next of h (target-reading_take reading s.groups ask server t ∙ looks)
      (subst (λ (x : Target). IsNamed x step.next) looks (named-reading_take reading s.groups ask server t))

  told_at_goes : (s : TakeState) (r : Read) (o : Option Present) (ask server : ℕ) (t : Told) → s.news ≡ news → StandsBy news s r o
      → Goes news (told_at (record s { present = None }) o ask server t) (read_at s r o ask server t)
  told_at_goes s r None ask server t of by = record {
    stands = record { of = of; by = elim by [ inl fresh ↦ inl (fresh_still s r s.groups s.reports None fresh) | inr over ↦ inr over ] };
    claims = claims_nothing (record s { present = None }) r;
  }
  told_at_goes s r (Some p) ask server t of by =
      take_judge_goes (record s { present = None }) r p p.reading ask server t of (reading_still s r p.source s.groups None s.ask by.0) by.1

  still_goes : (s : TakeState) (r : Read) → Stands news s r → Goes news (still s) r
  still_goes s r h = record { stands = h; claims = claims_nothing s r }

  on_told_goes : (s : TakeState) (r : Read) (ask server : ℕ) (t : Told) → Stands news s r → Goes news (on_told s ask server t) (read_by s r ask server t)
  unfolding on_told
  on_told_goes s r ask server t h =
      elim (can_ask s) as
      (λ b. Goes news (if b then told_at (record s { present = None }) s.present ask server t else still s)
      (if b then read_at s r s.present ask server t else r)) [
        | true ↦ told_at_goes s r s.present ask server t h.of h.by
        | false ↦ still_goes s r h
      ]

  -- ---- reports

  empty : {X : Type 0} (xs : List X) → length xs ≡ 0 → xs ≡ []
  empty [] e = refl
  empty (x ∷ xs) e = absurd (omega arith)

  begun_goes : (s : TakeState) (r : Read) → s.news ≡ news → s.present ≡ None → IsFresh s r → Goes news (begin_if_all s) r
  begun_goes s r of none fresh =
      let all = record s { sources = sources_of s.news s.reports } in
      by_test (λ d. Goes news d r) (length (awaited s) == 0) (go_on all) (still s)
      (λ t. go_on_goes all r of (record {
        past = [];
        sources = ap (λ n. sources_of n s.reports) (sym of);
        whole = subst (AreReadBack []) (sym fresh.whole) tt;
        present = fresh.present;
        reported = empty (awaited s) (eqb-true (length (awaited s)) 0 t);
        index = fresh.index ∙ sym (ap (λ w. merged_all [] (told_by_all news.slot w)) fresh.whole);
        chain = fresh.chain;
      }))
      (λ t. still_goes s r (record { of = of; by = subst (StandsBy news s r) (sym none) (inl fresh) }))

  heard_goes : (s : TakeState) (r : Read) (report : Report) (o : Option Present) → s.present ≡ o → s.news ≡ news → StandsBy news s r o
      → awaits s report.from ≡ true → Goes news (begin_if_all (record s { reports = s.reports ++ report ∷ [] })) r
  heard_goes s r report None e of by some =
      elim by [
        | inl fresh ↦ begun_goes (record s { reports = s.reports ++ report ∷ [] }) r of e (fresh_still s r s.groups (s.reports ++ report ∷ []) s.present fresh)
        | inr over ↦ absurd (nobody s report.from over some)
      ]
  heard_goes s r report (Some p) e of by some = absurd (nobody s report.from by.0.reported some)

  on_report_goes : (s : TakeState) (r : Read) (report : Report) → Stands news s r → Goes news (on_report s report) r
  unfolding on_report
  on_report_goes s r report h =
      by_test (λ d. Goes news d r) (can_ask s && awaits s report.from) (begin_if_all (record s { reports = s.reports ++ report ∷ [] })) (still s)
      (λ t. heard_goes s r report s.present refl h.of h.by (and_second (can_ask s) (awaits s report.from) t))
      (λ t. still_goes s r h)

  -- ---- the groups, and time

  with_groups : (s : TakeState) (r : Read) (groups : GroupMapState) (o : Option Present) → StandsBy news s r o
      → StandsBy news (record s { groups = groups }) r o
  with_groups s r groups None by = elim by [ inl fresh ↦ inl (fresh_still s r groups s.reports s.present fresh) | inr over ↦ inr over ]
  with_groups s r groups (Some p) by = (reading_still s r p.source groups s.present s.ask by.0, by.1)

  sought_again_goes : (s : TakeState) (r : Read) (source : Source) (o : Option ReadingState) → Stands news s r → IsReading news s r source
      → Goes news (sought_again s (present_waiting source o)) r
  sought_again_goes s r source None all h =
      by_test (λ d. Goes news d r) (can_ask s) (seek s source) (still s) (λ t. sought_goes s r source all.of h) (λ t. still_goes s r all)
  sought_again_goes s r source (Some reading) all h = still_goes s r all

  waiting_goes : (s : TakeState) (r : Read) (o : Option Present) → Stands news s r → StandsBy news s r o → Goes news (sought_again s (waiting o)) r
  waiting_goes s r None all by = still_goes s r all
  waiting_goes s r (Some p) all by = sought_again_goes s r p.source p.reading all by.0

  on_maps_goes : (s : TakeState) (r : Read) (groups : GroupMapState) → Stands news s r → Goes news (on_maps s groups) r
  unfolding on_maps
  on_maps_goes s r groups h =
      let by = with_groups s r groups s.present h.by in
      waiting_goes (record s { groups = groups }) r s.present (record { of = h.of; by = by }) by

  claims-present_repeat : (s : TakeState) (r : Read) (source : Source) (o : Option ReadingState) → All (Claims news s r) (present_repeat source o)
  claims-present_repeat s r source None = claims_nothing s r
  claims-present_repeat s r source (Some reading) = claims-fetches s r source.seg.name reading.ask (reading_unanswered reading)

  claims-repeated : (s : TakeState) (r : Read) (o : Option Present) → All (Claims news s r) (repeated o)
  claims-repeated s r None = claims_nothing s r
  claims-repeated s r (Some p) = claims-present_repeat s r p.source p.reading

  -- ---- any course of inputs

  input_goes : (s : TakeState) (r : Read) (i : In) → Stands news s r → Goes news (transition s i) (read_after s r i)
  input_goes s r (input.Report from held end) h = on_report_goes s r (record { from = from; held = held; end = end }) h
  input_goes s r (input.Got ask server generation fragment) h = on_told_goes s r ask server (Held fragment) h
  input_goes s r (input.Missing ask server generation) h = on_told_goes s r ask server (told.Missing generation) h
  input_goes s r (input.Maps groups) h = on_maps_goes s r groups h
  input_goes s r input.Tick h =
      record {
        stands = h;
        claims = All-append (Claims news s r) (polls (awaited s)) (repeated s.present) (claims-polls s r (awaited s)) (claims-repeated s r s.present);
      }

  stands_after : (c : Course) (inputs : List In) → Stands news c.state c.read → Stands news (after_inputs c inputs).state (after_inputs c inputs).read
  stands_after c [] h = h
  stands_after c (i ∷ rest) h = stands_after (after_input c i) rest (input_goes c.state c.read i h).stands

  at_first : (groups : GroupMapState) (clients : ℕ) → Stands news (take_start news groups clients) nothing_read
  at_first groups clients = record { of = refl; by = inl (record { whole = refl; present = refl; index = refl; chain = refl }) }

-- what is said of each thing that is told
claims_of : (news : SlotNews) (groups : GroupMapState) (clients : ℕ) (inputs : List In) (i : In) (out : Out)
    → Contains (transition (course_of news groups clients inputs).state i).outs out
    → Claims news (after_input (course_of news groups clients inputs) i).state (after_input (course_of news groups clients inputs) i).read out
claims_of news groups clients inputs i out contains =
    let c = course_of news groups clients inputs in
    let stands = stands_after news (record { state = take_start news groups clients; read = nothing_read }) inputs (at_first news groups clients) in
    let goes = input_goes news c.state c.read i stands in
    All-contains (Claims news (transition c.state i).state (read_after c.state c.read i)) (transition c.state i).outs out goes.claims contains

pub taken_over : (news : SlotNews) (groups : GroupMapState) (clients : ℕ) (inputs : List In) (i : In) (epoch : ℕ) (index : List (BlockId × Entry))
    (beliefs : List (BlockId × ℕ × Mode)) (applied : List ℕ)
    → Contains (transition (course_of news groups clients inputs).state i).outs (Active epoch index beliefs applied)
    → IsTakenOver news (after_input (course_of news groups clients inputs) i) epoch index beliefs applied
taken_over news groups clients inputs i epoch index beliefs applied contains =
    (claims_of news groups clients inputs i (Active epoch index beliefs applied) contains).0

pub over_once_handed : (news : SlotNews) (groups : GroupMapState) (clients : ℕ) (inputs : List In) (i : In) (epoch : ℕ) (index : List (BlockId × Entry))
    (beliefs : List (BlockId × ℕ × Mode)) (applied : List ℕ)
    → Contains (transition (course_of news groups clients inputs).state i).outs (Active epoch index beliefs applied)
    → IsOver (transition (course_of news groups clients inputs).state i).state
over_once_handed news groups clients inputs i epoch index beliefs applied contains =
    (claims_of news groups clients inputs i (Active epoch index beliefs applied) contains).1

pub over_once_lost : (news : SlotNews) (groups : GroupMapState) (clients : ℕ) (inputs : List In) (i : In) (name : SegName)
    → Contains (transition (course_of news groups clients inputs).state i).outs (Lost name)
    → IsOver (transition (course_of news groups clients inputs).state i).state
over_once_lost news groups clients inputs i name contains = claims_of news groups clients inputs i (Lost name) contains
