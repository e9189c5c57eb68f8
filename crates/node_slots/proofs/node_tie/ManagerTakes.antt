-- What a takeover says at each input: polls, questions, that a segment is lost, or, once all have reported, that the slot is active, and then nothing else.
use Rattle.std.proofs.Common.{◌≡◌, ℕ, ◌+◌, Bool, true, false, cond, not, ◌&&◌, ◌||◌, ◌==◌, List, [], ◌∷◌, ◌++◌, ◌⊎◌, inl, inr, ⊎_elim, length, filter, Option, Some, None, refl, sym, ap, subst, ◌∙◌}
use Rattle.std.specs.List.{AllByRecursion, list_any}
use Rattle.std.proofs.lemmas.List.{nil_from_length}
use Rattle.std.proofs.lemmas.Bool.{eqb-true}
use Rattle.group_map.specs.GroupMapState.{GroupMapState}
use Rattle.group_map.specs.Groups.{group_of}
use Rattle.group_map.specs.declared.group.Group.{Group}
use Rattle.segment_format.specs.declared.segment.Segment.{Segment}
use Rattle.segment_reading.specs.Reading.{ReadingState, reading_start, reading_unanswered, reading_take, on_confirmed}
use Rattle.segment_reading.specs.declared.reading.Next.{Next}
use Rattle.segment_reading.specs.declared.reading.Next.TheVariants as next
use Rattle.stripe_code.specs.declared.round.Told.{Told}
use Rattle.stripe_code.specs.declared.round.Told.TheVariants.{Held}
use Rattle.stripe_code.specs.declared.round.Told.TheVariants as told
use Rattle.xfs_base.specs.Nodes.{same_node}
use Rattle.xfs_base.specs.Steps.{still}
use Rattle.xfs_base.specs.declared.block.BlockId.{BlockId}
use Rattle.xfs_base.specs.declared.entry.Entry.{Entry}
use Rattle.xfs_base.specs.declared.news.SlotNews.{SlotNews}
use Rattle.xfs_base.specs.declared.node.NodeId.{NodeId}
use Rattle.xfs_base.specs.declared.segment.End.{End}
use Rattle.xfs_base.specs.declared.segment.SegName.{SegName}
use Rattle.xfs_base.specs.declared.token.Mode.{Mode}
use Rattle.xfs_base.proofs.Booleans.{contrary, by_test, and_second, or_first, or_second}
use Rattle.xfs_base.proofs.NodeOrder.{same_node_itself, same_node_is}
use Rattle.takeover.specs.declared.input.In.{In as Input}
use Rattle.takeover.specs.declared.input.In.TheVariants as input
use Rattle.takeover.specs.declared.output.Out.{Out}
use Rattle.takeover.specs.declared.output.Out.TheVariants.{Active}
use Rattle.takeover.specs.declared.report.Report.{Report}
use Rattle.takeover.specs.declared.source.Present.{Present}
use Rattle.takeover.specs.declared.source.Source.{Source}
use Rattle.takeover.specs.Reports.{is_heard, unheard, polled}
use Rattle.takeover.specs.Sources.{sources_of, back_from}
use Rattle.takeover.specs.Rows.{told_of}
use Rattle.takeover.specs.TakeState.{TakeState}
use Rattle.takeover.specs.Transition.{Done, awaited, awaits, can_ask, fetches, polls, take_read, ask_servers, target_of, sought_over, seek, is_index, active, next_of, go_on, join_chain, go_on_from, has_read, confirmed_as, again, take_follow, take_judge, told_at, on_told, begin_if_all, on_report, present_waiting, waiting, sought_again, on_maps, present_repeat, repeated, on_tick, transition}
use Rattle.takeover.proofs.Ending.{nobody}
use Rattle.token_protocol.specs.Basics.{In}

-- ---- what is said

-- anything but that the slot is active
abbrev pub IsPlain : Out → Type 0
IsPlain (Active epoch index beliefs applied) = ⊥
IsPlain _ = Unit {0}

abbrev pub ArePlain : List Out → Type 0
ArePlain outs = AllByRecursion IsPlain outs

-- that alone, once all have reported
pub record Hands (s : TakeState) (outs : List Out) : Type 0 where
  pub index : List (BlockId × Entry)
  pub says_active : outs ≡ active s index ∷ []
  pub reported : awaited s ≡ []

abbrev pub IsReady : TakeState → Type 0
IsReady s = (p : Present) → s.present ≡ Some p → awaited s ≡ []

-- a step of a takeover with this news, so many clients and these reports
pub record Goes (of : SlotNews) (many : ℕ) (kept : List Report) (d : Done) : Type 0 where
  pub news : d.state.news ≡ of
  pub clients : d.state.clients ≡ many
  pub reports : d.state.reports ≡ kept
  pub ready : IsReady d.state
  pub said : ArePlain d.outs ⊎ Hands d.state d.outs

pub fetches_plain : (name : SegName) (ask : ℕ) (servers : List ℕ) → ArePlain (fetches name ask servers)
fetches_plain name ask [] = tt
fetches_plain name ask (v ∷ vs) = (tt, fetches_plain name ask vs)

polls_plain : (nodes : List NodeId) → ArePlain (polls nodes)
polls_plain [] = tt
polls_plain (n ∷ ns) = (tt, polls_plain ns)

plain_both : (xs ys : List Out) → ArePlain xs → ArePlain ys → ArePlain (xs ++ ys)
plain_both [] ys h k = k
plain_both (x ∷ xs) ys h k = (h.0, plain_both xs ys h.1 k)

-- ---- reading goes on, once all have reported

abbrev On : TakeState → Done → Type 0
On s d = Goes s.news s.clients s.reports d

abbrev AllIn : TakeState → Type 0
AllIn s = awaited s ≡ []

reads_on : (s : TakeState) (source : Source) (r : Option ReadingState) → AllIn s → On s (still (take_read s source r))
reads_on s source r all = record { news = refl; clients = refl; reports = refl; ready = λ p fact. all; said = inl tt }

asks_on : (s : TakeState) (source : Source) (r : ReadingState) → AllIn s → On s (ask_servers s source r)
asks_on s source r all = record {
  news = refl;
  clients = refl;
  reports = refl;
  ready = λ p fact. all;
  said = inl
      (fetches_plain source.seg.name (s.ask + 1) (reading_unanswered r));
}

sought_on : (s : TakeState) (source : Source) → AllIn s → On s (seek s source)
unfolding seek
sought_on s source all = by (group_of s.groups source.seg.group)
  where
    by : (g : Option Group) → On s (sought_over s source g)
    by None = reads_on s source None all
    by (Some group) = asks_on s source (reading_start (target_of source) group (s.ask + 1)) all

next_on : (sources : List Source) (s : TakeState) → AllIn s → On s (next_of sources s)
next_on [] s all = record { news = refl; clients = refl; reports = refl; ready = λ p fact. all; said = by (is_index s.index) }
  where
    done : TakeState
    done = record s { sources = []; present = None }

    by : (t : Bool) → ArePlain (cond t (active s s.index ∷ []) []) ⊎ Hands (record s { sources = []; present = None }) (cond t (active s s.index ∷ []) [])
    by true = inr (record { index = s.index; says_active = refl; reported = all })
    by false = inl tt
next_on (source ∷ rest) s all = sought_on (record s { sources = rest }) source all

go_on-on : (s : TakeState) → AllIn s → On s (go_on s)
unfolding go_on
go_on-on s all = next_on s.sources s all

has_read-on : (s : TakeState) (source : Source) (segment : Segment) → AllIn s → On s (has_read s source segment)
unfolding has_read
has_read-on s source segment all = by (back_from source segment)
  where
    by : (o : Option Source) → On s (go_on_from (record s { chain = told_of s.news.slot segment ∷ s.chain }) o)
    by None = go_on-on (join_chain (record s { chain = told_of s.news.slot segment ∷ s.chain })) all
    by (Some before) = sought_on (record s { chain = told_of s.news.slot segment ∷ s.chain }) before all

again_on : (s : TakeState) (source : Source) (r : ReadingState) → AllIn s → On s (again s source r)
unfolding again
again_on s source r all = by (on_confirmed r (s.ask + 1)).state (on_confirmed r (s.ask + 1)).next
  where
    by : (q : ReadingState) (n : Next) → On s (confirmed_as s source q n)
    by q next.Ask = asks_on s source q all
    by q next.Lost = record { news = refl; clients = refl; reports = refl; ready = λ p fact. all; said = inl (tt, tt) }
    by q next.Wait = reads_on s source (Some q) all
    by q next.Again = reads_on s source (Some q) all
    by q (next.Read segment) = reads_on s source (Some q) all

judged_on : (s : TakeState) (source : Source) (r : ReadingState) (n : Next) → AllIn s → On s (take_follow s source r n)
judged_on s source r next.Again all = again_on s source r all
judged_on s source r (next.Read segment) all = has_read-on s source segment all
judged_on s source r _ all = reads_on s source (Some r) all

take_judge-on : (s : TakeState) (source : Source) (r : Option ReadingState) (ask server : ℕ) (t : Told) → AllIn s → On s (take_judge s source r ask server t)
take_judge-on s source None ask server t all = reads_on s source None all
take_judge-on s source (Some r) ask server t all = judged_on s source (reading_take r s.groups ask server t).state (reading_take r s.groups ask server t).next all

-- ---- the inputs

stays_on : (s : TakeState) → IsReady s → On s (still s)
stays_on s ready = record { news = refl; clients = refl; reports = refl; ready = ready; said = inl tt }

told_on : (s : TakeState) (ask server : ℕ) (t : Told) → IsReady s → On s (on_told s ask server t)
unfolding on_told
told_on s ask server t ready = by_test (On s) (can_ask s) (told_at (record s { present = None }) s.present ask server t) (still s) (λ _. by s.present ready)
    (λ _. stays_on s ready)
  where
    by : (o : Option Present) → ((p : Present) → o ≡ Some p → awaited s ≡ []) → On s (told_at (record s { present = None }) o ask server t)
    by None all = record { news = refl; clients = refl; reports = refl; ready = λ p fact. absurd (let clash : None ≡ Some p = fact in cc); said = inl tt }
    by (Some p) all = take_judge-on (record s { present = None }) p.source p.reading ask server t (all p refl)

maps_on : (s : TakeState) (groups : GroupMapState) → IsReady s → On s (on_maps s groups)
unfolding on_maps
maps_on s groups ready = by s.present ready
  where
    knows : TakeState
    knows = record s { groups = groups }

    none : On s (sought_again (record s { groups = groups }) None)
    none = record { news = refl; clients = refl; reports = refl; ready = ready; said = inl tt }

    some : (source : Source) → AllIn s → On s (sought_again (record s { groups = groups }) (Some source))
    some source all = by_test (On s) (can_ask s) (seek (record s { groups = groups }) source) (still (record s { groups = groups }))
        (λ _. sought_on (record s { groups = groups }) source all) (λ _. none)

    by_reading : (source : Source) (r : Option ReadingState) → AllIn s → On s (sought_again (record s { groups = groups }) (present_waiting source r))
    by_reading source None all = some source all
    by_reading source (Some r) all = none

    by : (o : Option Present) → ((p : Present) → o ≡ Some p → awaited s ≡ []) → On s (sought_again (record s { groups = groups }) (waiting o))
    by None all = none
    by (Some p) all = by_reading p.source p.reading (all p refl)

tick_plain : (s : TakeState) → ArePlain (on_tick s)
tick_plain s = plain_both (polls (awaited s)) (repeated s.present) (polls_plain (awaited s)) (by s.present)
  where
    by_reading : (source : Source) (r : Option ReadingState) → ArePlain (present_repeat source r)
    by_reading source None = tt
    by_reading source (Some r) = fetches_plain source.seg.name r.ask (reading_unanswered r)

    by : (o : Option Present) → ArePlain (repeated o)
    by None = tt
    by (Some p) = by_reading p.source p.reading

heard_in : TakeState → Report → TakeState
heard_in s report = record s { reports = s.reports ++ report ∷ [] }

begun_on : (s : TakeState) (report : Report) → IsReady s → awaits s report.from ≡ true
    → On (record s { reports = s.reports ++ report ∷ [] }) (begin_if_all (record s { reports = s.reports ++ report ∷ [] }))
begun_on s report ready awaits_it =
    let h : TakeState = record s { reports = s.reports ++ report ∷ [] } in
    by_test (On h) (length (awaited h) == 0) (go_on (record h { sources = sources_of h.news h.reports })) (still h)
    (λ all. go_on-on (record h { sources = sources_of h.news h.reports }) (nil_from_length (awaited h) (eqb-true (length (awaited h)) 0 all)))
    (λ _. record { news = refl; clients = refl; reports = refl; ready = λ p fact. absurd (nobody s report.from (ready p fact) awaits_it); said = inl tt })

-- ---- who has reported

-- who is heard is heard
heard_here : (reports : List Report) (node : NodeId) (r : Report) → In r reports → r.from ≡ node → is_heard reports node ≡ true
heard_here [] node r fact from = absurd fact
heard_here (x ∷ xs) node r (inl same) from = or_first (same_node x.from node) (is_heard xs node)
    (subst (λ k. same_node k node ≡ true) (sym from ∙ ap (λ (y : Report). y.from) same) (same_node_itself node))
heard_here (x ∷ xs) node r (inr fact) from = or_second (same_node x.from node) (is_heard xs node) (heard_here xs node r fact from)

-- a report of a node that is heard is in
pub heard_is : (reports : List Report) (node : NodeId) → is_heard reports node ≡ true → (r : Report) × In r reports × (r.from ≡ node)
heard_is [] node h = contrary h
heard_is (x ∷ xs) node h =
    elim (same_node x.from node) as (λ t. same_node x.from node ≡ t → (t || is_heard xs node) ≡ true → (r : Report) × In r (x ∷ xs) × (r.from ≡ node)) [
      | true ↦ λ fact k. (x, inl refl, same_node_is x.from node fact)
      | false ↦ λ fact k. let rest = heard_is xs node k in (rest.0, inr rest.1, rest.2)
    ] refl h

-- who is awaited is not heard
unheard_not : (reports : List Report) (node : NodeId) (nodes : List NodeId) → list_any (λ n. same_node n node) (unheard reports nodes) ≡ true
    → is_heard reports node ≡ false
unheard_not reports node [] h = contrary h
unheard_not reports node (n ∷ ns) h =
    elim (is_heard reports n) as (λ t. is_heard reports n ≡ t → list_any (λ x. same_node x node)
    (cond (not t) (n ∷ unheard reports ns) (unheard reports ns)) ≡ true → is_heard reports node ≡ false) [
      | true ↦ λ fact k. unheard_not reports node ns k
      | false ↦ λ none.
          elim (same_node n node) as (λ u. same_node n node ≡ u → (u || list_any (λ x. same_node x node) (unheard reports ns)) ≡ true
          → is_heard reports node ≡ false) [
            | true ↦ λ same _. subst (λ k. is_heard reports k ≡ false) (same_node_is n node same) none
            | false ↦ λ _ k. unheard_not reports node ns k
          ] refl
    ] refl h

not_nothing : (n : NodeId) (ns : List NodeId) → (n ∷ ns) ≡ [] → ⊥
not_nothing n ns h = cc

-- where nobody is awaited all are heard
pub all_heard : (reports : List Report) (nodes : List NodeId) (node : NodeId) → unheard reports nodes ≡ [] → In node nodes → is_heard reports node ≡ true
all_heard reports [] node none fact = absurd fact
all_heard reports (n ∷ ns) node none fact =
    elim (is_heard reports n) as (λ t. is_heard reports n ≡ t → cond (not t) (n ∷ unheard reports ns) (unheard reports ns) ≡ []
    → is_heard reports node ≡ true) [
      | true ↦ λ heard k. ⊎_elim (λ same. subst (λ x. is_heard reports x ≡ true) (sym same) heard) (λ rest. all_heard reports ns node k rest) fact
      | false ↦ λ heard k. absurd (not_nothing n (unheard reports ns) k)
    ] refl none

pub in_last : {X : Type 0} (x y : X) (xs : List X) → In x (xs ++ y ∷ []) → In x xs ⊎ (x ≡ y)
in_last x y [] (inl same) = inr same
in_last x y [] (inr fact) = absurd fact
in_last x y (z ∷ zs) (inl same) = inl (inl same)
in_last x y (z ∷ zs) (inr fact) = ⊎_elim (λ h. inl (inr h)) (λ h. inr h) (in_last x y zs fact)

-- of each node one report is kept
abbrev pub IsOnce : List Report → Type 0
IsOnce reports = (r q : Report) → In r reports → In q reports → r.from ≡ q.from → r.held ≡ q.held

once_more : (s : TakeState) (report : Report) → awaits s report.from ≡ true → IsOnce s.reports → IsOnce (s.reports ++ report ∷ [])
once_more s report new once r q r_in q_in same = by (in_last r report s.reports r_in) (in_last q report s.reports q_in)
  where
    other : (x : Report) → In x s.reports → x.from ≡ report.from → ⊥
    other x fact from = let a = heard_here s.reports report.from x fact from in let b = unheard_not s.reports report.from (polled s.clients) new in contrary
        (sym b ∙ a)

    by : In r s.reports ⊎ (r ≡ report) → In q s.reports ⊎ (q ≡ report) → r.held ≡ q.held
    by (inl a) (inl b) = once r q a b same
    by (inl a) (inr b) = absurd (other r a (same ∙ ap (λ (x : Report). x.from) b))
    by (inr a) (inl b) = absurd (other q b (sym same ∙ ap (λ (x : Report). x.from) a))
    by (inr a) (inr b) = ap (λ (x : Report). x.held) a ∙ sym (ap (λ (x : Report). x.held) b)

-- ---- all inputs

-- the report that an input brings
abbrev pub Brings : Input → Report → Type 0
Brings (input.Report from held end) r = r ≡ record { from = from; held = held; end = end }
Brings _ r = ⊥

pub record Took (s : TakeState) (i : Input) (d : Done) : Type 0 where
  pub news : d.state.news ≡ s.news
  pub clients : d.state.clients ≡ s.clients
  pub ready : IsReady d.state
  pub said : ArePlain d.outs ⊎ Hands d.state d.outs
  pub reports : (r : Report) → In r d.state.reports → In r s.reports ⊎ Brings i r
  pub once : IsOnce d.state.reports

took_on : (s : TakeState) (i : Input) (d : Done) → IsOnce s.reports → On s d → Took s i d
took_on s i d once t = record {
  news = t.news;
  clients = t.clients;
  ready = t.ready;
  said = t.said;
  reports = λ r fact. inl (subst (In r) t.reports fact);
  once = subst IsOnce (sym t.reports) once;
}

took_report : (s : TakeState) (from : NodeId) (held : List (BlockId × Mode)) (end : End) → IsReady s → IsOnce s.reports
    → Took s (input.Report from held end) (on_report s (record { from = from; held = held; end = end }))
unfolding on_report
took_report s from held end ready once =
    let report : Report = record { from = from; held = held; end = end } in
    let i : Input = input.Report from held end in
    by_test (Took s i) (can_ask s && awaits s from) (begin_if_all (record s { reports = s.reports ++ report ∷ [] })) (still s)
    (λ t.
    let new = and_second (can_ask s) (awaits s from) t in
    let d = begin_if_all (record s { reports = s.reports ++ report ∷ [] }) in
    let h = begun_on s report ready new in
    record {
      news = h.news;
      clients = h.clients;
      ready = h.ready;
      said = h.said;
      reports = λ r fact. in_last r report s.reports (subst (In r) h.reports fact);
      once = subst IsOnce (sym h.reports) (once_more s report new once);
    })
    (λ _. took_on s i (still s) once (stays_on s ready))

pub took : (s : TakeState) (i : Input) → IsReady s → IsOnce s.reports → Took s i (transition s i)
took s (input.Report from held end) ready once = took_report s from held end ready once
took s (input.Got ask server generation fragment) ready once = took_on s (input.Got ask server generation fragment)
    (on_told s ask server (Held fragment)) once (told_on s ask server (Held fragment) ready)
took s (input.Missing ask server generation) ready once = took_on s (input.Missing ask server generation)
    (on_told s ask server (told.Missing generation)) once (told_on s ask server (told.Missing generation) ready)
took s (input.Maps groups) ready once = took_on s (input.Maps groups) (on_maps s groups) once (maps_on s groups ready)
took s input.Tick ready once = took_on s input.Tick (transition s input.Tick) once
    (record { news = refl; clients = refl; reports = refl; ready = ready; said = inl (tick_plain s) })

-- time passing never ends a takeover
pub tick_said : (s : TakeState) → ArePlain (transition s input.Tick).outs
tick_said s = tick_plain s

pub kept_plain : (p : Out → Bool) (outs : List Out) → ArePlain outs → ArePlain (filter p outs)
kept_plain p [] h = tt
kept_plain p (x ∷ xs) h = elim (p x) as (λ t. ArePlain (cond t (x ∷ filter p xs) (filter p xs))) [
  | true ↦
      (h.0, kept_plain p xs h.1)
  | false ↦ kept_plain p xs h.1
]
