-- Along a run of which no restart was doubtful: a member of the newest segment that is hurt lacked its fragment at a moment of the span.
use Rattle.log_law.proofs.Feeding.{Fed, now_fed}
use Rattle.log_law.proofs.Gapless.{Gapless, now_gapless, served_head}
use Rattle.log_law.proofs.Flights.{FlightKept, FlightAt, now_kept, first_kept, now_at, first_at}
use Rattle.log_protocol.specs.Phase
use Rattle.log_protocol.specs.Tables.{In}
use Rattle.log_law.proofs.Always.{begins_seen, keeps}
use Rattle.log_tie.specs.Seen.{Page, members_of}
use Rattle.log_protocol.specs.OpeningSteps.{Undoubted}
use Rattle.log_protocol.specs.StateLaws.{EndIsHead}
use Rattle.std.proofs.lemmas.Bool.Decides.{nat_tests}
use Rattle.std.proofs.Common.{◌≡◌, ⊎_elim, ℕ, ◌≤◌, ◌<◌, Bool, true, false, Option, Some, None, refl, sym, ap, subst, ◌∙◌, inl, inr, arith, length, ◌⊎◌}
use Rattle.xfs_base.specs.declared.fragment.Fragment.{Fragment}
use Rattle.xfs_base.specs.declared.segment.SegName.{SegName}
use Rattle.xfs_base.proofs.Booleans.{contrary}
use Rattle.segment_format.specs.declared.segment.Segment.{Segment}
use Rattle.client_log.specs.LogState.{log_start}
use Rattle.log_protocol.specs.LogLaws.{Reached}
use Rattle.log_protocol.specs.State.{State}
use Rattle.log_protocol.specs.Step.Steps.{Done}
use Rattle.log_protocol.specs.StepLaws.{InSpan, HurtBefore}
use Rattle.log_tie.specs.Setting.{Setting, name_of}
use Rattle.log_flight.specs.Flights.{server_of}
use Rattle.log_tie.specs.Shelves.{Kept}
use Rattle.log_tie.proofs.Names.{one_number}
use Rattle.log_law.specs.Laws.{Moment}
use Rattle.log_law.specs.Net.{Owner, Net, no_end, opening}
use Rattle.log_law.specs.Net.Owner.{Down, Opening, Writing, Serving}
use Rattle.log_law.specs.Events.{Happens, Runs}
use Rattle.log_law.specs.Events.Runs.{Begun, On}
use Rattle.log_law.specs.Restarts.{writes_since, wrote_in, spans, in_span, Lacks, LackedInSpan, is_writing, EndsRestart, IsDoubtful, IsSureRun, is_serving, last_flight}
use Rattle.log_law.specs.Below.{Below}
use Rattle.log_law.proofs.Views.{OwnerShown, View, PickShown}
use Rattle.log_law.proofs.Next.{Aside, Alone, Next}
use Rattle.log_law.proofs.Hurting.{idle, Lacked, earned_through, some_unhurt}

-- ---- spans

abbrev is_open : Owner → Bool
is_open Down = false
is_open (Opening s) = true
is_open (Writing chain s) = true
is_open (Serving s) = false

not_open : (o : Owner) → is_serving o ≡ true → is_open o ≡ true → ⊥
not_open Down s t = contrary s
not_open (Opening x) s t = contrary s
not_open (Writing chain x) s t = contrary s
not_open (Serving x) s t = contrary t

spans_open : (o : Owner) (wrote : Bool) → is_open o ≡ true → spans o wrote ≡ true
spans_open Down wrote t = contrary t
spans_open (Opening s) wrote t = refl
spans_open (Writing chain s) wrote t = refl
spans_open (Serving s) wrote t = contrary t

-- where an opening segment was written the span stands
spans_written : (o : Owner) (wrote : Bool) → writes_since o wrote ≡ true → spans o wrote ≡ true
spans_written Down wrote t = t
spans_written (Opening s) wrote t = refl
spans_written (Writing chain s) wrote t = refl
spans_written (Serving s) wrote t = contrary t

module _ (g : Setting) (a : Net) (serves : is_serving a.owner ≡ true) where
  open_spans : (n : Net) (run : Runs g a n) → is_open n.owner ≡ true → in_span run ≡ true
  open_spans n Begun t = absurd (not_open a.owner serves t)
  open_spans n (On {o = o} run happens) t = spans_open o.owner (wrote_in run) t

  written_spans : (n : Net) (run : Runs g a n) → wrote_in run ≡ true → in_span run ≡ true
  written_spans n Begun t = contrary t
  written_spans n (On {o = o} run happens) t = spans_written o.owner (wrote_in run) t

  -- an owner that stays as it is stays in its span
  span_before : (n : Net) (run : Runs g a n) (o : Owner) → o ≡ n.owner → spans o (wrote_in run) ≡ true → in_span run ≡ true
  span_before n run Down e t = written_spans n run t
  span_before n run (Opening s) e t = open_spans n run (ap is_open (sym e))
  span_before n run (Writing chain s) e t = open_spans n run (ap is_open (sym e))
  span_before n run (Serving s) e t = contrary t

  lacked_here : (n : Net) (run : Runs g a n) (name : SegName) (v : ℕ) → in_span run ≡ true → Lacks n name v → LackedInSpan run name v
  lacked_here n Begun name v t lacks = contrary t
  lacked_here n (On run happens) name v t lacks = (t, inl lacks)

-- ---- what a state lacks, the small world lacks

module _ (g : Setting) (n : Net) (h : View g n) where
  none_kept : (s : Segment) (o : Option Fragment) (booked holds index : ℕ) → Kept g s o booked holds index → holds ≡ 0 → o ≡ None
  none_kept s None booked holds index k e = refl
  none_kept s (Some f) booked holds index k e = absurd (clash k.0 e)
    where
      clash : holds ≡ 1 → holds ≡ 0 → ⊥
      clash a b = omega arith

  lacks_there : (v x : ℕ) → h.w.holds v x ≡ 0 → (h.w.dropped x ≡ 1 → ⊥) → Lacks n (name_of g x) v
  lacks_there v x holds kept = (
    none_kept (h.book x) _ _ _ _ ((h.shelves v).keeps x) holds,
    λ fact. (let d = h.gone (name_of g x) fact in kept (ap h.w.dropped (one_number g x d.number d.named) ∙ d.dropped)),
  )

-- ---- over one event

module _ (k : Below) (g : Setting) (none : g.doubts ≡ false) (a : Net) (serves : is_serving a.owner ≡ true) (n : Net) (run : Runs g a n) (h : View g n) where
  abbrev pub highest : ℕ
  highest = h.w.line h.w.head

  -- what is carried along a run
  pub record Followed : Type 0 where
    pub wrote : 0 < h.w.spanning → wrote_in run ≡ true
    pub hurt : (i : ℕ) → InSpan h.w → 0 < h.w.head → h.w.span_low ≤ h.w.head → i < h.w.member_count highest → 0 < h.w.hurt i
        → LackedInSpan run (name_of g highest) (h.w.member_server highest i)

  clean : h.w.clean ≡ 1
  clean = h.calm none

  module _ (f : Followed) (o : Net) (happens : Happens g n o) (t : Next g n h o) where
    abbrev u : State
    u = t.view.w

    abbrev later : Runs g a o
    later = On run happens

    now_clean : u.clean ≡ 1
    now_clean = t.view.calm none

    now_wrote : 0 < u.spanning → wrote_in later ≡ true
    now_wrote some = by o.owner refl t.view.owner
      where
        before : is_writing o.owner ≡ false → is_serving o.owner ≡ false → wrote_in run ≡ true
        before writes serves = f.wrote (let e = t.spans writes serves in omega arith)

        -- what its owner is tells whether it wrote since
        so : (p : Owner) → o.owner ≡ p → writes_since p (wrote_in run) ≡ true → wrote_in later ≡ true
        so p e since = ap (λ q. writes_since q (wrote_in run)) e ∙ since

        by : (p : Owner) → o.owner ≡ p → OwnerShown g u t.view.book t.view.hellos p → wrote_in later ≡ true
        by Down e shown = so Down e (before (ap is_writing e) (ap is_serving e))
        by (Opening s) e shown = so (Opening s) e (before (ap is_writing e) (ap is_serving e))
        by (Writing chain s) e shown = so (Writing chain s) e refl
        by (Serving s) e shown = absurd (let a = idle u t.view.reached now_clean shown.0.phase in let b = some in omega arith)

    now_spans : InSpan u → in_span later ≡ true
    now_spans span = by o.owner refl t.view.owner
      where
        by : (p : Owner) → o.owner ≡ p → OwnerShown g u t.view.book t.view.hellos p → in_span later ≡ true
        by Down e shown =
            ⊎_elim (λ some. absurd (let p = shown in omega arith)) (λ some. spans_written o.owner (wrote_in run) (now_wrote some)) span.begun
        by (Opening s) e shown = spans_open o.owner (wrote_in run) (ap is_open e)
        by (Writing chain s) e shown = spans_open o.owner (wrote_in run) (ap is_open e)
        by (Serving s) e shown = absurd (let p = shown.0.phase in let q = span.not_serving in omega arith)

    abbrev x : ℕ
    x = u.line u.head

    module _ (i : ℕ) (span : InSpan u) (some : 0 < u.head) (member : i < u.member_count x) where
      abbrev v : ℕ
      v = u.member_server x i

      -- where it lacked its fragment among the steps
      module _ (l : Lacked h.w u i) where
        abbrev z : State
        z = l.moment

        reached_z : Reached z
        reached_z = k.protocol.goes_on h.w z h.reached l.before

        booked_z : z.booked x ≡ 1
        booked_z =
            let c = (k.protocol.past z u reached_z l.later).clean now_clean in
            let e = k.protocol.head z reached_z c in
            subst (λ y. z.booked y ≡ 1) l.line
            ((k.protocol.book z reached_z).filed_booked (z.line z.head) (e.line_filed z.head (let a = l.head in omega arith) (omega arith)))

        lacks_z : z.holds v x ≡ 0
        lacks_z = ap (λ y. z.holds y x) ((k.protocol.past z u reached_z l.later).member_server x i booked_z)
            ∙ subst (λ y. z.holds (z.member_server y i) y ≡ 0) l.line l.lacks.lacks

        kept_z : z.dropped x ≡ 1 → ⊥
        kept_z e = let a = subst (λ y. z.dropped y ≡ 0) l.line l.lacks.kept in omega arith

        kept_w : h.w.dropped x ≡ 1 → ⊥
        kept_w e = kept_z ((k.protocol.past h.w z h.reached l.before).dropped x e)

        -- a server of one generation lacked it before
        lacked_before : u.generation v ≡ h.w.generation v → h.w.holds v x ≡ 0
        lacked_before same =
            let p = (k.protocol.past h.w z h.reached l.before).generation v in
            let q = (k.protocol.past z u reached_z l.later).generation v in
            let law = (k.protocol.lacks h.w h.w z h.reached Done l.before) v x (omega arith) lacks_z
            (λ marked. kept_z ((k.protocol.shelves z reached_z).marked_dropped v x marked)) in
            let flag = (k.protocol.shelves h.w h.reached).held_flag v x in
            not_one (h.w.holds v x) flag law.1
          where
            not_one : (m : ℕ) → m ≤ 1 → (m ≡ 1 → ⊥) → m ≡ 0
            not_one m less other = grind (arith, nat_tests)

        lacked_now : LackedInSpan later (name_of g x) v
        lacked_now = ⊎_elim aside alone t.by
          where
            aside : Aside n o h.w u → LackedInSpan later (name_of g x) v
            aside left = ⊎_elim kept_generation lost (left.servers v)
              where
                kept_generation : u.generation v ≡ h.w.generation v → LackedInSpan later (name_of g x) v
                kept_generation same = (
                  now_spans span,
                  inr (lacked_here g a serves n run (name_of g x) v (span_before g a serves n run o.owner left.owner (now_spans span))
                      (lacks_there g n h v x (lacked_before same) kept_w)),
                )

                lost : ((y : ℕ) → u.holds v y ≡ 0) × (u.dropped ≡ h.w.dropped) → LackedInSpan later (name_of g x) v
                lost e = (now_spans span, inl (lacks_there g o t.view v x (e.0 x) (λ gone. kept_w (ap (λ d. d x) (sym e.1) ∙ gone))))

            alone : Alone h.w u → LackedInSpan later (name_of g x) v
            alone only = (
              now_spans span,
              inl (lacks_there g o t.view v x (ap (λ d. d v x) only.holds ∙ lacked_before (ap (λ d. d v) only.generation))
                  (λ gone. kept_w (ap (λ d. d x) (sym only.dropped) ∙ gone))),
            )

      -- where it was hurt before
      hurt_before : u.span_low ≤ u.head → HurtBefore h.w u i → LackedInSpan later (name_of g x) v
      hurt_before low b =
          let booked = (k.protocol.book h.w h.reached).filed_booked highest
          ((k.protocol.head h.w h.reached clean).line_filed h.w.head (let e = b.head in omega arith) (omega arith)) in
          let past = k.protocol.past h.w u h.reached t.steps in
          let same : x ≡ highest = b.line in
          let server : u.member_server x i ≡ h.w.member_server highest i = ap (λ y. u.member_server y i) same ∙ past.member_server highest i booked in
          let count : u.member_count x ≡ h.w.member_count highest = ap u.member_count same ∙ past.member_count highest booked in
          let was = f.hurt i b.span (let e = b.head in omega arith) (let e = b.head in let s = b.span_low in let l = low in omega arith)
          (let m = member in omega arith) b.hurt in (
            now_spans span,
            inr (subst (λ y. LackedInSpan run (name_of g y) v) (sym same)
                (subst (λ y. LackedInSpan run (name_of g highest) y) (sym server) was)),
          )

    now_hurt : (i : ℕ) → InSpan u → 0 < u.head → u.span_low ≤ u.head → i < u.member_count x → 0 < u.hurt i
        → LackedInSpan later (name_of g x) (u.member_server x i)
    now_hurt i span some low member hurt =
        ⊎_elim (λ b. hurt_before i span some member low b) (λ l. lacked_now i span some member l)
        (earned_through k h.w u h.reached t.steps now_clean i span some low hurt)

  -- ---- the premise on losses, where a restart ends

  module _ (f : Followed) where
    while_writing : is_writing n.owner ≡ true → (h.w.phase ≡ Phase.writing) × (h.w.pick_low ≡ n.picked)
    while_writing t = by n.owner t h.owner h.picked
      where
        by : (p : Owner) → is_writing p ≡ true → OwnerShown g h.w h.book h.hellos p → PickShown h.w.pick_low n.picked p
            → (h.w.phase ≡ Phase.writing) × (h.w.pick_low ≡ n.picked)
        by Down e shown picked = contrary e
        by (Opening s) e shown picked = contrary e
        by (Writing chain s) e shown picked = (shown.0.phase, picked)
        by (Serving s) e shown picked = contrary e

    ends : EndIsHead h.w
    ends = k.protocol.head h.w h.reached clean

    doubtful : is_writing n.owner ≡ true → h.w.pick_low ≤ h.w.head → 0 < h.w.head → h.w.span_low ≤ h.w.head
        → ((i : ℕ) → i < h.w.member_count highest → 0 < h.w.hurt i) → IsDoubtful g run
    doubtful t low some span all = record {
      segment = h.book highest;
      flown = h.flown.all highest booked;
      filed = subst (λ z. In z n.filed) (sym page.named) (is_filed h.highest);
      newest = newest;
      above = (let a = (while_writing t).1 in let b = seq in let c = low in omega arith);
      lost = lost;
    }
      where
        booked : h.w.booked highest ≡ 1
        booked = (k.protocol.book h.w h.reached).filed_booked highest (ends.line_filed h.w.head some (omega arith))

        page : Page g highest (h.book highest) (h.w.text_of highest) (h.w.member_count highest) (h.w.member_server highest) (h.w.member_generation highest)
            (h.w.prior_of highest)
            (h.w.content_of highest)
        page = h.paged highest booked

        seq : (h.book highest).name.seq ≡ h.w.head
        seq = ap (λ (z : SegName). z.seq) page.named ∙ (sym (ap (λ t. t highest) h.fixed.seq_of) ∙ ends.line_seq h.w.head some (omega arith))

        is_filed : (h.w.end ≡ 0) ⊎ In (name_of g h.w.end) n.filed → In (name_of g highest) n.filed
        is_filed (inl nothing) =
            absurd (let a = (k.protocol.book h.w h.reached).named highest booked in let b = ends.its_end in clash h.w.end highest b nothing a)
          where
            clash : (p q : ℕ) → p ≡ q → p ≡ 0 → 0 < q → ⊥
            clash p q a b c = omega arith
        is_filed (inr fact) = subst (λ z. In (name_of g z) n.filed) ends.its_end fact

        newest : (name : SegName) → In name n.filed → name.seq ≤ (h.book highest).name.seq
        newest name fact =
            let d = h.filed name fact in
            let a = ends.filed_head d.0 d.2 in
            let b : h.w.seq_of d.0 ≡ name.seq = ap (λ t. t d.0) h.fixed.seq_of ∙ ap (λ (z : SegName). z.seq) (sym d.1) in
            let c = seq in
            omega arith

        lost : (place : ℕ) → place < length (members_of g (h.book highest))
            → LackedInSpan run (h.book highest).name (server_of (members_of g (h.book highest)) place)
        lost place member =
            let inside : place < h.w.member_count highest = subst (λ c. place < c) (sym page.counted) member in
            let p = (while_writing t).0 in
            subst (λ z. LackedInSpan run z (server_of (members_of g (h.book highest)) place)) (sym page.named)
            (subst (λ v. LackedInSpan run (name_of g highest) v) (page.at_server place)
            (f.hurt place (record { not_serving = omega arith; begun = inl (omega arith) }) some span inside (all place inside)))

    sure : (o : Net) → EndsRestart n o → (IsDoubtful g run → ⊥) → h.w.pick_low ≤ h.w.head → Undoubted h.w
    sure o restart calm low some span =
        ⊎_elim (λ a. a) (λ all. absurd (calm (doubtful restart.0 low some span all))) (some_unhurt h.w.hurt (h.w.member_count highest))

-- ---- along the run

-- an owner that serves is in phase 4
pub serving_phase : (g : Setting) (n : Net) (h : View g n) → is_serving n.owner ≡ true → h.w.phase ≡ Phase.serving
serving_phase g n h t = by n.owner t h.owner
  where
    by : (p : Owner) → is_serving p ≡ true → OwnerShown g h.w h.book h.hellos p → h.w.phase ≡ Phase.serving
    by Down e shown = contrary e
    by (Opening s) e shown = contrary e
    by (Writing chain s) e shown = contrary e
    by (Serving s) e shown = shown.0.phase

pub record Along (k : Below) (g : Setting) (none : g.doubts ≡ false) (first : Net) (serves : is_serving first.owner ≡ true) (n : Net)
    (run : Runs g first n) : Type 0 where
  pub view : View g n
  pub followed : Followed k g none first serves n run view
  pub flown : FlightKept g view.w (last_flight run)
  pub flight_at : FlightAt g view.w (last_flight run)
  pub fed : Fed n
  pub gapless : Gapless n view.w.head

-- what happens next is followed
pub followed_by : (k : Below) (g : Setting) (none : g.doubts ≡ false) (first : Net) (serves : is_serving first.owner ≡ true) (m : Net) (run : Runs g first m)
    (b : Along k g none first serves m run) (n : Net) → Happens g m n → (EndsRestart m n → IsDoubtful g run → ⊥) → Next g m b.view n
followed_by k g none first serves m run b n happens calm =
    keeps k g m n b.view happens (λ none_too restart low. sure k g none first serves m run b.view b.followed n restart (calm restart) low)

pub along : (k : Below) (g : Setting) (none : g.doubts ≡ false) (first : Net) (serves : is_serving first.owner ≡ true) → (seen : View g first) → Fed first
    → Gapless first seen.w.head → (n : Net) (run : Runs g first n) → IsSureRun run → Along k g none first serves n run
along k g none first serves seen fed gapless n Begun s = record {
  view = seen;
  followed = record {
    wrote = λ some. absurd (let e = idle seen.w seen.reached (seen.calm none) (serving_phase g first seen serves) in omega arith);
    hurt = λ i span some low member hurt. absurd (let p = serving_phase g first seen serves in let q = span.not_serving in omega arith);
  };
  flown = first_kept g k first seen (seen.calm none) serves;
  flight_at = first_at g k first seen (seen.calm none) serves;
  fed = fed;
  gapless = gapless;
}
along k g none first serves seen fed gapless n (On {m = m} run happens) s = on (along k g none first serves seen fed gapless m run s.0)
  where
    on : Along k g none first serves m run → Along k g none first serves n (On run happens)
    on b = let t = followed_by k g none first serves m run b n happens s.1 in record {
      view = t.view;
      followed = record {
        wrote = now_wrote k g none first serves m run b.view b.followed n happens t;
        hurt = now_hurt k g none first serves m run b.view b.followed n happens t;
      };
      flown = now_kept g k m b.view n t (t.view.calm none) (last_flight run) b.flown;
      flight_at = now_at g k m b.view n t (t.view.calm none) (last_flight run) b.flight_at;
      fed = now_fed k g none m b.view b.fed n happens t;
      gapless = now_gapless k g none m b.view b.gapless n happens t;
    }

-- along the run of a moment
pub along_moment : (k : Below) (g : Setting) (none : g.doubts ≡ false) (n : Net) (m : Moment g n) → IsSureRun m.run
    → Along k g none (opening g m.map) refl n m.run
along_moment k g none n m calm = along k g none (opening g m.map) refl first (λ serving name fact above. absurd fact) gapless n m.run calm
  where
    first : View g (opening g m.map)
    first = begins_seen k g m.map m.whole

    gapless : Gapless (opening g m.map) first.w.head
    gapless q some less = let e = served_head k g (opening g m.map) first (first.calm none) (log_start g.log 1 no_end m.map) refl in absurd (omega arith)
