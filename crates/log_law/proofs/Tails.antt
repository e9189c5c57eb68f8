-- Where a restart ends, the flight of the last boot that served is filed, or never will be.
use Rattle.std.proofs.Common.{◌≡◌, ⊎_elim, ℕ, suc, ◌<◌, ◌≤◌, ◌⊎◌, ◌==◌, Bool, true, false, nat_lt, Option, Some, None, List, ◌++◌, refl, sym, ap, subst, ◌∙◌, inl, inr, arith}
use Rattle.std.specs.Prelude.{IfSome}
use Rattle.std.proofs.lemmas.Bool.{eqb-false, ltb-false, ltb-true, eqb-true}
use Rattle.xfs_base.specs.declared.segment.SegName.{SegName}
use Rattle.xfs_base.proofs.Booleans.{contrary}
use Rattle.segment_format.specs.declared.segment.Segment.{Segment}
use Rattle.log_flight.specs.Flights.{FlightState}
use Rattle.client_log.specs.declared.input.In.{In as Input}
use Rattle.client_log.specs.LogState.{LogState}
use Rattle.client_log.specs.Transition as log
use Rattle.log_protocol.specs.GrowthLaws.{PastStays}
use Rattle.log_protocol.specs.State.{State}
use Rattle.log_protocol.specs.StateLaws.{EndIsHead}
use Rattle.log_protocol.specs.Tables.{In}
use Rattle.log_tie.specs.Setting.{Setting, name_of}
use Rattle.log_tie.specs.Seen.{log_filed}
use Rattle.log_tie.specs.Openings.{WritingShown}
use Rattle.log_law.specs.Net.{Owner, Net, opening, names_of, after_flight, after_writing}
use Rattle.log_law.specs.Net.Owner.{Down, Opening, Writing, Serving}
use Rattle.log_law.specs.Events.{Happens, CameToWriter}
use Rattle.log_law.specs.Events.Happens.{Acts, Writes, Opens, Crashes, Restarts, Renews, Serves, Bars, Lists, Hears, Raises, Publishes, Welcomes, Drops}
use Rattle.log_law.specs.Events.Runs.{On}
use Rattle.log_law.specs.Laws.{Moment}
use Rattle.log_law.specs.Restarts.{is_serving, is_writing, EndsRestart, IsSureRun, last_flight}
use Rattle.log_law.specs.Tails.{then_on, IsTailAdopted, IsTailDiscarded, ATailIsFiledOrNever}
use Rattle.log_law.specs.Below.{Below}
use Rattle.log_law.proofs.Feeding.{before, head_at, rises}
use Rattle.log_law.proofs.Filing.{grows, grown}
use Rattle.log_law.proofs.Flights.{FlightOf}
use Rattle.log_law.proofs.Followed.{Along, along_moment, followed_by, serving_phase}
use Rattle.log_law.proofs.Gapless.{Gapless, now_gapless}
use Rattle.log_law.proofs.InLine.{logs_stay_in_line}
use Rattle.log_law.proofs.Landing.{stays_or_settles}
use Rattle.log_law.proofs.Next.{Next}
use Rattle.log_law.proofs.Steady.{own}
use Rattle.log_law.proofs.Views.{OwnerShown, View}

-- an owner that serves writes no opening segment
not_both : (o : Owner) → is_writing o ≡ true → is_serving o ≡ true → ⊥
not_both Down a b = contrary a
not_both (Opening s) a b = contrary a
not_both (Writing chain s) a b = contrary b
not_both (Serving s) a b = contrary a

-- ---- where a restart ends, a segment is filed, above all that were filed before

module _ (k : Below) (g : Setting) (none : g.doubts ≡ false) (n : Net) (h : View g n) where
  writes_some : (chain : List Segment) (s : LogState) (i : Input) → n.owner ≡ Writing chain s → CameToWriter n i
      → (t : Next g n h (after_writing g n chain (log.transition s i))) → is_serving (after_writing g n chain (log.transition s i)).owner ≡ true
      → 0 < t.view.w.head
  writes_some chain s i fact came t serving = by (log.transition s i).state.flight refl
    where
      by : (f : Option FlightState) → (log.transition s i).state.flight ≡ f → 0 < t.view.w.head
      by (Some f) e = contrary (sym (ap (λ x. is_serving (after_flight g n chain (log.transition s i) x).owner) e) ∙ serving)
      by None e = ⊎_elim (λ r. absurd (stays_or_settles s shown.flight shown.is_flight n i came (e, r.0))) (λ r. let a = at in let b = r.1 in omega arith)
          (rises k g none n h chain s i fact _ t serves files low)
        where
          serves : (after_writing g n chain (log.transition s i)).owner ≡ Serving (log.transition s i).state
          serves = ap (λ x. (after_flight g n chain (log.transition s i) x).owner) e

          files : (after_writing g n chain (log.transition s i)).filed ≡ log_filed g.log (log.transition s i).outs ++ (names_of chain ++ n.filed)
          files = ap (λ x. (after_flight g n chain (log.transition s i) x).filed) e

          low : (after_writing g n chain (log.transition s i)).low ≡ n.low
          low = ap (λ x. (after_flight g n chain (log.transition s i) x).low) e

          shown : WritingShown g h.w h.book chain s
          shown = (before k g none n h chain s i fact _ t serves files low).0

          at : t.view.w.head ≡ (log.transition s i).state.end.seq
          at = head_at k g none n h chain s i fact _ t serves files low

  some_head : (o : Net) → Happens g n o → (t : Next g n h o) → EndsRestart n o → 0 < t.view.w.head
  some_head o (Acts s i fact came texts) t ends = contrary (sym (ap is_writing fact) ∙ ends.0)
  some_head o (Writes chain s i fact came texts) t ends = writes_some chain s i fact came t ends.1
  some_head o (Opens s i fact came can) t ends = contrary (sym (ap is_writing fact) ∙ ends.0)
  some_head o Crashes t ends = contrary ends.1
  some_head o (Restarts fact) t ends = contrary ends.1
  some_head o (Renews m high doubts fact came) t ends = contrary (sym (ap is_writing fact) ∙ ends.0)
  some_head o (Serves v deed some came) t ends = absurd (not_both n.owner ends.0 ends.1)
  some_head o (Bars v l pass) t ends = absurd (not_both n.owner ends.0 ends.1)
  some_head o (Lists v) t ends = absurd (not_both n.owner ends.0 ends.1)
  some_head o (Hears v generation up reached) t ends = absurd (not_both n.owner ends.0 ends.1)
  some_head o (Raises low name up fact below) t ends = absurd (not_both n.owner ends.0 ends.1)
  some_head o (Publishes m whole) t ends = absurd (not_both n.owner ends.0 ends.1)
  some_head o (Welcomes inc ask news m fact low whole) t ends = absurd (not_both n.owner ends.0 ends.1)
  some_head o (Drops lists meta fact among below) t ends = absurd (not_both n.owner ends.0 ends.1)

  -- an owner that opens is of a later boot than the last that served
  opens_later : is_writing n.owner ≡ true → h.w.served < h.w.incarnation
  opens_later t = by n.owner t h.owner
    where
      by : (p : Owner) → is_writing p ≡ true → OwnerShown g h.w h.book h.hellos p → h.w.served < h.w.incarnation
      by Down e shown = contrary e
      by (Opening s) e shown = contrary e
      by (Writing chain s) e shown = (k.protocol.owner h.w h.reached).opening (let p = shown.0.phase in omega arith) (let p = shown.0.phase in omega arith)
      by (Serving s) e shown = contrary e

  module _ (o : Net) (happens : Happens g n o) (t : Next g n h o) (ends : EndsRestart n o) where
    abbrev u : State
    u = t.view.w

    past : PastStays h.w u
    past = k.protocol.past h.w u h.reached t.steps

    now : EndIsHead u
    now = k.protocol.head u t.view.reached (t.view.calm none)

    was : EndIsHead h.w
    was = k.protocol.head h.w h.reached (h.calm none)

    -- the head rises
    pub head_rises : h.w.head < u.head
    head_rises = by (nat_lt h.w.head u.head) refl
      where
        some : 0 < u.head
        some = some_head o happens t ends

        served : u.incarnation ≡ u.served
        served = (k.protocol.owner u t.view.reached).serving (serving_phase g o t.view ends.1)

        stays : u.head ≤ h.w.head → ⊥
        stays less =
            let same : u.line u.head ≡ h.w.line u.head = past.line u.head (t.view.calm none) less in
            let boot : u.incarnation_of (u.line u.head) ≡ u.served = now.head_boot some in
            let old : h.w.incarnation_of (h.w.line u.head) ≤ h.w.served = was.line_boot (h.w.line u.head) (was.line_filed u.head some less) in
            let names : u.incarnation_of (u.line u.head) ≡ h.w.incarnation_of (h.w.line u.head) =
            ap (λ f. f (u.line u.head)) (t.view.fixed.incarnation_of ∙ sym h.fixed.incarnation_of) ∙ ap h.w.incarnation_of same in
            let a = opens_later ends.0 in let b = past.incarnation in let c = served in omega arith

        by : (b : Bool) → nat_lt h.w.head u.head ≡ b → h.w.head < u.head
        by true e = ltb-true h.w.head u.head e
        by false e = absurd (stays (ltb-false h.w.head u.head e))

    -- what is filed of the last boot that served was booked
    pub old_boot : (x : ℕ) → u.booked x ≡ 1 → u.incarnation_of x ≡ h.w.served → h.w.booked x ≡ 1
    old_boot x booked boot = ⊎_elim (λ a. a) (λ later. absurd (let a = opens_later ends.0 in omega arith)) ((own h.w u t.steps).fresh x booked)

-- ---- the tail

module _ (k : Below) (g : Setting) (n o : Net) (none : g.doubts ≡ false) (m : Moment g n) (happens : Happens g n o) (calm : IsSureRun (On m.run happens))
    (ends : EndsRestart n o) (f : FlightState) (fact : last_flight m.run ≡ Some f) where
  a : Along k g none (opening g m.map) refl n m.run
  a = along_moment k g none n m calm.0

  t : Next g n a.view o
  t = followed_by k g none (opening g m.map) refl n m.run a o happens calm.1

  abbrev w : State
  w = a.view.w

  at : (f.segment.name.seq ≡ suc w.head) × (f.segment.name.pass.inc ≡ w.served)
  at = subst (λ l. IfSome l (λ z. (z.segment.name.seq ≡ suc w.head) × (z.segment.name.pass.inc ≡ w.served))) fact a.flight_at

  gapless : Gapless o t.view.w.head
  gapless = now_gapless k g none n a.view a.gapless o happens t

  -- the filed segment of its number
  there : (name : SegName) × In name o.filed × (name.seq ≡ suc w.head)
  there = gapless (suc w.head) (omega arith) (let r = head_rises k g none n a.view o happens t ends in omega arith)

  adopted : there.0.pass.inc ≡ f.segment.name.pass.inc → IsTailAdopted g o f
  adopted boot = (
    a.view.book x,
    (grows g n o happens).flown (a.view.book x) (a.view.flown.all x booked),
    subst (λ z. In z o.filed) (sym named) there.1,
    record {
      seq = ap (λ (z : SegName). z.seq) named ∙ (there.2 ∙ sym at.0);
      boot = ap (λ (z : SegName). z.pass.inc) named ∙ boot;
      content = sym (a.view.paged x booked).tells ∙ (kept.content ∙ ap (λ (z : FlightState). g.content z.segment.items) same);
    },
  )
    where
      x : ℕ
      x = (t.view.filed there.0 there.1).0

      number : there.0 ≡ name_of g x
      number = (t.view.filed there.0 there.1).1

      x_boot : g.incarnation_of x ≡ w.served
      x_boot = ap (λ (z : SegName). z.pass.inc) (sym number) ∙ (boot ∙ at.1)

      booked : w.booked x ≡ 1
      booked = old_boot k g none n a.view o happens t ends x ((k.protocol.book t.view.w t.view.reached).filed_booked x (t.view.filed there.0 there.1).2)
          (ap (λ z. z x) t.view.fixed.incarnation_of ∙ x_boot)

      named : (a.view.book x).name ≡ there.0
      named = (a.view.paged x booked).named ∙ sym number

      kept : FlightOf g w (last_flight m.run) x
      kept = a.flown x booked (ap (λ z. z x) a.view.fixed.incarnation_of ∙ x_boot)
          (ap (λ z. z x) a.view.fixed.seq_of ∙ (ap (λ (z : SegName). z.seq) (sym number) ∙ there.2))

      same : kept.flight ≡ f
      same = some_one kept.flight f (sym kept.flying ∙ fact)
        where
          some_one : (p q : FlightState) → Some p ≡ Some q → p ≡ q
          some_one p q e = cc

  discarded : (there.0.pass.inc ≡ f.segment.name.pass.inc → ⊥) → IsTailDiscarded (On m.run happens) f
  discarded other p later sure name among seq boot = other (ap (λ (z : SegName). z.pass.inc) one ∙ boot)
    where
      moment : Moment g p
      moment = record { map = m.map; whole = m.whole; run = then_on (On m.run happens) later }

      one : there.0 ≡ name
      one = (logs_stay_in_line k g p none moment sure).no_two there.0 name ((grown g o p later).filed there.0 there.1) among (there.2 ∙ (sym at.0 ∙ sym seq))

  pub tail_of : IsTailAdopted g o f ⊎ IsTailDiscarded (On m.run happens) f
  tail_of = by (there.0.pass.inc == f.segment.name.pass.inc) refl
    where
      by : (b : Bool) → (there.0.pass.inc == f.segment.name.pass.inc) ≡ b → IsTailAdopted g o f ⊎ IsTailDiscarded (On m.run happens) f
      by true e = inl (adopted (eqb-true there.0.pass.inc f.segment.name.pass.inc e))
      by false e = inr (discarded (eqb-false there.0.pass.inc f.segment.name.pass.inc e))

pub a_tail_is_filed_or_never : Below → ATailIsFiledOrNever
a_tail_is_filed_or_never k g n o none m happens calm ends f fact = tail_of k g n o none m happens calm ends f fact
