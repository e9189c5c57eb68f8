-- What a log's input makes of the book: what is booked has a text, and the end and each prior name groups as they are.
use Rattle.std.proofs.Common.{◌≡◌, ⊎_elim, ℕ, ◌+◌, ◌-◌, ◌<◌, ◌⊎◌, List, [], ◌∷◌, ◌++◌, Option, Some, None, refl, sym, ap, subst, ◌∙◌, inl, inr, arith}
use Rattle.std.specs.Prelude.{IfSome}
use Rattle.std.specs.List.{AllByRecursion}
use Rattle.xfs_base.specs.declared.segment.End.{End}
use Rattle.xfs_base.specs.declared.segment.LogId.{LogId}
use Rattle.xfs_base.specs.declared.segment.Prior.{Prior}
use Rattle.xfs_base.specs.declared.segment.SegName.{SegName}
use Rattle.xfs_base.proofs.StepLoops.{steps_both}
use Rattle.segment_format.specs.declared.segment.Segment.{Segment}
use Rattle.segment_format.specs.Ranges.{Fits}
use Rattle.segment_format.specs.Text.{text_of, IsText}
use Rattle.stripe_code.specs.Stripe.{IsBytes}
use Rattle.group_map.specs.GroupMapState.{GroupMapState}
use Rattle.log_flight.specs.Flights.{FlightState}
use Rattle.client_log.specs.declared.input.In.{In as Input}
use Rattle.client_log.specs.declared.output.Out.{Out}
use Rattle.client_log.specs.declared.output.Out.TheVariants.{Send, Settled}
use Rattle.client_log.specs.History.{IsNext, IsInLine, settled_ends, EndRisesByOne, TellsWhatIsDue}
use Rattle.client_log.specs.LogState.{LogState, log_start}
use Rattle.client_log.specs.Transition.{transition, end_of}
use Rattle.log_scan.specs.Transition.{name_at, end_below}
use Rattle.log_protocol.specs.LogLaws.{Reached}
use Rattle.log_protocol.specs.State.{State}
use Rattle.log_protocol.specs.Tables.{In}
use Rattle.log_tie.specs.Setting.{Setting}
use Rattle.log_tie.specs.Seen.{Page, Book, FlightShown, Goes}
use Rattle.log_tie.specs.Rounds.{IsSpelled, IsGrouped}
use Rattle.log_tie.proofs.Names.{one_number, coded, point_some}
use Rattle.log_law.specs.Net.{flown_with}
use Rattle.log_law.specs.Events.{IsWritten, WritesText}
use Rattle.log_law.specs.Below.{Below}
use Rattle.log_law.proofs.Views.{Ran, Behind, Flown}

pub ran_on : (s : LogState) (i : Input) → Ran s → Ran (transition s i).state
ran_on s i r = record {
  log = r.log;
  inc = r.inc;
  end = r.end;
  groups = r.groups;
  history = r.history ++ i ∷ [];
  reaches = ap (λ (z : LogState). (transition z i).state) r.reaches ∙ sym (steps_both transition (log_start r.log r.inc r.end r.groups) r.history (i ∷ []));
}

pub ran_first : (log : LogId) (inc : ℕ) (end : End) (groups : GroupMapState) → Ran (log_start log inc end groups)
ran_first log inc end groups = record { log = log; inc = inc; end = end; groups = groups; history = []; reaches = refl }

-- what is told settled is due
pub record Landed (s : LogState) (i : Input) (end : End) : Type 0 where
  pub flight : FlightState
  pub was : s.flight ≡ Some flight
  pub is_end : end ≡ end_of flight.segment

landed_in : (s : LogState) (i : Input) (end : End) (outs : List Out) → AllByRecursion (TellsWhatIsDue s i) outs → settled_ends outs ≡ end ∷ [] → Landed s i end
landed_in s i end [] all e = absurd cc
landed_in s i end (Send f m ∷ os) all e = landed_in s i end os all.1 e
landed_in s i end (Settled e' rows ∷ os) all e = record { flight = all.0.flight; was = all.0.was; is_end = ap (λ es. first_of es) (sym e) ∙ all.0.is_end }
  where
    first_of : List End → End
    first_of [] = end
    first_of (x ∷ xs) = x

module _ (k : Below) (g : Setting) (w : State) (book : ℕ → Segment) (reached : Reached w) (paged : Book g w book) (spelled : IsSpelled g book w.booked)
    (s : LogState) (i : Input) where
  module _ (P : State → (ℕ → Segment) → Type 0) (outs : List Out) (t : Goes g w book P outs) (behind : Behind g w book s)
      (before : FlightShown g book s.flight s.inc s.end.seq (w.booked w.flight) w.flight w.noted) (texts : WritesText (transition s i))
      (after : FlightShown g t.later (transition s i).state.flight (transition s i).state.inc (transition s i).state.end.seq
      (t.world.booked t.world.flight) t.world.flight t.world.noted) where
    abbrev next : LogState
    next = (transition s i).state

    ran : Ran next
    ran = ran_on s i behind.ran

    in_line : IsInLine next
    in_line = subst IsInLine (sym ran.reaches) (k.logs.next ran.log ran.inc ran.end ran.groups ran.history)

    rises : EndRisesByOne s (transition s i)
    rises = subst (λ (z : LogState). EndRisesByOne z (transition z i)) (sym behind.ran.reaches)
        (k.logs.rises behind.ran.log behind.ran.inc behind.ran.end behind.ran.groups behind.ran.history i)

    now_reached : Reached t.world
    now_reached = k.protocol.goes_on w t.world reached t.steps

    -- what is in flight now
    pub record Aloft (x : ℕ) : Type 0 where
      pub flight : FlightState
      pub flying : next.flight ≡ Some flight
      pub segment : flight.segment ≡ t.later x
      pub in_line : IsNext next flight
      pub written : IsWritten flight.segment

    aloft : (x : ℕ) → t.world.booked x ≡ 1 → x ≡ t.world.flight → Aloft x
    aloft x booked e = by next.flight refl after in_line texts
      where
        by : (o : Option FlightState) → next.flight ≡ o
            → FlightShown g t.later o next.inc next.end.seq (t.world.booked t.world.flight) t.world.flight t.world.noted → IfSome o (IsNext next)
            → IfSome o (λ f. IsWritten f.segment) → Aloft x
        by None fact shown line text = absurd (let a = (k.protocol.book t.world now_reached).named x booked in let b = shown in omega arith)
        by (Some f) fact shown line text = record { flight = f; flying = fact; segment = shown.segment ∙ ap t.later (sym e); in_line = line; written = text }

    -- what is booked was so before, or is in flight
    old_or_new : (x : ℕ) → t.world.booked x ≡ 1 → (w.booked x ≡ 1) ⊎ Aloft x
    old_or_new x booked = ⊎_elim inl (λ e. inr (aloft x booked e)) (t.fresh x booked)

    page : (x : ℕ) → t.world.booked x ≡ 1
        → Page g x (t.later x) (t.world.text_of x) (t.world.member_count x) (t.world.member_server x) (t.world.member_generation x) (t.world.prior_of x)
        (t.world.content_of x)
    page x booked = t.paged x booked

    -- the number of what has the name of one that is booked
    same : (x y : ℕ) → t.world.booked x ≡ 1 → t.world.booked y ≡ 1 → (t.later y).name ≡ (t.later x).name → y ≡ x
    same x y booked to e = one_number g y x (sym (t.paged y to).named ∙ (e ∙ (t.paged x booked).named))

    -- ---- the end

    new_grouped : IsGrouped g t.later t.world.booked next.end
    new_grouped y booked named = ⊎_elim stays lands rises
      where
        stays : (settled_ends (transition s i).outs ≡ []) × (next.end ≡ s.end) → (t.later y).group ≡ next.end.group
        stays e = ⊎_elim old new (old_or_new y booked)
          where
            old : w.booked y ≡ 1 → (t.later y).group ≡ next.end.group
            old was = ap (λ (b : Segment). b.group) (t.frame.segment y was)
                ∙ (behind.grouped y was (ap (λ (b : Segment). b.name) (sym (t.frame.segment y was)) ∙ (named ∙ ap (name_at g.log) e.1))
                ∙ ap (λ (z : End). z.group) (sym e.1))

            new : Aloft y → (t.later y).group ≡ next.end.group
            new a = absurd
                (let p = a.in_line.seq in let q = ap (λ (b : Segment). b.name.seq) a.segment in let r = ap (λ (z : SegName). z.seq) named in omega arith)

        lands : (settled_ends (transition s i).outs ≡ next.end ∷ []) × (next.end.seq ≡ s.end.seq + 1) → (t.later y).group ≡ next.end.group
        lands e = by s.flight l.was before
          where
            l : Landed s i next.end
            l = landed_in s i next.end (transition s i).outs (k.logs.due s i) e.0

            by : (o : Option FlightState) → o ≡ Some l.flight → FlightShown g book o s.inc s.end.seq (w.booked w.flight) w.flight w.noted
                → (t.later y).group ≡ next.end.group
            by None fact shown = absurd cc
            by (Some f) fact shown =
                let f_is : f ≡ l.flight = ap (λ o. or_this f o) fact in
                let seg : l.flight.segment ≡ t.later w.flight =
                ap (λ (z : FlightState). z.segment) (sym f_is) ∙ (shown.segment ∙ sym (t.frame.segment w.flight shown.is_booked)) in
                let now = t.frame.booked w.flight shown.is_booked in
                let log : (t.later w.flight).name.log ≡ g.log = ap (λ (z : SegName). z.log) (page w.flight now).named in
                let name : (t.later y).name ≡ (t.later w.flight).name =
                named ∙ (ap (name_at g.log) l.is_end
                ∙ (ap (λ (b : Segment). record { log = g.log; seq = b.name.seq; pass = b.name.pass }) seg
                ∙ ap (λ z. record { log = z; seq = (t.later w.flight).name.seq; pass = (t.later w.flight).name.pass }) (sym log))) in
                ap (λ z. (t.later z).group) (same w.flight y now booked name)
                ∙ (ap (λ (b : Segment). b.group) (sym seg) ∙ ap (λ (z : End). z.group) (sym l.is_end))
              where
                or_this : FlightState → Option FlightState → FlightState
                or_this d None = d
                or_this d (Some z) = z

    pub now_behind : Behind g t.world t.later next
    now_behind = record { ran = ran; grouped = new_grouped }

    -- ---- the priors

    -- a prior of what was booked was booked
    prior_old : (x y : ℕ) → w.booked x ≡ 1 → t.world.booked y ≡ 1 → (t.later y).name ≡ name_at g.log (end_below (book x)) → w.booked y ≡ 1
    prior_old x y booked to named =
        let q = paged x booked in
        let r = page y to in
        let some : 0 < (book x).prior.pass.inc = subst (λ (n : SegName). 0 < n.pass.inc) named r.boot in
        let fact : w.prior_of x ≡ y =
        q.follows ∙ (point_some g ((book x).name.seq - 1) (book x).prior.pass some
        ∙ (ap (λ (n : SegName). g.code n.seq n.pass.inc n.pass.att) (sym named ∙ r.named) ∙ coded g y)) in
        let positive = (k.protocol.book t.world now_reached).named y to in
        subst (λ z. w.booked z ≡ 1) fact ((k.protocol.book w reached).prior_booked x booked (omega arith))

    new_priors : (x y : ℕ) → t.world.booked x ≡ 1 → t.world.booked y ≡ 1 → (t.later y).name ≡ name_at g.log (end_below (t.later x))
        → (t.later y).group ≡ (t.later x).prior.group
    new_priors x y booked to named = ⊎_elim old new (old_or_new x booked)
      where
        old : w.booked x ≡ 1 → (t.later y).group ≡ (t.later x).prior.group
        old was =
            let here = t.frame.segment x was in
            let named_before : (t.later y).name ≡ name_at g.log (end_below (book x)) = named ∙ ap (λ (b : Segment). name_at g.log (end_below b)) here in
            let y_was = prior_old x y was to named_before in
            let there = t.frame.segment y y_was in
            ap (λ (b : Segment). b.group) there
            ∙ (spelled.grouped x y was y_was (ap (λ (b : Segment). b.name) (sym there) ∙ named_before) ∙ ap (λ (b : Segment). b.prior.group) (sym here))

        new : Aloft x → (t.later y).group ≡ (t.later x).prior.group
        new a =
            let prior = ap (λ (b : Segment). b.prior) (sym a.segment) ∙ a.in_line.prior in
            let seq : (t.later x).name.seq - 1 ≡ next.end.seq = (let p = a.in_line.seq in let q = ap (λ (b : Segment). b.name.seq) a.segment in omega arith) in
            new_grouped y to (named ∙ (λ j. name_at g.log (record { seq = seq j; pass = (prior j).pass; group = next.end.group })))
            ∙ ap (λ (p : Prior). p.group) (sym prior)

    text_now : (Q : Segment → Type 0) → ((x : ℕ) → w.booked x ≡ 1 → Q (book x)) → ((b : Segment) → IsWritten b → Q b) → (x : ℕ) → t.world.booked x ≡ 1
        → Q (t.later x)
    text_now Q old new x booked =
        ⊎_elim (λ was. subst Q (sym (t.frame.segment x was)) (old x was)) (λ (a : Aloft x). subst Q a.segment (new a.flight.segment a.written))
        (old_or_new x booked)

    pub now_spelled : IsSpelled g t.later t.world.booked
    now_spelled = record {
      fits = text_now (λ b. Fits b) spelled.fits (λ b q. q.fits);
      text = text_now (λ b. IsText (text_of b) b) spelled.text (λ b q. q.text);
      bytes = text_now (λ b. IsBytes (text_of b)) spelled.bytes (λ b q. q.bytes);
      grouped = new_priors;
    }

    -- ---- what was in flight

    pub now_flown : (flown : List Segment) → Flown w book flown → Flown t.world t.later (flown_with next.flight flown)
    now_flown flown f = record { all = all; booked = by next.flight refl after }
      where
        with_more : (o : Option FlightState) (b : Segment) → In b flown → In b (flown_with o flown)
        with_more None b fact = fact
        with_more (Some x) b fact = inr fact

        first_one : (o : Option FlightState) (z : FlightState) (b : Segment) → o ≡ Some z → z.segment ≡ b → In b (flown_with o flown)
        first_one o z b fact e = subst (λ p. In b (flown_with p flown)) (sym fact) (inl (sym e))

        all : (x : ℕ) → t.world.booked x ≡ 1 → In (t.later x) (flown_with next.flight flown)
        all x booked =
            ⊎_elim (λ was. with_more next.flight (t.later x) (subst (λ b. In b flown) (sym (t.frame.segment x was)) (f.all x was)))
            (λ (a : Aloft x). first_one next.flight a.flight (t.later x) a.flying a.segment) (old_or_new x booked)

        old : (b : Segment) → In b flown → (x : ℕ) × (t.world.booked x ≡ 1) × (b ≡ t.later x)
        old b fact = let z = f.booked b fact in (z.0, t.frame.booked z.0 z.1, z.2 ∙ sym (t.frame.segment z.0 z.1))

        by : (o : Option FlightState) → next.flight ≡ o
            → FlightShown g t.later o next.inc next.end.seq (t.world.booked t.world.flight) t.world.flight t.world.noted → (b : Segment)
            → In b (flown_with o flown) → (x : ℕ) × (t.world.booked x ≡ 1) × (b ≡ t.later x)
        by None same_ shown b fact = old b fact
        by (Some z) same_ shown b (inl e) = (t.world.flight, shown.is_booked, e ∙ shown.segment)
        by (Some z) same_ shown b (inr fact) = old b fact
