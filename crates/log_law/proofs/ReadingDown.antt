-- What a reopening reads back goes down to the horizon that it took last, and all that was filed lies before its opening segment.
use Rattle.std.proofs.Common.{◌≡◌, ⊎_elim, ◌+◌, ◌<◌, ◌≤◌, ℕ, Bool, true, false, nat_lt, List, [], ◌∷◌, ◌++◌, length, Option, Some, None, refl, sym, ap, subst, ◌∙◌, arith}
use Rattle.std.specs.Prelude.{IfSome}
use Rattle.std.proofs.lemmas.Bool.{ltb-false, ltb-true}
use Rattle.client_log.specs.declared.input.In.{In as Input}
use Rattle.client_log.specs.History.{settled_ends, EndRisesByOne}
use Rattle.client_log.specs.LogState.{LogState}
use Rattle.client_log.specs.Transition as log
use Rattle.log_flight.specs.Flights.{FlightState}
use Rattle.log_protocol.specs.Phase
use Rattle.log_protocol.specs.GrowthLaws.{PastStays}
use Rattle.log_protocol.proofs.Induction.{always}
use Rattle.log_protocol.proofs.Invariant.{Invariant}
use Rattle.log_protocol.specs.State.{State}
use Rattle.log_protocol.specs.Tables.{In}
use Rattle.log_scan.specs.declared.input.In as scan_ins
use Rattle.log_scan.specs.declared.input.In.TheVariants as scan_in
use Rattle.log_scan.specs.ScanState.{ScanState}
use Rattle.log_scan.specs.Transition as scan
use Rattle.log_tie.specs.Openings.{Chained}
use Rattle.log_tie.specs.Scans.{BooksNothing, PicksAtHorizon, Scanned}
use Rattle.log_tie.specs.Seen.{Book, Goes, Others, log_filed}
use Rattle.log_tie.specs.Setting.{Setting}
use Rattle.segment_format.specs.declared.segment.Segment.{Segment}
use Rattle.xfs_base.specs.declared.segment.End.{End}
use Rattle.xfs_base.specs.declared.segment.SegName.{SegName}
use Rattle.log_law.specs.Net.{Net, Owner, Told, chain_in, names_of, after_flight, after_writing, opening}
use Rattle.log_law.specs.Net.Owner.{Opening, Writing, Serving}
use Rattle.log_law.specs.Events.{CameToScan, Happens}
use Rattle.log_law.specs.Events.Happens.{Acts, Writes, Opens, Crashes, Restarts, Renews, Serves, Bars, Lists, Hears, Raises, Publishes, Welcomes, Drops}
use Rattle.log_law.specs.Events.Runs.{On}
use Rattle.log_law.specs.Laws.{Moment}
use Rattle.log_law.specs.ReadBack.{EndsAt, ReadsDown, OpeningsReadDown, ReopensBehind}
use Rattle.log_law.specs.Restarts.{IsSureRun, is_serving, is_writing}
use Rattle.xfs_base.proofs.Booleans.{contrary}
use Rattle.log_law.specs.Below.{Below}
use Rattle.log_law.proofs.Calmer.{doubtful}
use Rattle.log_law.proofs.Feeding as feeding
use Rattle.log_law.proofs.Followed.{Along, along_moment, followed_by}
use Rattle.log_law.proofs.InLine.{Filed, number_of}
use Rattle.log_law.proofs.Next.{Next}
use Rattle.log_law.proofs.ScanTurns.{AllRead, as_it_opens, brings, told_read}
use Rattle.log_law.proofs.Views.{View}
use Rattle.log_law.proofs.Wholeness.{seen}

-- ---- a chain that is seen

module _ (g : Setting) (w : State) (book : ℕ → Segment) where
  -- its numbers
  chain_numbers : Book g w book → (highest x : ℕ) (ts : List Segment) → Chained g w book highest x ts → EndsAt highest ts
  chain_numbers paged highest x [] h = tt
  chain_numbers paged highest x (t ∷ ts) h = (
    let e : t.name.seq ≡ g.seq_of h.0 = ap (λ (z : Segment). z.name.seq) h.2 ∙ ap (λ (z : SegName). z.seq) (paged h.0 h.1).named in
        let a = h.4 in omega arith,
    chain_numbers paged highest h.0 ts h.5,
  )

  module _ (seqs : w.seq_of ≡ g.seq_of) (i : Invariant w) (reading : w.phase ≡ Phase.reading) where
    -- each link of it is of an earlier boot
    earlier : (highest x : ℕ) (ts : List Segment) → Chained g w book highest x ts → 0 < x → w.incarnation_of x < w.incarnation
    earlier highest x [] h some =
        let e : x ≡ w.base = h in
        subst (λ y. w.incarnation_of y < w.incarnation) (sym e)
        (i.shelf.priors.base_boot (let p = reading in omega arith) (let p = reading in omega arith) (subst (λ y. 0 < y) e some))
    earlier highest x (t ∷ ts) h some =
        let up = earlier highest h.0 ts h.5 (i.shelf.texts.booked_name h.0 h.1) in
        let e : w.prior_of h.0 ≡ x = h.3 in
        let b : w.incarnation_of (w.prior_of h.0) ≤ w.incarnation_of h.0 = i.shelf.priors.prior_boot h.0 h.1 (subst (λ y. 0 < y) (sym e) some) in
        let f : w.incarnation_of (w.prior_of h.0) ≡ w.incarnation_of x = ap w.incarnation_of e in
        omega arith

    -- where it names no segment before it, it is short
    pub short : (highest : ℕ) (ts : List Segment) → w.opening_seq ≡ highest + 1 → Chained g w book highest 0 ts → highest < w.read_low + length ts
    short highest [] opens h =
        let p = i.shelf.priors.no_base (let z = reading in omega arith) (let z = reading in omega arith) (sym h) in
        let q = i.shelf.horizons.pick_before (let z = reading in omega arith) (let z = reading in omega arith) in
        omega arith
    short highest (t ∷ ts) opens h =
        let boot = earlier highest h.0 ts h.5 (i.shelf.texts.booked_name h.0 h.1) in
        let a : w.seq_of h.0 ≤ w.low_when_booked h.0 = i.shelf.priors.no_prior h.0 h.1 h.3 in
        let b : w.low_when_booked h.0 ≤ w.begin_low = i.shelf.horizons.low_before h.0 h.1 boot in
        let c = i.shelf.horizons.pick_after (let z = reading in omega arith) (let z = reading in omega arith) in
        let q = i.shelf.horizons.pick_before (let z = reading in omega arith) (let z = reading in omega arith) in
        let e : w.seq_of h.0 ≡ g.seq_of h.0 = ap (λ f. f h.0) seqs in
        let s = h.4 in
        omega arith

-- ---- an opening that tells its chain

module _ (k : Below) (g : Setting) (n : Net) (h : View g n) (s : ScanState) (i : scan_ins.In) (fact : n.owner ≡ Opening s) (came : CameToScan g n i) where
  abbrev d : scan.Done
  d = scan.transition s i

  abbrev Shown : State → (ℕ → Segment) → Type 0
  Shown v later = Scanned g v later h.hellos d.state d.outs × BooksNothing h.w v × PicksAtHorizon h.w v

  abbrev to : Goes g h.w h.book Shown []
  to = k.machines.scans g h.w h.book h.hellos s i h.fixed h.reached h.paged h.spelled (as_it_opens k g n h s i fact came) (brings k g n h s i fact came i came)

  abbrev w : State
  w = to.world

  inv : Invariant w
  inv = always w (k.protocol.goes_on h.w w h.reached to.steps)

  seqs : w.seq_of ≡ g.seq_of
  seqs = ap (λ (o : Others). o.seq_of) to.frame.others ∙ h.fixed.seq_of

  reads : (t : Told) → AllRead g w to.later d.state.opening t → ReadsDown n d.state.opening.low t
  reads t r =
      let i = inv in
      let phase = r.read.phase in
      let low : w.read_low ≡ d.state.opening.low = r.low in
      record {
        some =
            (let a = i.shelf.horizons.begin_some in
            let b = i.shelf.horizons.pick_after (omega arith) (omega arith) in
            let c = i.shelf.horizons.pick_before (omega arith) (omega arith) in
            omega arith);
        past = (let a = to.shows.0.shown.horizon in let b = h.low in let c = ap (λ (o : Others). o.low) to.frame.others in omega arith);
        numbers = chain_numbers g w to.later to.paged t.end.seq r.read.read.next t.segments r.read.read.chained;
        down =
            ⊎_elim
            (λ none.
            let z = short g w to.later seqs i phase t.end.seq t.segments r.read.read.opening
            (subst (λ x. Chained g w to.later t.end.seq x t.segments) none r.read.read.chained) in
            omega arith)
            (λ below. (let z = below in omega arith)) r.read.read.bottom;
      }

  pub reads_down : IfSome (chain_in d.outs) (ReadsDown n d.state.opening.low)
  reads_down = by (chain_in d.outs) (told_read g w to.later d.state.opening d.outs to.shows.0.gives)
    where
      by : (o : Option Told) → IfSome o (AllRead g w to.later d.state.opening) → IfSome o (ReadsDown n d.state.opening.low)
      by None r = tt
      by (Some t) r = reads t r

came_so : (g : Setting) (n : Net) (i : scan_ins.In) → CameToScan g n i → CameToScan (doubtful g) n i
came_so g n (scan_in.Welcome ask news groups) c = c
came_so g n (scan_in.Fenced server generation held) c = c
came_so g n (scan_in.Got ask server generation f) c = c
came_so g n (scan_in.Missing ask server generation) c = c
came_so g n (scan_in.Maps m) c = c
came_so g n scan_in.Tick c = c

pub openings_read_down : Below → OpeningsReadDown
openings_read_down k g n m s fact i came = reads_down k (doubtful g) n (seen k g n m) s i fact (came_so g n i came)

-- ---- the event that ends a restart

module _ (k : Below) (g : Setting) (none : g.doubts ≡ false) (n : Net) (m : Moment g n) (chain : List Segment) (s : LogState) (i : Input)
    (fact : n.owner ≡ Writing chain s) (happens : Happens g n (after_writing g n chain (log.transition s i))) (calm : IsSureRun (On m.run happens))
    (lands : (log.transition s i).state.flight ≡ None) where
  abbrev o : Net
  o = after_writing g n chain (log.transition s i)

  a : Along k g none (opening g m.map) refl n m.run
  a = along_moment k g none n m calm.0

  then : Next g n a.view o
  then = followed_by k g none (opening g m.map) refl n m.run a o happens calm.1

  landed : o ≡ after_flight g n chain (log.transition s i) None
  landed = ap (after_flight g n chain (log.transition s i)) lands

  serves : o.owner ≡ Serving (log.transition s i).state
  serves = ap (λ (x : Net). x.owner) landed

  files : o.filed ≡ log_filed g.log (log.transition s i).outs ++ (names_of chain ++ n.filed)
  files = ap (λ (x : Net). x.filed) landed

  same_low : o.low ≡ n.low
  same_low = ap (λ (x : Net). x.low) landed

  module _ (name : SegName) (among : In name n.filed) where
    abbrev u : State
    u = then.view.w

    abbrev was : State
    was = a.view.w

    f : Filed k g none n a.view name
    f = number_of k g none n a.view name among

    past : PastStays was u
    past = k.protocol.past was u a.view.reached then.steps

    -- it was filed in an earlier boot, so it isn't the one that was filed now
    not_the_end : u.filed f.number ≡ 1 → u.seq_of f.number ≡ u.head → 0 < u.head → ⊥
    not_the_end still highest some =
        let before = k.protocol.head was a.view.reached (a.view.calm none) in
        let after = k.protocol.head u then.view.reached (then.view.calm none) in
        let b : was.incarnation_of f.number ≤ was.served = before.line_boot f.number f.filed in
        let p = (feeding.before k g none n a.view chain s i fact o then serves files same_low).0.phase in
        let q = (feeding.after k g none n a.view chain s i fact o then serves files same_low).0.phase in
        let c : was.served < was.incarnation = (k.protocol.owner was a.view.reached).opening (omega arith) (omega arith) in
        let d : u.incarnation ≡ u.served = (k.protocol.owner u then.view.reached).serving q in
        let e : u.line u.head ≡ f.number = ap u.line (sym highest) ∙ after.filed_line f.number still in
        let h : u.incarnation_of (u.line u.head) ≡ u.served = after.head_boot some in
        let j : u.incarnation_of f.number ≡ was.incarnation_of f.number =
        ap (λ t. t f.number) then.view.fixed.incarnation_of ∙ sym (ap (λ t. t f.number) a.view.fixed.incarnation_of) in
        let l : u.incarnation_of (u.line u.head) ≡ u.incarnation_of f.number = ap u.incarnation_of e in
        let v : u.incarnation ≡ was.incarnation = then.view.inc ∙ (ap (λ (x : Net). x.inc) landed ∙ sym a.view.inc) in
        omega arith

    upto : name.seq ≤ s.end.seq
    upto = ⊎_elim stays ends rises
      where
        head_at : u.head ≡ (log.transition s i).state.end.seq
        head_at = feeding.head_at k g none n a.view chain s i fact o then serves files same_low

        rises : EndRisesByOne s (log.transition s i)
        rises = feeding.rises k g none n a.view chain s i fact o then serves files same_low

        still : u.filed f.number ≡ 1
        still = past.filed f.number f.filed

        seq : u.seq_of f.number ≡ name.seq
        seq = ap (λ t. t f.number) then.view.fixed.seq_of ∙ (sym (ap (λ t. t f.number) a.view.fixed.seq_of) ∙ f.seq)

        high : u.seq_of f.number ≤ u.head
        high = (k.protocol.head u then.view.reached (then.view.calm none)).filed_head f.number still

        stays : (settled_ends (log.transition s i).outs ≡ []) × ((log.transition s i).state.end ≡ s.end) → name.seq ≤ s.end.seq
        stays e = let a = high in let z = seq in let b = head_at in let c = ap (λ (z : End). z.seq) e.1 in omega arith

        ends : (settled_ends (log.transition s i).outs ≡ (log.transition s i).state.end ∷ []) × ((log.transition s i).state.end.seq ≡ s.end.seq + 1)
            → name.seq ≤ s.end.seq
        ends e = by (nat_lt s.end.seq name.seq) refl
          where
            by : (t : Bool) → nat_lt s.end.seq name.seq ≡ t → name.seq ≤ s.end.seq
            by false t = ltb-false s.end.seq name.seq t
            by true t =
                let x = ltb-true s.end.seq name.seq t in
                let a = high in
                let z = seq in
                let b = head_at in
                let c = e.1 in
                absurd (not_the_end still (omega arith) (omega arith))

one_log : (o : Owner) (chain c : List Segment) (s t : LogState) → o ≡ Writing chain s → o ≡ Writing c t → s ≡ t
one_log o chain c s t fact it = cc

pub reopens_behind : Below → ReopensBehind
reopens_behind k g n o none m (Writes chain s i fact came texts) calm ends c t it name among = by (log.transition s i).state.flight refl
  where
    by : (x : Option FlightState) → (log.transition s i).state.flight ≡ x → name.seq ≤ t.end.seq
    by None lands = subst (λ (z : LogState). name.seq ≤ z.end.seq) (one_log n.owner chain c s t fact it)
        (upto k g none n m chain s i fact (Writes chain s i fact came texts) calm lands name among)
    by (Some f) flies = contrary (sym (ap (λ x. is_serving (after_flight g n chain (log.transition s i) x).owner) flies) ∙ ends.1)
reopens_behind k g n o none m (Acts s i fact came texts) calm ends c t it name among = contrary (sym (ap is_writing fact) ∙ ends.0)
reopens_behind k g n o none m (Opens s i fact came can) calm ends c t it name among = contrary (sym (ap is_writing fact) ∙ ends.0)
reopens_behind k g n o none m Crashes calm ends c t it name among = contrary ends.1
reopens_behind k g n o none m (Restarts fact) calm ends c t it name among = contrary ends.1
reopens_behind k g n o none m (Renews map high doubts fact came) calm ends c t it name among = contrary (sym none ∙ doubts)
reopens_behind k g n o none m (Serves v deed some came) calm ends c t it name among = contrary (sym (ap is_serving it) ∙ ends.1)
reopens_behind k g n o none m (Bars v l pass) calm ends c t it name among = contrary (sym (ap is_serving it) ∙ ends.1)
reopens_behind k g n o none m (Lists v) calm ends c t it name among = contrary (sym (ap is_serving it) ∙ ends.1)
reopens_behind k g n o none m (Hears v generation up reached) calm ends c t it name among = contrary (sym (ap is_serving it) ∙ ends.1)
reopens_behind k g n o none m (Raises low highest up fact below) calm ends c t it name among = contrary (sym (ap is_serving it) ∙ ends.1)
reopens_behind k g n o none m (Publishes map whole) calm ends c t it name among = contrary (sym (ap is_serving it) ∙ ends.1)
reopens_behind k g n o none m (Welcomes inc ask news map fact low whole) calm ends c t it name among = contrary (sym (ap is_serving it) ∙ ends.1)
reopens_behind k g n o none m (Drops lists meta fact listed below) calm ends c t it name among = contrary (sym (ap is_serving it) ∙ ends.1)
