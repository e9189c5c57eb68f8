-- A serving owner's feed has each filed segment from the least horizon on: what was read back goes down to it.
use Rattle.xfs_base.specs.declared.segment.Pass.{Pass}
use Rattle.std.proofs.Common.{◌≡◌, ⊎_elim, ℕ, suc, ◌+◌, ◌-◌, ◌≤◌, ◌<◌, ◌⊎◌, ◌==◌, Bool, true, false, nat_lt, List, [], ◌∷◌, ◌++◌, length, Option, Some, None, refl, sym, ap, subst, ◌∙◌, inl, inr, arith, if◌then◌else◌}
use Rattle.std.proofs.lemmas.Bool.{ltb-false, ltb-true}
use Rattle.xfs_base.specs.declared.segment.End.{End}
use Rattle.xfs_base.specs.declared.segment.LogId.{LogId}
use Rattle.xfs_base.specs.declared.segment.SegName.{SegName}
use Rattle.xfs_base.proofs.Booleans.{contrary}
use Rattle.segment_format.specs.declared.segment.Segment.{Segment}
use Rattle.group_map.specs.GroupMapState.{GroupMapState}
use Rattle.log_flight.specs.Flights.{FlightState}
use Rattle.client_log.specs.declared.output.Out.{Out}
use Rattle.client_log.specs.declared.output.Out.TheVariants.{Send, Settled}
use Rattle.client_log.specs.declared.input.In.{In as Input}
use Rattle.client_log.specs.History.{settled_ends, EndRisesByOne}
use Rattle.client_log.specs.LogState.{LogState}
use Rattle.client_log.specs.Transition as log
use Rattle.log_scan.specs.ScanState.{ScanState}
use Rattle.log_scan.specs.Transition as scan
use Rattle.log_protocol.specs.GrowthLaws.{PastStays}
use Rattle.log_protocol.specs.LogLaws as laws
use Rattle.log_protocol.specs.State.{State}
use Rattle.log_protocol.specs.StateLaws.{EndIsHead}
use Rattle.log_protocol.specs.Tables.{In}
use Rattle.log_tie.specs.Setting.{Setting, name_of, point}
use Rattle.log_tie.specs.Seen.{Serves as ServesShown, log_filed}
use Rattle.log_tie.specs.Openings.{Chained, WritingShown}
use Rattle.log_tie.proofs.Names.{one_number, name_coded}
use Rattle.log_law.specs.Net.{Net, Told, names_of, chain_in, after_flight, after_writing, after_told, after_scan}
use Rattle.log_law.specs.Net.Owner.{Writing, Serving}
use Rattle.log_law.specs.Events.{Happens}
use Rattle.log_law.specs.Events.Happens.{Acts, Writes, Opens, Crashes, Restarts, Renews, Serves, Bars, Lists, Hears, Raises, Publishes, Welcomes, Drops}
use Rattle.log_law.specs.Restarts.{is_serving}
use Rattle.log_law.specs.Below.{Below}
use Rattle.log_law.proofs.Views.{OwnerShown, Behind, View}
use Rattle.log_law.proofs.Next.{Next}
use Rattle.log_law.proofs.Moves.{in_left, in_right}

-- the feed has each filed name from the least horizon on
abbrev pub Fed : Net → Type 0
Fed n = is_serving n.owner ≡ true → (name : SegName) → In name n.filed → n.low ≤ name.seq → In name n.feed

pub in_either : (xs ys : List SegName) (x : SegName) → In x (xs ++ ys) → In x xs ⊎ In x ys
in_either [] ys x fact = inr fact
in_either (z ∷ xs) ys x (inl e) = inl (inl e)
in_either (z ∷ xs) ys x (inr fact) = ⊎_elim (λ a. inl (inr a)) inr (in_either xs ys x fact)

-- a point above 0 is of the pass that it names
pub passes : (g : Setting) (p : Pass) (q y : ℕ) → 0 < y → point g q p ≡ y → p ≡ (name_of g y).pass
passes g p q y some e = by (p.inc == 0) e
  where
    by : (t : Bool) → (if t then 0 else g.code q p.inc p.att) ≡ y → p ≡ (name_of g y).pass
    by true e = absurd (nothing y e some)
      where
        nothing : (y : ℕ) → 0 ≡ y → 0 < y → ⊥
        nothing y e some = omega arith
    by false e = sym (ap (λ (z : SegName). z.pass) (name_coded g q p.inc p.att)) ∙ ap (λ z. (name_of g z).pass) e

-- an end that is told settled is filed
pub settled_filed : (l : LogId) (end : End) (outs : List Out) → settled_ends outs ≡ end ∷ []
    → In (record { log = l; seq = end.seq; pass = end.pass }) (log_filed l outs)
settled_filed l end [] e = absurd cc
settled_filed l end (Send f m ∷ os) e = settled_filed l end os e
settled_filed l end (Settled e' rows ∷ os) e = inl (λ i. record { log = l; seq = (first_of (sym e i)).seq; pass = (first_of (sym e i)).pass })
  where
    first_of : List End → End
    first_of [] = end
    first_of (x ∷ xs) = x

-- ---- a restart ends: the chain has each filed segment from the least horizon on

module _ (k : Below) (g : Setting) (none : g.doubts ≡ false) (n : Net) (h : View g n) (chain : List Segment) (s : LogState) (i : Input)
    (fact : n.owner ≡ Writing chain s) (o : Net) (t : Next g n h o)
    (serves : o.owner ≡ Serving (log.transition s i).state) (files : o.filed ≡ log_filed g.log (log.transition s i).outs ++ (names_of chain ++ n.filed))
    (low : o.low ≡ n.low) where
  abbrev pub d : log.Done
  d = log.transition s i

  abbrev v : View g o
  v = t.view

  abbrev pub u : State
  u = t.view.w

  pub before : WritingShown g h.w h.book chain s × Behind g h.w h.book s
  before = subst (OwnerShown g h.w h.book h.hellos) fact h.owner

  pub after : ServesShown g u v.book d.state × Behind g u v.book d.state
  after = subst (OwnerShown g u v.book v.hellos) serves v.owner

  clean : u.clean ≡ 1
  clean = v.calm none

  line : laws.OneLine u
  line = k.protocol.line u v.reached clean

  ends : EndIsHead u
  ends = k.protocol.head u v.reached clean

  past : PastStays h.w u
  past = k.protocol.past h.w u h.reached t.steps

  same_low : h.w.low ≡ u.low
  same_low = let a = h.low in let b = v.low in let c = low in omega arith

  -- a filed name, by its number
  pub record Filed (name : SegName) : Type 0 where
    pub number : ℕ
    pub named : name ≡ name_of g number
    pub filed : u.filed number ≡ 1
    pub booked : u.booked number ≡ 1
    pub seq : u.seq_of number ≡ name.seq
    pub some : 0 < number

  filed_one : (name : SegName) → In name o.filed → Filed name
  filed_one name among = let f = v.filed name among in let booked = (k.protocol.book u v.reached).filed_booked f.0 f.2 in record {
    number = f.0;
    named = f.1;
    filed = f.2;
    booked = booked;
    seq = ap (λ z. z f.0) v.fixed.seq_of ∙ sym (ap (λ (z : SegName). z.seq) f.1);
    some = (k.protocol.book u v.reached).named f.0 booked;
  }

  -- a segment of the chain, by its number
  chain_number : (c : Segment) (y : ℕ) → h.w.booked y ≡ 1 → c ≡ h.book y → In c.name o.filed → (u.filed y ≡ 1) × (c.name ≡ name_of g y)
  chain_number c y booked e filed =
      let named : c.name ≡ name_of g y = ap (λ (b : Segment). b.name) e ∙ (h.paged y booked).named in
      let f = filed_one c.name filed in (ap u.filed (one_number g y f.number (sym named ∙ f.named)) ∙ f.filed, named)

  pub in_files : (c : SegName) → In c (names_of chain) → In c o.filed
  in_files c in_ = subst (In c) (sym files) (in_right (log_filed g.log d.outs) (names_of chain ++ n.filed) c (in_left (names_of chain) n.filed c in_))

  -- nothing from the least horizon on is below the chain
  pub not_below : (q : ℕ) → 0 < q → o.low ≤ q → q + length chain ≤ s.end.seq → ⊥
  not_below q some above le = ⊎_elim nothing horizon before.0.read.bottom
    where
      read_low : h.w.read_low ≤ h.w.low
      read_low = (k.protocol.horizons h.w h.reached).read_past (let p = before.0.phase in omega arith) (let p = before.0.phase in omega arith)

      horizon : s.end.seq < h.w.read_low + length chain → ⊥
      horizon b = let a = read_low in let c = h.low in let e = low in let f = above in let l = le in omega arith

      nothing : before.0.read.next ≡ 0 → ⊥
      nothing e = by chain le before.0.read.chained in_files
        where
          by : (ts : List Segment) → q + length ts ≤ s.end.seq → Chained g h.w h.book s.end.seq before.0.read.next ts
              → ((c : SegName) → In c (names_of ts) → In c o.filed) → ⊥
          by [] l c all =
              let base : h.w.base ≡ 0 = sym c ∙ e in
              let a = (k.protocol.owner h.w h.reached).no_base (let p = before.0.phase in omega arith) (let p = before.0.phase in omega arith) base in
              let p = (k.protocol.horizons h.w h.reached).pick_before (let p = before.0.phase in omega arith) (let p = before.0.phase in omega arith) in
              let z = read_low in let r = before.0.read.opening in let f = above in let x = h.low in let y = low in omega arith
          by (b ∷ bs) l c all =
              let mine = chain_number b c.0 c.1 c.2 (all b.name (inl refl)) in
              let b_seq : u.seq_of c.0 ≡ g.seq_of c.0 = ap (λ f. f c.0) v.fixed.seq_of in
              let z = c.4 in
              let high = ends.filed_head c.0 mine.0 in
              let under = line.no_gap (u.seq_of c.0 - 1) (let x = some in omega arith) (omega arith) in
              let f = above in
              let x = v.low in
              let prior : u.prior_of c.0 ≡ under.0 = line.linked c.0 under.0 mine.0 under.1 (let a = under.2 in let y = some in omega arith) (omega arith) in
              let was : u.prior_of c.0 ≡ 0 = past.prior c.0 c.1 ∙ (c.3 ∙ e) in
              let positive = (k.protocol.book u v.reached).named under.0 ((k.protocol.book u v.reached).filed_booked under.0 under.1) in
              omega arith

  -- the head is the log's end
  pub head_at : u.head ≡ d.state.end.seq
  head_at = sym ends.end_seq ∙ (ap (λ f. f u.end) v.fixed.seq_of ∙ after.0.end_seq)

  pub rises : EndRisesByOne s d
  rises = subst (λ (x : LogState). EndRisesByOne x (log.transition x i)) (sym before.1.ran.reaches)
      (k.logs.rises before.1.ran.log before.1.ran.inc before.1.ran.end before.1.ran.groups before.1.ran.history i)

  module _ (name : SegName) (among : In name o.filed) (above : o.low ≤ name.seq) where
    z : Filed name
    z = filed_one name among

    -- down the chain: it is there, or below all
    down : (highest x : ℕ) (ts : List Segment) → name.seq ≤ highest → Chained g h.w h.book highest x ts → ((c : SegName) → In c (names_of ts) → In c o.filed)
        → In name (names_of ts) ⊎ (name.seq + length ts ≤ highest)
    down highest x [] less c all = inr (omega arith)
    down highest x (b ∷ bs) less c all = ⊎_elim (λ there. inl (inr there)) here (down highest c.0 bs less c.5 (λ m in_. all m (inr in_)))
      where
        mine : (u.filed c.0 ≡ 1) × (b.name ≡ name_of g c.0)
        mine = chain_number b c.0 c.1 c.2 (all b.name (inl refl))

        here : name.seq + length bs ≤ highest → In name (b.name ∷ names_of bs) ⊎ (name.seq + suc (length bs) ≤ highest)
        here le = by (nat_lt name.seq (g.seq_of c.0)) refl
          where
            by : (p : Bool) → nat_lt name.seq (g.seq_of c.0) ≡ p → In name (b.name ∷ names_of bs) ⊎ (name.seq + suc (length bs) ≤ highest)
            by true e = inr (let a = ltb-true name.seq (g.seq_of c.0) e in let q = c.4 in omega arith)
            by false e =
                let more = ltb-false name.seq (g.seq_of c.0) e in
                let q = c.4 in
                let a = z.seq in
                let b_seq : u.seq_of c.0 ≡ g.seq_of c.0 = ap (λ f. f c.0) v.fixed.seq_of in
                inl (inl (z.named ∙ (ap (name_of g) (line.no_two z.number c.0 z.filed mine.0 (omega arith)) ∙ sym mine.1)))

    some_seq : 0 < name.seq
    some_seq = let a = (k.protocol.book u v.reached).seq_some z.number z.booked in let b = z.seq in omega arith

    of_chain : name.seq ≤ s.end.seq → In name (log_filed g.log d.outs ++ names_of chain)
    of_chain less =
        ⊎_elim (λ there. in_right (log_filed g.log d.outs) (names_of chain) name there) (λ le. absurd (not_below name.seq some_seq above le))
        (down s.end.seq before.0.read.next chain less before.0.read.chained in_files)

    within : name.seq ≤ u.head
    within = let a = ends.filed_head z.number z.filed in let b = z.seq in omega arith

    pub fed_there : In name (log_filed g.log d.outs ++ names_of chain)
    fed_there = ⊎_elim stays lands rises
      where
        stays : (settled_ends d.outs ≡ []) × (d.state.end ≡ s.end) → In name (log_filed g.log d.outs ++ names_of chain)
        stays e = of_chain (let a = within in let b = head_at in let c = ap (λ (x : End). x.seq) e.1 in omega arith)

        lands : (settled_ends d.outs ≡ d.state.end ∷ []) × (d.state.end.seq ≡ s.end.seq + 1) → In name (log_filed g.log d.outs ++ names_of chain)
        lands e = by (nat_lt s.end.seq name.seq) refl
          where
            by : (p : Bool) → nat_lt s.end.seq name.seq ≡ p → In name (log_filed g.log d.outs ++ names_of chain)
            by false q = of_chain (ltb-false s.end.seq name.seq q)
            by true q =
                let a = within in
                let b = head_at in
                let c = ltb-true s.end.seq name.seq q in
                let f = e.1 in
                let zs = z.seq in
                let head_some : 0 < u.head = omega arith in
                let highest : u.filed u.end ≡ 1 = ap u.filed ends.its_end ∙ ends.line_filed u.head head_some (omega arith) in
                let end_seq = ends.end_seq in
                let same : z.number ≡ u.end = line.no_two z.number u.end z.filed highest (omega arith) in
                let some : 0 < u.end = subst (λ y. 0 < y) same z.some in
                let pass : d.state.end.pass ≡ (name_of g u.end).pass = passes g d.state.end.pass d.state.end.seq u.end some (sym after.0.end) in
                let its_name : name ≡ record { log = g.log; seq = d.state.end.seq; pass = d.state.end.pass } =
                z.named ∙ (ap (name_of g) same ∙ (λ j. record { log = g.log; seq = after.0.end_seq j; pass = sym pass j })) in
                in_left (log_filed g.log d.outs) (names_of chain) name
                (subst (λ m. In m (log_filed g.log d.outs)) (sym its_name) (settled_filed g.log d.state.end d.outs e.0))

-- ---- over one event

pub scans_not : (g : Setting) (n : Net) (s : ScanState) (d : scan.Done) → is_serving (after_scan g n s d).owner ≡ false
scans_not g n s d = by (chain_in d.outs) d.state.opening.groups
  where
    by : (o : Option Told) (groups : Option GroupMapState) → is_serving (after_told g n s d o groups).owner ≡ false
    by None groups = refl
    by (Some t) None = refl
    by (Some t) (Some m) = refl

module _ (k : Below) (g : Setting) (none : g.doubts ≡ false) (n : Net) (h : View g n) (fed : Fed n) where
  writes_fed : (chain : List Segment) (s : LogState) (i : Input) → n.owner ≡ Writing chain s → Next g n h (after_writing g n chain (log.transition s i))
      → Fed (after_writing g n chain (log.transition s i))
  writes_fed chain s i fact t = by (log.transition s i).state.flight refl
    where
      by : (o : Option FlightState) → (log.transition s i).state.flight ≡ o → Fed (after_writing g n chain (log.transition s i))
      by (Some f) e serving name among above = contrary (sym (ap (λ o. is_serving (after_flight g n chain (log.transition s i) o).owner) e) ∙ serving)
      by None e serving name among above = subst (λ o. In name (after_flight g n chain (log.transition s i) o).feed) (sym e)
          (fed_there k g none n h chain s i fact (after_writing g n chain (log.transition s i)) t
          (ap (λ o. (after_flight g n chain (log.transition s i) o).owner) e) (ap (λ o. (after_flight g n chain (log.transition s i) o).filed) e)
          (ap (λ o. (after_flight g n chain (log.transition s i) o).low) e) name among above)

  pub now_fed : (o : Net) → Happens g n o → Next g n h o → Fed o
  now_fed o (Acts s i fact came texts) t serving name among above =
      ⊎_elim (λ new. in_left (log_filed g.log (log.transition s i).outs) n.feed name new)
      (λ old. in_right (log_filed g.log (log.transition s i).outs) n.feed name (fed (ap is_serving fact) name old above))
      (in_either (log_filed g.log (log.transition s i).outs) n.filed name among)
  now_fed o (Writes chain s i fact came texts) t serving name among above = writes_fed chain s i fact t serving name among above
  now_fed o (Opens s i fact came can) t serving name among above = contrary (sym (scans_not g n s (scan.transition s i)) ∙ serving)
  now_fed o Crashes t serving name among above = contrary serving
  now_fed o (Restarts fact) t serving name among above = contrary serving
  now_fed o (Renews m high doubts fact came) t serving name among above = contrary (sym none ∙ doubts)
  now_fed o (Serves server deed some came) t serving name among above = fed serving name among above
  now_fed o (Bars server l pass) t serving name among above = fed serving name among above
  now_fed o (Lists server) t serving name among above = fed serving name among above
  now_fed o (Hears server generation up reached) t serving name among above = fed serving name among above
  now_fed o (Raises low name up fact below) t serving m among above = fed serving m among (let a = up in omega arith)
  now_fed o (Publishes m whole) t serving name among above = fed serving name among above
  now_fed o (Welcomes inc ask news m fact low whole) t serving name among above = fed serving name among above
  now_fed o (Drops lists meta fact among_them below) t serving name among above = fed serving name among above
