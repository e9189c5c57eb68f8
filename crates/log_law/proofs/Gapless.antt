-- The line has no gap: each number from 1 up to the head is that of a filed segment.
use Rattle.std.proofs.Common.{◌≡◌, ⊎_elim, ℕ, suc, ◌+◌, ◌<◌, ◌≤◌, Bool, true, false, nat_lt, List, [], ◌∷◌, ◌++◌, length, Option, Some, None, refl, sym, ap, subst, ◌∙◌, inl, inr, arith}
use Rattle.std.proofs.lemmas.Bool.{ltb-false, ltb-true}
use Rattle.xfs_base.specs.declared.segment.End.{End}
use Rattle.xfs_base.specs.declared.segment.SegName.{SegName}
use Rattle.xfs_base.proofs.Booleans.{contrary}
use Rattle.segment_format.specs.declared.segment.Segment.{Segment}
use Rattle.log_flight.specs.Flights.{FlightState}
use Rattle.client_log.specs.declared.input.In.{In as Input}
use Rattle.client_log.specs.History.{settled_ends, EndRisesByOne}
use Rattle.client_log.specs.LogState.{LogState}
use Rattle.client_log.specs.Transition as log
use Rattle.log_scan.specs.Transition as scan
use Rattle.log_protocol.specs.StateLaws.{EndIsHead}
use Rattle.log_protocol.specs.Tables.{In}
use Rattle.log_tie.specs.Setting.{Setting}
use Rattle.log_tie.specs.Seen.{Serves as ServesShown, log_filed}
use Rattle.log_tie.specs.Openings.{Chained}
use Rattle.log_law.specs.Net.{Owner, Net, names_of, after_flight, after_writing, after_log}
use Rattle.log_law.specs.Net.Owner.{Down, Opening, Writing, Serving}
use Rattle.log_law.specs.Events.{Happens}
use Rattle.log_law.specs.Events.Happens.{Acts, Writes, Opens, Crashes, Restarts, Renews, Serves, Bars, Lists, Hears, Raises, Publishes, Welcomes, Drops}
use Rattle.log_law.specs.Restarts.{is_serving}
use Rattle.log_law.specs.Below.{Below}
use Rattle.log_law.proofs.Feeding.{before, in_files, not_below, head_at, rises, settled_filed, scans_not}
use Rattle.log_law.proofs.Filing.{grows}
use Rattle.log_law.proofs.Moves.{in_left, in_right}
use Rattle.log_law.proofs.Next.{Next}
use Rattle.log_law.proofs.Views.{OwnerShown, Behind, View}

-- a filed segment of this number
abbrev pub Has : Net → ℕ → Type 0
Has n q = (t : SegName) × In t n.filed × (t.seq ≡ q)

-- each number up to this one is that of a filed segment
abbrev pub Gapless : Net → ℕ → Type 0
Gapless n head = (q : ℕ) → 0 < q → q ≤ head → Has n q

-- one more
one_more : (n : Net) (highest head : ℕ) → head ≤ suc highest → Gapless n highest → Has n (suc highest) → Gapless n head
one_more n highest head less before there q some up = by (nat_lt highest q) refl
  where
    by : (b : Bool) → nat_lt highest q ≡ b → Has n q
    by true e = let a = ltb-true highest q e in (there.0, there.1, there.2 ∙ omega arith)
    by false e = before q some (ltb-false highest q e)

-- ---- an owner that serves has its end at the head

module _ (k : Below) (g : Setting) (n : Net) (h : View g n) (clean : h.w.clean ≡ 1) where
  pub served_head : (s : LogState) → n.owner ≡ Serving s → h.w.head ≡ s.end.seq
  served_head s fact = sym (k.protocol.head h.w h.reached clean).end_seq ∙ (ap (λ f. f h.w.end) h.fixed.seq_of ∙ there.0.end_seq)
    where
      there : ServesShown g h.w h.book s × Behind g h.w h.book s
      there = subst (OwnerShown g h.w h.book h.hellos) fact h.owner

-- ---- a restart ends: the chain has each number from above the head on

module _ (k : Below) (g : Setting) (none : g.doubts ≡ false) (n : Net) (h : View g n) (chain : List Segment) (s : LogState) (i : Input)
    (fact : n.owner ≡ Writing chain s) (o : Net) (t : Next g n h o)
    (serves : o.owner ≡ Serving (log.transition s i).state) (files : o.filed ≡ log_filed g.log (log.transition s i).outs ++ (names_of chain ++ n.filed))
    (low : o.low ≡ n.low) (gapless : Gapless n h.w.head) where
  -- down the chain
  reaches : (q highest x : ℕ) (ts : List Segment) → highest < q + length ts → q ≤ highest → Chained g h.w h.book highest x ts
      → ((c : SegName) → In c (names_of ts) → In c o.filed) → Has o q
  reaches q highest x [] more less c all = absurd (omega arith)
  reaches q highest x (b ∷ bs) more less c all = by (nat_lt highest (q + length bs)) refl (λ m. reaches q highest c.0 bs m less c.5 (λ z in_. all z (inr in_)))
    where
      by : (p : Bool) → nat_lt highest (q + length bs) ≡ p → (highest < q + length bs → Has o q) → Has o q
      by true e down = down (ltb-true highest (q + length bs) e)
      by false e down =
          let a = ltb-false highest (q + length bs) e in
          let seq : b.name.seq ≡ g.seq_of c.0 = ap (λ (z : Segment). z.name.seq) c.2 ∙ ap (λ (z : SegName). z.seq) (h.paged c.0 c.1).named in
          let d = c.4 in (b.name, all b.name (inl refl), omega arith)

  clean : h.w.clean ≡ 1
  clean = h.calm none

  head : EndIsHead h.w
  head = k.protocol.head h.w h.reached clean

  in_old : (c : SegName) → In c n.filed → In c o.filed
  in_old c in_ =
      subst (In c) (sym files) (in_right (log_filed g.log (log.transition s i).outs) (names_of chain ++ n.filed) c (in_right (names_of chain) n.filed c in_))

  in_new : (c : SegName) → In c (log_filed g.log (log.transition s i).outs) → In c o.filed
  in_new c in_ = subst (In c) (sym files) (in_left (log_filed g.log (log.transition s i).outs) (names_of chain ++ n.filed) c in_)

  -- up to where it was read from
  to_top : Gapless o s.end.seq
  to_top q some less = by (nat_lt h.w.head q) refl
    where
      by : (b : Bool) → nat_lt h.w.head q ≡ b → Has o q
      by false e = let t = gapless q some (ltb-false h.w.head q e) in (t.0, in_old t.0 t.1, t.2)
      by true e = by_depth (nat_lt s.end.seq (q + length chain)) refl
        where
          above : o.low ≤ q
          above = let a = ltb-true h.w.head q e in let b = head.low_head in let c = h.low in let d = low in omega arith

          by_depth : (b : Bool) → nat_lt s.end.seq (q + length chain) ≡ b → Has o q
          by_depth true f =
              reaches q s.end.seq (before k g none n h chain s i fact o t serves files low).0.read.next chain (ltb-true s.end.seq (q + length chain) f) less
              (before k g none n h chain s i fact o t serves files low).0.read.chained
              (in_files k g none n h chain s i fact o t serves files low)
          by_depth false f = absurd (not_below k g none n h chain s i fact o t serves files low q some above (ltb-false s.end.seq (q + length chain) f))

  pub ended : Gapless o t.view.w.head
  ended = ⊎_elim stays lands (rises k g none n h chain s i fact o t serves files low)
    where
      at : t.view.w.head ≡ (log.transition s i).state.end.seq
      at = head_at k g none n h chain s i fact o t serves files low

      stays : (settled_ends (log.transition s i).outs ≡ []) × ((log.transition s i).state.end ≡ s.end) → Gapless o t.view.w.head
      stays e q some less = to_top q some (let a = at in let b = ap (λ (z : End). z.seq) e.1 in omega arith)

      lands : (settled_ends (log.transition s i).outs ≡ (log.transition s i).state.end ∷ []) × ((log.transition s i).state.end.seq ≡ s.end.seq + 1)
          → Gapless o t.view.w.head
      lands e = one_more o s.end.seq t.view.w.head (let a = at in let b = e.1 in omega arith) to_top
          (_, in_new _ (settled_filed g.log (log.transition s i).state.end (log.transition s i).outs e.0), (let b = e.1 in omega arith))

-- ---- over one event

module _ (k : Below) (g : Setting) (none : g.doubts ≡ false) (n : Net) (h : View g n) (gapless : Gapless n h.w.head) where
  module _ (o : Net) (happens : Happens g n o) (t : Next g n h o) where
    -- while the head stays
    still : t.view.w.head ≡ h.w.head → Gapless o t.view.w.head
    still e q some less = let z = gapless q some (let a = e in omega arith) in (z.0, (grows g n o happens).filed z.0 z.1, z.2)

    not_serving : is_serving o.owner ≡ false → Gapless o t.view.w.head
    not_serving e = still (t.steady e).head

    -- others act
    aside : o.owner ≡ n.owner → Gapless o t.view.w.head
    aside same = by n.owner refl
      where
        by : (p : Owner) → n.owner ≡ p → Gapless o t.view.w.head
        by Down e = not_serving (ap is_serving (same ∙ e))
        by (Opening s) e = not_serving (ap is_serving (same ∙ e))
        by (Writing chain s) e = not_serving (ap is_serving (same ∙ e))
        by (Serving s) e = still (served_head k g o t.view (t.view.calm none) s (same ∙ e) ∙ sym (served_head k g n h (h.calm none) s e))

  -- the log of an owner that serves
  acts : (s : LogState) (i : Input) → n.owner ≡ Serving s → Happens g n (after_log g n (log.transition s i))
      → (t : Next g n h (after_log g n (log.transition s i))) → Gapless (after_log g n (log.transition s i)) t.view.w.head
  acts s i fact happens t = ⊎_elim stays lands rises_here
    where
      behind : Behind g h.w h.book s
      behind = (subst (OwnerShown g h.w h.book h.hellos) fact h.owner).1

      rises_here : EndRisesByOne s (log.transition s i)
      rises_here = subst (λ (x : LogState). EndRisesByOne x (log.transition x i)) (sym behind.ran.reaches)
          (k.logs.rises behind.ran.log behind.ran.inc behind.ran.end behind.ran.groups behind.ran.history i)

      was : h.w.head ≡ s.end.seq
      was = served_head k g n h (h.calm none) s fact

      at : t.view.w.head ≡ (log.transition s i).state.end.seq
      at = served_head k g _ t.view (t.view.calm none) (log.transition s i).state refl

      stays : (settled_ends (log.transition s i).outs ≡ []) × ((log.transition s i).state.end ≡ s.end)
          → Gapless (after_log g n (log.transition s i)) t.view.w.head
      stays e = still (after_log g n (log.transition s i)) happens t (at ∙ (ap (λ (z : End). z.seq) e.1 ∙ sym was))

      lands : (settled_ends (log.transition s i).outs ≡ (log.transition s i).state.end ∷ []) × ((log.transition s i).state.end.seq ≡ s.end.seq + 1)
          → Gapless (after_log g n (log.transition s i)) t.view.w.head
      lands e = one_more (after_log g n (log.transition s i)) h.w.head t.view.w.head (let a = at in let b = e.1 in let c = was in omega arith)
          (λ q some less. let z = gapless q some less in (z.0, in_right (log_filed g.log (log.transition s i).outs) n.filed z.0 z.1, z.2)) (
            _,
            in_left (log_filed g.log (log.transition s i).outs) n.filed _ (settled_filed g.log (log.transition s i).state.end (log.transition s i).outs e.0),
            (let b = e.1 in let c = was in omega arith),
          )

  -- that of one that writes its opening segment
  writes : (chain : List Segment) (s : LogState) (i : Input) → n.owner ≡ Writing chain s → Happens g n (after_writing g n chain (log.transition s i))
      → (t : Next g n h (after_writing g n chain (log.transition s i)))
      → Gapless (after_writing g n chain (log.transition s i)) t.view.w.head
  writes chain s i fact happens t = by (log.transition s i).state.flight refl
    where
      by : (f : Option FlightState) → (log.transition s i).state.flight ≡ f → Gapless (after_writing g n chain (log.transition s i)) t.view.w.head
      by (Some f) e =
          not_serving (after_writing g n chain (log.transition s i)) happens t (ap (λ x. is_serving (after_flight g n chain (log.transition s i) x).owner) e)
      by None e = ended k g none n h chain s i fact (after_writing g n chain (log.transition s i)) t
          (ap (λ x. (after_flight g n chain (log.transition s i) x).owner) e) (ap (λ x. (after_flight g n chain (log.transition s i) x).filed) e)
          (ap (λ x. (after_flight g n chain (log.transition s i) x).low) e) gapless

  pub now_gapless : (o : Net) → Happens g n o → (t : Next g n h o) → Gapless o t.view.w.head
  now_gapless o (Acts s i fact came texts) t = acts s i fact (Acts s i fact came texts) t
  now_gapless o (Writes chain s i fact came texts) t = writes chain s i fact (Writes chain s i fact came texts) t
  now_gapless o (Opens s i fact came can) t = not_serving o (Opens s i fact came can) t (scans_not g n s (scan.transition s i))
  now_gapless o Crashes t = not_serving o Crashes t refl
  now_gapless o (Restarts fact) t = not_serving o (Restarts fact) t refl
  now_gapless o (Renews m high doubts fact came) t = contrary (sym none ∙ doubts)
  now_gapless o (Serves v deed some came) t = aside o (Serves v deed some came) t refl
  now_gapless o (Bars v l pass) t = aside o (Bars v l pass) t refl
  now_gapless o (Lists v) t = aside o (Lists v) t refl
  now_gapless o (Hears v generation up reached) t = aside o (Hears v generation up reached) t refl
  now_gapless o (Raises low name up fact below) t = aside o (Raises low name up fact below) t refl
  now_gapless o (Publishes m whole) t = aside o (Publishes m whole) t refl
  now_gapless o (Welcomes inc ask news m fact low whole) t = aside o (Welcomes inc ask news m fact low whole) t refl
  now_gapless o (Drops lists meta fact among below) t = aside o (Drops lists meta fact among below) t refl
