-- What was in flight is of no boot to come, and while a log is opened all that is filed, and all that was read back, is of earlier boots.
use Rattle.std.proofs.Common.{◌≡◌, ⊎_elim, ◌⊎◌, ◌<◌, ◌≤◌, ◌++◌, ℕ, suc, cond, true, false, List, [], ◌∷◌, Option, Some, None, refl, sym, ap, subst, ◌∙◌, inl, inr, arith}
use Rattle.client_log.specs.declared.input.In as log_ins
use Rattle.client_log.specs.LogState.{LogState}
use Rattle.client_log.specs.Transition as log
use Rattle.group_map.specs.GroupMapState.{GroupMapState}
use Rattle.log_flight.specs.Flights.{FlightState}
use Rattle.log_law.specs.Below.{Below}
use Rattle.log_law.specs.Boots.{ARestartFilesOneOfItsBoot}
use Rattle.log_law.specs.Events.{Happens, Runs}
use Rattle.log_law.specs.Events.Happens.{Acts, Bars, Crashes, Drops, Hears, Lists, Opens, Publishes, Raises, Renews, Restarts, Serves, Welcomes, Writes}
use Rattle.log_law.specs.Events.Runs.{Begun, On}
use Rattle.log_law.specs.Laws.{Moment}
use Rattle.log_law.specs.Net.{Net, Told, after_flight, after_scan, after_told, after_writing, chain_in, names_of, opening}
use Rattle.log_law.specs.Net.Owner.{Writing}
use Rattle.log_law.specs.Openings.{boot_of}
use Rattle.log_law.specs.Restarts.{is_down, is_serving}
use Rattle.log_law.specs.Tails.{then_on}
use Rattle.log_law.proofs.Calmer.{doubtful}
use Rattle.log_law.proofs.Ends.{landed}
use Rattle.log_law.proofs.Feeding.{in_either}
use Rattle.log_law.proofs.Unfiled.{nothing_filed_opening}
use Rattle.log_law.proofs.Views.{OwnerShown, View}
use Rattle.log_law.proofs.Wholeness.{logs_whole, seen}
use Rattle.log_protocol.specs.Tables.{In}
use Rattle.log_scan.specs.ScanState.{ScanState}
use Rattle.log_scan.specs.Transition as scan
use Rattle.log_tie.specs.Openings.{Chained, WritingShown}
use Rattle.log_tie.specs.Seen.{log_filed}
use Rattle.log_tie.specs.Setting.{Setting}
use Rattle.segment_format.specs.declared.segment.Segment.{Segment}
use Rattle.xfs_base.proofs.Booleans.{contrary}
use Rattle.xfs_base.specs.declared.segment.SegName.{SegName}

-- all of these names are of boots before this one
abbrev AllBefore : ℕ → List SegName → Type 0
AllBefore inc names = (name : SegName) → In name names → name.pass.inc < inc

-- ---- what is seen

module _ (k : Below) (g : Setting) (n : Net) (h : View g n) where
  -- the boot of a booked segment
  boot_is : (x : ℕ) → h.w.booked x ≡ 1 → (h.book x).name.pass.inc ≡ h.w.incarnation_of x
  boot_is x booked = ap (λ (z : SegName). z.pass.inc) (h.paged x booked).named ∙ ap (λ (f : ℕ → ℕ). f x) (sym h.fixed.incarnation_of)

  flown_boot : (s : Segment) → In s n.flown → s.name.pass.inc ≤ n.inc
  flown_boot s flew =
      let b = h.flown.booked s flew in
      let its : s.name.pass.inc ≡ h.w.incarnation_of b.0 = ap (λ (z : Segment). z.name.pass.inc) b.2 ∙ boot_is b.0 b.1 in
      let low = (k.protocol.book h.w h.reached).boot b.0 b.1 in
      let same = h.inc in
      omega (arith, its, low, same)

  filed_boot : (name : SegName) → In name n.filed → name.pass.inc ≤ n.inc
  filed_boot name fact =
      let f = (logs_whole k g n h).flown name fact in
      subst (λ (z : SegName). z.pass.inc ≤ n.inc) f.2 (flown_boot f.0 f.1)

  module _ (chain : List Segment) (s : LogState) (fact : n.owner ≡ Writing chain s) where
    shown : WritingShown g h.w h.book chain s
    shown = (subst (OwnerShown g h.w h.book h.hellos) fact h.owner).0

    -- each link of what was read back is of an earlier boot
    link_before : (highest x : ℕ) (ts : List Segment) → Chained g h.w h.book highest x ts → 0 < x → h.w.incarnation_of x < h.w.incarnation
    link_before highest x [] link some =
        let e : x ≡ h.w.base = link in
        let phase = shown.phase in
        subst (λ y. h.w.incarnation_of y < h.w.incarnation) (sym e)
        ((k.protocol.owner h.w h.reached).base_boot (omega arith) (omega arith) (subst (λ y. 0 < y) e some))
    link_before highest x (t ∷ ts) link some =
        let up = link_before highest link.0 ts link.5 ((k.protocol.book h.w h.reached).named link.0 link.1) in
        let e : h.w.prior_of link.0 ≡ x = link.3 in
        let b : h.w.incarnation_of (h.w.prior_of link.0) ≤ h.w.incarnation_of link.0 =
        (k.protocol.book h.w h.reached).prior_boot link.0 link.1 (subst (λ y. 0 < y) (sym e) some) in
        let f : h.w.incarnation_of (h.w.prior_of link.0) ≡ h.w.incarnation_of x = ap h.w.incarnation_of e in
        omega arith

    chained_before : (highest x : ℕ) (ts : List Segment) → Chained g h.w h.book highest x ts → AllBefore n.inc (names_of ts)
    chained_before highest x [] link name among = absurd among
    chained_before highest x (t ∷ ts) link name (inl e) =
        let low = link_before highest link.0 ts link.5 ((k.protocol.book h.w h.reached).named link.0 link.1) in
        let its : name.pass.inc ≡ h.w.incarnation_of link.0 =
        ap (λ (z : SegName). z.pass.inc) e ∙ (ap (λ (z : Segment). z.name.pass.inc) link.2 ∙ boot_is link.0 link.1) in
        let same = h.inc in
        omega (arith, its, low, same)
    chained_before highest x (t ∷ ts) link name (inr among) = chained_before highest link.0 ts link.5 name among

    chain_before : AllBefore n.inc (names_of chain)
    chain_before = chained_before s.end.seq shown.read.next chain shown.read.chained

-- ---- along a run

-- an owner that neither is down nor serves has filed nothing of its boot
abbrev OpensBefore : Net → Type 0
OpensBefore n = is_serving n.owner ≡ false → is_down n.owner ≡ false → AllBefore n.inc n.filed

module _ (k : Below) (g : Setting) (m o : Net) (at : Moment g m) (happens : Happens g m o) where
  -- where it neither was down, nor served, and doesn't, and is in the same boot, what was filed stays
  same_filed : is_serving o.owner ≡ false → is_down o.owner ≡ false → is_down m.owner ≡ false → o.inc ≡ m.inc → o.filed ≡ m.filed
  same_filed none up was inc = nothing_filed_opening k g m o at (On Begun happens) boots none
    where
      boots : boot_of o ≡ boot_of m
      boots = ap (λ t. cond t (suc o.inc) o.inc) up ∙ (inc ∙ sym (ap (λ t. cond t (suc m.inc) m.inc) was))

module _ (k : Below) (g : Setting) where
  one_before : (m o : Net) → Moment g m → OpensBefore m → Happens g m o → OpensBefore o
  one_before m o at before (Acts s i fact came texts) none up = contrary (sym none)
  one_before m o at before (Writes chain s i fact came texts) none up = λ name among.
      let inc : (after_writing g m chain (log.transition s i)).inc ≡ m.inc = by (log.transition s i).state.flight in
      let same : (after_writing g m chain (log.transition s i)).filed ≡ m.filed =
      same_filed k g m (after_writing g m chain (log.transition s i)) at (Writes chain s i fact came texts) none up (ap is_down fact) inc in
      subst (λ b. name.pass.inc < b) (sym inc) (before (ap is_serving fact) (ap is_down fact) name (subst (In name) same among))
    where
      by : (f : Option FlightState) → (after_flight g m chain (log.transition s i) f).inc ≡ m.inc
      by None = refl
      by (Some f) = refl
  one_before m o at before (Opens s i fact came can) none up = λ name among.
      let d : scan.Done = scan.transition s i in
      let inc : (after_scan g m s d).inc ≡ m.inc = by (chain_in d.outs) d.state.opening.groups in
      let same : (after_scan g m s d).filed ≡ m.filed =
      same_filed k g m (after_scan g m s d) at (Opens s i fact came can) none up (ap is_down fact) inc in
      subst (λ b. name.pass.inc < b) (sym inc) (before (ap is_serving fact) (ap is_down fact) name (subst (In name) same among))
    where
      by : (t : Option Told) (groups : Option GroupMapState) → (after_told g m s (scan.transition s i) t groups).inc ≡ m.inc
      by None groups = refl
      by (Some t) None = refl
      by (Some t) (Some map) = refl
  one_before m o at before Crashes none up = contrary (sym up)
  one_before m o at before (Restarts down) none up = λ name among.
      (let low : name.pass.inc ≤ m.inc = filed_boot k (doubtful g) m (seen k g m at) name among in omega arith)
  one_before m o at before (Renews map high doubts down came) none up = contrary (sym none)
  one_before m o at before (Serves v deed some came) none up = before none up
  one_before m o at before (Bars v l pass) none up = before none up
  one_before m o at before (Lists v) none up = before none up
  one_before m o at before (Hears v generation rises reached) none up = before none up
  one_before m o at before (Raises low highest rises within below) none up = before none up
  one_before m o at before (Publishes map whole) none up = before none up
  one_before m o at before (Welcomes inc ask news map hello low whole) none up = before none up
  one_before m o at before (Drops lists meta listed within below) none up = before none up

  run_before : (n o : Net) → Moment g n → OpensBefore n → Runs g n o → OpensBefore o
  run_before n o at before Begun = before
  run_before n o at before (On {m = m} run happens) =
      one_before m o (record { map = at.map; whole = at.whole; run = then_on at.run run }) (run_before n m at before run) happens

  opens_before : (n : Net) → Moment g n → OpensBefore n
  opens_before n at =
      run_before (opening g at.map) n (record { map = at.map; whole = at.whole; run = Begun }) (λ none up. contrary (sym none)) at.run

  -- ---- the event that ends a restart

  module _ (n : Net) (at : Moment g n) (chain : List Segment) (s : LogState) (fact : n.owner ≡ Writing chain s) (i : log_ins.In) where
    abbrev d : log.Done
    d = log.transition s i

    -- what is filed of this boot is the opening segment
    of_flight : (name : SegName) → In name (log_filed g.log d.outs ++ (names_of chain ++ n.filed)) → name.pass.inc ≡ n.inc
        → (f : FlightState) × (s.flight ≡ Some f) × (record { log = g.log; seq = f.segment.name.seq; pass = f.segment.name.pass } ≡ name)
    of_flight name among own =
        ⊎_elim (λ new. landed s i g.log d.outs (k.logs.due s i) name new) (λ rest. absurd (by (in_either (names_of chain) n.filed name rest)))
        (in_either (log_filed g.log d.outs) (names_of chain ++ n.filed) name among)
      where
        by : In name (names_of chain) ⊎ In name n.filed → ⊥
        by (inl read) = (let low = chain_before k (doubtful g) n (seen k g n at) chain s fact name read in omega (arith, own, low))
        by (inr filed) = (let low = opens_before n at (ap is_serving fact) (ap is_down fact) name filed in omega (arith, own, low))

    writes_one : (f : Option FlightState) (a b : SegName) → is_serving (after_flight g n chain d f).owner ≡ true → In a (after_flight g n chain d f).filed
        → In b (after_flight g n chain d f).filed → a.pass.inc ≡ (after_flight g n chain d f).inc → b.pass.inc ≡ (after_flight g n chain d f).inc → a ≡ b
    writes_one None a b serves first second own its =
        let x = of_flight a first own in
        let y = of_flight b second its in
        let same : x.0 ≡ y.0 = one x.0 y.0 (sym x.1 ∙ y.1) in
        sym x.2 ∙ (ap (λ (f : FlightState). record { log = g.log; seq = f.segment.name.seq; pass = f.segment.name.pass }) same ∙ y.2)
      where
        one : (x y : FlightState) → Some x ≡ Some y → x ≡ y
        one x y e = cc
    writes_one (Some f) a b serves first second own its = contrary serves

-- an opening that takes an input comes not to serve
opens_none : (g : Setting) (n : Net) (s : ScanState) (d : scan.Done) (t : Option Told) (groups : Option GroupMapState)
    → is_serving (after_told g n s d t groups).owner ≡ true → ⊥
opens_none g n s d None groups serves = contrary serves
opens_none g n s d (Some t) None serves = contrary serves
opens_none g n s d (Some t) (Some map) serves = contrary serves

pub a_restart_files_one : Below → ARestartFilesOneOfItsBoot
a_restart_files_one k g n o at (Acts s i fact came texts) none serves a b first second own its = contrary (sym none ∙ ap is_serving fact)
a_restart_files_one k g n o at (Writes chain s i fact came texts) none serves a b first second own its =
    writes_one k g n at chain s fact i (log.transition s i).state.flight a b serves first second own its
a_restart_files_one k g n o at (Opens s i fact came can) none serves a b first second own its =
    absurd (opens_none g n s (scan.transition s i) (chain_in (scan.transition s i).outs) (scan.transition s i).state.opening.groups serves)
a_restart_files_one k g n o at Crashes none serves a b first second own its = contrary serves
a_restart_files_one k g n o at (Restarts down) none serves a b first second own its = contrary serves
a_restart_files_one k g n o at (Renews map high doubts down came) none serves a b first second own its =
    (let low : a.pass.inc ≤ n.inc = filed_boot k (doubtful g) n (seen k g n at) a first in absurd (omega (arith, own, low)))
a_restart_files_one k g n o at (Serves v deed some came) none serves a b first second own its = contrary (sym none ∙ serves)
a_restart_files_one k g n o at (Bars v l pass) none serves a b first second own its = contrary (sym none ∙ serves)
a_restart_files_one k g n o at (Lists v) none serves a b first second own its = contrary (sym none ∙ serves)
a_restart_files_one k g n o at (Hears v generation rises reached) none serves a b first second own its = contrary (sym none ∙ serves)
a_restart_files_one k g n o at (Raises low highest rises within below) none serves a b first second own its = contrary (sym none ∙ serves)
a_restart_files_one k g n o at (Publishes map whole) none serves a b first second own its = contrary (sym none ∙ serves)
a_restart_files_one k g n o at (Welcomes inc ask news map hello low whole) none serves a b first second own its = contrary (sym none ∙ serves)
a_restart_files_one k g n o at (Drops lists meta listed within below) none serves a b first second own its = contrary (sym none ∙ serves)
