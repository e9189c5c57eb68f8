-- In every run what is known of an opening stays so, and so what a reopening says is lost was torn, and had been whole.
use Rattle.std.proofs.Common.{◌≡◌, suc, List, [], ◌∷◌, refl, sym, ap, subst, inl, inr}
use Rattle.xfs_base.specs.declared.segment.SegName.{SegName}
use Rattle.xfs_base.specs.declared.segment.SegRef.{SegRef}
use Rattle.log_scan.specs.declared.input.In.{In as Input}
use Rattle.log_scan.specs.declared.output.Out.{Out}
use Rattle.log_scan.specs.declared.output.Out.TheVariants.{Hello, Fence, Fetch, Chain, Lost}
use Rattle.log_scan.specs.ScanState.{IsRead, ScanState, scan_start}
use Rattle.log_scan.specs.Transition as scan
use Rattle.client_log.specs.Transition as log
use Rattle.log_protocol.specs.Tables.{In}
use Rattle.log_tie.specs.Setting.{Setting}
use Rattle.log_law.specs.Net.{Net, opening, after_scan}
use Rattle.log_law.specs.Net.Owner.{Opening}
use Rattle.log_law.specs.Events.{CameToScan, Happens, Runs}
use Rattle.log_law.specs.Events.Happens.{Acts, Writes, Opens, Crashes, Restarts, Renews, Serves, Bars, Lists, Hears, Raises, Publishes, Welcomes, Drops}
use Rattle.log_law.specs.Events.Runs.{Begun, On}
use Rattle.log_law.specs.BeingRead.{WhatIsReadIsWhole}
use Rattle.loss_law.specs.Losses.{Once, IsTorn, is_opening, Takes, IsTrue, MissingsTrue, AReopeningLosesWhatIsTorn}
use Rattle.loss_law.proofs.Growing.{Base}
use Rattle.loss_law.proofs.Events.{first_base, opened_to, same_boot, writes_none, grows, base_then}
use Rattle.loss_law.proofs.Kept.{IsReading, StageKept, Kept, WasTorn, once_now, stage_on}
use Rattle.loss_law.proofs.Readings.{Loses, Goes}
use Rattle.loss_law.proofs.Inputs.{takes_goes}
use Rattle.loss_law.proofs.Disks.{once_lost}

-- at some moment of this opening it was read, and torn
abbrev TornIn : (g : Setting) {start n : Net} → Runs g start n → SegRef → Type 0
TornIn g run seg = Once is_opening (λ n. IsReading seg n × IsTorn g seg n) run

-- an event that leaves the owner alone
module _ (g : Setting) (start n o : Net) (run : Runs g start n) (base : Base g n) (e : Happens g n o) (kept : Kept g (TornIn g run) run) where
  aside : o.inc ≡ n.inc → o.owner ≡ n.owner → Kept g (TornIn g (On run e)) (On run e)
  aside boot owner s fact =
      stage_on g (TornIn g run) (TornIn g (On run e)) start n o run e (grows g n o base e) boot (λ seg t. (ap is_opening fact, inr t)) s.opening.ask s.stage
      (kept s (sym_owner owner fact))
    where
      sym_owner : o.owner ≡ n.owner → o.owner ≡ Opening s → n.owner ≡ Opening s
      sym_owner a b = cc

torn_now : (g : Setting) (start n : Net) (run : Runs g start n) (s : ScanState) → n.owner ≡ Opening s → (seg : SegRef) → IsRead s.stage seg → IsTorn g seg n
    → TornIn g run seg
torn_now g start n run s fact seg reads t = once_now is_opening (λ n. IsReading seg n × IsTorn g seg n) run (ap is_opening fact) ((s, fact, reads), t)

goes_of : (g : Setting) (start n : Net) (run : Runs g start n) (base : Base g n) (s : ScanState) (i : Input) (fact : n.owner ≡ Opening s)
    (came : CameToScan g n i) (e : Happens g n (after_scan g n s (scan.transition s i))) → IsTrue run s i → Kept g (TornIn g run) run
    → Goes g (TornIn g run) (TornIn g (On run e)) start n (after_scan g n s (scan.transition s i)) run e (grows g n _ base e)
    (same_boot g n s (scan.transition s i)) base s fact (λ opens seg t. (opens, inr t)) (torn_now g start n run s fact) (scan.transition s i)
goes_of g start n run base s i fact came e truth kept =
    takes_goes g (TornIn g run) (TornIn g (On run e)) start n (after_scan g n s (scan.transition s i)) run e (grows g n _ base e)
    (same_boot g n s (scan.transition s i)) base s fact (λ opens seg t. (opens, inr t)) (torn_now g start n run s fact) i came truth (kept s fact)

kept_then : (g : Setting) (start n o : Net) (run : Runs g start n) (base : Base g n) (e : Happens g n o)
    → ((s : ScanState) (i : Input) → Takes e s i → IsTrue run s i) → Kept g (TornIn g run) run → Kept g (TornIn g (On run e)) (On run e)
kept_then g start n o run base (Acts s i fact came texts) truth kept t at = absurd cc
kept_then g start n o run base (Writes chain s i fact came texts) truth kept t at =
    absurd (writes_none g n chain (log.transition s i) (log.transition s i).state.flight t at)
kept_then g start n o run base (Opens s i fact came can) truth kept t at =
    let d = scan.transition s i in
    let goes = goes_of g start n run base s i fact came (Opens s i fact came can) (truth s i (refl, refl)) kept in
    subst (λ (z : ScanState). StageKept g (TornIn g (On run (Opens s i fact came can))) (On run (Opens s i fact came can)) z.opening.ask z.stage)
    (sym (opened_to g n s d t at)) (goes.kept (ap is_opening at))
kept_then g start n o run base Crashes truth kept t at = absurd cc
kept_then g start n o run base (Restarts fact) truth kept t at =
    subst (λ (z : ScanState). StageKept g (TornIn g (On run (Restarts fact))) (On run (Restarts fact)) z.opening.ask z.stage) (same at) tt
  where
    same : Opening (scan_start g.log (suc n.inc)) ≡ Opening t → scan_start g.log (suc n.inc) ≡ t
    same e = cc
kept_then g start n o run base (Renews m high doubts fact came) truth kept t at = absurd cc
kept_then g start n o run base (Serves v deed some came) truth kept t at = aside g start n o run base (Serves v deed some came) kept refl refl t at
kept_then g start n o run base (Bars v l pass) truth kept t at = aside g start n o run base (Bars v l pass) kept refl refl t at
kept_then g start n o run base (Lists v) truth kept t at = aside g start n o run base (Lists v) kept refl refl t at
kept_then g start n o run base (Hears v generation up reached) truth kept t at = aside g start n o run base (Hears v generation up reached) kept refl refl t at
kept_then g start n o run base (Raises low name up fact below) truth kept t at = aside g start n o run base (Raises low name up fact below) kept refl refl t at
kept_then g start n o run base (Publishes m whole) truth kept t at = aside g start n o run base (Publishes m whole) kept refl refl t at
kept_then g start n o run base (Welcomes inc ask news m fact low whole) truth kept t at =
    aside g start n o run base (Welcomes inc ask news m fact low whole) kept refl refl t at
kept_then g start n o run base (Drops lists meta fact among below) truth kept t at =
    aside g start n o run base (Drops lists meta fact among below) kept refl refl t at

-- ---- every run

record Known (g : Setting) {start n : Net} (run : Runs g start n) : Type 0 where
  base : Base g n
  kept : Kept g (TornIn g run) run

known : (g : Setting) (start n : Net) (run : Runs g start n) → Base g start → Kept g (TornIn g (Begun {n = start})) (Begun {n = start}) → MissingsTrue run
    → Known g run
known g start n Begun base kept truth = record { base = base; kept = kept }
known g start n (On {m = m} run e) base kept truth = on (known g start m run base kept truth.0)
  where
    on : Known g run → Known g (On run e)
    on k = record { base = base_then g m n k.base e; kept = kept_then g start m n run k.base e truth.1 k.kept }

pub lost_in : (P : SegName → Type 0) (outs : List Out) → Loses P outs → (name : SegName) → In (Lost name) outs → P name
lost_in P [] all name fact = absurd fact
lost_in P (Hello ask ∷ outs) all name (inl e) = absurd cc
lost_in P (Hello ask ∷ outs) all name (inr fact) = lost_in P outs all name fact
lost_in P (Fence server ∷ outs) all name (inl e) = absurd cc
lost_in P (Fence server ∷ outs) all name (inr fact) = lost_in P outs all name fact
lost_in P (Fetch server segment ask ∷ outs) all name (inl e) = absurd cc
lost_in P (Fetch server segment ask ∷ outs) all name (inr fact) = lost_in P outs all name fact
lost_in P (Chain segments end prior ∷ outs) all name (inl e) = absurd cc
lost_in P (Chain segments end prior ∷ outs) all name (inr fact) = lost_in P outs all name fact
lost_in P (Lost other ∷ outs) all name (inl e) = subst P (same e) all.0
  where
    same : Lost name ≡ Lost other → other ≡ name
    same e = cc
lost_in P (Lost other ∷ outs) all name (inr fact) = lost_in P outs all.1 name fact

torn : (g : Setting) (start n o : Net) (run : Runs g start n) (k : Known g run) (e : Happens g n o)
    → ((s : ScanState) (i : Input) → Takes e s i → IsTrue run s i) → (s : ScanState) (i : Input) → Takes e s i → (name : SegName)
    → In (Lost name) (scan.transition s i).outs → WasTorn (TornIn g run) s name
torn g start n o run k (Acts s i fact came texts) truth t j takes name lost = absurd takes
torn g start n o run k (Writes chain s i fact came texts) truth t j takes name lost = absurd takes
torn g start n o run k (Opens s i fact came can) truth t j takes name lost =
    let goes = goes_of g start n run k.base s i fact came (Opens s i fact came can) (truth s i (refl, refl)) k.kept in
    let said : In (Lost name) (scan.transition s i).outs =
    subst (λ z. In (Lost name) (scan.transition s z).outs) (sym takes.1) (subst (λ z. In (Lost name) (scan.transition z j).outs) (sym takes.0) lost) in
    subst (λ z. WasTorn (TornIn g run) z name) takes.0 (lost_in (WasTorn (TornIn g run) s) (scan.transition s i).outs goes.lost name said)
torn g start n o run k Crashes truth t j takes name lost = absurd takes
torn g start n o run k (Restarts fact) truth t j takes name lost = absurd takes
torn g start n o run k (Renews m high doubts fact came) truth t j takes name lost = absurd takes
torn g start n o run k (Serves v deed some came) truth t j takes name lost = absurd takes
torn g start n o run k (Bars v l pass) truth t j takes name lost = absurd takes
torn g start n o run k (Lists v) truth t j takes name lost = absurd takes
torn g start n o run k (Hears v generation up reached) truth t j takes name lost = absurd takes
torn g start n o run k (Raises low segment up fact below) truth t j takes name lost = absurd takes
torn g start n o run k (Publishes m whole) truth t j takes name lost = absurd takes
torn g start n o run k (Welcomes inc ask news m fact low whole) truth t j takes name lost = absurd takes
torn g start n o run k (Drops lists meta fact among below) truth t j takes name lost = absurd takes

pub a_reopening_loses_what_is_torn : WhatIsReadIsWhole → AReopeningLosesWhatIsTorn
a_reopening_loses_what_is_torn whole g n o m happens truth s i takes name lost =
    let t = torn g (opening g m.map) n o m.run
    (known g (opening g m.map) n m.run (first_base g m.map) (λ t at. absurd cc) truth.0) happens truth.1 s i takes name lost in
    record {
      segment = t.segment;
      named = t.named;
      is_read = t.is_read;
      once = once_lost whole g t.segment (opening g m.map) n m.run (λ p run. record { map = m.map; whole = m.whole; run = run }) t.once;
    }
