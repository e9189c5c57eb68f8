-- Of what is filed where a restart ends, only the flight of the last boot that served tells anything that wasn't filed before.
use Rattle.std.proofs.Common.{◌≡◌, ⊎_elim, ℕ, ◌⊎◌, false, List, [], ◌∷◌, ◌++◌, Option, Some, None, sym, ap, subst, ◌∙◌, inl, inr, arith, refl}
use Rattle.xfs_base.specs.declared.segment.SegName.{SegName}
use Rattle.xfs_base.proofs.Booleans.{contrary}
use Rattle.segment_format.specs.declared.segment.Segment.{Segment}
use Rattle.log_flight.specs.Flights.{FlightState}
use Rattle.client_log.specs.declared.input.In.{In as Input}
use Rattle.client_log.specs.LogState.{LogState}
use Rattle.client_log.specs.Transition as log
use Rattle.log_protocol.specs.State.{State}
use Rattle.log_protocol.specs.Tables.{In}
use Rattle.log_tie.specs.Setting.{Setting}
use Rattle.log_tie.specs.Seen.{Page, log_filed}
use Rattle.log_tie.specs.Openings.{Chained, WritingShown}
use Rattle.log_law.specs.Below.{Below}
use Rattle.log_law.specs.Net.{Net, opening, names_of, after_flight, after_writing}
use Rattle.log_law.specs.Net.Owner.{Writing}
use Rattle.log_law.specs.Events.{Happens}
use Rattle.log_law.specs.Events.Happens.{Acts, Writes, Opens, Crashes, Restarts, Renews, Serves, Bars, Lists, Hears, Raises, Publishes, Welcomes, Drops}
use Rattle.log_law.specs.Events.Runs.{On}
use Rattle.log_law.specs.Laws.{Moment, IsNoFurther}
use Rattle.log_law.specs.Restarts.{is_serving, is_writing, IsSureRun}
use Rattle.log_law.specs.Tails.{TellsOnlyTheTail, ARestartFilesTheTail}
use Rattle.log_law.proofs.Adopting.{adopted}
use Rattle.log_law.proofs.Ends.{landed}
use Rattle.log_law.proofs.Feeding.{in_either}
use Rattle.log_law.proofs.Filing.{grows}
use Rattle.log_law.proofs.Followed.{Along, along_moment}
use Rattle.log_law.proofs.InLine.{within, logs_stay_in_line}
use Rattle.log_law.proofs.Views.{OwnerShown}

-- a name of a chain
in_names : (chain : List Segment) (name : SegName) → In name (names_of chain) → (t : Segment) × In t chain × (t.name ≡ name)
in_names [] name fact = absurd fact
in_names (t ∷ ts) name (inl e) = (t, inl refl, sym e)
in_names (t ∷ ts) name (inr fact) = let z = in_names ts name fact in (z.0, inr z.1, z.2)

-- what was read back is booked
in_book : (g : Setting) (w : State) (book : ℕ → Segment) (highest x : ℕ) (ts : List Segment) → Chained g w book highest x ts → (t : Segment) → In t ts
    → (y : ℕ) × (w.booked y ≡ 1) × (t ≡ book y)
in_book g w book highest x [] c t fact = absurd fact
in_book g w book highest x (b ∷ bs) c t (inl e) = (c.0, c.1, e ∙ c.2)
in_book g w book highest x (b ∷ bs) c t (inr fact) = in_book g w book highest c.0 bs c.5 t fact

module _ (k : Below) (g : Setting) (n : Net) (none : g.doubts ≡ false) (m : Moment g n) (chain : List Segment) (s : LogState) (i : Input)
    (fact : n.owner ≡ Writing chain s) where
  abbrev o : Net
  o = after_writing g n chain (log.transition s i)

  module _ (happens : Happens g n o) (calm : IsSureRun (On m.run happens)) where
    a : Along k g none (opening g m.map) refl n m.run
    a = along_moment k g none n m calm.0

    shown : WritingShown g a.view.w a.view.book chain s
    shown = (subst (OwnerShown g a.view.w a.view.book a.view.hellos) fact a.view.owner).0

    in_flown : (x : ℕ) → a.view.w.booked x ≡ 1 → In (a.view.book x) o.flown
    in_flown x booked = (grows g n o happens).flown (a.view.book x) (a.view.flown.all x booked)

    -- the opening segment tells nothing
    opening_tells : (f : FlightState) (name : SegName) → s.flight ≡ Some f → record { log = g.log; seq = f.segment.name.seq; pass = f.segment.name.pass } ≡ name
        → TellsOnlyTheTail m o name
    opening_tells f name flies named = (
      a.view.book a.view.w.flight,
      in_flown a.view.w.flight booked,
      its_name,
      inl (sym page.tells ∙ (k.protocol.owner a.view.w a.view.reached).opening_empty shown.phase),
    )
      where
        booked : a.view.w.booked a.view.w.flight ≡ 1
        booked = shown.flying.is_booked

        page : Page g a.view.w.flight (a.view.book a.view.w.flight) (a.view.w.text_of a.view.w.flight) (a.view.w.member_count a.view.w.flight)
            (a.view.w.member_server a.view.w.flight) (a.view.w.member_generation a.view.w.flight) (a.view.w.prior_of a.view.w.flight)
            (a.view.w.content_of a.view.w.flight)
        page = a.view.paged a.view.w.flight booked

        one : f ≡ shown.flight
        one = some_one f shown.flight (sym flies ∙ shown.is_flight)
          where
            some_one : (p q : FlightState) → Some p ≡ Some q → p ≡ q
            some_one p q e = cc

        segment : f.segment ≡ a.view.book a.view.w.flight
        segment = ap (λ (z : FlightState). z.segment) one ∙ shown.flying.segment

        its_name : (a.view.book a.view.w.flight).name ≡ name
        its_name =
            ap (λ l. record { log = l; seq = (a.view.book a.view.w.flight).name.seq; pass = (a.view.book a.view.w.flight).name.pass })
            (ap (λ (z : SegName). z.log) page.named)
            ∙ (ap (λ (z : Segment). record { log = g.log; seq = z.name.seq; pass = z.name.pass }) (sym segment) ∙ named)

    -- what was read back
    chain_tells : (t : Segment) → In t chain → In t.name o.filed → In t.name n.filed ⊎ TellsOnlyTheTail m o t.name
    chain_tells t among filed =
        ⊎_elim (λ near. inl (old near)) (λ far. inr (t, there, refl, far)) (adopted k g none (opening g m.map) refl n m.run a chain s fact t among)
      where
        x : (y : ℕ) × (a.view.w.booked y ≡ 1) × (t ≡ a.view.book y)
        x = in_book g a.view.w a.view.book s.end.seq shown.read.next chain shown.read.chained t among

        there : In t o.flown
        there = subst (λ z. In z o.flown) (sym x.2) (in_flown x.0 x.1)

        seq : a.view.w.seq_of x.0 ≡ t.name.seq
        seq = ap (λ z. z x.0) a.view.fixed.seq_of
            ∙ (ap (λ (z : SegName). z.seq) (sym (a.view.paged x.0 x.1).named) ∙ ap (λ (z : Segment). z.name.seq) (sym x.2))

        old : IsNoFurther n t → In t.name n.filed
        old near =
            let some = (k.protocol.book a.view.w a.view.reached).seq_some x.0 x.1 in
            let high = within k g none n a.view near.0 near.1 in
            let same = seq in
            let less = near.2 in
            let z = a.gapless t.name.seq (omega arith) (omega arith) in
            let line = logs_stay_in_line k g o none (record { map = m.map; whole = m.whole; run = On m.run happens }) calm in
            subst (λ name. In name n.filed) (line.no_two z.0 t.name ((grows g n o happens).filed z.0 z.1) filed z.2) z.1

    pub tells : (log.transition s i).state.flight ≡ None → (name : SegName) → In name o.filed → In name n.filed ⊎ TellsOnlyTheTail m o name
    tells lands name among =
        ⊎_elim new read (in_either (log_filed g.log (log.transition s i).outs) (names_of chain ++ n.filed) name (subst (In name) files among))
      where
        files : o.filed ≡ log_filed g.log (log.transition s i).outs ++ (names_of chain ++ n.filed)
        files = ap (λ f. (after_flight g n chain (log.transition s i) f).filed) lands

        new : In name (log_filed g.log (log.transition s i).outs) → In name n.filed ⊎ TellsOnlyTheTail m o name
        new is_new = let f = landed s i g.log (log.transition s i).outs (k.logs.due s i) name is_new in inr (opening_tells f.0 name f.1 f.2)

        back : (t : Segment) × In t chain × (t.name ≡ name) → In name n.filed ⊎ TellsOnlyTheTail m o name
        back t = subst (λ z. In z n.filed ⊎ TellsOnlyTheTail m o z) t.2 (chain_tells t.0 t.1 (subst (λ z. In z o.filed) (sym t.2) among))

        read : In name (names_of chain ++ n.filed) → In name n.filed ⊎ TellsOnlyTheTail m o name
        read was = ⊎_elim (λ there. back (in_names chain name there)) inl (in_either (names_of chain) n.filed name was)

pub a_restart_files_the_tail : Below → ARestartFilesTheTail
a_restart_files_the_tail k g n o none m (Acts s i fact came texts) calm ends name among = contrary (sym (ap is_writing fact) ∙ ends.0)
a_restart_files_the_tail k g n o none m (Writes chain s i fact came texts) calm ends name among = by (log.transition s i).state.flight refl
  where
    by : (f : Option FlightState) → (log.transition s i).state.flight ≡ f
        → In name n.filed ⊎ TellsOnlyTheTail m (after_writing g n chain (log.transition s i)) name
    by (Some f) e = contrary (sym (ap (λ x. is_serving (after_flight g n chain (log.transition s i) x).owner) e) ∙ ends.1)
    by None e = tells k g n none m chain s i fact (Writes chain s i fact came texts) calm e name among
a_restart_files_the_tail k g n o none m (Opens s i fact came can) calm ends name among = contrary (sym (ap is_writing fact) ∙ ends.0)
a_restart_files_the_tail k g n o none m Crashes calm ends name among = contrary ends.1
a_restart_files_the_tail k g n o none m (Restarts fact) calm ends name among = contrary ends.1
a_restart_files_the_tail k g n o none m (Renews map high doubts fact came) calm ends name among = contrary (sym none ∙ doubts)
a_restart_files_the_tail k g n o none m (Serves v deed some came) calm ends name among = inl among
a_restart_files_the_tail k g n o none m (Bars v l pass) calm ends name among = inl among
a_restart_files_the_tail k g n o none m (Lists v) calm ends name among = inl among
a_restart_files_the_tail k g n o none m (Hears v generation up reached) calm ends name among = inl among
a_restart_files_the_tail k g n o none m (Raises low highest up fact below) calm ends name among = inl among
a_restart_files_the_tail k g n o none m (Publishes map whole) calm ends name among = inl among
a_restart_files_the_tail k g n o none m (Welcomes inc ask news map fact low whole) calm ends name among = inl among
a_restart_files_the_tail k g n o none m (Drops lists meta fact listed below) calm ends name among = inl among
