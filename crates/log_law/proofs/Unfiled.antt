-- While a log is opened nothing is filed: a segment settles there as the last thing, and then its owner serves.
use Rattle.std.proofs.Common.{◌≡◌, ◌⊎◌, ℕ, suc, ◌+◌, ◌++◌, true, false, cond, List, [], ◌∷◌, Option, Some, None, nat_le, refl, sym, ap, subst, ◌∙◌, inl, inr, arith}
use Rattle.std.specs.Prelude.{◌&&◌, length}
use Rattle.client_log.specs.LogState.{LogState, log_start}
use Rattle.client_log.specs.Transition.{Done, sending_send, can_follow, end_of, followed, has_next, log_go_on, is_idle, landed, log_launch, looked_at, next_attempt, next_name, on_acked, on_maps, on_parts, on_tick, prior_from, restriped, log_seal, sends, settled, transition, log_write}
use Rattle.client_log.specs.declared.input.In as log_ins
use Rattle.client_log.specs.declared.input.In.TheVariants as log_in
use Rattle.client_log.specs.declared.output.Out.{Out}
use Rattle.client_log.specs.declared.output.Out.TheVariants.{Send, Settled}
use Rattle.group_map.specs.GroupMapState.{GroupMapState}
use Rattle.group_map.specs.declared.group.Member.{Member}
use Rattle.log_flight.specs.declared.flight.Fate.{Fate}
use Rattle.log_flight.specs.declared.flight.Fate.TheVariants.{Restripe, Settle, Wait}
use Rattle.log_flight.specs.Fate.{fate_of}
use Rattle.log_flight.specs.Flights.{FlightState, flown, group_for, is_noted, is_of, flight_note}
use Rattle.log_flight.specs.Fragments.{flight_fragment}
use Rattle.log_scan.specs.ScanState.{ScanState}
use Rattle.log_scan.specs.Transition as scan
use Rattle.log_tie.specs.Seen.{log_filed}
use Rattle.log_tie.specs.Setting.{Setting}
use Rattle.segment_format.specs.Rows.{rows_of}
use Rattle.segment_format.specs.declared.segment.Item.{Item}
use Rattle.segment_format.specs.declared.segment.Segment.{Segment}
use Rattle.xfs_base.proofs.Booleans.{by_test, contrary}
use Rattle.xfs_base.specs.Limits.{segment_blocks}
use Rattle.xfs_base.specs.Steps.{saying, still}
use Rattle.xfs_base.specs.declared.segment.LogId.{LogId}
use Rattle.xfs_base.specs.declared.segment.Prior.{Prior}
use Rattle.xfs_base.specs.declared.segment.SegName.{SegName}
use Rattle.log_law.specs.Below.{Below}
use Rattle.log_law.specs.Events.{CameToWriter, Happens}
use Rattle.log_law.specs.Events.Happens.{Acts, Bars, Crashes, Drops, Hears, Lists, Opens, Publishes, Raises, Renews, Restarts, Serves, Welcomes, Writes}
use Rattle.log_law.specs.Events.Runs.{Begun, On}
use Rattle.log_law.specs.Laws.{Moment}
use Rattle.log_law.specs.Net.{Net, Owner, Told, after_flight, after_told, chain_in}
use Rattle.log_law.specs.Net.Owner.{Down, Opening, Serving, Writing}
use Rattle.log_law.specs.Openings.{NothingFiledOpening, boot_of}
use Rattle.log_law.specs.Restarts.{is_down, is_serving}
use Rattle.log_law.specs.Tails.{then_on}
use Rattle.log_law.proofs.Calmer.{doubtful}
use Rattle.log_law.proofs.Flying.{run_since}
use Rattle.log_law.proofs.Views.{OwnerShown, View}
use Rattle.log_law.proofs.Wholeness.{seen}

-- ---- the log whose opening segment is in flight, while nothing waits

module _ (l : LogId) where
  -- it files nothing, or nothing is in flight then
  abbrev Turned : Done → Type 0
  Turned d = (log_filed l d.outs ≡ []) ⊎ (d.state.flight ≡ None)

  sends_none : (f : FlightState) (ms : List Member) (place : ℕ) → log_filed l (sends f ms place) ≡ []
  sends_none f [] place = refl
  sends_none f (m ∷ ms) place =
      by_test (λ (outs : List Out). log_filed l (outs ++ sends f ms (place + 1)) ≡ []) (is_noted f.noted place) [] (Send (flight_fragment f.segment f.group place) m ∷ [])
      (λ _. sends_none f ms (place + 1)) (λ _. sends_none f ms (place + 1))

  all_none : (f : FlightState) → log_filed l (sending_send f) ≡ []
  unfolding sending_send
  all_none f = sends_none f f.group.members 0

  launched_none : (s : LogState) (name : SegName) (prior : Prior) (items : List Item) → log_filed l (log_launch s name prior items).outs ≡ []
  unfolding log_launch
  launched_none s name prior items = all_none (flown name prior items (group_for s.groups s.log.0 name.seq))

  -- the segment without items begins
  parts_none : (s : LogState) → log_filed l (on_parts s []).outs ≡ []
  unfolding on_parts
  parts_none s = by_test (λ (d : Done). log_filed l d.outs ≡ []) (is_idle s && has_next s.end.seq && true) (log_write s []) (still s)
      (λ _. launched_none s (next_name s) (prior_from s.end) []) (λ _. refl)

  settled_turns : (s : LogState) (f : FlightState) → s.dirty ≡ [] → Turned (settled s f)
  unfolding settled log_go_on
  settled_turns s f clear =
      subst (λ b. Turned (saying (Settled (end_of f.segment) (rows_of f.segment) ∷ []) (cond b (log_seal (landed s f)) (still (landed s f)))))
      (sym (ap (λ xs. nat_le segment_blocks (length xs)) clear)) (inr refl)

  follows : (s : LogState) (f : FlightState) → s.dirty ≡ [] → (fate : Fate) → Turned (followed s f fate)
  unfolding restriped
  follows s f clear Restripe = inl (launched_none s (next_attempt f.segment.name) f.segment.prior f.segment.items)
  follows s f clear Settle = settled_turns s f clear
  follows s f clear Wait = inl refl

  looks : (before s : LogState) (f : FlightState) → s.dirty ≡ [] → Turned (looked_at before s f)
  unfolding looked_at
  looks before s f clear =
      by_test Turned (can_follow s f (fate_of s.groups f)) (followed s f (fate_of s.groups f)) (still before) (λ _. follows s f clear (fate_of s.groups f))
      (λ _. inl refl)

  module _ (s : LogState) (clear : s.dirty ≡ []) where
    acked_turns : (o : Option FlightState) → s.flight ≡ o → (name : SegName) (index generation : ℕ) → Turned (on_acked s name index generation)
    unfolding on_acked
    acked_turns None fact name index generation =
        subst (λ (o : Option FlightState). Turned (elim o [
          | None ↦ still s
          | Some f ↦ cond (is_of f name index generation) (looked_at s s (flight_note f index)) (still s)
        ])) (sym fact) (inl refl)
    acked_turns (Some f) fact name index generation =
        subst (λ (o : Option FlightState). Turned (elim o [
          | None ↦ still s
          | Some f ↦ cond (is_of f name index generation) (looked_at s s (flight_note f index)) (still s)
        ])) (sym fact)
        (by_test Turned (is_of f name index generation) (looked_at s s (flight_note f index)) (still s) (λ _. looks s s (flight_note f index) clear) (λ _. inl refl))

    maps_turn : (o : Option FlightState) → s.flight ≡ o → (m : GroupMapState) → Turned (on_maps s m)
    unfolding on_maps
    maps_turn None fact m =
        subst (λ (o : Option FlightState). Turned (elim o [ None ↦ still (record s { groups = m }) | Some f ↦ looked_at s (record s { groups = m }) f ]))
        (sym fact) (inl refl)
    maps_turn (Some f) fact m =
        subst (λ (o : Option FlightState). Turned (elim o [ None ↦ still (record s { groups = m }) | Some f ↦ looked_at s (record s { groups = m }) f ]))
        (sym fact) (looks s (record s { groups = m }) f clear)

    tick_turns : (o : Option FlightState) → s.flight ≡ o → Turned (on_tick s)
    unfolding on_tick
    tick_turns None fact = subst (λ (o : Option FlightState). Turned (elim o [ None ↦ still s | Some f ↦ record { state = s; outs = sending_send f } ])) (sym fact)
        (inl refl)
    tick_turns (Some f) fact =
        subst (λ (o : Option FlightState). Turned (elim o [ None ↦ still s | Some f ↦ record { state = s; outs = sending_send f } ])) (sym fact)
        (inl (all_none f))

    writer_turns : (n : Net) (i : log_ins.In) → CameToWriter n i → Turned (transition s i)
    writer_turns n (log_in.Put block entry value) came = absurd came
    writer_turns n (log_in.Parts items) came = absurd came
    writer_turns n log_in.Seal came = absurd came
    writer_turns n (log_in.Acked name index generation) came = acked_turns s.flight refl name index generation
    writer_turns n (log_in.Maps m) came = maps_turn s.flight refl m
    writer_turns n log_in.Tick came = tick_turns s.flight refl

-- ---- one event

module _ (g : Setting) (m : Net) (h : View (doubtful g) m) where
  not_serving : (x : Owner) → m.owner ≡ x → is_serving x ≡ true → is_serving m.owner ≡ false → ⊥
  not_serving x fact serves none = contrary (sym none ∙ (ap is_serving fact ∙ serves))

  writes_none : (chain : List Segment) (s : LogState) (i : log_ins.In) → m.owner ≡ Writing chain s → CameToWriter m i → (o : Option FlightState)
      → (transition s i).state.flight ≡ o
      → is_serving (after_flight g m chain (transition s i) o).owner ≡ false → (after_flight g m chain (transition s i) o).filed ≡ m.filed
  writes_none chain s i fact came None at none = contrary (sym none)
  writes_none chain s i fact came (Some f) at none = by (writer_turns g.log s clear m i came)
    where
      clear : s.dirty ≡ []
      clear = (subst (OwnerShown (doubtful g) h.w h.book h.hellos) fact h.owner).0.clear

      by : Turned g.log (transition s i) → (after_flight g m chain (transition s i) (Some f)).filed ≡ m.filed
      by (inl nothing) = ap (λ xs. xs ++ m.filed) nothing
      by (inr lands) = absurd (let a : None ≡ Some f = sym lands ∙ at in cc)

  told_none : (s : ScanState) (d : scan.Done) (t : Option Told) (groups : Option GroupMapState) → (after_told g m s d t groups).filed ≡ m.filed
  told_none s d None groups = refl
  told_none s d (Some t) None = refl
  told_none s d (Some t) (Some map) = ap (λ xs. xs ++ m.filed) (parts_none g.log (log_start g.log m.inc t.end map))

  happens_none : (o : Net) → is_serving m.owner ≡ false → is_serving o.owner ≡ false → Happens g m o → o.filed ≡ m.filed
  happens_none o before none (Acts s i fact came texts) = absurd (not_serving (Serving s) fact refl before)
  happens_none o before none (Writes chain s i fact came texts) = writes_none chain s i fact came (transition s i).state.flight refl none
  happens_none o before none (Opens s i fact came can) =
      told_none s (scan.transition s i) (chain_in (scan.transition s i).outs) (scan.transition s i).state.opening.groups
  happens_none o before none Crashes = refl
  happens_none o before none (Restarts down) = refl
  happens_none o before none (Renews map high doubts down came) = refl
  happens_none o before none (Serves v deed some came) = refl
  happens_none o before none (Bars v log pass) = refl
  happens_none o before none (Lists v) = refl
  happens_none o before none (Hears v generation up reached) = refl
  happens_none o before none (Raises low name up fact below) = refl
  happens_none o before none (Publishes map whole) = refl
  happens_none o before none (Welcomes inc ask news map hello low whole) = refl
  happens_none o before none (Drops lists meta listed within below) = refl

-- an owner that serves, and then doesn't, has fallen: the next boot is another
falls : (g : Setting) (m o : Net) (s : LogState) → m.owner ≡ Serving s → is_serving o.owner ≡ false → boot_of o ≡ boot_of m → Happens g m o → ⊥
falls g m o s fact none same (Acts t i e came texts) = contrary (sym none)
falls g m o s fact none same (Writes chain t i e came texts) = absurd (let a : Writing chain t ≡ Serving s = sym e ∙ fact in cc)
falls g m o s fact none same (Opens t i e came can) = absurd (let a : Opening t ≡ Serving s = sym e ∙ fact in cc)
falls g m o s fact none same Crashes =
    let up : boot_of m ≡ m.inc = ap (λ x. cond (is_down x) (suc m.inc) m.inc) fact in omega (arith, same, up)
falls g m o s fact none same (Restarts e) = absurd (let a : Down ≡ Serving s = sym e ∙ fact in cc)
falls g m o s fact none same (Renews map high doubts e came) = absurd (let a : Down ≡ Serving s = sym e ∙ fact in cc)
falls g m o s fact none same (Serves v deed some came) = contrary (sym none ∙ ap is_serving fact)
falls g m o s fact none same (Bars v log pass) = contrary (sym none ∙ ap is_serving fact)
falls g m o s fact none same (Lists v) = contrary (sym none ∙ ap is_serving fact)
falls g m o s fact none same (Hears v generation up reached) = contrary (sym none ∙ ap is_serving fact)
falls g m o s fact none same (Raises low name up within below) = contrary (sym none ∙ ap is_serving fact)
falls g m o s fact none same (Publishes map whole) = contrary (sym none ∙ ap is_serving fact)
falls g m o s fact none same (Welcomes inc ask news map hello low whole) = contrary (sym none ∙ ap is_serving fact)
falls g m o s fact none same (Drops lists meta listed within below) = contrary (sym none ∙ ap is_serving fact)

-- ---- along a run

not_before : (g : Setting) (m o : Net) → is_serving o.owner ≡ false → boot_of o ≡ boot_of m → Happens g m o → is_serving m.owner ≡ false
not_before g m o none same happens = by m.owner refl
  where
    by : (x : Owner) → m.owner ≡ x → is_serving m.owner ≡ false
    by Down e = ap is_serving e
    by (Opening s) e = ap is_serving e
    by (Writing chain s) e = ap is_serving e
    by (Serving s) e = absurd (falls g m o s e none same happens)

pub nothing_filed_opening : Below → NothingFiledOpening
nothing_filed_opening k g n o at Begun same none = refl
nothing_filed_opening k g n o at (On {m = m} run happens) same none =
    let there : Moment g m = record { map = at.map; whole = at.whole; run = then_on at.run run } in
    let a = (run_since k g n m at run).boots in
    let b = (run_since k g m o there (On Begun happens)).boots in
    let from : boot_of m ≡ boot_of n = omega (arith, a, b, same) in
    let to : boot_of o ≡ boot_of m = omega (arith, a, b, same) in
    let before = not_before g m o none to happens in
    happens_none g m (seen k g m there) o before none happens ∙ nothing_filed_opening k g n m at run from before
