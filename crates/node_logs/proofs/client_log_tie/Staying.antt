-- A log that starts behind an end that fits, over groups whose ids fit, has what is written in flight, as long as what it takes fits.
use Rattle.std.proofs.Common.{◌≡◌, ◌<◌, ◌≤◌, ℕ, zero, suc, ◌+◌, ◌^◌, ◌&&◌, ◌||◌, not, Bool, true, false, cond, List, [], ◌∷◌, length, take, drop, Option, Some, None, nat_lt, refl, arith}
use Rattle.std.specs.Prelude.{IfSome}
use Rattle.std.specs.List.{AllByRecursion}
use Rattle.std.proofs.lemmas.Bool.Decides.{nat_tests}
use Rattle.indexmap.specs.IndexMap.{insert_entry}
use Rattle.xfs_base.proofs.Booleans.{by_test, contrary}
use Rattle.xfs_base.specs.Blocks.{same_block}
use Rattle.xfs_base.specs.declared.block.BlockId.{BlockId}
use Rattle.xfs_base.specs.declared.segment.Prior.{Prior}
use Rattle.xfs_base.specs.declared.segment.SegName.{SegName}
use Rattle.xfs_base.specs.Limits.{segment_blocks}
use Rattle.xfs_base.specs.Steps.{still}
use Rattle.segment_format.specs.declared.segment.Item.{Item}
use Rattle.segment_format.specs.Format.{IsLog}
use Rattle.segment_format.specs.Ranges.{FitsName, FitsPrior}
use Rattle.group_map.specs.GroupMapState.{GroupMapState}
use Rattle.log_flight.specs.declared.dirty.Change.{Change}
use Rattle.log_flight.specs.declared.flight.Fate.{Fate}
use Rattle.log_flight.specs.declared.flight.Fate.TheVariants.{Restripe, Settle, Wait}
use Rattle.log_flight.specs.Fate.{fate_of}
use Rattle.log_flight.specs.Flights.{FlightState, is_of, flight_note}
use Rattle.log_flight.specs.Items.{items_of}
use Rattle.log_flight.specs.Texts.{has_text}
use Rattle.client_log.specs.declared.input.In.{In as Input}
use Rattle.client_log.specs.declared.input.In.TheVariants.{Put, Parts, Seal, Acked, Maps, Tick}
use Rattle.client_log.specs.History.{state_after}
use Rattle.client_log.specs.LogState.{LogState, log_start}
use Rattle.client_log.specs.Transition.{Done, sending_send, log_launch, next_name, prior_from, log_write, has_next, is_idle, is_full, can_go_on, log_seal, log_go_on, waits, on_put, on_seal, on_parts, next_attempt, restriped, landed, settled, can_follow, followed, looked_at, on_acked, on_maps, on_tick, transition}
use Rattle.log_law.specs.Events.{IsWritten}
use Rattle.log_law.specs.Openings.{EndFits}
use Rattle.node_logs.specs.client_log_tie.Texts.{PutFits, MapFits}
use Rattle.xfs_base.specs.declared.segment.End.{End}
use Rattle.xfs_base.specs.declared.segment.LogId.{LogId}
use Rattle.xfs_base.proofs.Alls.{all_take}
use Rattle.log_law.proofs.Texts.{ItemsFit, SegmentFits, ChangeFits, items_fit, segment_written}

record LogFits (s : LogState) : Type 0 where
  log : IsLog s.log.0
  inc : s.inc < 2 ^ 32
  end : EndFits s.end
  groups : MapFits s.groups
  dirty : AllByRecursion ChangeFits s.dirty
  flight : IfSome s.flight (λ f. SegmentFits f.segment)

FitAfter : Done → Type 0
FitAfter d = LogFits d.state

dropped_fit : (n : ℕ) (cs : List (BlockId × Change)) → AllByRecursion ChangeFits cs → AllByRecursion ChangeFits (drop n cs)
dropped_fit zero cs all = all
dropped_fit (suc n) [] all = tt
dropped_fit (suc n) (c ∷ cs) all = dropped_fit n cs all.1

few_taken : (n : ℕ) (cs : List (BlockId × Change)) → length (take n cs) ≤ n
few_taken zero cs = omega arith
few_taken (suc n) [] = omega arith
few_taken (suc n) (c ∷ cs) = (let e = few_taken n cs in omega arith)

inserted_fit : (block : BlockId) (change : Change) (cs : List (BlockId × Change)) → ChangeFits (block, change) → AllByRecursion ChangeFits cs
    → AllByRecursion ChangeFits (insert_entry same_block cs block change)
inserted_fit block change [] new all = (new, tt)
inserted_fit block change (c ∷ cs) new all =
    by_test (AllByRecursion ChangeFits) (same_block block c.0) ((c.0, change) ∷ cs) (c ∷ insert_entry same_block cs block change)
    (λ t. (record { row = (all.0.row.0, new.row.1, new.row.2, new.row.3); length = new.length; bytes = new.bytes }, all.1))
    (λ t. (all.0, inserted_fit block change cs new all.1))

below : (n : ℕ) → has_next n ≡ true → n + 1 < 2 ^ 32
below n t = grind (arith, nat_tests)

fit_launched : (s : LogState) (name : SegName) (prior : Prior) (items : List Item) → LogFits s → IsLog name.log.0 → FitsName name → FitsPrior prior
    → ItemsFit items → FitAfter (log_launch s name prior items)
unfolding log_launch FitAfter
fit_launched s name prior items h log named before fit = record {
  log = h.log;
  inc = h.inc;
  end = h.end;
  groups = h.groups;
  dirty = h.dirty;
  flight = record { log = log; name = named; prior = before; group = h.groups s.log.0 name.seq; items = fit };
}

fit_writes : (s : LogState) (items : List Item) → LogFits s → has_next s.end.seq ≡ true → ItemsFit items → FitAfter (log_write s items)
fit_writes s items h next fit =
    fit_launched s (next_name s) (prior_from s.end) items h h.log (below s.end.seq next, (h.inc, omega arith)) (h.end.1, h.end.2) fit

fit_sealed : (s : LogState) → LogFits s → has_next s.end.seq ≡ true → FitAfter (log_seal s)
unfolding log_seal
fit_sealed s h next =
    fit_writes (record s { dirty = drop segment_blocks s.dirty }) (items_of 0 (take segment_blocks s.dirty))
    (record { log = h.log; inc = h.inc; end = h.end; groups = h.groups; dirty = dropped_fit segment_blocks s.dirty h.dirty; flight = h.flight }) next
    (items_fit (take segment_blocks s.dirty) (few_taken segment_blocks s.dirty) (all_take ChangeFits segment_blocks s.dirty h.dirty))

fit_still : (s : LogState) → LogFits s → FitAfter (still s)
unfolding FitAfter
fit_still s h = h

or_next : (full next : Bool) → (not full || next) ≡ true → full ≡ true → next ≡ true
or_next true next can t = can
or_next false next can t = contrary t

fit_if_full : (s : LogState) → LogFits s → can_go_on s ≡ true → FitAfter (log_go_on s)
unfolding log_go_on
fit_if_full s h can =
    by_test FitAfter (is_full s) (log_seal s) (still s) (λ t. fit_sealed s h (or_next (is_full s) (has_next s.end.seq) can t)) (λ t. fit_still s h)

fit_put : (s : LogState) (block : BlockId) (change : Change) → LogFits s → ChangeFits (block, change) → FitAfter (on_put s block change)
unfolding on_put
fit_put s block change h new =
    let t : LogState = waits s block change in
    by_test FitAfter (can_go_on t) (log_go_on t) (still s)
    (λ e. fit_if_full t
    (record { log = h.log; inc = h.inc; end = h.end; groups = h.groups; dirty = inserted_fit block change s.dirty new h.dirty; flight = h.flight }) e)
    (λ e. fit_still s h)

third : (a b x : Bool) → (a && b && x) ≡ true → x ≡ true
third true true x e = e
third true false x e = contrary e
third false b x e = contrary e

middle : (a b x : Bool) → (a && b && x) ≡ true → b ≡ true
middle true true x e = refl
middle true false x e = contrary e
middle false b x e = contrary e

fit_seal : (s : LogState) → LogFits s → FitAfter (on_seal s)
unfolding on_seal
fit_seal s h =
    by_test FitAfter (is_idle s && nat_lt 0 (length s.dirty) && has_next s.end.seq) (log_seal s) (still s)
    (λ e. fit_sealed s h (third (is_idle s) (nat_lt 0 (length s.dirty)) (has_next s.end.seq) e)) (λ e. fit_still s h)

fit_parts : (s : LogState) (items : List Item) → LogFits s → (has_text items ≡ true → ItemsFit items) → FitAfter (on_parts s items)
unfolding on_parts
fit_parts s items h fit =
    by_test FitAfter (is_idle s && has_next s.end.seq && has_text items) (log_write s items) (still s)
    (λ e. fit_writes s items h (middle (is_idle s) (has_next s.end.seq) (has_text items) e) (fit (third (is_idle s) (has_next s.end.seq) (has_text items) e)))
    (λ e. fit_still s h)

fit_followed : (s : LogState) (f : FlightState) (fate : Fate) → LogFits s → SegmentFits f.segment → can_follow s f fate ≡ true → FitAfter (followed s f fate)
unfolding restriped settled FitAfter
fit_followed s f Restripe h fits can =
    fit_launched s (next_attempt f.segment.name) f.segment.prior f.segment.items h fits.log
    (fits.name.0, (fits.name.1.0, below f.segment.name.pass.att can)) fits.prior fits.items
fit_followed s f Settle h fits can =
    fit_if_full (landed s f)
    (record { log = h.log; inc = h.inc; end = (fits.name.0, fits.name.1, fits.group); groups = h.groups; dirty = h.dirty; flight = tt }) can
fit_followed s f Wait h fits can = record { log = h.log; inc = h.inc; end = h.end; groups = h.groups; dirty = h.dirty; flight = fits }

fit_looked : (before s : LogState) (f : FlightState) → LogFits before → LogFits s → SegmentFits f.segment → FitAfter (looked_at before s f)
unfolding looked_at
fit_looked before s f h now fits =
    by_test FitAfter (can_follow s f (fate_of s.groups f)) (followed s f (fate_of s.groups f)) (still before)
    (λ e. fit_followed s f (fate_of s.groups f) now fits e) (λ e. fit_still before h)

fit_acked : (s : LogState) (name : SegName) (index generation : ℕ) → LogFits s → FitAfter (on_acked s name index generation)
unfolding on_acked
fit_acked s name index generation h =
    elim s.flight as
    (λ o. IfSome o (λ f. SegmentFits f.segment)
    → FitAfter (elim o [ None ↦ still s | Some f ↦ cond (is_of f name index generation) (looked_at s s (flight_note f index)) (still s) ])) [
      | None ↦ λ e. fit_still s h
      | Some f ↦ λ e. by_test FitAfter (is_of f name index generation) (looked_at s s (flight_note f index)) (still s)
          (λ t. fit_looked s s (flight_note f index) h h (record { log = e.log; name = e.name; prior = e.prior; group = e.group; items = e.items }))
          (λ t. fit_still s h)
    ] h.flight

fit_maps : (s : LogState) (m : GroupMapState) → LogFits s → MapFits m → FitAfter (on_maps s m)
unfolding on_maps
fit_maps s m h small =
    let t : LogState = record s { groups = m } in
    let now : LogFits t = record { log = h.log; inc = h.inc; end = h.end; groups = small; dirty = h.dirty; flight = h.flight } in
    elim s.flight as (λ o. IfSome o (λ f. SegmentFits f.segment) → FitAfter (elim o [ None ↦ still t | Some f ↦ looked_at s t f ])) [
      | None ↦ λ e. fit_still t now
      | Some f ↦ λ e. fit_looked s t f h now e
    ] h.flight

fit_tick : (s : LogState) → LogFits s → FitAfter (on_tick s)
unfolding on_tick FitAfter
fit_tick s h = elim s.flight as (λ o. FitAfter (elim o [ None ↦ still s | Some f ↦ record { state = s; outs = sending_send f } ])) [ None ↦ h | Some f ↦ h ]

-- ---- what it takes

-- what is put fits, and so do Parts that a segment can hold
abbrev pub Takes : Input → Type 0
Takes (Put block entry value) = PutFits block entry value
Takes (Parts items) = has_text items ≡ true → ItemsFit items
Takes (Maps m) = MapFits m
Takes _ = Unit {0}

fit_after : (s : LogState) (i : Input) → LogFits s → Takes i → LogFits (transition s i).state
unfolding FitAfter
fit_after s (Put block entry value) h fits =
    fit_put s block (record { entry = entry; value = value }) h (record { row = fits.row; length = fits.length; bytes = fits.bytes })
fit_after s (Parts items) h fits = fit_parts s items h fits
fit_after s Seal h fits = fit_seal s h
fit_after s (Acked name index generation) h fits = fit_acked s name index generation h
fit_after s (Maps m) h fits = fit_maps s m h fits
fit_after s Tick h fits = fit_tick s h

fit_all : (s : LogState) (later : List Input) → LogFits s → AllByRecursion Takes later → LogFits (state_after s later)
fit_all s [] h all = h
fit_all s (i ∷ later) h all = fit_all (transition s i).state later (fit_after s i h all.0) all.1

in_flight : (o : Option FlightState) → IfSome o (λ f. SegmentFits f.segment) → IfSome o (λ f. IsWritten f.segment)
in_flight None h = tt
in_flight (Some f) h = segment_written f.segment h

-- so it is of a log that starts behind an end that fits, over groups whose ids fit
pub flies_written : (log : LogId) (inc : ℕ) (end : End) (m : GroupMapState) → IsLog log.0 → inc < 2 ^ 32 → EndFits end → MapFits m → (later : List Input)
    → AllByRecursion Takes later → IfSome (state_after (log_start log inc end m) later).flight (λ f. IsWritten f.segment)
flies_written log inc end m fact small fits ids later all =
    in_flight (state_after (log_start log inc end m) later).flight
    (fit_all (log_start log inc end m) later (record { log = fact; inc = small; end = fits; groups = ids; dirty = tt; flight = tt }) all).flight
