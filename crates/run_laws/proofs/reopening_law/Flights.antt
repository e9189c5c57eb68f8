-- What the owner had in flight when it served last is what is in flight while it serves; it stays while the owner serves nowhere.
use Rattle.std.proofs.Common.{◌≡◌, ◌≤◌, ℕ, suc, false, List, Option, Some, None, refl, sym, ap, subst, ◌∙◌, arith}
use Rattle.std.specs.Prelude.{IfSome}
use Rattle.client_log.specs.LogState.{LogState}
use Rattle.client_log.specs.Transition as log
use Rattle.node_logs.specs.client_log_tie.ClientEvents.{NeverServes}
use Rattle.group_map.specs.GroupMapState.{GroupMapState}
use Rattle.log_flight.specs.Flights.{FlightState}
use Rattle.log_law.specs.Events.{Happens, Runs}
use Rattle.log_law.specs.Events.Happens.{Acts, Writes, Opens, Crashes, Restarts, Renews, Serves, Bars, Lists, Hears, Raises, Publishes, Welcomes, Drops}
use Rattle.log_law.specs.Events.Runs.{Begun, On}
use Rattle.log_law.specs.Net.{Net, Owner, Told, after_flight, after_told, chain_in}
use Rattle.log_law.specs.Net.Owner.{Down, Opening, Serving, Writing}
use Rattle.log_law.specs.Restarts.{flight_in, is_serving, last_flight}
use Rattle.log_law.specs.Tails.{then_on}
use Rattle.log_scan.specs.ScanState.{ScanState}
use Rattle.log_scan.specs.Transition as scan
use Rattle.log_tie.specs.Setting.{Setting}
use Rattle.node_slots.specs.node_tie.LogRows.{LogSeen, rows_told}
use Rattle.node_slots.specs.node_tie.Sight.{SameLog}
use Rattle.segment_format.specs.declared.segment.Segment.{Segment}
use Rattle.token_law.specs.Books.{Books}
use Rattle.xfs_base.proofs.Booleans.{contrary}
use Rattle.run_laws.specs.reopening_law.Flights.{FlightsOfOwners, FlightsStay, LastFlew, OthersLeaveFlights}

-- ---- while it serves

pub served_last : (g : Setting) (first n : Net) (run : Runs g first n) (s : LogState) → n.owner ≡ Serving s → last_flight run ≡ s.flight
served_last g first n Begun s serves = ap (λ x. flight_in x None) serves
served_last g first n (On run happens) s serves = ap (λ x. flight_in x (last_flight run)) serves

-- the books that see a log have its flight
seen_flew : (k : Books) (l : ℕ) (s : LogState) → LogSeen k l s → LastFlew k l s.flight
seen_flew k l s seen = record { flying = seen.flying; next = next s.flight seen.flight }
  where
    next : (x : Option FlightState)
        → IfSome x (λ f. (f.segment.name.seq ≡ suc s.end.seq) × (k.rows l (suc (k.end l)) ≡ rows_told f.segment.items))
        → IfSome x (λ f. (f.segment.name.seq ≡ suc (k.end l)) × (k.rows l (suc (k.end l)) ≡ rows_told f.segment.items))
    next None h = tt
    next (Some f) h = (h.0 ∙ ap suc (sym seen.end), h.1)

pub flights_of_owners : FlightsOfOwners
flights_of_owners g first n run s serves k l seen =
    (let fact = served_last g first n run s serves in record { flying = fact; books = subst (LastFlew k l) (sym fact) (seen_flew k l s seen) })

-- ---- while it doesn't

away_keeps : (o : Owner) (flight : Option FlightState) → is_serving o ≡ false → flight_in o flight ≡ flight
away_keeps Down flight away = refl
away_keeps (Opening s) flight away = refl
away_keeps (Writing chain s) flight away = refl
away_keeps (Serving s) flight away = contrary (sym away)

pub last_stays : (g : Setting) (first n o : Net) (run : Runs g first n) (goes : Runs g n o) → NeverServes goes → last_flight (then_on run goes) ≡ last_flight run
last_stays g first n o run Begun never = refl
last_stays g first n o run (On {m = m} goes happens) never =
    away_keeps o.owner (last_flight (then_on run goes)) never.0 ∙ last_stays g first n m run goes never.1

pub same_flew : (k m : Books) (l : ℕ) (flight : Option FlightState) → SameLog k m l → LastFlew k l flight → LastFlew m l flight
same_flew k m l flight same flew = record { flying = same.flying ∙ flew.flying; next = next flight flew.next }
  where
    next : (x : Option FlightState)
        → IfSome x (λ f. (f.segment.name.seq ≡ suc (k.end l)) × (k.rows l (suc (k.end l)) ≡ rows_told f.segment.items))
        → IfSome x (λ f. (f.segment.name.seq ≡ suc (m.end l)) × (m.rows l (suc (m.end l)) ≡ rows_told f.segment.items))
    next None h = tt
    next (Some f) h = (h.0 ∙ ap suc (sym same.end), ap (λ r. r (suc (m.end l))) same.rows ∙ (ap (λ q. k.rows l (suc q)) same.end ∙ h.1))

pub flights_stay : FlightsStay
flights_stay g first n o run goes never k m l same flew =
    subst (LastFlew m l) (sym (last_stays g first n o run goes never)) (same_flew k m l (last_flight run) same flew)

-- ---- others

-- how far the owner has come in its boot
progress : Owner → ℕ
progress (Opening s) = 0
progress (Writing chain s) = 1
progress (Serving s) = 2
progress Down = 3

-- a boot begins, or the owner comes no less far
record Comes (n o : Net) : Type 0 where
  inc : n.inc ≤ o.inc
  far : o.inc ≡ n.inc → progress n.owner ≤ progress o.owner

module _ (g : Setting) where
  same_comes : (n o : Net) → o.inc ≡ n.inc → o.owner ≡ n.owner → Comes n o
  same_comes n o inc owner = record { inc = omega arith; far = λ e. (let a = ap progress owner in omega arith) }

  writing_comes : (n : Net) (chain : List Segment) (d : log.Done) (s : LogState) (x : Option FlightState) → n.owner ≡ Writing chain s
      → Comes n (after_flight g n chain d x)
  unfolding progress
  writing_comes n chain d s None fact = record { inc = omega arith; far = λ e. (let a = ap progress fact in omega arith) }
  writing_comes n chain d s (Some f) fact = record { inc = omega arith; far = λ e. (let a = ap progress fact in omega arith) }

  scan_comes : (n : Net) (s : ScanState) (d : scan.Done) (t : Option Told) (m : Option GroupMapState) → n.owner ≡ Opening s → Comes n (after_told g n s d t m)
  unfolding progress
  scan_comes n s d None m fact = record { inc = omega arith; far = λ e. (let a = ap progress fact in omega arith) }
  scan_comes n s d (Some t) None fact = record { inc = omega arith; far = λ e. (let a = ap progress fact in omega arith) }
  scan_comes n s d (Some t) (Some m) fact = record { inc = omega arith; far = λ e. (let a = ap progress fact in omega arith) }

  crash_far : (x : Owner) → progress x ≤ 3
  unfolding progress
  crash_far Down = omega arith
  crash_far (Opening s) = omega arith
  crash_far (Writing chain s) = omega arith
  crash_far (Serving s) = omega arith

  later : (n : ℕ) → suc n ≡ n → ⊥
  later n e = omega arith

  comes : (n o : Net) → Happens g n o → Comes n o
  unfolding progress
  comes n o (Acts s i fact came texts) = record { inc = omega arith; far = λ e. (let a = ap progress fact in omega arith) }
  comes n o (Writes chain s i fact came texts) = writing_comes n chain (log.transition s i) s (log.transition s i).state.flight fact
  comes n o (Opens s i fact came can) =
      scan_comes n s (scan.transition s i) (chain_in (scan.transition s i).outs) (scan.transition s i).state.opening.groups fact
  comes n o Crashes = record { inc = omega arith; far = λ e. crash_far n.owner }
  comes n o (Restarts fact) = record { inc = omega arith; far = λ e. absurd (later n.inc e) }
  comes n o (Renews m high doubts fact came) = record { inc = omega arith; far = λ e. absurd (later n.inc e) }
  comes n o (Serves v deed some came) = same_comes n o refl refl
  comes n o (Bars v l pass) = same_comes n o refl refl
  comes n o (Lists v) = same_comes n o refl refl
  comes n o (Hears v generation up reached) = same_comes n o refl refl
  comes n o (Raises low name up fact below) = same_comes n o refl refl
  comes n o (Publishes m whole) = same_comes n o refl refl
  comes n o (Welcomes inc ask news m fact least whole) = same_comes n o refl refl
  comes n o (Drops lists meta fact listed below) = same_comes n o refl refl

  goes_comes : (n o : Net) → Runs g n o → Comes n o
  goes_comes n o Begun = record { inc = omega arith; far = λ e. omega arith }
  goes_comes n o (On {m = m} run happens) =
      (let a = goes_comes n m run in let b = comes m o happens in
      let x = a.inc in let y = b.inc in
      record { inc = omega arith; far = λ e. (let p = a.far (omega arith) in let q = b.far (omega arith) in omega arith) })

  not_serving : (x : Owner) (y : Owner) → progress x ≤ progress y → progress y ≤ progress x → is_serving x ≡ false → is_serving y ≡ false
  unfolding progress
  not_serving x (Serving s) a b away = absurd (by x a b away)
    where
      by : (x : Owner) → progress x ≤ 2 → 2 ≤ progress x → is_serving x ≡ false → ⊥
      by Down a b away = omega arith
      by (Opening t) a b away = omega arith
      by (Writing chain t) a b away = omega arith
      by (Serving t) a b away = contrary (sym away)
  not_serving x Down a b away = refl
  not_serving x (Opening s) a b away = refl
  not_serving x (Writing chain s) a b away = refl

  -- what comes no further than the owner had come
  none_serve : (n o : Net) (goes : Runs g n o) → o.inc ≡ n.inc → progress o.owner ≤ progress n.owner → is_serving n.owner ≡ false → NeverServes goes
  none_serve n o Begun inc far away = tt
  none_serve n o (On {m = m} run happens) inc far away =
      let a = goes_comes n m run in
      let b = comes m o happens in
      let x = a.inc in
      let y = b.inc in
      let same : m.inc ≡ n.inc = omega arith in
      let p = a.far same in
      let q = b.far (omega arith) in
      (not_serving n.owner o.owner (omega arith) far away, none_serve n m run same (omega arith) away)

pub others_leave_flights : OthersLeaveFlights
others_leave_flights g n o goes inc owner away = none_serve g n o goes inc (let a = ap progress owner in omega arith) away
