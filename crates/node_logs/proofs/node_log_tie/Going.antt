-- Each run of the small world goes on: what was sent stays sent, and no generation and no horizon falls.
use Rattle.std.proofs.Common.{◌≡◌, ℕ, ◌==◌, ◌≤◌, ◌<◌, List, [], ◌∷◌, ◌++◌, Option, Some, None, refl, sym, ap, subst, inl, inr, arith}
use Rattle.std.proofs.lemmas.Bool.{eqb-true}
use Rattle.xfs_base.proofs.Booleans.{by_test}
use Rattle.xfs_base.specs.declared.fragment.Fragment.{Fragment}
use Rattle.xfs_base.specs.declared.segment.LogId.{LogId}
use Rattle.xfs_base.specs.declared.segment.Pass.{Pass}
use Rattle.xfs_base.specs.Limits.{u32_end}
use Rattle.xfs_base.specs.Segments.{pass_cmp}
use Rattle.xfs_base.specs.Stamps.{is_greater}
use Rattle.segment_format.specs.declared.segment.Segment.{Segment}
use Rattle.group_map.specs.GroupMapState.{GroupMapState}
use Rattle.fragment_store.specs.Calls.{shelf_store, on_fence}
use Rattle.fragment_store.specs.ShelfState.{ShelfState, fence_of, is_held, is_marked}
use Rattle.log_flight.specs.Flights.{FlightState}
use Rattle.client_log.specs.Transition as log
use Rattle.log_scan.specs.ScanState.{ScanState}
use Rattle.log_scan.specs.Transition as scan
use Rattle.log_protocol.specs.Tables.{put, In}
use Rattle.log_tie.specs.Setting.{Setting}
use Rattle.log_tie.specs.Shelves.{is_stored, Deed, shelf_after}
use Rattle.log_tie.specs.Shelves.Deed.{Stores, Fetches, Fences, Deletes, Fills, Loses}
use Rattle.log_law.specs.Net.{Net, Packet, Told, log_packets, scan_packets, chain_in, first_write, answers, after_flight, after_told}
use Rattle.log_law.specs.Events.{CameToServer, Happens, Runs}
use Rattle.log_law.specs.Events.Happens.{Acts, Writes, Opens, Serves, Bars, Lists, Raises, Publishes, Welcomes, Drops}
use Rattle.log_law.specs.Events.Runs.{Begun, On}
use Rattle.node_logs.proofs.node_log_tie.Sight.{Later}
use Rattle.node_logs.proofs.node_log_tie.Sights.{at_once, then_later}

-- ---- lists and tables

pub in_after : {X : Type 0} (xs ys : List X) (x : X) → In x ys → In x (xs ++ ys)
in_after [] ys x fact = fact
in_after (y ∷ xs) ys x fact = inr (in_after xs ys x fact)

pub in_before : {X : Type 0} (xs ys : List X) (x : X) → In x xs → In x (xs ++ ys)
in_before [] ys x fact = absurd fact
in_before (y ∷ xs) ys x (inl e) = inl e
in_before (y ∷ xs) ys x (inr fact) = inr (in_before xs ys x fact)

-- what holds of the new entry, and of the old ones, holds of each
pub put_each : {X : Type 0} (P : ℕ → X → Type 0) (f : ℕ → X) (a : ℕ) (y : X) → P a y → ((u : ℕ) → P u (f u)) → (u : ℕ) → P u (put f a y u)
put_each P f a y new old u = by_test (P u) (u == a) y (f u) (λ t. subst (λ b. P b y) (sym (eqb-true u a t)) new) (λ t. old u)

-- ---- a shelf

NoLower : ShelfState → ShelfState → Type 0
NoLower s t = s.generation ≤ t.generation

module _ (s : ShelfState) where
  itself_no_lower : NoLower s s
  unfolding NoLower
  itself_no_lower = omega arith

  kept_no_lower : (f : Fragment) → NoLower s (shelf_store s f)
  unfolding NoLower
  kept_no_lower f = by_test (NoLower s) (is_held s f.meta.name) s _ (λ t. omega arith) (λ t. omega arith)

  pub fence_no_lower : (log : LogId) (pass : Pass) → s.generation ≤ (on_fence s log pass).generation
  fence_no_lower log pass =
      by_test (λ (t : ShelfState). s.generation ≤ t.generation) (is_greater (pass_cmp pass (fence_of s.fences log))) _ s (λ t. omega arith) (λ t. omega arith)

  deed_no_lower : (g : Setting) (n : Net) (v : ℕ) (deed : Deed) → (n.shelves v ≡ s) → CameToServer g n v deed → NoLower s (shelf_after g s deed)
  unfolding NoLower
  deed_no_lower g n v (Stores f generation) fact came = by_test (NoLower s) (is_stored s f generation) (shelf_store s f) s (λ t. kept_no_lower f) (λ t. omega arith)
  deed_no_lower g n v (Fetches name) fact came = omega arith
  deed_no_lower g n v (Fences inc) fact came = fence_no_lower g.log (record { inc = inc; att = 0 })
  deed_no_lower g n v (Deletes name) fact came = omega arith
  deed_no_lower g n v (Fills f) fact came = by_test (NoLower s) (is_marked s.marks f.meta.name) s (shelf_store s f) (λ t. omega arith) (λ t. kept_no_lower f)
  deed_no_lower g n v Loses fact came = (let e = ap (λ (t : ShelfState). t.generation) fact in let c : (n.shelves v).generation < u32_end = came in omega arith)

-- ---- what happens

module _ (g : Setting) (n : Net) where
  -- what is sent anew stands before what was sent
  says_more : (o : Net) (more : List Packet) → o.shelves ≡ n.shelves → o.sent ≡ more ++ n.sent → n.low ≤ o.low → Later n o
  says_more o more shelves sent low = record {
    low = low;
    sent = λ p fact. subst (λ ps. In p ps) (sym sent) (in_after more n.sent p fact);
    reached = λ v. (let e = ap (λ (f : ℕ → ShelfState). (f v).generation) shelves in omega arith);
  }

  serves_later : (v : ℕ) (deed : Deed) → CameToServer g n v deed
      → Later n (record n { shelves = put n.shelves v (shelf_after g (n.shelves v) deed); sent = answers g v (n.shelves v) deed ++ n.sent })
  unfolding NoLower
  serves_later v deed came = record {
    low = omega arith;
    sent = λ p fact. in_after (answers g v (n.shelves v) deed) n.sent p fact;
    reached = put_each (λ (u : ℕ) (t : ShelfState). (n.shelves u).generation ≤ t.generation) n.shelves v _ (deed_no_lower (n.shelves v) g n v deed refl came)
        (λ u. omega arith);
  }

  bars_later : (v : ℕ) (log : LogId) (pass : Pass) → Later n (record n { shelves = put n.shelves v (on_fence (n.shelves v) log pass) })
  bars_later v log pass = record {
    low = omega arith;
    sent = λ p fact. fact;
    reached = put_each (λ (u : ℕ) (t : ShelfState). (n.shelves u).generation ≤ t.generation) n.shelves v _ (fence_no_lower (n.shelves v) log pass)
        (λ u. omega arith);
  }

  flight_later : (chain : List Segment) (d : log.Done) (f : Option FlightState) → Later n (after_flight g n chain d f)
  flight_later chain d None = says_more _ (log_packets d.outs) refl refl (omega arith)
  flight_later chain d (Some f) = says_more _ (log_packets d.outs) refl refl (omega arith)

  told_later : (s : ScanState) (d : scan.Done) (t : Option Told) (m : Option GroupMapState) → Later n (after_told g n s d t m)
  told_later s d None m = says_more _ (scan_packets n.inc d.outs) refl refl (omega arith)
  told_later s d (Some t) None = says_more _ (scan_packets n.inc d.outs) refl refl (omega arith)
  told_later s d (Some t) (Some m) = record {
    low = omega arith;
    sent = λ p fact. in_after (log_packets (first_write g n.inc t.end m).outs) _ p (in_after (scan_packets n.inc d.outs) n.sent p fact);
    reached = λ v. omega arith;
  }

pub happened_later : (g : Setting) (n o : Net) → Happens g n o → Later n o
happened_later g n o (Acts s i serves came text) = says_more g n _ (log_packets (log.transition s i).outs) refl refl (omega arith)
happened_later g n o (Writes chain s i writes came text) = flight_later g n chain (log.transition s i) (log.transition s i).state.flight
happened_later g n o (Opens s i opens came can) =
    told_later g n s (scan.transition s i) (chain_in (scan.transition s i).outs) (scan.transition s i).state.opening.groups
happened_later g n o (Serves v deed some came) = serves_later g n v deed came
happened_later g n o (Bars v log pass) = bars_later g n v log pass
happened_later g n o (Lists v) = says_more g n _ (_ ∷ []) refl refl (omega arith)
happened_later g n o (Raises low name up fact below) = says_more g n _ [] refl refl up
happened_later g n o (Publishes m whole) = says_more g n _ (_ ∷ []) refl refl (omega arith)
happened_later g n o (Welcomes inc ask news m hello low whole) = says_more g n _ (_ ∷ []) refl refl (omega arith)
happened_later g n o (Drops lists meta sent among below) = says_more g n _ (_ ∷ []) refl refl (omega arith)
happened_later g n o _ = says_more g n _ [] refl refl (omega arith)

-- ---- runs

pub run_later : (g : Setting) (n o : Net) → Runs g n o → Later n o
run_later g n o Begun = at_once n
run_later g n o (On {m = m} run happens) = then_later n m o (run_later g n m run) (happened_later g m o happens)

pub runs_on : (g : Setting) (n m o : Net) → Runs g n m → Runs g m o → Runs g n o
runs_on g n m o first Begun = first
runs_on g n m o first (On {m = k} run happens) = On (runs_on g n m k first run) happens
