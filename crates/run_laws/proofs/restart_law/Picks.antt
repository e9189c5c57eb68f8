-- Down to where an opening reads back tells the low by which it picked where the log goes on: right after the pick that is no more than this low, which stays
-- while the owner opens its log in one boot.
use Rattle.std.proofs.Common.{◌≡◌, ◌⊎◌, ⊎_elim, ℕ, zero, suc, ◌+◌, ◌-◌, ◌≤◌, ◌&&◌, Bool, true, false, cond, List, [], Option, Some, None, length, slice_get, inl, inr, refl, sym, ap, ◌∙◌, arith}
use Rattle.std.specs.Prelude.{IfSome}
use Rattle.client_log.specs.LogState.{LogState, log_start as new_log}
use Rattle.client_log.specs.Transition as log
use Rattle.node_logs.specs.client_log_tie.ClientEvents.{IsOnce, has_picked}
use Rattle.node_logs.specs.client_log_tie.Owner.{Scene}
use Rattle.core_world.specs.declared.any_node.AnyNode.{AnyNode}
use Rattle.group_map.specs.GroupMapState.{GroupMapState}
use Rattle.log_flight.specs.Flights.{FlightState}
use Rattle.log_law.specs.Events.{Happens, Runs, StartsWith}
use Rattle.log_law.specs.Events.Happens.{Acts, Bars, Crashes, Drops, Hears, Lists, Opens, Publishes, Raises, Renews, Restarts, Serves, Welcomes, Writes}
use Rattle.log_law.specs.Events.Runs.{Begun, On}
use Rattle.log_law.specs.Laws.{Moment}
use Rattle.log_law.specs.Net.{Net, Owner, Told, after_flight, after_told, chain_in, is_reading}
use Rattle.log_law.specs.Net.Owner.{Down, Opening, Serving, Writing}
use Rattle.log_law.specs.Net as net
use Rattle.log_law.specs.ReadBack.{OpeningsReadDown, ReadsDown}
use Rattle.log_law.specs.Restarts.{is_serving}
use Rattle.log_scan.specs.declared.stage.Stage.{Stage}
use Rattle.log_scan.specs.declared.stage.Stage.TheVariants.{Asks, Gathers, Hails, Over, Reads}
use Rattle.log_scan.specs.ScanState.{ScanState}
use Rattle.log_scan.specs.Transition as scan
use Rattle.log_tie.specs.Setting.{Setting}
use Rattle.node_logs.proofs.node_log_tie.Others.{same_or_other}
use Rattle.segment_format.specs.declared.segment.Segment.{Segment}
use Rattle.world_base.specs.declared.estate.Estate.{Estate}
use Rattle.world_base.specs.declared.event.Event.{Event}
use Rattle.world_base.specs.Events.{node_of}
use Rattle.run_laws.specs.world_logs.Lines.{Line, setting}
use Rattle.headline.specs.Logs.{Role, owner_by, renews}
use Rattle.xfs_base.proofs.Booleans.{by_test, contrary}
use Rattle.xfs_base.specs.declared.segment.End.{End}
use Rattle.xfs_base.specs.Steps.{still}
use Rattle.run_laws.specs.restart_law.Below.{Below}
use Rattle.headline.specs.Restarts.{scans_to}
use Rattle.run_laws.proofs.restart_law.Nodes.{owner_reads_to}
use Rattle.run_laws.proofs.restart_law.Spans.{first_serves, serves_straight}

-- ---- one event

-- it had picked, in this boot, by the same low
record Kept (n o : Net) : Type 0 where
  had : has_picked n.owner ≡ true
  inc : o.inc ≡ n.inc
  picked : o.picked ≡ n.picked

-- it reads back to no more than the low of the pick
pub record Bounded (x : Owner) (picked : ℕ) : Type 0 where
  pub low : ℕ
  pub reads : owner_reads_to x ≡ Some low
  pub limit : low ≤ picked

reads_down : (st : Stage) (low : ℕ) → is_reading st ≡ true → scans_to st low ≡ Some low
reads_down Hails low fact = contrary fact
reads_down (Gathers lists) low fact = contrary fact
reads_down (Asks lists) low fact = contrary fact
reads_down (Reads b r) low fact = refl
reads_down Over low fact = contrary fact

-- the first segment leaves the end of the log
parts_end : (s : LogState) → (log.on_parts s []).state.end ≡ s.end
unfolding log.on_parts log.log_launch
parts_end s =
    by_test (λ (d : log.Done). d.state.end ≡ s.end) (log.is_idle s && log.has_next s.end.seq && true) (log.log_write s []) (still s) (λ t. refl)
    (λ t. refl)

module _ (g : Setting) (n : Net) where
  by_flight : (chain : List Segment) (s : LogState) (d : log.Done) (o : Option FlightState) → n.owner ≡ Writing chain s
      → has_picked (after_flight g n chain d o).owner ≡ true
      → Kept n (after_flight g n chain d o)
  by_flight chain s d None fact picked = contrary picked
  by_flight chain s d (Some f) fact picked = record { had = ap has_picked fact; inc = refl; picked = refl }

  -- an opening had picked, or it picks
  module _ (s : ScanState) (d : scan.Done) (fact : n.owner ≡ Opening s) where
    reads_on : (o : Net) → o.inc ≡ n.inc → o.picked ≡ net.picked_by n s d → is_reading s.stage ≡ true → Kept n o
    reads_on o inc picked reading = record {
      had = ap has_picked fact ∙ reading;
      inc = inc;
      picked = picked ∙ ap (λ t. cond t n.picked d.state.opening.low) reading;
    }

    new : (o : Net) → o.picked ≡ net.picked_by n s d → is_reading s.stage ≡ false → o.picked ≡ d.state.opening.low
    new o picked none = picked ∙ ap (λ t. cond t n.picked d.state.opening.low) none

    scans : (o : Net) → o.inc ≡ n.inc → o.owner ≡ Opening d.state → o.picked ≡ net.picked_by n s d → has_picked o.owner ≡ true
        → Kept n o ⊎ Bounded o.owner o.picked
    scans o inc owner picked has = by (is_reading s.stage) refl
      where
        by : (t : Bool) → is_reading s.stage ≡ t → Kept n o ⊎ Bounded o.owner o.picked
        by true reading = inl (reads_on o inc picked reading)
        by false none = inr (record {
          low = d.state.opening.low;
          reads = ap owner_reads_to owner ∙ reads_down d.state.stage d.state.opening.low (sym (ap has_picked owner) ∙ has);
          limit = (let e = new o picked none in omega arith);
        })

    by_told : (t : Option Told) (m : Option GroupMapState) → IfSome t (λ x. StartsWith g n.inc d x) → IfSome t (ReadsDown n d.state.opening.low)
        → has_picked (after_told g n s d t m).owner ≡ true
        → Kept n (after_told g n s d t m) ⊎ Bounded (after_told g n s d t m).owner (after_told g n s d t m).picked
    by_told None m can reads has = scans (after_told g n s d None m) refl refl refl has
    by_told (Some t) None can reads has = scans (after_told g n s d (Some t) None) refl refl refl has
    by_told (Some t) (Some m) can reads has = by (is_reading s.stage) refl
      where
        by : (b : Bool) → is_reading s.stage ≡ b
            → Kept n (after_told g n s d (Some t) (Some m)) ⊎ Bounded (after_told g n s d (Some t) (Some m)).owner (after_told g n s d (Some t) (Some m)).picked
        by true reading = inl (reads_on (after_told g n s d (Some t) (Some m)) refl refl reading)
        by false none = inr (record {
          low = (net.first_write g n.inc t.end m).state.end.seq + 1 - length t.segments;
          reads = refl;
          limit =
              (let e = new (after_told g n s d (Some t) (Some m)) refl none in
              let same = ap (λ (x : End). x.seq) (parts_end (new_log g.log n.inc t.end m)) in
              let down = reads.down in omega arith);
        })

module _ (below : OpeningsReadDown) (g : Setting) (n : Net) (m : Moment g n) where
  happens_so : (o : Net) → Happens g n o → has_picked o.owner ≡ true → Kept n o ⊎ Bounded o.owner o.picked
  happens_so o (Acts s i fact came texts) has = contrary has
  happens_so o (Writes chain s i fact came texts) has = inl (by_flight g n chain s (log.transition s i) (log.transition s i).state.flight fact has)
  happens_so o (Opens s i fact came can) has =
      by_told g n s (scan.transition s i) fact (chain_in (scan.transition s i).outs) (scan.transition s i).state.opening.groups can
      (below g n m s fact i came) has
  happens_so o Crashes has = contrary has
  happens_so o (Restarts down) has = contrary has
  happens_so o (Renews map high doubts down came) has = contrary has
  happens_so o (Serves v deed some came) has = inl (record { had = has; inc = refl; picked = refl })
  happens_so o (Bars v l pass) has = inl (record { had = has; inc = refl; picked = refl })
  happens_so o (Lists v) has = inl (record { had = has; inc = refl; picked = refl })
  happens_so o (Hears v generation past reached) has = inl (record { had = has; inc = refl; picked = refl })
  happens_so o (Raises low name past fact low_below) has = inl (record { had = has; inc = refl; picked = refl })
  happens_so o (Publishes map whole) has = inl (record { had = has; inc = refl; picked = refl })
  happens_so o (Welcomes inc ask news map hello low whole) has = inl (record { had = has; inc = refl; picked = refl })
  happens_so o (Drops lists meta listed within low_below) has = inl (record { had = has; inc = refl; picked = refl })

  once_so : (o : Net) (runs : Runs g n o) → IsOnce runs → has_picked o.owner ≡ true → Kept n o ⊎ Bounded o.owner o.picked
  once_so o Begun once has = inl (record { had = has; inc = refl; picked = refl })
  once_so o (On Begun happens) once has = happens_so o happens has
  once_so o (On (On run before) happens) once has = absurd once

-- ---- along the line

serves_unpicked : (x : Owner) → is_serving x ≡ true → has_picked x ≡ false
serves_unpicked Down fact = refl
serves_unpicked (Opening s) fact = contrary fact
serves_unpicked (Writing chain s) fact = contrary fact
serves_unpicked (Serving s) fact = refl

module _ (b : Below) (base : Setting) (e : Estate AnyNode) (r : Role) (keeps : renews r ≡ false) (line : Line base e r) where
  abbrev small : ℕ → Net
  small count = (line.scene count).net

  -- in this boot it read back at some count to no more than the low of its pick
  pub record Picked (count : ℕ) : Type 0 where
    pub when : ℕ
    pub within : when ≤ count
    pub boot : (small when).inc ≡ (small count).inc
    pub bound : Bounded (small when).owner (small count).picked

  here : (count : ℕ) → Bounded (small count).owner (small count).picked → Picked count
  here count bound = record { when = count; within = omega arith; boot = refl; bound = bound }

  stays : (count : ℕ) → (small (suc count)).inc ≡ (small count).inc → (small (suc count)).picked ≡ (small count).picked → Picked count → Picked (suc count)
  stays count inc picked p = record {
    when = p.when;
    within = (let w = p.within in omega arith);
    boot = p.boot ∙ sym inc;
    bound = record { low = p.bound.low; reads = p.bound.reads; limit = (let m = p.bound.limit in let s = picked in omega arith) };
  }

  module _ (count : ℕ) (has : has_picked (small (suc count)).owner ≡ true) (before : has_picked (small count).owner ≡ true → Picked count) where
    same_so : (small (suc count)).inc ≡ (small count).inc → (small (suc count)).owner ≡ (small count).owner
        → (small (suc count)).picked ≡ (small count).picked → Picked (suc count)
    same_so inc owner picked = stays count inc picked (before (sym (ap has_picked owner) ∙ has))

    own_so : IsOnce (line.goes count) → Picked (suc count)
    own_so once =
        ⊎_elim (λ k. stays count k.inc k.picked (before k.had)) (λ bound. here (suc count) bound)
        (once_so b.logs.down (setting base e r) (small count) (line.stands count).moment (small (suc count)) (line.goes count) once has)

    event_so : Picked (suc count)
    event_so = by (slice_get e.events count) refl
      where
        by : (o : Option Event) → slice_get e.events count ≡ o → Picked (suc count)
        by None fact =
            same_so (ap (λ (w : Scene). w.net.inc) (line.ended count fact)) (ap (λ (w : Scene). w.net.owner) (line.ended count fact))
            (ap (λ (w : Scene). w.net.picked) (line.ended count fact))
        by (Some event) fact =
            ⊎_elim (λ own. own_so ((serves_straight r (line.goes count) keeps (line.straight count event fact own)).picks has))
            (λ away. let left = line.others count event fact away in same_so left.inc left.owner left.picked) (same_or_other (owner_by r) (node_of event))

  pub picks : (count : ℕ) → has_picked (small count).owner ≡ true → Picked count
  picks zero has = contrary (sym (serves_unpicked (small 0).owner (first_serves b base e r keeps line)) ∙ has)
  picks (suc count) has = event_so count has (picks count)
