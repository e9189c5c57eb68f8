-- The span of a restart along the line of a log: from the last count at which its owner served on nothing is filed, and what a server lacked there it lacked
-- between two events, or it lost its disk in one.
use Rattle.std.proofs.Common.{◌≡◌, ◌⊎◌, ⊎_elim, ℕ, zero, suc, ◌<◌, ◌≤◌, Bool, true, false, is_some, Option, Some, None, slice_get, inl, inr, refl, sym, ap, subst, ◌∙◌, arith}
use Rattle.node_logs.specs.client_log_tie.ClientEvents.{NeverHasLog, NeverServes, ServesStraight, has_log}
use Rattle.node_logs.specs.client_log_tie.Owner.{Scene}
use Rattle.core_world.specs.declared.any_node.AnyNode.{AnyNode}
use Rattle.fragment_store.specs.ShelfState.{held_at, is_held}
use Rattle.group_map.specs.GroupMapState.{GroupMapState}
use Rattle.log_law.proofs.Filing.{grown}
use Rattle.log_law.specs.Events.{Runs}
use Rattle.log_law.specs.Events.Runs.{Begun, On}
use Rattle.log_law.specs.Laws.{Moment}
use Rattle.log_law.specs.Net.{Net, opening}
use Rattle.log_law.specs.Restarts.{IsSureRun, LackedInSpan, Lacks, is_serving, is_writing, wrote_in}
use Rattle.log_law.specs.Tails.{then_on}
use Rattle.log_protocol.specs.Tables.{In}
use Rattle.log_tie.specs.Setting.{Setting}
use Rattle.node_logs.proofs.node_log_tie.Going.{run_later}
use Rattle.node_logs.proofs.node_log_tie.Others.{same_or_other}
use Rattle.world_base.specs.declared.estate.Estate.{Estate}
use Rattle.world_base.specs.declared.event.Event.{Event}
use Rattle.world_base.specs.Events.{node_of}
use Rattle.run_laws.proofs.world_logs.Line.{last_or_before}
use Rattle.run_laws.specs.world_logs.Lines.{IsBegun, Line, StraightBy, setting}
use Rattle.headline.specs.Logs.{Role, owner_by, renews}
use Rattle.headline.specs.Logs.Role.{OfClient, OfCleaner, OfManager}
use Rattle.xfs_base.proofs.Booleans.{contrary}
use Rattle.xfs_base.specs.declared.fragment.Fragment.{Fragment}
use Rattle.xfs_base.specs.declared.segment.SegName.{SegName}
use Rattle.run_laws.specs.restart_law.Below.{Below}
use Rattle.run_laws.proofs.restart_law.Progress.{boot_rises, left_there, never_has_log_there, never_serves_there, sure_before}
use Rattle.run_laws.proofs.restart_law.Written.{at_most, lacked_spans, log_writes, no_span, none_wrote_on, serving_wrote, span_boot, span_boot_past, span_boot_stays, writing_picked, writing_wrote, wrote_on, wrote_once}

-- ---- one event

-- The server lacked its fragment at some moment of a run, in a span that begins with this boot at the run's end.
record LackedOn {g : Setting} {a n : Net} (run : Runs g a n) (o : Net) (name : SegName) (v boot : ℕ) : Type 0 where
  between : Net
  first : Runs g n between
  later : Runs g between o
  begun : boot ≤ between.inc
  lacks : Lacks between name v

-- it lacked it before, in the span that goes on
record LackedSo {g : Setting} {a n : Net} (run : Runs g a n) (name : SegName) (v boot : ℕ) : Type 0 where
  lacked : LackedInSpan run name v
  begun : boot ≤ span_boot run

abbrev BeforeOrOn : {g : Setting} {a n : Net} → Runs g a n → Net → SegName → ℕ → ℕ → Type 0
BeforeOrOn run o name v boot = LackedSo run name v boot ⊎ LackedOn run o name v boot

lacked_on : (g : Setting) (a n o : Net) (run : Runs g a n) (more : Runs g n o) (name : SegName) (v : ℕ) → LackedInSpan (then_on run more) name v
    → BeforeOrOn run o name v (span_boot (then_on run more))
lacked_on g a n o run Begun name v h = inl (record { lacked = h; begun = omega arith })
lacked_on g a n o run (On {m = m} more happens) name v h =
    ⊎_elim
    (λ lacks. inr (record {
      between = o;
      first = On more happens;
      later = Begun;
      begun = span_boot_past g a o (On (then_on run more) happens);
      lacks = lacks;
    }))
    (λ before. on (span_boot_stays g a m o (then_on run more) happens (lacked_spans g a m (then_on run more) name v before))
    (lacked_on g a n m run more name v before)) h.1
  where
    on : span_boot (On (then_on run more) happens) ≤ span_boot (then_on run more) → BeforeOrOn run m name v (span_boot (then_on run more))
        → BeforeOrOn run o name v (span_boot (On (then_on run more) happens))
    on stays (inl s) = inl (record { lacked = s.lacked; begun = at_most _ _ _ stays s.begun })
    on stays (inr l) =
        inr (record { between = l.between; first = l.first; later = On l.later happens; begun = at_most _ _ _ stays l.begun; lacks = l.lacks })

none_held : (o : Option Fragment) → is_some o ≡ false → o ≡ None
none_held None e = refl
none_held (Some f) e = contrary (sym e)

-- then it lacked it before, or it lost its disk
abbrev pub LacksOrLoses : Net → Net → SegName → ℕ → Type 0
LacksOrLoses n o name v = (held_at (n.shelves v).held name ≡ None) ⊎ ((n.shelves v).generation < (o.shelves v).generation)

module _ (b : Below) (g : Setting) (n o : Net) (moment : Moment g n) (name : SegName) (v boot : ℕ) (own : name.log ≡ g.log)
    (l : LackedOn moment.run o name v boot) where
  lacks_or_loses : LacksOrLoses n o name v
  lacks_or_loses = by (is_held (n.shelves v) name) refl
    where
      by : (t : Bool) → is_held (n.shelves v) name ≡ t → LacksOrLoses n o name v
      by true held =
          let gone = b.gone g n l.between moment l.first v name own held l.lacks.0 l.lacks.1 in
          let up = (run_later g l.between o l.later).reached v in
          inr (omega arith)
      by false none = inl (none_held (held_at (n.shelves v).held name) none)

-- one that serves is in no span
in_no_span : (g : Setting) (a n : Net) (run : Runs g a n) (name : SegName) (v : ℕ) → is_serving n.owner ≡ true → LackedInSpan run name v → ⊥
in_no_span g a n Begun name v serves h = h
in_no_span g a n (On run happens) name v serves h = no_span g a n (On run happens) serves h.0

-- ---- at the start an owner serves

begun_serves : (g : Setting) (map : GroupMapState) (n : Net) (run : Runs g (opening g map) n) → IsBegun run → is_serving n.owner ≡ true
begun_serves g map n Begun begun = refl
begun_serves g map n (On run happens) begun = absurd begun

-- a client, or the cleaner
pub serves_straight : {g : Setting} {n next : Net} (r : Role) (runs : Runs g n next) → renews r ≡ false → StraightBy r runs → ServesStraight runs
serves_straight (OfClient c) runs keeps straight = straight
serves_straight OfCleaner runs keeps straight = straight
serves_straight (OfManager j) runs keeps straight = contrary (sym keeps)

-- ---- along the line

module _ (b : Below) (base : Setting) (e : Estate AnyNode) (r : Role) (keeps : renews r ≡ false) (line : Line base e r) where
  abbrev pub net : ℕ → Net
  net count = (line.scene count).net

  abbrev pub at_count : (count : ℕ) → Moment (setting base e r) (net count)
  at_count count = (line.stands count).moment

  abbrev pub serves_at : ℕ → Bool
  serves_at count = is_serving (net count).owner

  abbrev pub IsSureAt : ℕ → Type 0
  IsSureAt count = IsSureRun (at_count count).run

  pub first_serves : serves_at 0 ≡ true
  first_serves = begun_serves (setting base e r) (at_count 0).map (net 0) (at_count 0).run line.begins

  -- nothing is filed in an event after which the owner doesn't serve
  filed_still : (count : ℕ) → serves_at (suc count) ≡ false → (net (suc count)).filed ≡ (net count).filed
  filed_still count none = by (slice_get e.events count) refl
    where
      by : (o : Option Event) → slice_get e.events count ≡ o → (net (suc count)).filed ≡ (net count).filed
      by None fact = ap (λ (w : Scene). w.net.filed) (line.ended count fact)
      by (Some event) fact =
          ⊎_elim
          (λ own. b.straight (setting base e r) (net count) (net (suc count)) (at_count count) (line.goes count)
          (serves_straight r (line.goes count) keeps (line.straight count event fact own)) none)
          (λ away. (line.others count event fact away).filed) (same_or_other (owner_by r) (node_of event))

  -- what is sure of a count was sure at the one before
  sure_back : (count : ℕ) → IsSureAt (suc count) → IsSureAt count
  sure_back count sure =
      sure_before (at_count count).run (line.goes count)
      (subst (λ (m : Moment (setting base e r) (net (suc count))). IsSureRun m.run) (line.joined count) sure)

  -- the boot that the span of a restart begins with at a count
  abbrev pub boot_then : ℕ → ℕ
  boot_then count = span_boot (at_count count).run

  -- From one count on and before another, in an event before which the segment wasn't dropped, a server lacked its fragment, or lost its disk; and by the end of
  -- the event the boot had begun that the span at the second count begins with.
  pub record Lacked (from to : ℕ) (name : SegName) (v : ℕ) : Type 0 where
    pub when : ℕ
    pub since : from ≤ when
    pub before : when < to
    pub begun : boot_then to ≤ (net (suc when)).inc
    pub kept : In name (net when).dropped → ⊥
    pub lacked : LacksOrLoses (net when) (net (suc when)) name v

  -- from one count up to another the owner wrote its opening segment, in a boot no later than this one
  pub record Wrote (from to boot : ℕ) : Type 0 where
    pub when : ℕ
    pub since : from ≤ when
    pub within : when ≤ to
    pub writes : is_writing (net when).owner ≡ true
    pub begun : (net when).inc ≤ boot

  -- The owner served last at one count, up to this one.
  pub record Span (count : ℕ) : Type 0 where
    pub last : ℕ
    pub before : last ≤ count
    pub serves : serves_at last ≡ true
    pub away : (k : ℕ) → last < k → k ≤ count → serves_at k ≡ false
    pub filed : (net count).filed ≡ (net last).filed
    pub sure : IsSureAt count → IsSureAt last
    pub wrote : wrote_in (at_count count).run ≡ true → Wrote last count (boot_then count)
    pub lacked : (name : SegName) (v : ℕ) → name.log ≡ (setting base e r).log → LackedInSpan (at_count count).run name v → Lacked last count name v

  -- it serves now
  span_here : (count : ℕ) → serves_at count ≡ true → Span count
  span_here count serves = record {
    last = count;
    before = omega arith;
    serves = serves;
    away = λ k after before. absurd (omega (arith, after, before));
    filed = refl;
    sure = λ sure. sure;
    wrote = λ t.
        contrary
        (sym (serving_wrote (setting base e r) (opening (setting base e r) (at_count count).map) (net count) (at_count count).run serves) ∙ t);
    lacked = λ name v own h.
        absurd (in_no_span (setting base e r) (opening (setting base e r) (at_count count).map) (net count) (at_count count).run name v serves h);
  }

  -- it served last at a count before
  module _ (count : ℕ) (none : serves_at (suc count) ≡ false) (s : Span count) where
    still_away : (k : ℕ) → s.last < k → k ≤ suc count → serves_at k ≡ false
    still_away k after before =
        ⊎_elim (λ same. subst (λ n. serves_at n ≡ false) (sym same) none) (λ limit. s.away k after limit) (last_or_before k count before)

    abbrev first : Net
    first = opening (setting base e r) (at_count count).map

    -- the run with the event
    abbrev then_run : Runs (setting base e r) first (net (suc count))
    then_run = then_on (at_count count).run (line.goes count)

    boot_same : boot_then (suc count) ≡ span_boot then_run
    boot_same = ap (λ (m : Moment (setting base e r) (net (suc count))). span_boot m.run) (line.joined count)

    -- ---- what it lacked

    later_lacked : (name : SegName) (v : ℕ) → boot_then (suc count) ≤ boot_then count → Lacked s.last count name v → Lacked s.last (suc count) name v
    later_lacked name v stays l = record {
      when = l.when;
      since = l.since;
      before = (let a = l.before in omega arith);
      begun = at_most _ _ _ stays l.begun;
      kept = l.kept;
      lacked = l.lacked;
    }

    now_lacked : (name : SegName) (v : ℕ) → name.log ≡ (setting base e r).log
        → LackedOn (at_count count).run (net (suc count)) name v (boot_then (suc count)) → Lacked s.last (suc count) name v
    now_lacked name v own l = record {
      when = count;
      since = s.before;
      before = omega arith;
      begun = at_most _ _ _ l.begun (boot_rises (setting base e r) l.between (net (suc count)) l.later);
      kept = λ dropped. l.lacks.1 ((grown (setting base e r) (net count) l.between l.first).dropped name dropped);
      lacked = lacks_or_loses b (setting base e r) (net count) (net (suc count)) (at_count count) name v (boot_then (suc count)) own l;
    }

    then_lacked : (name : SegName) (v : ℕ) → name.log ≡ (setting base e r).log → LackedInSpan (at_count (suc count)).run name v
        → Lacked s.last (suc count) name v
    then_lacked name v own h =
        ⊎_elim (λ before. later_lacked name v before.begun (s.lacked name v own before.lacked)) (now_lacked name v own)
        (subst (λ boot. BeforeOrOn (at_count count).run (net (suc count)) name v boot) (sym boot_same)
        (lacked_on (setting base e r) first (net count) (net (suc count)) (at_count count).run (line.goes count) name v
        (subst (λ (m : Moment (setting base e r) (net (suc count))). LackedInSpan m.run name v) (line.joined count) h)))

    -- ---- what it wrote

    none_before : is_serving (net count).owner ≡ false → wrote_in (at_count count).run ≡ false → has_log (net count).owner ≡ false
    none_before away none = by (has_log (net count).owner) refl
      where
        by : (t : Bool) → has_log (net count).owner ≡ t → has_log (net count).owner ≡ false
        by true fact =
            contrary
            (sym none
            ∙ writing_wrote (setting base e r) first (net count) (at_count count).run refl (log_writes (net count).owner away fact))
        by false fact = fact

    still_wrote : NeverServes (line.goes count) → wrote_in (at_count count).run ≡ true → Wrote s.last (suc count) (span_boot then_run)
    still_wrote never wrote =
        let w = s.wrote wrote in
        let same = (wrote_on (setting base e r) first (net count) (net (suc count)) (at_count count).run (line.goes count) never wrote).1 in
        record {
          when = w.when;
          since = w.since;
          within = (let a = w.within in omega arith);
          writes = w.writes;
          begun = subst (λ boot. (net w.when).inc ≤ boot) (sym same) w.begun;
        }

    now_wrote : NeverHasLog (line.goes count) → wrote_in (at_count count).run ≡ false → wrote_in then_run ≡ true → ⊥
    now_wrote never none wrote =
        contrary
        (sym (none_wrote_on (setting base e r) first (net count) (net (suc count)) (at_count count).run (line.goes count) never none) ∙ wrote)

    -- the owner has its turn
    own_wrote : ServesStraight (line.goes count) → wrote_in then_run ≡ true → Wrote s.last (suc count) (span_boot then_run)
    own_wrote straight wrote = by (wrote_in (at_count count).run) (has_log (net (suc count)).owner) refl refl
      where
        by : (t u : Bool) → wrote_in (at_count count).run ≡ t → has_log (net (suc count)).owner ≡ u → Wrote s.last (suc count) (span_boot then_run)
        by true u was log = still_wrote (straight.never none) was
        by false false was log = absurd (now_wrote (straight.rests log) was wrote)
        by false true was log =
            let writes = log_writes (net (suc count)).owner none log in
            record {
              when = suc count;
              since = (let a = s.before in omega arith);
              within = omega arith;
              writes = writes;
              begun = wrote_once (setting base e r) first (net count) (net (suc count)) (at_count count).run (line.goes count)
                  (straight.picks (writing_picked (net (suc count)).owner writes)) was wrote;
            }

    -- another has, or none
    left_wrote : (net (suc count)).inc ≡ (net count).inc → (net (suc count)).owner ≡ (net count).owner → wrote_in then_run ≡ true
        → Wrote s.last (suc count) (span_boot then_run)
    left_wrote inc owner wrote = by (wrote_in (at_count count).run) refl
      where
        away : is_serving (net count).owner ≡ false
        away = sym (ap is_serving owner) ∙ none

        by : (t : Bool) → wrote_in (at_count count).run ≡ t → Wrote s.last (suc count) (span_boot then_run)
        by true was =
            still_wrote
            (never_serves_there (setting base e r) (net count) (net (suc count)) (line.goes count) (left_there (net count) (net (suc count)) inc owner) away)
            was
        by false was =
            absurd
            (now_wrote
            (never_has_log_there (setting base e r) (net count) (net (suc count)) (line.goes count) (left_there (net count) (net (suc count)) inc owner)
            (none_before away was)) was wrote)

    event_wrote : wrote_in then_run ≡ true → Wrote s.last (suc count) (span_boot then_run)
    event_wrote wrote = by (slice_get e.events count) refl
      where
        by : (o : Option Event) → slice_get e.events count ≡ o → Wrote s.last (suc count) (span_boot then_run)
        by None fact =
            left_wrote (ap (λ (w : Scene). w.net.inc) (line.ended count fact)) (ap (λ (w : Scene). w.net.owner) (line.ended count fact)) wrote
        by (Some event) fact =
            ⊎_elim (λ own. own_wrote (serves_straight r (line.goes count) keeps (line.straight count event fact own)) wrote)
            (λ away. let left = line.others count event fact away in left_wrote left.inc left.owner wrote) (same_or_other (owner_by r) (node_of event))

    then_wrote : wrote_in (at_count (suc count)).run ≡ true → Wrote s.last (suc count) (boot_then (suc count))
    then_wrote wrote =
        subst (λ boot. Wrote s.last (suc count) boot) (sym boot_same)
        (event_wrote (subst (λ (m : Moment (setting base e r) (net (suc count))). wrote_in m.run ≡ true) (line.joined count) wrote))

    span_on : Span (suc count)
    span_on = record {
      last = s.last;
      before = (let a = s.before in omega arith);
      serves = s.serves;
      away = still_away;
      filed = filed_still count none ∙ s.filed;
      sure = λ sure. s.sure (sure_back count sure);
      wrote = then_wrote;
      lacked = then_lacked;
    }

  pub span : (count : ℕ) → Span count
  span zero = span_here 0 first_serves
  span (suc count) = by (serves_at (suc count)) refl (span count)
    where
      by : (t : Bool) → serves_at (suc count) ≡ t → Span count → Span (suc count)
      by true serves s = span_here (suc count) serves
      by false none s = span_on count none s
