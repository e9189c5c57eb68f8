-- What an opening of the log takes keeps the small world seen, until its log starts.
use Rattle.log_law.proofs.Steady.{Steady, steady}
use Rattle.log_tie.proofs.Frames.{steps_through}
use Rattle.log_law.proofs.Next.{Next}
use Rattle.std.proofs.lemmas.Bool.Decides.{nat_tests}
use Rattle.std.proofs.Common.{◌≡◌, ℕ, ◌==◌, ◌&&◌, ◌≤◌, ◌<◌, List, [], ◌∷◌, ◌++◌, Option, Some, None, refl, sym, ap, subst, ◌∙◌, inl, inr, arith, if◌then◌else◌}
use Rattle.std.specs.Prelude.{IfSome}
use Rattle.std.specs.List.{AllByRecursion}
use Rattle.xfs_base.proofs.Booleans.{by_test, contrary}
use Rattle.segment_format.specs.declared.segment.Segment.{Segment}
use Rattle.group_map.specs.GroupMapState.{GroupMapState}
use Rattle.client_log.specs.declared.input.In.TheVariants as log_in
use Rattle.client_log.specs.LogState as logs
use Rattle.client_log.specs.LogState.{LogState}
use Rattle.client_log.specs.Transition as log
use Rattle.log_scan.specs.declared.input.In.{In as Input}
use Rattle.log_scan.specs.declared.input.In.TheVariants as scan_in
use Rattle.log_scan.specs.declared.opening.Opening.{Opening as OpeningState}
use Rattle.log_scan.specs.declared.output.Out.{Out}
use Rattle.log_scan.specs.declared.output.Out.TheVariants.{Hello, Fence, Fetch, Chain, Lost}
use Rattle.log_scan.specs.declared.stage.Stage.{Stage}
use Rattle.log_scan.specs.declared.stage.Stage.TheVariants.{Hails, Gathers, Asks, Reads, Over}
use Rattle.log_scan.specs.ScanState.{ScanState}
use Rattle.log_scan.specs.Transition as scan
use Rattle.log_protocol.specs.Phase
use Rattle.log_protocol.specs.State.{State}
use Rattle.log_protocol.specs.Tables.{In}
use Rattle.log_tie.specs.Setting.{Setting}
use Rattle.log_tie.specs.Seen.{FlightShown, Goes, Others, log_filed}
use Rattle.log_tie.specs.Openings.{ReadShown, WritingShown}
use Rattle.log_tie.specs.Scans.{Asked, asked_by, StageShown, ScanShown, OutShown, BringsScan, Scanned, BooksNothing, PicksAtHorizon, FencedSeen}
use Rattle.log_law.specs.Net.{Net, Told, is_reading, picked_by, scan_packets, chain_in, first_write, scans_on, after_told, after_scan, log_packets}
use Rattle.log_law.specs.Net.Packet.{FragmentSent, FencedSent, MapSent, WelcomeSent}
use Rattle.log_law.specs.Net.Owner.{Opening}
use Rattle.log_law.specs.Events.{StartsWith, CanStart, CameToScan, WritesText}
use Rattle.log_law.specs.Below.{Below}
use Rattle.log_law.proofs.Views.{FragmentSeen, WelcomeSeen, OwnerShown, StagePicked, Behind, View, PickShown}
use Rattle.log_law.proofs.Growing.{spelled_on}
use Rattle.log_law.proofs.Turning.{AllShown}
use Rattle.log_law.proofs.Moves.{later_goes, packets_shown, filed_said, in_right, in_left, moved, filed_still, topped, by_owner}
use Rattle.log_law.proofs.Logs.{ran_first, now_behind, now_spelled, now_flown}
use Rattle.log_law.proofs.Picking.{pick_stays}
use Rattle.log_law.proofs.Unwritten.{unwritten}

-- ---- questions

pub asked_more : (inc low : ℕ) (outs : List Out) (hellos : List Asked) (a : Asked) → In a hellos → In a (asked_by inc low outs hellos)
asked_more inc low [] hellos a fact = fact
asked_more inc low (Hello ask ∷ os) hellos a fact = inr (asked_more inc low os hellos a fact)
asked_more inc low (Fence server ∷ os) hellos a fact = asked_more inc low os hellos a fact
asked_more inc low (Fetch server name ask ∷ os) hellos a fact = asked_more inc low os hellos a fact
asked_more inc low (Chain segments end prior ∷ os) hellos a fact = asked_more inc low os hellos a fact
asked_more inc low (Lost name ∷ os) hellos a fact = asked_more inc low os hellos a fact

asked_past : (inc low highest high : ℕ) (outs : List Out) (hellos : List Asked) → inc ≤ highest → low ≤ high
    → ((a : Asked) → In a hellos → (a.inc ≤ highest) × (a.low ≤ high)) → (a : Asked) → In a (asked_by inc low outs hellos) → (a.inc ≤ highest) × (a.low ≤ high)
asked_past inc low highest high [] hellos i l old a fact = old a fact
asked_past inc low highest high (Hello ask ∷ os) hellos i l old a (inl e) =
    (let x = ap (λ (z : Asked). z.inc) e in let b = i in omega arith, let x = ap (λ (z : Asked). z.low) e in let b = l in omega arith)
asked_past inc low highest high (Hello ask ∷ os) hellos i l old a (inr fact) = asked_past inc low highest high os hellos i l old a fact
asked_past inc low highest high (Fence server ∷ os) hellos i l old a fact = asked_past inc low highest high os hellos i l old a fact
asked_past inc low highest high (Fetch server name ask ∷ os) hellos i l old a fact = asked_past inc low highest high os hellos i l old a fact
asked_past inc low highest high (Chain segments end prior ∷ os) hellos i l old a fact = asked_past inc low highest high os hellos i l old a fact
asked_past inc low highest high (Lost name ∷ os) hellos i l old a fact = asked_past inc low highest high os hellos i l old a fact

-- what an opening sends is shown, with these questions and more
scan_shown : (g : Setting) (w : State) (book : ℕ → Segment) (inc low : ℕ) (outs : List Out) (hellos all : List Asked) → inc ≤ w.incarnation
    → ((a : Asked) → In a (asked_by inc low outs hellos) → In a all) → AllShown g w book all (scan_packets inc outs)
scan_shown g w book inc low [] hellos all i grows = tt
scan_shown g w book inc low (Hello ask ∷ os) hellos all i grows = (
  record { question = record { inc = inc; ask = ask; low = low }; among = grows _ (inl refl); boot = refl; number = refl },
  scan_shown g w book inc low os hellos all i (λ a fact. grows a (inr fact)),
)
scan_shown g w book inc low (Fence server ∷ os) hellos all i grows = (i, scan_shown g w book inc low os hellos all i grows)
scan_shown g w book inc low (Fetch server name ask ∷ os) hellos all i grows = scan_shown g w book inc low os hellos all i grows
scan_shown g w book inc low (Chain segments end prior ∷ os) hellos all i grows = scan_shown g w book inc low os hellos all i grows
scan_shown g w book inc low (Lost name ∷ os) hellos all i grows = scan_shown g w book inc low os hellos all i grows

-- ---- the chain that is told

pub record AllRead (g : Setting) (w : State) (book : ℕ → Segment) (o : OpeningState) (t : Told) : Type 0 where
  pub map : GroupMapState
  pub taken : o.groups ≡ Some map
  pub low : w.read_low ≡ o.low
  pub read : ReadShown g w book t.end t.segments map

pub told_read : (g : Setting) (w : State) (book : ℕ → Segment) (o : OpeningState) (outs : List Out) → AllByRecursion (OutShown g w book o) outs
    → IfSome (chain_in outs) (AllRead g w book o)
told_read g w book o [] all = tt
told_read g w book o (Hello ask ∷ os) all = told_read g w book o os all.1
told_read g w book o (Fence server ∷ os) all = told_read g w book o os all.1
told_read g w book o (Fetch server name ask ∷ os) all = told_read g w book o os all.1
told_read g w book o (Chain segments end prior ∷ os) all = record { map = all.0.0; taken = all.0.1; low = all.0.2; read = all.0.3 }
told_read g w book o (Lost name ∷ os) all = told_read g w book o os all.1

-- an opening that is over stays so, and says nothing
pub record Rests (d : scan.Done) : Type 0 where
  pub over : d.state.stage ≡ Over
  pub quiet : d.outs ≡ []

over_rests : (o : OpeningState) (i : Input) → Rests (scan.opening_take o Over i)
unfolding scan.on_welcome scan.on_fenced scan.on_told scan.on_tick
over_rests o (scan_in.Welcome ask news groups) =
    by_test Rests ((ask == o.ask) && (scan.can_ask o && scan.awaits_welcome Over)) (scan.stays (record o { groups = Some groups }) Over) (scan.stays o Over)
    (λ t. record { over = refl; quiet = refl }) (λ t. record { over = refl; quiet = refl })
over_rests o (scan_in.Fenced server generation held) = record { over = refl; quiet = refl }
over_rests o (scan_in.Got ask server generation fragment) = record { over = refl; quiet = refl }
over_rests o (scan_in.Missing ask server generation) = record { over = refl; quiet = refl }
over_rests o (scan_in.Maps groups) = record { over = refl; quiet = refl }
over_rests o scan_in.Tick = record { over = refl; quiet = refl }

module _ (k : Below) (g : Setting) (n : Net) (h : View g n) (s : ScanState) (i : Input) (fact : n.owner ≡ Opening s) (came : CameToScan g n i) where
  pub as_it_opens : ScanShown g h.w h.book h.hellos s
  as_it_opens = subst (OwnerShown g h.w h.book h.hellos) fact h.owner

  pub brings : (j : Input) → CameToScan g n j → BringsScan g h.w h.book h.hellos s j
  brings (scan_in.Welcome ask news groups) c = let seen : WelcomeSeen g h.w h.hellos n.inc ask news c.0.0 = h.sent (WelcomeSent n.inc ask news c.0.0) c.0.1 in (
    record {
      question = seen.hello.question;
      sent = seen.hello.among;
      own = seen.hello.boot ∙ sym h.inc;
      answers = seen.hello.number;
      later = seen.later;
      known = seen.known;
    },
    h.sent (MapSent groups) c.1,
  )
  brings (scan_in.Fenced server generation held) c =
      subst (λ inc. FencedSeen g h.w h.book server inc generation held) (sym h.inc) (h.sent (FencedSent server n.inc generation held) c)
  brings (scan_in.Got ask server generation fragment) c =
      λ own. (let seen : FragmentSeen g h.w h.book fragment = h.sent (FragmentSent fragment) (c own) in (seen.name, seen.index, seen.known, seen.is_piece))
  brings (scan_in.Missing ask server generation) c = tt
  brings (scan_in.Maps m) c = h.sent (MapSent m) c
  brings scan_in.Tick c = tt

  abbrev d : scan.Done
  d = scan.transition s i

  abbrev P : State → (ℕ → Segment) → Type 0
  P v later = Scanned g v later h.hellos d.state d.outs × BooksNothing h.w v × PicksAtHorizon h.w v

  abbrev t : Goes g h.w h.book P []
  t = k.machines.scans g h.w h.book h.hellos s i h.fixed h.reached h.paged h.spelled as_it_opens (brings i came)

  abbrev hellos : List Asked
  hellos = asked_by t.world.incarnation t.world.low d.outs h.hellos

  incs : t.world.incarnation ≡ n.inc
  incs = ap (λ (o : Others). o.incarnation) t.frame.others ∙ h.inc

  -- where it reads back, the horizon of the pick is the one that was kept
  picks : t.world.phase ≡ Phase.reading → t.world.read_low ≡ d.state.opening.low → (s.stage ≡ Over → ⊥) → t.world.pick_low ≡ picked_by n s d
  picks phase low before_end = by s.stage refl as_it_opens.stage (subst (PickShown h.w.pick_low n.picked) fact h.picked)
    where
      first : h.w.phase ≡ Phase.gathering → t.world.pick_low ≡ d.state.opening.low
      first before = t.shows.2.begins before phase ∙ low

      by : (st : Stage) → s.stage ≡ st → StageShown g h.w h.book h.hellos s.opening st → StagePicked h.w.pick_low n.picked st
          → t.world.pick_low ≡ (if is_reading st then n.picked else d.state.opening.low)
      by Hails e shown was = first shown.0
      by (Gathers lists) e shown was = first shown.phase
      by (Asks lists) e shown was = first shown.gathering.phase
      by (Reads b r) e shown was = t.shows.2.stays shown.0.phase ∙ was
      by Over e shown was = absurd (before_end e)

  rests : s.stage ≡ Over → Rests d
  rests e = subst (λ st. Rests (scan.opening_take s.opening st i)) (sym e) (over_rests s.opening i)

  stage_picked : StagePicked t.world.pick_low (picked_by n s d) d.state.stage
  stage_picked = by d.state.stage refl t.shows.0.shown.stage
    where
      by : (st : Stage) → d.state.stage ≡ st → StageShown g t.world t.later hellos d.state.opening st → StagePicked t.world.pick_low (picked_by n s d) st
      by Hails e shown = tt
      by (Gathers lists) e shown = tt
      by (Asks lists) e shown = tt
      by (Reads b r) e shown = picks shown.0.phase shown.0.low (λ over. reads_no_more (sym (rests over).over ∙ e))
        where
          reads_no_more : Over ≡ Reads b r → ⊥
          reads_no_more e = absurd cc
      by Over e shown = tt

  -- the phases of an opening
  opening_phase : (w : State) (book : ℕ → Segment) (asked : List Asked) (o : OpeningState) (st : Stage) → StageShown g w book asked o st
      → (Phase.down < w.phase) × (w.phase < Phase.writing)
  opening_phase w book asked o Hails shown = (let p = shown.0 in omega arith, let p = shown.0 in omega arith)
  opening_phase w book asked o (Gathers lists) shown = (let p = shown.phase in omega arith, let p = shown.phase in omega arith)
  opening_phase w book asked o (Asks lists) shown = (let p = shown.gathering.phase in omega arith, let p = shown.gathering.phase in omega arith)
  opening_phase w book asked o (Reads b r) shown = (let p = shown.0.phase in omega arith, let p = shown.0.phase in omega arith)
  opening_phase w book asked o Over shown = (let p = shown in omega arith, let p = shown in omega arith)

  phase_before : (Phase.down < h.w.phase) × (h.w.phase < Phase.writing)
  phase_before = opening_phase h.w h.book h.hellos s.opening s.stage as_it_opens.stage

  phase_after : (Phase.down < t.world.phase) × (t.world.phase < Phase.writing)
  phase_after = opening_phase t.world t.later hellos d.state.opening d.state.stage t.shows.0.shown.stage

  same_boot : t.world.incarnation ≡ h.w.incarnation
  same_boot = ap (λ (o : Others). o.incarnation) t.frame.others

  on_steady : Steady h.w t.world
  on_steady =
      let before = phase_before.1 in
      let after = phase_after.1 in
      steady k h.w t.world h.reached t.steps phase_before.0 (omega arith) phase_after.0 (omega arith) same_boot

  on_spans : t.world.spanning ≡ h.w.spanning
  on_spans = unwritten h.w t.world t.steps same_boot phase_after.0 phase_after.1

  -- the opening goes on
  abbrev on : View g (scans_on n s d)
  on = moved k g n h P [] t (scans_on n s d) hellos (scan_packets n.inc d.outs) (record {
    keeps = record { shelves = refl; registry = refl; low = refl; inc = refl; dropped = refl };
    spelled = spelled_on g h.w t.world h.book t.later (later_goes k g n h P [] t) t.shows.1 h.spelled;
    flown = record {
      all = λ x booked. subst (λ b. In b n.flown) (sym (t.frame.segment x (t.shows.1 x booked))) (h.flown.all x (t.shows.1 x booked));
      booked = λ b among. (let f = h.flown.booked b among in (f.0, t.frame.booked f.0 f.1, f.2 ∙ sym (t.frame.segment f.0 f.1)));
    };
    grows = asked_more t.world.incarnation t.world.low d.outs h.hellos;
    asked = asked_past t.world.incarnation t.world.low h.w.incarnation h.w.low d.outs h.hellos
        (let e = ap (λ (o : Others). o.incarnation) t.frame.others in omega arith) (let e = ap (λ (o : Others). o.low) t.frame.others in omega arith) h.asked;
    owner = t.shows.0.shown;
    picked = stage_picked;
    sends = refl;
    shown = scan_shown g t.world t.later n.inc t.world.low d.outs h.hellos hellos (let e = incs in omega arith)
        (λ a among. subst (λ inc. In a (asked_by inc t.world.low d.outs h.hellos)) (sym incs) among);
    filed = filed_still k g n h P [] t;
    highest = topped k g n h P [] t n.filed (λ name among. among) (λ name among. absurd among);
    spans = λ writes serves. on_spans;
    steady = λ serving. on_steady;
  })

  -- its log starts
  module _ (told : Told) (r : AllRead g t.world t.later d.state.opening told) (at : chain_in d.outs ≡ Some told) (can : StartsWith g n.inc d told) where
    abbrev first : log.Done
    first = first_write g n.inc told.end r.map

    abbrev started : LogState
    started = logs.log_start g.log n.inc told.end r.map

    abbrev Q : State → (ℕ → Segment) → Type 0
    Q v later = WritingShown g v later told.segments first.state

    abbrev e : Goes g t.world t.later Q first.outs
    e = subst (λ inc. Goes g t.world t.later (λ v later. WritingShown g v later told.segments (first_write g inc told.end r.map).state)
        (first_write g inc told.end r.map).outs) incs
        (k.machines.opens g t.world t.later told.end told.segments r.map on.fixed on.reached t.paged r.read can.0)

    first_text : WritesText first
    first_text = subst (λ groups. IfSome groups (λ m. WritesText (first_write g n.inc told.end m))) r.taken can.1

    behind : Behind g t.world t.later started
    behind = record { ran = ran_first g.log n.inc told.end r.map; grouped = r.read.grouped }

    text : WritesText first
    text = subst (λ (o : Option GroupMapState). IfSome o (λ m. WritesText (first_write g n.inc told.end m))) r.taken can.1

    before : t.world.flight ≡ 0
    before = let p = r.read.phase in nothing (k.protocol.owner t.world on.reached).flight_phase p
      where
        nothing : (0 < t.world.flight → Phase.writing ≤ t.world.phase) → t.world.phase ≡ Phase.reading → t.world.flight ≡ 0
        nothing f p = grind (arith, nat_tests)

    after : FlightShown g e.later first.state.flight first.state.inc first.state.end.seq (e.world.booked e.world.flight) e.world.flight e.world.noted
    after = subst (λ o. FlightShown g e.later o first.state.inc first.state.end.seq (e.world.booked e.world.flight) e.world.flight e.world.noted)
        (sym e.shows.is_flight) e.shows.flying

    open_before : s.stage ≡ Over → ⊥
    open_before over = told_none (ap chain_in (sym (rests over).quiet) ∙ at)
      where
        told_none : None ≡ Some told → ⊥
        told_none e = absurd cc

    abbrev started_view : View g (after_told g n s d (Some told) (Some r.map))
    started_view = moved k g (scans_on n s d) on Q first.outs e (after_told g n s d (Some told) (Some r.map)) hellos (log_packets first.outs) (record {
      keeps = record { shelves = refl; registry = refl; low = refl; inc = refl; dropped = refl };
      spelled = now_spelled k g t.world t.later on.reached t.paged on.spelled started (log_in.Parts []) Q first.outs e behind before first_text after;
      flown = now_flown k g t.world t.later on.reached t.paged on.spelled started
          (log_in.Parts []) Q first.outs e behind before first_text after n.flown on.flown;
      grows = λ a among. among;
      asked = on.asked;
      owner = (e.shows, now_behind k g t.world t.later on.reached t.paged on.spelled started (log_in.Parts []) Q first.outs e behind before first_text after);
      picked = pick_stays t.world e.world (let p = r.read.phase in omega arith) e.steps (ap (λ (o : Others). o.incarnation) e.frame.others)
          ∙ picks r.read.phase r.low open_before;
      sends = refl;
      shown = packets_shown g e.world e.later hellos first.outs e.said;
      filed = filed_said g e.world e.later first.outs n.filed e.said (filed_still k g (scans_on n s d) on Q first.outs e);
      highest = topped k g (scans_on n s d) on Q first.outs e (log_filed g.log first.outs ++ n.filed)
          (λ name among. in_right (log_filed g.log first.outs) n.filed name among) (λ name among. in_left (log_filed g.log first.outs) n.filed name among);
      spans = λ writes serves. contrary (sym writes);
      steady = λ serving. steady k t.world e.world on.reached e.steps phase_after.0 (let p = phase_after.1 in omega arith) (let p = e.shows.phase in omega arith)
          (let p = e.shows.phase in omega arith) (ap (λ (o : Others). o.incarnation) e.frame.others);
    })

    starts : Next g n h (after_told g n s d (Some told) (Some r.map))
    starts = record {
      view = started_view;
      steps = steps_through h.w t.world e.world t.steps e.steps;
      by = (let a = by_owner k g n h P [] t in let b = by_owner k g (scans_on n s d) on Q first.outs e in
          inr (record { generation = b.generation ∙ a.generation; holds = b.holds ∙ a.holds; dropped = b.dropped ∙ a.dropped }));
      spans = λ writes serves. contrary (sym writes);
      steady = λ serving. steady k h.w e.world h.reached (steps_through h.w t.world e.world t.steps e.steps) phase_before.0
          (let p = phase_before.1 in omega arith)
          (let p = e.shows.phase in omega arith) (let p = e.shows.phase in omega arith) (ap (λ (o : Others). o.incarnation) e.frame.others ∙ same_boot);
    }

  pub opens_view : CanStart g n.inc d → Next g n h (after_scan g n s d)
  opens_view can = by (chain_in d.outs) refl (told_read g t.world t.later d.state.opening d.outs t.shows.0.gives) can
    where
      by : (o : Option Told) → chain_in d.outs ≡ o → IfSome o (AllRead g t.world t.later d.state.opening) → IfSome o (StartsWith g n.inc d)
          → Next g n h (after_told g n s d o d.state.opening.groups)
      by None at read starts_so =
          record { view = on; steps = t.steps; by = inr (by_owner k g n h P [] t); spans = λ writes serves. on_spans; steady = λ serving. on_steady }
      by (Some told) at read starts_so = subst (λ groups. Next g n h (after_told g n s d (Some told) groups)) (sym read.taken) (starts told read at starts_so)
