-- What the log of a manager's checkpoints makes of its inputs: a segment that is settled holds what was given out for it, and the writing goes on.
use Rattle.std.proofs.Common.{◌≡◌, ℕ, ◌<◌, ⊎_elim, List, [], ◌∷◌, ◌++◌, Option, Some, None, refl, sym, ap, subst, ◌∙◌, append_assoc}
use Rattle.std.specs.List.{AllByRecursion}
use Rattle.std.proofs.lemmas.List.{append-nil}
use Rattle.xfs_base.specs.Steps.{steps}
use Rattle.xfs_base.specs.declared.segment.LogId.{LogId}
use Rattle.xfs_base.specs.declared.segment.SegName.{SegName}
use Rattle.xfs_base.specs.declared.segment.SegRef.{SegRef}
use Rattle.xfs_base.specs.Limits.{slot_count}
use Rattle.checkpoint.specs.declared.input.In.TheVariants as writer_in
use Rattle.checkpoint.specs.Laws.{Event, rows_of, rows_in, rows_of_items, slot_after}
use Rattle.checkpoint.specs.Plan.{plan_of}
use Rattle.checkpoint.specs.Transition.{part_at, settled}
use Rattle.checkpoint.specs.WriterState.{WorkState, items_of}
use Rattle.checkpoint.proofs.Holding.{rows_in-append}
use Rattle.client_log.specs.declared.input.In.{In as LogIn}
use Rattle.client_log.specs.declared.output.Out.{Out as LogOut}
use Rattle.client_log.specs.declared.output.Out.TheVariants as log_out
use Rattle.client_log.specs.LogState.{LogState}
use Rattle.client_log.specs.Transition as log
use Rattle.index_tie.specs.Net.{Net}
use Rattle.index_tie.proofs.Checkpoints.{parts_tell}
use Rattle.log_flight.specs.Flights.{FlightState}
use Rattle.manager_serving.specs.Checkpoints as node
use Rattle.manager_serving.specs.Checkpoints.{Done}
use Rattle.manager_serving.specs.declared.serving.Serving.{Serving}
use Rattle.headline.specs.Managers.{phase_at}
use Rattle.takeover.specs.Rows.{told_of}
use Rattle.node_slots.specs.node_index_tie.ManagerEvents.{ServingAgrees}
use Rattle.node_slots.specs.node_index_tie.Pages.{Desk, desk_of, IsWork, FlightIsText}
use Rattle.node_slots.specs.node_index_tie.Sight.{Questions, held_in}
use Rattle.headline.specs.Filed.{Texts}
use Rattle.node_moves.proofs.client_walk.LogTurns.{IsSend}
use Rattle.node_moves.proofs.LogWalk.{IsHeard}
use Rattle.node_slots.proofs.node_index_tie.Flights.{GoesOn, Lands, log_went}
use Rattle.node_slots.proofs.node_index_tie.Moves.{Brought, some_none, sees_then}
use Rattle.node_slots.proofs.node_index_tie.Turning.{some_is, Forth, Turn, seen_turn, phase_turn}
use Rattle.node_slots.proofs.node_index_tie.Writing.{items_rows, Serves, serves_same, serves_one, serves_then, goes_on}

module _ (part : ℕ) (texts : Texts) (questions : Questions) (exists : part < slot_count) (brought : Brought) where
  -- ---- fragments are sent

  sends_each : (n : Net) (s : Serving) (outs : List LogOut) → AllByRecursion IsSend outs → ServingAgrees part texts n s
      → Serves part texts questions exists brought n s (steps node.log_says s outs)
  unfolding node.log_says
  sends_each n s [] all agrees = serves_same part texts questions exists brought n s [] agrees tt
  sends_each n s (log_out.Send fragment member ∷ os) all agrees =
      serves_then part texts questions exists brought n s (node.log_says s (log_out.Send fragment member)) (steps node.log_says s os)
      (serves_same part texts questions exists brought n s _ agrees (tt, tt)) (λ m g k. sends_each m s os all.1 k)
  sends_each n s (log_out.Settled end rows ∷ os) all agrees = absurd all.0

  -- what is in flight goes on
  goes : (n : Net) (s : Serving) (r : log.Done) → GoesOn s.log r → ServingAgrees part texts n s
      → Serves part texts questions exists brought n s (steps node.log_says (record s { log = r.state }) r.outs)
  goes n s r g agrees =
      let desk = desk_of s agrees.given in
      let later : Desk = record { log = r.state; given = agrees.given; writer = s.writer } in
      let turn : Turn part texts n desk later = record {
        forth = λ w fact. record {
          on = w;
          writes = fact;
          slot = refl;
          epoch = refl;
          work = λ events of k. record {
            planned = k.planned;
            begun = k.begun;
            may = k.may;
            segments = k.segments;
            parts = k.parts;
            rows = k.rows;
            flies = λ f there. let b = g.flight f there in b.items ∙ k.flies b.old b.was;
          };
        };
        back = λ w fact. record { before = w; was = fact; slot = refl; epoch = refl };
        none = λ fact. fact;
        number = refl;
      } in
      sends_each n (record s { log = r.state }) r.outs g.sends (record {
        eight = agrees.eight;
        given = agrees.given;
        here = phase_turn part texts n desk later turn (phase_at s.slots part) agrees.here;
        writer = record {
          same_log = g.same_log ∙ agrees.writer.same_log;
          named = λ f there. let b = g.flight f there in b.of ∙ agrees.writer.named b.old b.was ∙ sym g.same_log;
          nothing_waits = g.dirty ∙ agrees.writer.nothing_waits;
          idle = λ none. none_flies (agrees.writer.idle none) r.state.flight refl;
          answered = agrees.writer.answered;
          work = seen_turn part texts n desk later turn agrees.writer.work;
        };
        closed = agrees.closed;
        done = agrees.done;
      })
    where
      none_flies : s.log.flight ≡ None → (o : Option FlightState) → r.state.flight ≡ o → r.state.flight ≡ None
      none_flies none None fact = fact
      none_flies none (Some f) fact = let b = g.flight f fact in absurd (some_none b.old (sym b.was ∙ none))

  -- ---- a segment is settled

  module _ (n : Net) (s : Serving) (t : LogState) (old : FlightState) (was : s.log.flight ≡ Some old) (same_log : t.log ≡ s.log.log)
      (dirty : t.dirty ≡ s.log.dirty) (landed : t.flight ≡ None) (agrees : ServingAgrees part texts n s)
      (text : FlightIsText texts s.log) where
    abbrev part_ref : SegRef
    part_ref = part_at s.writer.log (log.end_of old.segment)

    -- it holds what was given out for it
    holds : old.segment.items ≡ items_of part agrees.given → held_in part texts part_ref ≡ rows_of agrees.given
    holds items =
        let named : part_ref.name ≡ old.segment.name = ap (λ (l : LogId). SegName_of l) (sym (agrees.writer.named old was ∙ agrees.writer.same_log)) in
        ap (λ x. told_of part (texts x)) named ∙ ap (told_of part) (text old was) ∙ parts_tell part agrees.given old.segment items ∙ ap rows_of_items items ∙
        items_rows part agrees.given
      where
        SegName_of : LogId → SegName
        SegName_of l = record { log = l; seq = old.segment.name.seq; pass = old.segment.name.pass }

    module _ (w : WorkState) (there : s.writer.work ≡ Some w) where
      abbrev next_work : WorkState
      next_work = record w { parts = w.parts ++ part_ref ∷ [] }

      abbrev virtual : Serving
      virtual = record s { log = t; writer = record s.writer { work = Some next_work } }

      abbrev desk : Desk
      desk = desk_of s agrees.given

      abbrev later : Desk
      later = desk_of virtual []

      laid : (events : List Event) → w.slot ≡ part → IsWork part texts n desk events w → IsWork part texts n later events next_work
      laid events of k =
          let all = rows_in (held_in part texts) k.segments in
          record {
            planned = k.planned;
            begun = k.begun;
            may = k.may;
            segments = k.segments ++ part_ref ∷ [];
            parts = ap (λ x. x ++ part_ref ∷ []) k.parts ∙ append_assoc (plan_of (slot_after events).pages (slot_after events).parts).parts k.segments
                (part_ref ∷ []);
            rows = ap (λ r. r ++ rows_of w.left) (rows_in-append (held_in part texts) k.segments (part_ref ∷ []) ∙ ap (λ r. all ++ r)
                (append-nil (held_in part texts part_ref) ∙ holds (k.flies old was)))
                ∙ append_assoc all (rows_of agrees.given) (rows_of w.left) ∙ k.rows;
            flies = λ f fact. absurd (some_none f (sym fact ∙ landed));
          }

      turn : Turn part texts n desk later
      turn = record {
        forth = λ x fact. subst (Forth part texts n desk later) (some_is w x (sym there ∙ fact))
            (record { on = next_work; writes = refl; slot = refl; epoch = refl; work = laid });
        back = λ x fact. let same = some_is next_work x fact in record {
          before = w;
          was = there;
          slot = ap (λ (y : WorkState). y.slot) same;
          epoch = ap
              (λ (y : WorkState). y.epoch) same;
        };
        none = λ none. absurd (some_none w (sym there ∙ none));
        number = refl;
      }

      virtual_agrees : ServingAgrees part texts n virtual
      virtual_agrees = record {
        eight = agrees.eight;
        given = [];
        here = phase_turn part texts n desk later turn (phase_at s.slots part) agrees.here;
        writer = record {
          same_log = same_log ∙ agrees.writer.same_log;
          named = λ f fact. absurd (some_none f (sym fact ∙ landed));
          nothing_waits = dirty ∙ agrees.writer.nothing_waits;
          idle = λ _. landed;
          answered = λ e fact. absurd (some_none w (sym there ∙ agrees.writer.answered e fact));
          work = seen_turn part texts n desk later turn agrees.writer.work;
        };
        closed = λ none. absurd (some_none w (sym there ∙ (agrees.closed none).0));
        done = agrees.done;
      }

      writes_on : Serves part texts questions exists brought n s (node.said_by (record s { log = t }) (settled s.writer (Some w) (log.end_of old.segment)))
      unfolding virtual_agrees
      writes_on = goes_on part texts questions exists brought n virtual next_work refl virtual_agrees refl landed

    takes_settled : Serves part texts questions exists brought n s (node.writer_takes (record s { log = t }) (writer_in.Settled (log.end_of old.segment)))
    unfolding node.writer_takes
    takes_settled = by s.writer.work refl
      where
        by : (o : Option WorkState) → s.writer.work ≡ o
            → Serves part texts questions exists brought n s (node.said_by (record s { log = t }) (settled s.writer o (log.end_of old.segment)))
        by None none = absurd (some_none old (sym was ∙ agrees.writer.idle none))
        by (Some w) there = writes_on w there

  lands : (n : Net) (s : Serving) (r : log.Done) → Lands s.log r → ServingAgrees part texts n s → FlightIsText texts s.log
      → Serves part texts questions exists brought n s (steps node.log_says (record s { log = r.state }) r.outs)
  unfolding node.log_says node.on_settled
  lands n s r l agrees text =
      let t = record s { log = r.state } in
      let end = log.end_of l.old.segment in
      let filed = node.filed t end in
      subst (λ os. Serves part texts questions exists brought n s (steps node.log_says t os)) (sym l.outs)
      (serves_one part texts questions exists brought node.log_says n s t (log_out.Settled end l.rows)
      (sees_then part texts questions brought n (phase_at s.slots part) (phase_at s.slots part)
      (phase_at (node.writer_takes t (writer_in.Settled end)).state.slots part) filed (node.writer_takes t (writer_in.Settled end)).outs
      (λ m. ServingAgrees part texts m s)
      (λ m. ServingAgrees part texts m (node.writer_takes t (writer_in.Settled end)).state)
      (serves_same part texts questions exists brought n s filed agrees (tt, tt))
      (λ m g k. takes_settled m s r.state l.old l.was l.same_log l.dirty l.flight k text)))

  -- ---- any input that writes nothing new

  pub writes_serves : (n : Net) (s : Serving) (given : LogIn) → IsHeard given → ServingAgrees part texts n s → FlightIsText texts s.log
      → Serves part texts questions exists brought n s (node.serving_write s given)
  unfolding node.serving_write node.log_says_each
  writes_serves n s given bars agrees text =
      ⊎_elim (λ g. goes n s (log.transition s.log given) g agrees) (λ l. lands n s (log.transition s.log given) l agrees text)
      (log_went s.log agrees.writer.nothing_waits given bars)
