-- How the writing of a checkpoint goes on: each segment that is settled holds what was given out for it, and once all is written the small world has the
-- checkpoint.
use Rattle.std.proofs.Common.{◌≡◌, ℕ, ◌<◌, ◌==◌, inl, List, [], ◌∷◌, ◌++◌, take, drop, length, Option, Some, None, refl, sym, ap, subst, ◌∙◌, append_assoc, arith}
use Rattle.std.specs.List.{flat_map}
use Rattle.std.proofs.lemmas.Bool.{eqb-true, eqb-false}
use Rattle.std.proofs.lemmas.List.{append-nil, take-append-drop, nil_from_length}
use Rattle.xfs_base.proofs.Booleans.{by_test}
use Rattle.xfs_base.specs.Steps.{Stepped, saying, steps}
use Rattle.xfs_base.specs.declared.segment.SegRef.{SegRef}
use Rattle.xfs_base.specs.Limits.{slot_count}
use Rattle.checkpoint.specs.declared.output.Out.{Out}
use Rattle.checkpoint.specs.declared.output.Out.TheVariants as out
use Rattle.checkpoint.specs.Laws.{rows_of, rows_in, rows_of_items, nothing_checkpointed, after_event, slot_after, AllMayCome}
use Rattle.checkpoint.specs.Laws.Event.{Written as Laid}
use Rattle.checkpoint.specs.Plan.{plan_of}
use Rattle.checkpoint.specs.Transition.{writer_finish, gives, go_on}
use Rattle.checkpoint.specs.WriterState.{Rows, WorkState, WriterState, items_of}
use Rattle.client_log.specs.declared.input.In.TheVariants as log_input
use Rattle.client_log.specs.declared.output.Out.{Out as LogOut}
use Rattle.client_log.specs.declared.output.Out.TheVariants as log_out
use Rattle.client_log.specs.Transition as log
use Rattle.index_pages.specs.Pages.{PagesState}
use Rattle.index_tie.specs.Net.{Net}
use Rattle.index_tie.specs.Net.Packet.{CheckpointDone}
use Rattle.index_tie.specs.Net.Happens.{Checkpoints}
use Rattle.manager_slots.specs.Slots.{epoch_of}
use Rattle.manager_slots.specs.SlotTable.{phase_name, slot_table_name}
use Rattle.manager_slots.specs.declared.slot_phase.SlotPhase.{SlotPhase}
use Rattle.manager_slots.specs.declared.slot_phase.SlotPhase.TheVariants as phase
use Rattle.manager_serving.specs.Checkpoints as node
use Rattle.manager_serving.specs.Checkpoints.{Done}
use Rattle.manager_serving.specs.declared.checkpointing.Checkpointing.{Checkpointing}
use Rattle.manager_serving.specs.declared.serving.Serving.{Serving}
use Rattle.node_base.specs.Asking.{next_ask}
use Rattle.node_base.specs.declared.effects.Effect.{Effect}
use Rattle.node_slots.specs.node_tie.ManagerEvents.{HeldAt, ManagedAt}
use Rattle.headline.specs.Managers.{phase_at}
use Rattle.segment_format.specs.declared.segment.Item.{Item}
use Rattle.slot_beliefs.specs.Index.{pages_of}
use Rattle.wire_msg.specs.declared.registry.CkptDone.{CkptDone}
use Rattle.node_slots.specs.node_index_tie.ManagerEvents.{PhaseAgrees, ServingAgrees}
use Rattle.node_slots.specs.node_index_tie.Pages.{checkpointed, Desk, desk_of, Paged, WriterAgrees, DoneSeen}
use Rattle.node_slots.specs.node_index_tie.Pages.Paged.{Covered, Written, Ended}
use Rattle.node_slots.specs.node_index_tie.Sight.{Questions, held_in, CkptSeen}
use Rattle.headline.specs.Filed.{Texts}
use Rattle.node_slots.proofs.node_index_tie.Agreeing.{phase_on}
use Rattle.node_slots.proofs.node_index_tie.Flights.{Writes, parts_went}
use Rattle.node_slots.proofs.node_index_tie.Moves.{Brought, AllDone, Sees, Grows, managed_as, some_none, grows_sent, sees_quiet, sees_same, sees_sent, sees_then}
use Rattle.node_slots.proofs.node_index_tie.Puts.{merges, after_both, may_both, after_merges, may_merges}
use Rattle.node_slots.proofs.node_index_tie.Tables.{by_part}
use Rattle.node_slots.proofs.node_index_tie.Turning.{some_is, changed_here, changed_there, changed_length, Forth, Turn, seen_turn, phase_turn}

pub rows_of-append : (ps qs : List Rows) → rows_of (ps ++ qs) ≡ rows_of ps ++ rows_of qs
rows_of-append [] qs = refl
rows_of-append (p ∷ ps) qs = ap (λ r. p ++ r) (rows_of-append ps qs) ∙ sym (append_assoc p (rows_of ps) (rows_of qs))

pub items_rows : (slot : ℕ) (pages : List Rows) → rows_of_items (items_of slot pages) ≡ rows_of pages
items_rows slot [] = refl
items_rows slot (p ∷ ps) = ap (λ r. p ++ r) (items_rows slot ps)

split : (left : List Rows) → rows_of (take 24 left) ++ rows_of (drop 24 left) ≡ rows_of left
split left = sym (rows_of-append (take 24 left) (drop 24 left)) ∙ ap rows_of (take-append-drop 24 left)

-- where nothing is given out and nothing is left, the settled segments hold all
laid_of : (holds : SegRef → Rows) (segments : List SegRef) (given left : List Rows) (all : Rows) → given ≡ [] → left ≡ []
    → rows_in holds segments ++ (rows_of given ++ rows_of left) ≡ all → rows_in holds segments ≡ all
laid_of holds segments given left all none nil fact =
    sym (append-nil (rows_in holds segments)) ∙ sym (ap (λ g. rows_in holds segments ++ (rows_of g ++ rows_of [])) none) ∙ sym
    (ap (λ l. rows_in holds segments ++ (rows_of given ++ rows_of l)) nil) ∙ fact

module _ (part : ℕ) (texts : Texts) (questions : Questions) (exists : part < slot_count) (brought : Brought) where
  -- what an event makes of a manager that serves, and of the small world
  abbrev pub Serves : Net → Serving → Done → Type 0
  Serves n s d = Sees part texts questions brought n (phase_at s.slots part) (phase_at d.state.slots part) d.outs (λ m. ServingAgrees part texts m d.state)

  pub serves_same : (n : Net) (s : Serving) (outs : List Effect) → ServingAgrees part texts n s → AllDone part texts questions n outs
      → Serves n s (record { state = s; outs = outs })
  serves_same n s outs agrees done = sees_same part texts questions brought n (phase_at s.slots part) outs (λ m. ServingAgrees part texts m s) done agrees

  -- one of a list
  pub serves_one : {X : Type 0} (f : Serving → X → Done) (n : Net) (s t : Serving) (x : X) → Serves n s (f t x) → Serves n s (steps f t (x ∷ []))
  serves_one f n s t x h =
      let u = (f t x).state in
      sees_then part texts questions brought n (phase_at s.slots part) (phase_at u.slots part) (phase_at u.slots part) (f t x).outs []
      (λ m. ServingAgrees part texts m u) (λ m. ServingAgrees part texts m u) h
      (λ m g k. serves_same m u [] k tt)

  -- a step, and another
  pub serves_then : (n : Net) (s : Serving) (d e : Done) → Serves n s d → ((m : Net) → Grows n m → ServingAgrees part texts m d.state → Serves m d.state e)
      → Serves n s (saying d.outs e)
  serves_then n s d e h f =
      sees_then part texts questions brought n (phase_at s.slots part) (phase_at d.state.slots part) (phase_at e.state.slots part) d.outs e.outs
      (λ m. ServingAgrees part texts m d.state) (λ m. ServingAgrees part texts m e.state) h f

  -- ---- all is written

  module _ (n : Net) (v : Serving) (w : WorkState) (there : v.writer.work ≡ Some w) (agrees : ServingAgrees part texts n v) (none : agrees.given ≡ [])
      (landed : v.log.flight ≡ None) where
    abbrev desk : Desk
    desk = desk_of v agrees.given

    abbrev open_now : {X : Type 0} → v.lasting.items.unanswered ≡ None → X
    open_now closed = absurd (some_none w (sym there ∙ (agrees.closed closed).0))

    module _ (nil : w.left ≡ []) where
      abbrev idle_writer : WriterState
      idle_writer = (writer_finish v.writer w).state

      abbrev done : CkptDone
      done = record { slot = w.slot; epoch = w.epoch; ask = next_ask v.lasting.questions; parts = w.parts; horizon = w.horizon }

      abbrev registered : Done
      registered = node.register (node.asked (record v { writer = idle_writer })) done

      abbrev idle_desk : Desk
      idle_desk = record { log = v.log; given = agrees.given; writer = idle_writer }

      no_work : {X : Type 0} (x : WorkState) → idle_writer.work ≡ Some x → X
      no_work x fact = absurd (some_none x (sym fact))

      writer_idle : (m : Net) → WriterAgrees part texts m idle_desk
      writer_idle m = record {
        same_log = agrees.writer.same_log;
        named = agrees.writer.named;
        nothing_waits = agrees.writer.nothing_waits;
        idle = λ _. landed;
        answered = λ _ _. refl;
        work = λ x fact. no_work x fact;
      }

      is_it : (x : WorkState) → v.writer.work ≡ Some x → x ≡ w
      is_it x fact = some_is x w (sym fact ∙ there)

      -- pages of which nothing was written, or which belong to another epoch
      paged_still : (m : Net) (epoch : ℕ) (pages : PagesState) (parts : List SegRef) → (w.slot ≡ part → w.epoch ≡ epoch → ⊥)
          → Paged part texts n desk epoch pages parts → Paged part texts m idle_desk epoch pages parts
      paged_still m epoch pages parts other (Covered events may fact never) = Covered events may fact (λ x thing. no_work x thing)
      paged_still m epoch pages parts other (Written events x rows it of at work fits fact) =
          absurd (other (sym (ap (λ (y : WorkState). y.slot) (is_it x it)) ∙ of) (sym (ap (λ (y : WorkState). y.epoch) (is_it x it)) ∙ at))
      paged_still m epoch pages parts other (Ended number over) = absurd (some_none w (sym there ∙ over))

      -- pages whose checkpoint this is
      paged_done : (m : Net) (epoch : ℕ) (pages : PagesState) (parts : List SegRef) → w.slot ≡ part → w.epoch ≡ epoch
          → Paged part texts n desk epoch pages parts → Paged part texts m idle_desk epoch pages w.parts
      paged_done m epoch pages parts ours same (Covered events may fact never) = absurd (never w there ours same)
      paged_done m epoch pages parts ours same (Written events x rows it of at work fits fact) =
          let holds = held_in part texts in
          let plan = plan_of (slot_after events).pages (slot_after events).parts in
          let left : x.left ≡ [] = ap (λ (y : WorkState). y.left) (is_it x it) ∙ nil in
          let laid : rows_in holds work.segments ≡ rows_of plan.pages = laid_of holds work.segments agrees.given x.left (rows_of plan.pages) none left
          work.rows in
          Covered (events ++ Laid work.segments ∷ merges rows)
          (may_both holds nothing_checkpointed events (Laid work.segments ∷ merges rows) may_before
          (laid, may_merges holds (after_event (slot_after events) (Laid work.segments)) rows fits))
          (after_both nothing_checkpointed events (Laid work.segments ∷ merges rows) ∙ after_merges (after_event (slot_after events) (Laid work.segments))
          rows
          ∙ ap (λ (p : PagesState). checkpointed p (plan.parts ++ work.segments)) (sym fact) ∙ ap (checkpointed pages)
          (sym work.parts ∙ ap (λ (y : WorkState). y.parts) (is_it x it)))
          (λ y thing. no_work y thing)
        where
          may_before : AllMayCome (held_in part texts) nothing_checkpointed events
          may_before = work.may
      paged_done m epoch pages parts ours same (Ended number over) = absurd (some_none w (sym there ∙ over))

      named_on : (m : Net) → Grows n m → ((e : ℕ) → m.slots e ≡ n.slots e) → w.slot ≡ part → (p : SlotPhase) → PhaseAgrees part texts n desk p
          → PhaseAgrees part texts m idle_desk (phase_name w.epoch w.parts p)
      unfolding phase_name
      named_on m g same ours (phase.Active a) k =
          by_test (PhaseAgrees part texts m idle_desk) (a.slot.epoch == w.epoch) (phase.Active (record a { parts = w.parts })) (phase.Active a)
          (λ fact. record {
            there = same a.slot.epoch ∙ k.there;
            nine = k.nine;
            short = k.short;
            pages = paged_done m a.slot.epoch (pages_of a.slot.index)
                a.parts ours (sym (eqb-true a.slot.epoch w.epoch fact)) k.pages;
          })
          (λ no. record {
            there = same a.slot.epoch ∙ k.there;
            nine = k.nine;
            short = k.short;
            pages = paged_still m a.slot.epoch (pages_of a.slot.index)
                a.parts (λ _ at. eqb-false a.slot.epoch w.epoch no (sym at)) k.pages;
          })
      named_on m g same ours (phase.Taking t) k = phase_on part texts n m g desk (phase.Taking t) (λ e _. same e) k
      named_on m g same ours (phase.Away e) k = tt
      named_on m g same ours (phase.Broken e seg) k = tt

      named_held : (p : SlotPhase) (e : ℕ) → HeldAt (phase_name w.epoch w.parts p) e → HeldAt p e
      unfolding phase_name
      named_held (phase.Active a) e h = by_test (λ q. HeldAt q e → HeldAt (phase.Active a) e) (a.slot.epoch == w.epoch)
          (phase.Active (record a { parts = w.parts })) (phase.Active a) (λ _ k. k) (λ _ k. k) h
      named_held _ e h = h

      named_managed : (p : SlotPhase) (e : ℕ) → ManagedAt p e → ManagedAt (phase_name w.epoch w.parts p) e
      unfolding phase_name
      named_managed (phase.Active a) e h = by_test (λ q. ManagedAt q e) (a.slot.epoch == w.epoch) (phase.Active (record a { parts = w.parts })) (phase.Active a)
          (λ _. h) (λ _. h)
      named_managed _ e h = h

      named_epoch : (p : SlotPhase) → epoch_of (phase_name w.epoch w.parts p) ≡ epoch_of p
      unfolding phase_name
      named_epoch (phase.Active a) = by_test (λ q. epoch_of q ≡ epoch_of (phase.Active a)) (a.slot.epoch == w.epoch)
          (phase.Active (record a { parts = w.parts })) (phase.Active a) (λ _. refl) (λ _. refl)
      named_epoch _ = refl

      done_awaited : (m : Net) → CkptSeen part m done → (o : Option Checkpointing) → DoneSeen part m (node.await_answer done o)
      done_awaited m seen None = tt
      done_awaited m seen (Some job) = seen

      length_on : length registered.state.slots ≡ slot_count
      unfolding node.register slot_table_name
      length_on = changed_length v.slots w.slot (phase_name w.epoch w.parts) ∙ agrees.eight

      finishes_ours : w.slot ≡ part → Serves n v registered
      unfolding node.register slot_table_name
      finishes_ours ours =
          let k = agrees.writer.work w there ours in
          let holds = held_in part texts in
          let plan = plan_of (slot_after k.events).pages (slot_after k.events).parts in
          let laid : rows_in holds k.as_planned.segments ≡ rows_of plan.pages = laid_of holds k.as_planned.segments agrees.given w.left
          (rows_of plan.pages) none nil k.as_planned.rows in
          let packet = CheckpointDone w.epoch w.horizon (plan.parts ++ k.as_planned.segments) in
          let m : Net = record n { sent = packet ∷ n.sent } in
          let seen : CkptSeen part m done = λ _. inl (ap (CheckpointDone w.epoch w.horizon) k.as_planned.parts) in
          let within : w.slot < length v.slots = let e = agrees.eight in omega arith in
          let p = phase_at v.slots part in
          let at : phase_at registered.state.slots part ≡ phase_name w.epoch w.parts p = subst
          (λ x. phase_at (slot_table_name v.slots w.slot w.epoch w.parts) x ≡ phase_name w.epoch w.parts (phase_at v.slots x)) ours
          (changed_here v.slots w.slot (phase_name w.epoch w.parts) within) in
          sees_sent part texts questions brought n p (phase_at registered.state.slots part) (packet ∷ []) registered.outs
          (λ m. ServingAgrees part texts m registered.state)
          (Checkpoints w.epoch k.events w.horizon k.as_planned.segments k.as_planned.planned laid)
          (subst (λ q. (d : ℕ) → HeldAt q d → HeldAt p d) (sym at) (named_held p))
          (subst (λ q. (d : ℕ) → ManagedAt p d → ManagedAt q d) (sym at) (named_managed p))
          (let e = ap epoch_of at in let f = named_epoch p in omega arith)
          (seen, tt)
          (record {
            eight = length_on;
            given = agrees.given;
            here = subst (PhaseAgrees part texts m idle_desk) (sym at) (named_on m (grows_sent n (packet ∷ [])) (λ e. refl) ours p agrees.here);
            writer = writer_idle m;
            closed = λ closed. open_now closed;
            done = done_awaited m seen v.checkpoint;
          })

      finishes_other : (w.slot ≡ part → ⊥) → Serves n v registered
      unfolding node.register slot_table_name
      finishes_other other =
          let seen : CkptSeen part n done = λ same. absurd (other same) in
          let p = phase_at v.slots part in
          let at : phase_at registered.state.slots part ≡ p = changed_there v.slots w.slot part (phase_name w.epoch w.parts) (λ e. other (sym e)) in
          sees_quiet part texts questions brought n p (phase_at registered.state.slots part) registered.outs (λ m. ServingAgrees part texts m registered.state)
          (λ e h. inl (subst (λ q. HeldAt q e) at h)) (λ _ e h. managed_as p (phase_at registered.state.slots part) at e h)
          (let e = ap epoch_of at in omega arith) (seen, tt)
          (record {
            eight = length_on;
            given = agrees.given;
            here = subst (PhaseAgrees part texts n idle_desk) (sym at) (still_here p agrees.here);
            writer = writer_idle n;
            closed = λ closed. open_now closed;
            done = done_awaited n seen v.checkpoint;
          })
        where
          still_here : (p : SlotPhase) → PhaseAgrees part texts n desk p → PhaseAgrees part texts n idle_desk p
          still_here (phase.Active a) k = record {
            there = k.there;
            nine = k.nine;
            short = k.short;
            pages = paged_still n a.slot.epoch
                (pages_of a.slot.index) a.parts (λ same _. other same) k.pages;
          }
          still_here (phase.Taking t) k = k
          still_here (phase.Away x) k = tt
          still_here (phase.Broken x seg) k = tt

      finishes : Serves n v registered
      finishes = by_part w.slot part (Serves n v registered) finishes_ours finishes_other

    -- ---- the next pages are given out

    abbrev next_work : WorkState
    next_work = record w { left = drop 24 w.left }

    abbrev busy_writer : WriterState
    busy_writer = (gives v.writer w).state

    abbrev pages_out : List Item
    pages_out = items_of w.slot (take 24 w.left)

    abbrev given_out : Done
    given_out = node.give_parts (record v { writer = busy_writer }) pages_out

    stored_done : (outs : List LogOut) → AllDone part texts questions n (flat_map node.checkpointing_store outs)
    unfolding node.checkpointing_store
    stored_done [] = tt
    stored_done (log_out.Send fragment member ∷ os) = (tt, stored_done os)
    stored_done (log_out.Settled end rows ∷ os) = stored_done os

    wrote : Writes v.log pages_out (log.transition v.log (log_input.Parts pages_out))
    wrote = parts_went v.log landed pages_out

    abbrev busy_desk : Desk
    busy_desk = record { log = (log.transition v.log (log_input.Parts pages_out)).state; given = take 24 w.left; writer = busy_writer }

    turned : Turn part texts n desk busy_desk
    turned = record {
      forth = λ x fact. subst (Forth part texts n desk busy_desk) (some_is w x (sym there ∙ fact)) (record {
        on = next_work;
        writes = refl;
        slot = refl;
        epoch = refl;
        work = λ events of k. record {
          planned = k.planned;
          begun = k.begun;
          may = k.may;
          segments = k.segments;
          parts = k.parts;
          rows = ap (λ r. rows_in (held_in part texts) k.segments ++ r) (split w.left) ∙ ap
              (λ g. rows_in (held_in part texts) k.segments ++ (rows_of g ++ rows_of w.left)) (sym none) ∙ k.rows;
          flies = λ f fact. wrote.items_are f fact ∙ ap (λ x. items_of x (take 24 w.left)) of;
        };
      });
      back = λ x fact. let same = some_is next_work x fact in record {
        before = w;
        was = there;
        slot = ap (λ (y : WorkState). y.slot) same;
        epoch = ap
            (λ (y : WorkState). y.epoch) same;
      };
      none = λ no. absurd (some_none w (sym there ∙ no));
      number = refl;
    }

    gives_on : Serves n v given_out
    unfolding node.give_parts
    gives_on =
        sees_same part texts questions brought n (phase_at v.slots part) given_out.outs (λ m. ServingAgrees part texts m given_out.state)
        (stored_done (log.transition v.log (log_input.Parts pages_out)).outs)
        (record {
          eight = agrees.eight;
          given = take 24 w.left;
          here = phase_turn part texts n desk busy_desk turned (phase_at v.slots part) agrees.here;
          writer = record {
            same_log = wrote.same_log ∙ agrees.writer.same_log;
            named = λ f fact. wrote.of f fact ∙ sym wrote.same_log;
            nothing_waits = wrote.dirty ∙ agrees.writer.nothing_waits;
            idle = λ no. absurd (some_none next_work no);
            answered = λ e fact. absurd (some_none w (sym there ∙ agrees.writer.answered e fact));
            work = seen_turn part texts n desk busy_desk turned agrees.writer.work;
          };
          closed = λ closed. open_now closed;
          done = agrees.done;
        })

    -- ---- either

    says_done : (nil : w.left ≡ []) → Serves n v (node.writer_says (record v { writer = (writer_finish v.writer w).state }) (out.Done w.slot w.epoch w.parts w.horizon))
    unfolding node.writer_says
    says_done nil = finishes nil

    says_parts : Serves n v (node.writer_says (record v { writer = busy_writer }) (out.Parts pages_out))
    unfolding node.writer_says
    says_parts = gives_on

    pub goes_on : Serves n v (node.writer_says_each (record v { writer = (go_on v.writer w).state }) (go_on v.writer w).outs)
    unfolding node.writer_says_each
    goes_on =
        by_test (λ (r : Stepped WriterState Out). Serves n v (steps node.writer_says (record v { writer = r.state }) r.outs)) (length w.left == 0)
        (writer_finish v.writer w) (gives v.writer w)
        (λ fact. serves_one node.writer_says n v (record v { writer = (writer_finish v.writer w).state }) (out.Done w.slot w.epoch w.parts w.horizon)
        (says_done (nil_from_length w.left (eqb-true (length w.left) 0 fact))))
        (λ _. serves_one node.writer_says n v (record v { writer = busy_writer }) (out.Parts pages_out) says_parts)
