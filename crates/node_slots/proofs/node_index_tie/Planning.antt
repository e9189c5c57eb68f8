-- How the checkpoint of a slot begins: the small world has it planned, by the pages and the horizon of this moment, and the writing goes on.
use Rattle.std.proofs.Common.{◌≡◌, ℕ, zero, suc, ◌+◌, ◌-◌, ◌<◌, ◌≤◌, ◌==◌, inl, Bool, true, false, not, List, [], ◌∷◌, length, map, get_or, Option, Some, None, is_some, refl, sym, ap, subst, ◌∙◌, arith}
use Rattle.std.specs.Prelude.{◌||◌, unwrap_or}
use Rattle.std.specs.List.{slice_get}
use Rattle.std.proofs.lemmas.Bool.{eqb-true}
use Rattle.std.proofs.lemmas.Bool.Decides.{nat_tests}
use Rattle.std.proofs.lemmas.List.{append-nil}
use Rattle.xfs_base.proofs.Booleans.{by_test, contrary}
use Rattle.xfs_base.specs.Limits.{u32_end, slot_count, block_logs}
use Rattle.xfs_base.specs.Steps.{Stepped, still}
use Rattle.xfs_base.specs.declared.segment.SegRef.{SegRef}
use Rattle.checkpoint.specs.declared.output.Out.{Out}
use Rattle.checkpoint.specs.Laws.{Event, rows_of, Checkpointed, nothing_checkpointed, slot_after, AllMayCome}
use Rattle.checkpoint.specs.Plan.{plan_of}
use Rattle.checkpoint.specs.Transition.{is_idle, go_on}
use Rattle.checkpoint.specs.WriterState.{WorkState, WriterState}
use Rattle.index_pages.specs.Pages.{PagesState, pages_clean}
use Rattle.index_tie.specs.Checkpoints.{IsNext}
use Rattle.index_tie.specs.Net.{Net, with_slot, with_packet}
use Rattle.index_tie.specs.Net.Packet.{CheckpointPlanned}
use Rattle.index_tie.specs.Net.Happens.{Plans, Cleans}
use Rattle.index_tie.specs.Net.Runs.{Begun, On}
use Rattle.index_tie.proofs.Takeovers.{of_log_in}
use Rattle.manager_slots.specs.Numbers.{risen}
use Rattle.manager_slots.specs.Slots.{epoch_of}
use Rattle.manager_slots.specs.SlotTable.{Table, next_of, all_logs, horizon_of, begin_with, begin_in, begin_one, begin_at, phase_clean, slot_table_clean}
use Rattle.manager_slots.specs.declared.slot_phase.Active.{Active}
use Rattle.manager_slots.specs.declared.slot_phase.SlotPhase.{SlotPhase}
use Rattle.manager_slots.specs.declared.slot_phase.SlotPhase.TheVariants as phase
use Rattle.manager_serving.specs.Checkpoints as node
use Rattle.manager_serving.specs.declared.serving.Serving.{Serving}
use Rattle.node_slots.specs.node_tie.ManagerEvents.{HeldAt, ManagedAt}
use Rattle.headline.specs.Managers.{phase_at}
use Rattle.slot_beliefs.specs.Index.{Indexed, pages_of, block_index_clean}
use Rattle.slot_beliefs.specs.Recalls.{applied_of}
use Rattle.token_manager.specs.SlotState.{SlotState}
use Rattle.token_manager.specs.Transition as slot
use Rattle.node_slots.specs.node_index_tie.ManagerEvents.{ActiveAgrees, PhaseAgrees, ServingAgrees}
use Rattle.node_slots.specs.node_index_tie.Pages.{checkpointed, desk_of, IsWork, Paged, WorkSeen, WriterAgrees}
use Rattle.node_slots.specs.node_index_tie.Pages.Paged.{Covered, Written, Ended}
use Rattle.node_slots.specs.node_index_tie.Sight.{Questions, held_in}
use Rattle.headline.specs.Filed.{Texts}
use Rattle.node_slots.proofs.node_index_tie.Agreeing.{writer_on, done_seen}
use Rattle.node_slots.proofs.node_index_tie.Moves.{Brought, Sees, Grows, managed_as, some_none, grows_then, grows_sent, grows_slot, put_here, put_there, sees_quiet, sees_slot, sees_then}
use Rattle.node_slots.proofs.node_index_tie.Tables.{by_part}
use Rattle.index_tie.proofs.Tables.{put_each}
use Rattle.node_slots.proofs.node_index_tie.Turning.{some_is, changed_here, changed_there, changed_length}
use Rattle.node_slots.proofs.node_index_tie.Writing.{Serves, goes_on}

-- ---- a writer that may begin

free_writer : (writer : WriterState) → writer.work ≡ None → writer.asked ≡ None → is_idle writer ≡ not (writer.number == u32_end)
free_writer writer no_work no_asked = ap (λ (o : Option WorkState). not (is_some o || (is_some writer.asked || (writer.number == u32_end)))) no_work ∙ ap
    (λ (o : Option ℕ). not (is_some o || (writer.number == u32_end))) no_asked

spent : (writer : WriterState) → writer.work ≡ None → writer.asked ≡ None → is_idle writer ≡ false → writer.number ≡ u32_end
spent writer no_work no_asked busy = by (writer.number == u32_end) refl (sym (free_writer writer no_work no_asked) ∙ busy)
  where
    by : (t : Bool) → (writer.number == u32_end) ≡ t → not t ≡ false → writer.number ≡ u32_end
    by true fact off = eqb-true writer.number u32_end fact
    by false fact off = contrary (sym off)

not_spent : (writer : WriterState) → writer.work ≡ None → writer.asked ≡ None → is_idle writer ≡ true → writer.number ≡ u32_end → ⊥
not_spent writer no_work no_asked idle fact = by (writer.number == u32_end) refl (sym (free_writer writer no_work no_asked) ∙ idle)
  where
    same : (x : ℕ) → (x == u32_end) ≡ false → x ≡ u32_end → ⊥
    same x h = grind (arith, nat_tests)

    by : (t : Bool) → (writer.number == u32_end) ≡ t → not t ≡ true → ⊥
    by true at on = contrary on
    by false at on = same writer.number at fact

-- ---- the horizon of a slot

risen_is : (n : ℕ) → n < u32_end → risen n ≡ suc n
risen_is n h = grind (arith, nat_tests)

each_log : (f : ℕ → ℕ) (k : ℕ) → k < block_logs → get_or (map f all_logs) k 0 ≡ f (suc k)
each_log f zero h = refl
each_log f (suc zero) h = refl
each_log f (suc (suc zero)) h = refl
each_log f (suc (suc (suc zero))) h = refl
each_log f (suc (suc (suc (suc zero)))) h = refl
each_log f (suc (suc (suc (suc (suc zero))))) h = refl
each_log f (suc (suc (suc (suc (suc (suc zero)))))) h = refl
each_log f (suc (suc (suc (suc (suc (suc (suc zero))))))) h = refl
each_log f (suc (suc (suc (suc (suc (suc (suc (suc zero)))))))) h = refl
each_log f (suc (suc (suc (suc (suc (suc (suc (suc (suc k))))))))) h = absurd (omega arith)

-- it begins, in each log, where what the slot has applied ends
horizon_next : (s : SlotState) → ((l : ℕ) → 0 < l → l ≤ block_logs → applied_of s.applied l < u32_end) → IsNext s (horizon_of s)
horizon_next s short l some limit = of_log_in (horizon_of s) l some limit ∙ each_log (next_of s) (l - 1) (omega arith) ∙ ap (next_of s) (before l some) ∙
    risen_is (applied_of s.applied l) (short l some limit)
  where
    before : (k : ℕ) → 0 < k → suc (k - 1) ≡ k
    before k h = omega arith

-- ---- what the writer is to write of a slot

begin_is : (t : Table) (k : ℕ) → begin_at t k ≡ begin_in k (phase_at t k)
begin_is t k = by (slice_get t k)
  where
    by : (o : Option SlotPhase) → begin_one k o ≡ begin_in k (unwrap_or o (phase.Away 0))
    by None = refl
    by (Some p) = refl

cleaned_pages : (i : Indexed) → pages_of (block_index_clean i) ≡ pages_clean (pages_of i)
unfolding pages_clean
cleaned_pages i = refl

module _ (part : ℕ) (texts : Texts) (questions : Questions) (exists : part < slot_count) (brought : Brought) where
  -- nothing is given out
  record Clear (n : Net) (v : Serving) : Type 0 where
    agrees : ServingAgrees part texts n v
    none : agrees.given ≡ []

  -- the writer goes on with a checkpoint that was begun
  begins_on : (n : Net) (s v : Serving) (w : WorkState) (p : SlotPhase) → v.writer.work ≡ Some w → v.log.flight ≡ None → p ≡ phase_at s.slots part
      → Sees part texts questions brought n p (phase_at v.slots part) [] (λ m. Clear m v)
      → Sees part texts questions brought n p
      (phase_at (node.writer_says_each (record v { writer = (go_on v.writer w).state }) (go_on v.writer w).outs).state.slots part)
      (node.writer_says_each (record v { writer = (go_on v.writer w).state }) (go_on v.writer w).outs).outs
      (λ m. ServingAgrees part texts m (node.writer_says_each (record v { writer = (go_on v.writer w).state }) (go_on v.writer w).outs).state)
  begins_on n s v w p there landed at h =
      let d = node.writer_says_each (record v { writer = (go_on v.writer w).state }) (go_on v.writer w).outs in
      sees_then part texts questions brought n p (phase_at v.slots part) (phase_at d.state.slots part) [] d.outs (λ m. Clear m v)
      (λ m. ServingAgrees part texts m d.state) h
      (λ m g k. goes_on part texts questions exists brought m v w there k.agrees k.none landed)

  module _ (n : Net) (s : Serving) (open_item : s.lasting.items.unanswered ≡ None → ⊥) (no_work : s.writer.work ≡ None) (no_asked : s.writer.asked ≡ None)
      (agrees : ServingAgrees part texts n s) where
    landed : s.log.flight ≡ None
    landed = agrees.writer.idle no_work

    abbrev now : SlotPhase
    now = phase_at s.slots part

    -- a writer that has begun
    abbrev at_work : WorkState → WriterState
    at_work w = record s.writer { number = s.writer.number + 1; work = Some w }

    writer_begun : (m : Net) → WriterAgrees part texts m (desk_of s agrees.given) → (w : WorkState)
        → (w.slot ≡ part → WorkSeen part texts m (record { log = s.log; given = []; writer = at_work w }) w)
        → WriterAgrees part texts m (record { log = s.log; given = []; writer = at_work w })
    writer_begun m k w seen = record {
      same_log = k.same_log;
      named = k.named;
      nothing_waits = k.nothing_waits;
      idle = λ _. landed;
      answered = λ e fact. absurd (some_none e (sym fact ∙ no_asked));
      work = λ x fact of. let same = some_is w x fact in subst (λ y. WorkSeen part texts m (record { log = s.log; given = []; writer = at_work w }) y) same
          (seen (ap (λ (y : WorkState). y.slot) same ∙ of));
    }

    -- ---- the slot itself

    abbrev cleaned_here : Serving
    cleaned_here = record s { slots = slot_table_clean s.slots part }

    cleaned_is : (p : SlotPhase) → now ≡ p → phase_at cleaned_here.slots part ≡ phase_clean p
    unfolding slot_table_clean
    cleaned_is p fact = changed_here s.slots part phase_clean (let e = agrees.eight in omega arith) ∙ ap phase_clean fact

    cleaned_eight : length cleaned_here.slots ≡ slot_count
    unfolding slot_table_clean
    cleaned_eight = changed_length s.slots part phase_clean ∙ agrees.eight

    module _ (a : Active) (is_now : now ≡ phase.Active a) (k : ActiveAgrees part texts n (desk_of s agrees.given) a) where
      abbrev epoch : ℕ
      epoch = a.slot.epoch

      abbrev asked_work : WorkState
      asked_work = record {
        slot = part;
        epoch = epoch;
        left = (plan_of (pages_of a.slot.index) a.parts).pages;
        parts = (plan_of (pages_of a.slot.index) a.parts).parts;
        horizon = horizon_of a.slot;
      }

      cleaned_active : phase_at cleaned_here.slots part ≡ phase.Active (record a { slot = slot.slot_clean a.slot })
      unfolding phase_clean
      cleaned_active = cleaned_is (phase.Active a) is_now

      held_before : (e : ℕ) → HeldAt (phase_at cleaned_here.slots part) e → HeldAt now e
      held_before e h = subst (λ p. HeldAt p e) (sym is_now) (subst (λ p. HeldAt p e) cleaned_active h)

      managed_now : (e : ℕ) → epoch ≡ e → ManagedAt (phase_at cleaned_here.slots part) e
      managed_now e h = subst (λ p. ManagedAt p e) (sym cleaned_active) h

      rises_not : epoch_of now ≤ epoch_of (phase_at cleaned_here.slots part)
      rises_not = let x = ap epoch_of is_now in let y = ap epoch_of cleaned_active in omega arith

      -- the writer begins no more
      ends : is_idle s.writer ≡ false → Serves part texts questions exists brought n s (still cleaned_here)
      ends busy =
          let t = slot.slot_clean a.slot in
          let m : Net = with_slot n epoch t in
          let g = grows_slot n epoch t in
          sees_slot part texts questions brought n now (phase_at cleaned_here.slots part) epoch t [] (λ m. ServingAgrees part texts m cleaned_here)
          (Cleans epoch a.slot k.there) (subst (λ p. HeldAt p epoch) (sym is_now) refl) held_before (λ none. absurd (some_none a.slot (sym k.there ∙ none)))
          (managed_now epoch refl) rises_not tt
          (record {
            eight = cleaned_eight;
            given = agrees.given;
            here = subst (PhaseAgrees part texts m (desk_of s agrees.given)) (sym cleaned_active)
                (record {
                  there = put_here n.slots epoch (Some t);
                  nine = k.nine;
                  short = k.short;
                  pages = Ended (spent s.writer no_work no_asked busy)
                      no_work;
                });
            writer = writer_on part texts n m g (desk_of s agrees.given) agrees.writer;
            closed = agrees.closed;
            done = done_seen part texts n m g s.checkpoint agrees.done;
          })

      -- or it begins
      module _ (events : List Event) (may : AllMayCome (held_in part texts) nothing_checkpointed events)
          (fact : slot_after events ≡ checkpointed (pages_of a.slot.index) a.parts) where
        abbrev planned : Net
        planned = with_packet n (CheckpointPlanned epoch events (horizon_of a.slot))

        abbrev later : Net
        later = with_slot planned epoch (slot.slot_clean a.slot)

        abbrev virtual : Serving
        virtual = record cleaned_here { writer = at_work asked_work }

        grows : Grows n later
        grows = grows_then n planned later (grows_sent n (CheckpointPlanned epoch events (horizon_of a.slot) ∷ []))
            (grows_slot planned epoch (slot.slot_clean a.slot))

        there : later.slots epoch ≡ Some (slot.slot_clean a.slot)
        there = put_here n.slots epoch (Some (slot.slot_clean a.slot))

        work : IsWork part texts later (desk_of virtual []) events asked_work
        work = record {
          planned = inl refl;
          begun = λ none. some_none (slot.slot_clean a.slot) (sym there ∙ none);
          may = may;
          segments = [];
          parts = ap (λ (c : Checkpointed). (plan_of c.pages c.parts).parts) (sym fact) ∙ sym
              (append-nil (plan_of (slot_after events).pages (slot_after events).parts).parts);
          rows = ap (λ (c : Checkpointed). rows_of (plan_of c.pages c.parts).pages) (sym fact);
          flies = λ f flies. absurd (some_none f (sym flies ∙ landed));
        }

        clear : Clear later virtual
        clear = record {
          agrees = record {
            eight = cleaned_eight;
            given = [];
            here = subst (PhaseAgrees part texts later (desk_of virtual [])) (sym cleaned_active) (record {
              there = there;
              nine = k.nine;
              short = k.short;
              pages = Written events asked_work [] refl refl refl work tt (cleaned_pages a.slot.index ∙ ap (λ (c : Checkpointed). pages_clean c.pages) (sym fact));
            });
            writer = writer_begun later (writer_on part texts n later grows (desk_of s agrees.given) agrees.writer) asked_work
                (λ _. record { events = events; as_planned = work });
            closed = λ none. absurd (open_item none);
            done = done_seen part texts n later grows s.checkpoint agrees.done;
          };
          none = refl;
        }

        begins_covered : Serves part texts questions exists brought n s
            (node.said_by cleaned_here (go_on (record s.writer { number = s.writer.number + 1 }) asked_work))
        begins_covered = begins_on n s virtual asked_work now refl landed refl (record {
          next = later;
          runs = On (On Begun (Plans epoch a.slot events (horizon_of a.slot) k.there (ap (λ (c : Checkpointed). c.pages) fact) may
              (horizon_next a.slot k.short))) (Cleans epoch a.slot k.there);
          grows = grows;
          slots = λ d other _. put_there n.slots epoch (Some (slot.slot_clean a.slot)) d (λ same. other (subst (λ p. HeldAt p d) (sym is_now) (sym same)));
          came = λ d none. inl (put_each (λ x o. n.slots x ≡ None → o ≡ None) n.slots epoch (Some (slot.slot_clean a.slot))
              (λ free. absurd (some_none a.slot (sym k.there ∙ free))) (λ x other free. free) d none);
          enters = λ d z. put_each (λ x o. o ≡ Some z → n.slots x ≡ None → brought.ends × ManagedAt (phase_at cleaned_here.slots part) x) n.slots epoch
              (Some (slot.slot_clean a.slot))
              (λ _ none. absurd (some_none a.slot (sym k.there ∙ none))) (λ x other some none. absurd (some_none z (sym some ∙ none))) d;
          stays = λ _ e h. managed_now e (subst (λ p. ManagedAt p e) is_now h);
          held = λ e h. inl (held_before e h);
          rises = rises_not;
          does = tt;
          agrees = clear;
        })

      begins_active : Serves part texts questions exists brought n s (node.writer_takes cleaned_here (begin_with part a))
      unfolding node.writer_takes node.writer_says_each
      begins_active =
          by_test (λ (r : Stepped WriterState Out). Serves part texts questions exists brought n s (node.said_by cleaned_here r)) (is_idle s.writer)
          (go_on (record s.writer { number = s.writer.number + 1 }) asked_work) (still s.writer)
          (λ idle. by idle k.pages) (λ busy. refused busy)
        where
          by : is_idle s.writer ≡ true → Paged part texts n (desk_of s agrees.given) epoch (pages_of a.slot.index) a.parts
              → Serves part texts questions exists brought n s (node.said_by cleaned_here (go_on (record s.writer { number = s.writer.number + 1 }) asked_work))
          by idle (Covered events may fact never) = begins_covered events may fact
          by idle (Written events w rows it of at work_ fits fact) = absurd (some_none w (sym it ∙ no_work))
          by idle (Ended number none) = absurd (not_spent s.writer no_work no_asked idle number)

          refused : is_idle s.writer ≡ false → Serves part texts questions exists brought n s (node.said_by cleaned_here (still s.writer))
          refused busy = ends busy

    -- a slot that isn't managed
    begins_nothing : (p : SlotPhase) → now ≡ p → phase_clean p ≡ p → Serves part texts questions exists brought n s (still cleaned_here)
    begins_nothing p fact same =
        let at : phase_at cleaned_here.slots part ≡ now = cleaned_is p fact ∙ same ∙ sym fact in
        sees_quiet part texts questions brought n now (phase_at cleaned_here.slots part) [] (λ m. ServingAgrees part texts m cleaned_here)
        (λ e h. inl (subst (λ q. HeldAt q e) at h)) (λ _ e h. managed_as now (phase_at cleaned_here.slots part) at e h)
        (let e = ap epoch_of at in omega arith) tt
        (record {
          eight = cleaned_eight;
          given = agrees.given;
          here = subst (PhaseAgrees part texts n (desk_of s agrees.given)) (sym at) agrees.here;
          writer = agrees.writer;
          closed = agrees.closed;
          done = agrees.done;
        })

    begins_here : (p : SlotPhase) → now ≡ p → Serves part texts questions exists brought n s (node.writes_slot cleaned_here (begin_in part p))
    unfolding phase_clean
    begins_here (phase.Active a) fact = begins_active a fact (subst (PhaseAgrees part texts n (desk_of s agrees.given)) fact agrees.here)
    begins_here (phase.Away epoch_) fact = begins_nothing (phase.Away epoch_) fact refl
    begins_here (phase.Taking t) fact = begins_nothing (phase.Taking t) fact refl
    begins_here (phase.Broken epoch_ seg) fact = begins_nothing (phase.Broken epoch_ seg) fact refl

    -- ---- another slot

    module _ (k : ℕ) (other : k ≡ part → ⊥) where
      abbrev cleaned_there : Serving
      cleaned_there = record s { slots = slot_table_clean s.slots k }

      same_there : phase_at cleaned_there.slots part ≡ now
      unfolding slot_table_clean
      same_there = changed_there s.slots k part phase_clean (λ e. other (sym e))

      eight_there : length cleaned_there.slots ≡ slot_count
      unfolding slot_table_clean
      eight_there = changed_length s.slots k phase_clean ∙ agrees.eight

      stays_there : Serves part texts questions exists brought n s (still cleaned_there)
      stays_there =
          sees_quiet part texts questions brought n now (phase_at cleaned_there.slots part) [] (λ m. ServingAgrees part texts m cleaned_there)
          (λ e h. inl (subst (λ q. HeldAt q e) same_there h)) (λ _ e h. managed_as now (phase_at cleaned_there.slots part) same_there e h)
          (let e = ap epoch_of same_there in omega arith) tt
          (record {
            eight = eight_there;
            given = agrees.given;
            here = subst (PhaseAgrees part texts n (desk_of s agrees.given)) (sym same_there) agrees.here;
            writer = agrees.writer;
            closed = agrees.closed;
            done = agrees.done;
          })

      module _ (w : WorkState) (of : w.slot ≡ k) (idle : is_idle s.writer ≡ true) where
        abbrev virtual_there : Serving
        virtual_there = record cleaned_there { writer = at_work w }

        pages_there : (e : ℕ) (pages : PagesState) (parts : List SegRef) → Paged part texts n (desk_of s agrees.given) e pages parts
            → Paged part texts n (desk_of virtual_there []) e pages parts
        pages_there e pages parts (Covered events may fact never) = Covered events may fact
            (λ x it ours at. other (sym of ∙ ap (λ (y : WorkState). y.slot) (some_is w x it) ∙ ours))
        pages_there e pages parts (Written events x rows it ours at work_ fits fact) = absurd (some_none x (sym it ∙ no_work))
        pages_there e pages parts (Ended number none) = absurd (not_spent s.writer no_work no_asked idle number)

        phase_there : (p : SlotPhase) → PhaseAgrees part texts n (desk_of s agrees.given) p → PhaseAgrees part texts n (desk_of virtual_there []) p
        phase_there (phase.Active a) h = record {
          there = h.there;
          nine = h.nine;
          short = h.short;
          pages = pages_there a.slot.epoch (pages_of a.slot.index)
              a.parts h.pages;
        }
        phase_there (phase.Away e) h = tt
        phase_there (phase.Taking t) h = h
        phase_there (phase.Broken e seg) h = tt

        begins_other : Serves part texts questions exists brought n s (node.said_by cleaned_there (go_on (record s.writer { number = s.writer.number + 1 }) w))
        begins_other = begins_on n s virtual_there w now refl landed refl
            (sees_quiet part texts questions brought n now (phase_at virtual_there.slots part) [] (λ m. Clear m virtual_there)
            (λ e h. inl (subst (λ q. HeldAt q e) same_there h)) (λ _ e h. managed_as now (phase_at virtual_there.slots part) same_there e h)
            (let e = ap epoch_of same_there in omega arith) tt (record {
              agrees = record {
                eight = eight_there;
                given = [];
                here = subst (PhaseAgrees part texts n (desk_of virtual_there [])) (sym same_there) (phase_there now agrees.here);
                writer = writer_begun n agrees.writer w (λ ours. absurd (other (sym of ∙ ours)));
                closed = λ none. absurd (open_item none);
                done = agrees.done;
              };
              none = refl;
            }))

      begins_there : (p : SlotPhase) → Serves part texts questions exists brought n s (node.writes_slot cleaned_there (begin_in k p))
      unfolding node.writer_takes node.writer_says_each
      begins_there (phase.Active a) =
          by_test (λ (r : Stepped WriterState Out). Serves part texts questions exists brought n s (node.said_by cleaned_there r)) (is_idle s.writer)
          (go_on (record s.writer { number = s.writer.number + 1 })
          (record {
            slot = k;
            epoch = a.slot.epoch;
            left = (plan_of (pages_of a.slot.index) a.parts).pages;
            parts = (plan_of (pages_of a.slot.index) a.parts).parts;
            horizon = horizon_of a.slot;
          })) (still s.writer)
          (λ idle. begins_other
          (record {
            slot = k;
            epoch = a.slot.epoch;
            left = (plan_of (pages_of a.slot.index) a.parts).pages;
            parts = (plan_of (pages_of a.slot.index) a.parts).parts;
            horizon = horizon_of a.slot;
          }) refl idle)
          (λ _. refused)
        where
          refused : Serves part texts questions exists brought n s (node.said_by cleaned_there (still s.writer))
          refused = stays_there
      begins_there _ = stays_there

    -- ---- any slot

    pub begins_serves : (k : ℕ) → Serves part texts questions exists brought n s (node.begin_slot s k)
    unfolding node.begin_slot
    begins_serves k =
        subst (λ o. Serves part texts questions exists brought n s (node.writes_slot (record s { slots = slot_table_clean s.slots k }) o)) (sym (begin_is s.slots k))
        (by_part k part (Serves part texts questions exists brought n s
        (node.writes_slot (record s { slots = slot_table_clean s.slots k }) (begin_in k (phase_at s.slots k))))
        (λ same. subst (λ x. Serves part texts questions exists brought n s
        (node.writes_slot (record s { slots = slot_table_clean s.slots x }) (begin_in x (phase_at s.slots x)))) (sym same) (begins_here now refl))
        (λ other. begins_there k other (phase_at s.slots k)))
