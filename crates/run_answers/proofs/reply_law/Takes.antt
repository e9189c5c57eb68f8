-- A manager that serves takes a want of a block in a slot that it manages, that a client has given one up, and what a log tells of blocks there, in the event in which
-- it comes.
use Rattle.std.proofs.Common.{◌≡◌, ◌==◌, ◌+◌, ◌&&◌, ℕ, zero, suc, Bool, true, false, cond, not, length, map, flat_map, List, [], ◌∷◌, Option, Some, None, is_some, unwrap_or, slice_get, slice_set, inl, inr, refl, sym, ap, subst, ◌∙◌, arith}
use Rattle.std.proofs.lemmas.Bool.{eqb-true, leb-true, lt-ltb}
use Rattle.std.specs.BTreeMap.{insert_entry}
use Rattle.std.specs.List.{AllByRecursion, list_all}
use Rattle.core_world.specs.AnyNode.{any_step}
use Rattle.core_world.specs.declared.any_node.AnyNode.{AnyNode}
use Rattle.core_world.specs.declared.any_node.AnyNode.TheVariants as any
use Rattle.log_owner.specs.Opening.{log_has_room}
use Rattle.manager_node.specs.declared.manager.Manager.{Manager}
use Rattle.manager_node.specs.declared.phase.Phase.{Phase}
use Rattle.manager_node.specs.declared.phase.Phase.TheVariants.{Serving as Serves}
use Rattle.manager_node.specs.Events.{happens, manager_deliver, on_packet}
use Rattle.manager_node.specs.Phases.{Went_to, lasting_of, phase_has_room}
use Rattle.manager_serving.specs.Checkpoints.{Done}
use Rattle.manager_serving.specs.declared.serving.Serving.{Serving}
use Rattle.manager_serving.specs.Serving.{ask_for_maps, client_in, fed_log, on_body, on_deltas, on_gave, on_want, serving_hear, with_slots}
use Rattle.manager_slots.specs.declared.slot_phase.Active.{Active}
use Rattle.manager_slots.specs.declared.slot_phase.SlotPhase.{SlotPhase}
use Rattle.manager_slots.specs.declared.slot_phase.SlotPhase.TheVariants as phase
use Rattle.manager_slots.specs.Lasting.{lasting_has_room}
use Rattle.manager_slots.specs.Slots.{slot_phase_has_room, with_slot}
use Rattle.manager_slots.specs.SlotTable as table
use Rattle.manager_slots.specs.SlotTable.{in_slot}
use Rattle.manager_slots.specs.Tokens as tokens
use Rattle.manager_slots.specs.Tokens.{deltas_input, tokens_say, tokens_take, want_input}
use Rattle.node_base.specs.Effects.{acts_of, packets_of}
use Rattle.node_base.specs.Known.{names_known_groups}
use Rattle.node_base.specs.Room.{has_long_room, has_room}
use Rattle.node_base.specs.Shape.{is_well_formed}
use Rattle.slot_beliefs.specs.Beliefs.{others}
use Rattle.slot_beliefs.specs.declared.job.Awaited.{Awaited}
use Rattle.slot_beliefs.specs.declared.job.Job.{Job}
use Rattle.slot_beliefs.specs.declared.job.Wanted.{Wanted}
use Rattle.slot_beliefs.specs.Recalls.{applied_of, applied_upto, is_followed, job_at, noted, ready_blocks, recalls, without_job}
use Rattle.token_manager.specs.declared.output.Out.{Out}
use Rattle.token_manager.specs.declared.output.Out.TheVariants.{Recall}
use Rattle.token_manager.specs.Recalls.{send_recalls}
use Rattle.token_manager.specs.SlotState.{SlotState}
use Rattle.token_manager.specs.Transition as slots
use Rattle.token_manager.specs.Transition.{answer, can_apply, finish_job, finished_job, has_turns, is_dropped, joins_on, next_stamp, passers, recall_or_finish, recalled, slot_apply, slot_finish, told_applied, with_deltas}
use Rattle.token_protocol.specs.Basics.{In}
use Rattle.wire_msg.specs.declared.body.Body.{Body}
use Rattle.wire_msg.specs.declared.body.Body.TheVariants as body
use Rattle.wire_msg.specs.declared.deltas.Deltas.{Deltas}
use Rattle.wire_msg.specs.declared.packet.Do.TheVariants.{Deliver}
use Rattle.wire_msg.specs.declared.packet.Packet.{Packet}
use Rattle.wire_msg.specs.declared.tokens.Gave.{Gave}
use Rattle.wire_msg.specs.declared.tokens.Want.{Want}
use Rattle.wire_msg.specs.NodeStep.{NodeStep}
use Rattle.world_base.proofs.Lists.{get_set_same}
use Rattle.xfs_base.proofs.BlockOrder.{block_cmp_total, lookup-insert_entry}
use Rattle.xfs_base.proofs.Booleans.{and_first, and_second, by_test, contrary}
use Rattle.xfs_base.proofs.StepLoops.{steps_keep}
use Rattle.xfs_base.specs.Blocks.{block_cmp, slot_of}
use Rattle.xfs_base.specs.declared.block.BlockId.{BlockId}
use Rattle.xfs_base.specs.declared.node.NodeId.{NodeId}
use Rattle.xfs_base.specs.declared.node.NodeId.TheVariants as nodes
use Rattle.xfs_base.specs.declared.segment.LogId.{LogId}
use Rattle.xfs_base.specs.Logs.{block_writer}
use Rattle.xfs_base.specs.Modes.{is_own}
use Rattle.xfs_base.specs.Steps.{Stepped, still, steps}
use Rattle.headline.specs.ManagerTakes.{AreApplied, DeltasAreTaken, GaveFor, GaveIsTaken, IsBarred, IsMet, IsNoted, ManagerTakes, TakesBody, TakesDeltas, TakesGave, TakesWant, WantIsTaken}
use Rattle.headline.specs.Managers.{active_in, active_of}
use Rattle.run_answers.proofs.wait_law.Again.{itself}

-- ---- counters

room_turn : (turn : ℕ) → has_long_room turn ≡ true → has_turns turn 1 ≡ true
room_turn turn room = (let low = leb-true _ _ room in lt-ltb _ _ (omega (arith, low)))

all_there : (t : List SlotPhase) (k : ℕ) (p : SlotPhase) → list_all slot_phase_has_room t ≡ true → slice_get t k ≡ Some p → slot_phase_has_room p ≡ true
all_there [] k p all at = absurd cc
all_there (q ∷ t) zero p all at = subst (λ (r : SlotPhase). slot_phase_has_room r ≡ true) (one at) (and_first (slot_phase_has_room q) (list_all slot_phase_has_room t) all)
  where
    one : Some q ≡ Some p → q ≡ p
    one fact = cc
all_there (q ∷ t) (suc k) p all at = all_there t k p (and_second (slot_phase_has_room q) (list_all slot_phase_has_room t) all) at

-- ---- recalls

none_left : (n : ℕ) → suc n ≡ 0 → ⊥
none_left n fact = cc

awaited_from : (epoch turn : ℕ) (keep : Bool) (clients : List ℕ) → map (λ (a : Awaited). a.client) (recalls epoch turn keep clients) ≡ clients
awaited_from epoch turn keep [] = refl
awaited_from epoch turn keep (c ∷ cs) = ap (λ (rest : List ℕ). c ∷ rest) (awaited_from epoch (turn + 1) keep cs)

none_answered : (epoch turn : ℕ) (keep : Bool) (clients : List ℕ) → AllByRecursion (λ (a : Awaited). a.end ≡ None) (recalls epoch turn keep clients)
none_answered epoch turn keep [] = tt
none_answered epoch turn keep (c ∷ cs) = (refl, none_answered epoch (turn + 1) keep cs)

job_waits : (jobs : List (BlockId × Job)) (block : BlockId) (job : Job) → job_at (insert_entry block_cmp jobs block job) block ≡ Some job
job_waits jobs block job = lookup-insert_entry block_cmp_total block block job jobs ∙ ap (λ t. cond t (Some job) (job_at jobs block)) (itself block)

-- ---- of a manager and of a slot that it manages

module _ (m : Manager) (s : Serving) where
  abbrev me : NodeId
  me = nodes.Manager s.lasting.number

  -- what it says to a node
  abbrev said : NodeId → Body → Packet
  said to b = record { from = me; to = to; clock = 0; body = b }

  -- what the event makes of the manager
  abbrev step_of : Done → NodeStep AnyNode
  step_of d = record { node = any.Manager (record m { phase = Serves d.state }); packets = packets_of me d.outs; acts = acts_of me d.outs }

  module _ (slot : ℕ) (active : Active) (at : slice_get s.slots slot ≡ Some (phase.Active active)) where
    -- what a slot says and is then
    abbrev done_of : Stepped SlotState Out → Done
    done_of r = with_slots s (record { state = slice_set s.slots slot (with_slot active r.state); outs = flat_map (tokens_say slot active.slot.epoch) r.outs })

    behind_so : (r : Stepped SlotState Out) → active_of slot (Some (step_of (done_of r)).node) ≡ Some r.state
    behind_so r =
        ap active_in
        (ap (λ (o : Option SlotPhase). unwrap_or o (phase.Away 0)) (get_set_same s.slots slot (with_slot active r.state) (phase.Active active) at))

    abbrev Met : Wanted → SlotState → Stepped SlotState Out → Type 0
    Met w t r = IsMet s (step_of (done_of r)) w t

    -- it is granted, or a copy is passed on
    finished : (w : Wanted) (t : SlotState) → Met w t (slot_finish t w)
    unfolding tokens_say
    finished w t = by (passers t w) refl
      where
        by : (ps : List ℕ) → passers t w ≡ ps → Met w t (record { state = (slot_finish t w).state; outs = answer t w ps ∷ [] })
        by [] same = record { stamp = next_stamp t; of_epoch = refl; of_turn = refl; says = inl refl }
        by (c ∷ cs) same =
            record {
              stamp = next_stamp t;
              of_epoch = refl;
              of_turn = refl;
              says = inr (c, (subst (λ (ps : List ℕ). In c ps) (sym same) (inl refl), refl));
            }

    -- ---- a want

    module _ (client : ℕ) (want : Want) (its : slot_of want.block.ino.0 ≡ slot) (turns : has_turns active.slot.turn 1 ≡ true) where
      abbrev w : Wanted
      w = slots.want_of client want.block want.inc want.req want.again want.mode

      abbrev bars : List ℕ
      bars = others active.slot.beliefs want.block client (not (is_own want.mode))

      abbrev Barred : Stepped SlotState Out → Type 0
      Barred r = IsBarred s (step_of (done_of r)) client want active.slot

      met_so : is_dropped active.slot w want.end ≡ false → bars ≡ [] → Met w active.slot (slots.on_want active.slot w want.end)
      met_so taken none =
          subst (λ (t : Bool). Met w active.slot (cond t (still active.slot) (recall_or_finish active.slot w bars))) (sym taken)
          (subst (λ (cs : List ℕ). Met w active.slot (recall_or_finish active.slot w cs)) (sym none)
          (subst (λ (t : Bool). Met w active.slot (cond t (slot_finish active.slot w) (still active.slot))) (sym turns) (finished w active.slot)))

      -- each that bars it is asked to give the block up
      recalls_said : (awaited : List Awaited) → AllByRecursion (λ (a : Awaited). a.end ≡ None) awaited
          → packets_of me (flat_map (tokens_say slot active.slot.epoch) (send_recalls want.block awaited))
          ≡ map (λ (a : Awaited). said (nodes.Client a.client) (body.Recall (record { block = want.block; stamp = a.stamp; keep = a.keep }))) awaited
      unfolding tokens_say
      recalls_said [] none = refl
      recalls_said (a ∷ rest) none =
          subst
          (λ (o : Option ℕ).
          packets_of me
          (flat_map (tokens_say slot active.slot.epoch)
          (cond (is_some o) (send_recalls want.block rest) (Recall a.client want.block a.stamp a.keep ∷ send_recalls want.block rest)))
          ≡ said (nodes.Client a.client) (body.Recall (record { block = want.block; stamp = a.stamp; keep = a.keep }))
          ∷ map (λ (b : Awaited). said (nodes.Client b.client) (body.Recall (record { block = want.block; stamp = b.stamp; keep = b.keep }))) rest)
          (sym none.0)
          (ap
          (λ (packets : List Packet).
          said (nodes.Client a.client) (body.Recall (record { block = want.block; stamp = a.stamp; keep = a.keep })) ∷ packets)
          (recalls_said rest none.1))

      recalled_so : (cs : List ℕ) → bars ≡ cs → Barred (recalled active.slot w cs)
      recalled_so cs same =
          let keep = not (is_own want.mode) in
          let awaited : List Awaited = recalls active.slot.epoch active.slot.turn keep cs in
          record {
            now = (recalled active.slot w cs).state;
            behind = subst (λ (k : ℕ). active_of k (Some (step_of (done_of (recalled active.slot w cs))).node) ≡ Some (recalled active.slot w cs).state) (sym its)
                (behind_so (recalled active.slot w cs));
            job = record { want = w; awaited = awaited };
            waits = job_waits active.slot.jobs want.block (record { want = w; awaited = awaited });
            wants = refl;
            from = awaited_from active.slot.epoch active.slot.turn keep cs ∙ sym same;
            unanswered = none_answered active.slot.epoch active.slot.turn keep cs;
            says = recalls_said awaited (none_answered active.slot.epoch active.slot.turn keep cs);
          }

      barred_so : is_dropped active.slot w want.end ≡ false → (bars ≡ [] → ⊥) → has_turns active.slot.turn (length bars) ≡ true
          → Barred (slots.on_want active.slot w want.end)
      barred_so taken some many =
          subst (λ (t : Bool). Barred (cond t (still active.slot) (recall_or_finish active.slot w bars))) (sym taken) (by bars refl some many)
        where
          by : (cs : List ℕ) → bars ≡ cs → (cs ≡ [] → ⊥) → has_turns active.slot.turn (length cs) ≡ true → Barred (recall_or_finish active.slot w cs)
          by [] same some many = absurd (some refl)
          by (c ∷ cs) same some many =
              by_test Barred (length (c ∷ cs) == 0) (slots.finish active.slot w) (slots.recall active.slot w (c ∷ cs))
              (λ fact. absurd (none_left (length cs) (eqb-true (length (c ∷ cs)) 0 fact)))
              (λ _. subst (λ (t : Bool). Barred (cond t (recalled active.slot w (c ∷ cs)) (still active.slot))) (sym many) (recalled_so (c ∷ cs) same))

      want_so : TakesWant s (step_of (done_of (slots.on_want active.slot w want.end))) client want active.slot
      want_so = record {
        dropped = λ is.
            subst
            (λ (t : Bool).
            packets_of me (flat_map (tokens_say slot active.slot.epoch) (cond t (still active.slot) (recall_or_finish active.slot w bars)).outs) ≡ [])
            (sym is) refl;
        met = met_so;
        barred = barred_so;
      }

    -- ---- a block that is given up

    module _ (client : ℕ) (gave : Gave) (its : slot_of gave.block.ino.0 ≡ slot) (turns : has_turns active.slot.turn 1 ≡ true) where
      module _ (job : Job) where
        abbrev answered_list : List Awaited
        answered_list = noted job.awaited client gave.stamp gave.end

        abbrev Noted : Stepped SlotState Out → Type 0
        Noted r = IsNoted s (step_of (done_of r)) client gave active.slot job

        abbrev given_to : SlotState
        given_to = slots.given active.slot job.want client gave.block

        abbrev one_more : Stepped SlotState Out
        one_more = still (slots.gave_one active.slot client gave.block job.want answered_list)

        abbrev noted_by : Stepped SlotState Out
        noted_by = slots.gave_noted active.slot client gave.block job.want answered_list

        last_so : Met job.want given_to (slots.gave_last active.slot client gave.block job.want)
        last_so =
            subst
            (λ (t : Bool).
            Met job.want given_to
            (cond t (slot_finish (record given_to { jobs = without_job active.slot.jobs gave.block }) job.want) (still active.slot))) (sym turns)
            (let m = finished job.want (record given_to { jobs = without_job active.slot.jobs gave.block }) in
            record { stamp = m.stamp; of_epoch = m.of_epoch; of_turn = m.of_turn; says = m.says })

        more_so : Noted one_more
        more_so = record {
          now = slots.gave_one active.slot client gave.block job.want answered_list;
          behind = subst
              (λ (k : ℕ).
              active_of k (Some (step_of (done_of one_more)).node) ≡ Some (slots.gave_one active.slot client gave.block job.want answered_list))
              (sym its) (behind_so one_more);
          waits = job_waits active.slot.jobs gave.block (record { want = job.want; awaited = answered_list });
          says = refl;
        }

        gave_so : TakesGave s (step_of (done_of (slots.gave_job active.slot client gave.block gave.stamp gave.end (Some job)))) client gave active.slot job
        unfolding slots.gave_noted
        gave_so = record {
          other = λ none.
              subst (λ (t : Bool). (step_of (done_of (cond t noted_by (still active.slot)))).packets ≡ []) (sym none) refl;
          last = λ one ready.
              subst (λ (t : Bool). Met job.want given_to (cond t noted_by (still active.slot))) (sym one)
              (subst (λ (t : Bool). Met job.want given_to (cond t (slots.gave_last active.slot client gave.block job.want) one_more)) (sym ready) last_so);
          more = λ one unready.
              subst (λ (t : Bool). Noted (cond t noted_by (still active.slot))) (sym one)
              (subst (λ (t : Bool). Noted (cond t (slots.gave_last active.slot client gave.block job.want) one_more)) (sym unready) more_so);
        }

      gave_for : (o : Option Job)
          → GaveFor s (step_of (done_of (slots.gave_job active.slot client gave.block gave.stamp gave.end o))) client gave active.slot o
      gave_for None = refl
      gave_for (Some job) = gave_so job

    -- ---- deltas

    module _ (log : LogId) (deltas : Deltas) (its : deltas.slot ≡ slot) where
      -- no want that is answered changes what is applied
      finishes : (t : SlotState) (block : BlockId) → (finish_job t block).state.applied ≡ t.applied
      unfolding finish_job
      finishes t block = by (job_at t.jobs block)
        where
          by : (o : Option Job) → (finished_job t block o).state.applied ≡ t.applied
          by None = refl
          by (Some job) = refl

      abbrev more : SlotState
      more = with_deltas active.slot log deltas.upto deltas.rows

      abbrev ready : List BlockId
      ready = ready_blocks active.slot.jobs (applied_upto active.slot.applied log deltas.upto)

      abbrev Known : Stepped SlotState Out → Type 0
      Known r =
          (step_of (done_of r)).packets
          ≡ said (block_writer log.0)
          (body.DeltaAck (record { slot = deltas.slot; epoch = active.slot.epoch; applied = applied_of active.slot.applied log.0 }))
          ∷ []

      abbrev Applied_ : Stepped SlotState Out → Type 0
      Applied_ r = AreApplied s (step_of (done_of r)) log deltas active.slot

      told_so : Known (told_applied active.slot log)
      unfolding tokens_say
      told_so =
          ap
          (λ (k : ℕ).
          said (block_writer log.0) (body.DeltaAck (record { slot = k; epoch = active.slot.epoch; applied = applied_of active.slot.applied log.0 }))
          ∷ [])
          (sym its)

      apply_so : Applied_ (slots.apply active.slot log deltas.upto deltas.rows)
      unfolding tokens_say
      apply_so = record {
        now = (steps finish_job more ready).state;
        behind = subst
            (λ (k : ℕ).
            active_of k (Some (step_of (done_of (slots.apply active.slot log deltas.upto deltas.rows))).node) ≡ Some (steps finish_job more ready).state)
            (sym its) (behind_so (slots.apply active.slot log deltas.upto deltas.rows));
        applied = steps_keep finish_job (λ (t : SlotState). t.applied ≡ applied_upto active.slot.applied log deltas.upto)
            (λ t block kept. finishes t block ∙ kept) more ready refl;
        more = packets_of me (flat_map (tokens_say slot active.slot.epoch) (steps finish_job more ready).outs);
        says = ap
            (λ (k : ℕ).
            said (block_writer log.0) (body.DeltaAck (record { slot = k; epoch = active.slot.epoch; applied = deltas.upto }))
            ∷ packets_of me (flat_map (tokens_say slot active.slot.epoch) (steps finish_job more ready).outs))
            (sym its);
      }

      deltas_so : is_followed log ≡ true
          → TakesDeltas s (step_of (done_of (slots.on_deltas active.slot log deltas.first deltas.upto deltas.rows))) log deltas active.slot
      deltas_so followed = record {
        known = λ none.
            subst (λ (t : Bool). Known (cond t (slots.deltas_of active.slot log deltas.first deltas.upto deltas.rows) (still active.slot))) (sym followed)
            (subst (λ (t : Bool). Known (cond t (slot_apply active.slot log deltas.upto deltas.rows) (told_applied active.slot log))) (sym none) told_so);
        next = λ joins can.
            subst (λ (t : Bool). Applied_ (cond t (slots.deltas_of active.slot log deltas.first deltas.upto deltas.rows) (still active.slot))) (sym followed)
            (subst (λ (t : Bool). Applied_ (cond t (slot_apply active.slot log deltas.upto deltas.rows) (told_applied active.slot log))) (sym joins)
            (subst (λ (t : Bool). Applied_ (cond t (slots.apply active.slot log deltas.upto deltas.rows) (still active.slot))) (sym can) apply_so));
      }

  -- ---- by how the slot stands

  module _ (room : list_all slot_phase_has_room s.slots ≡ true) where
    turn_left : (k : ℕ) (active : Active) → slice_get s.slots k ≡ Some (phase.Active active) → has_turns active.slot.turn 1 ≡ true
    turn_left k active at = room_turn active.slot.turn (and_second _ _ (all_there s.slots k (phase.Active active) room at))

    want_by : (want : Want) (client : ℕ) (p : Option SlotPhase) → slice_get s.slots (slot_of want.block.ino.0) ≡ p
        → WantIsTaken s (step_of (with_slots s (in_slot s.slots (slot_of want.block.ino.0) (λ q. tokens.on_want q client want) p))) want (Some client) p
    unfolding tokens.on_want tokens_take
    want_by want client None at = tt
    want_by want client (Some (phase.Active active)) at =
        want_so (slot_of want.block.ino.0) active at client want refl (turn_left (slot_of want.block.ino.0) active at)
    want_by want client (Some (phase.Away epoch)) at = tt
    want_by want client (Some (phase.Taking taking)) at = tt
    want_by want client (Some (phase.Broken epoch seg)) at = tt

    wants_so : (want : Want) (asker : Option ℕ) → WantIsTaken s (step_of (on_want s asker want)) want asker (slice_get s.slots (slot_of want.block.ino.0))
    unfolding on_want table.on_want
    wants_so want None = tt
    wants_so want (Some client) = want_by want client (slice_get s.slots (slot_of want.block.ino.0)) refl

    gave_by : (gave : Gave) (client : ℕ) (p : Option SlotPhase) → slice_get s.slots (slot_of gave.block.ino.0) ≡ p
        → GaveIsTaken s (step_of (with_slots s (in_slot s.slots (slot_of gave.block.ino.0) (λ q. tokens.on_gave q client gave) p))) gave (Some client) p
    unfolding tokens_take
    gave_by gave client None at = tt
    gave_by gave client (Some (phase.Active active)) at =
        gave_for (slot_of gave.block.ino.0) active at client gave refl (turn_left (slot_of gave.block.ino.0) active at) (job_at active.slot.jobs gave.block)
    gave_by gave client (Some (phase.Away epoch)) at = tt
    gave_by gave client (Some (phase.Taking taking)) at = tt
    gave_by gave client (Some (phase.Broken epoch seg)) at = tt

    gaves_so : (gave : Gave) (asker : Option ℕ) → GaveIsTaken s (step_of (on_gave s asker gave)) gave asker (slice_get s.slots (slot_of gave.block.ino.0))
    unfolding on_gave table.on_gave
    gaves_so gave None = tt
    gaves_so gave (Some client) = gave_by gave client (slice_get s.slots (slot_of gave.block.ino.0)) refl

    deltas_by : (deltas : Deltas) (log : LogId) (p : Option SlotPhase) → slice_get s.slots deltas.slot ≡ p
        → DeltasAreTaken s (step_of (with_slots s (in_slot s.slots deltas.slot (λ q. tokens.on_deltas q log deltas) p))) deltas (Some log) p
    unfolding tokens_take
    deltas_by deltas log None at = tt
    deltas_by deltas log (Some (phase.Active active)) at = deltas_so deltas.slot active at log deltas refl
    deltas_by deltas log (Some (phase.Away epoch)) at = tt
    deltas_by deltas log (Some (phase.Taking taking)) at = tt
    deltas_by deltas log (Some (phase.Broken epoch seg)) at = tt

    all_deltas_so : (deltas : Deltas) (log : Option LogId) → DeltasAreTaken s (step_of (on_deltas s log deltas)) deltas log (slice_get s.slots deltas.slot)
    unfolding on_deltas table.on_deltas
    all_deltas_so deltas None = tt
    all_deltas_so deltas (Some log) = deltas_by deltas log (slice_get s.slots deltas.slot) refl

    -- ---- all packets

    taken : (clients : ℕ) (asker : NodeId) (b : Body) → TakesBody s (step_of (on_body s clients asker b)) asker b
    taken clients asker (body.Want want) = wants_so want (client_in asker)
    taken clients asker (body.Gave gave) = gaves_so gave (client_in asker)
    taken clients asker (body.Deltas deltas) = all_deltas_so deltas (fed_log asker)
    taken clients asker _ = tt

    hear_takes : (clients : ℕ) (packet : Packet) → names_known_groups s.maps packet.body ≡ true
        → TakesBody s (step_of (serving_hear s clients packet)) packet.from packet.body
    unfolding serving_hear
    hear_takes clients packet known =
        by_test (λ (d : Done). TakesBody s (step_of d) packet.from packet.body) (names_known_groups s.maps packet.body)
        (on_body s clients packet.from packet.body) (ask_for_maps s) (λ _. taken clients packet.from packet.body) (λ fails. contrary (sym fails ∙ known))

-- what is known of all slots where its counters are far from their ends
slots_room : (s : Serving) → phase_has_room (Serves s) ≡ true → list_all slot_phase_has_room s.slots ≡ true
slots_room s room =
    last_of_five (lasting_has_room s.lasting) (has_room s.maps.version) (has_room s.dones) (log_has_room s.log) (list_all slot_phase_has_room s.slots) room
  where
    last_of_five : (a b c d f : Bool) → (a && (b && (c && (d && f)))) ≡ true → f ≡ true
    last_of_five a b c d f fact =
        and_second d f (and_second c (d && f) (and_second b (c && (d && f)) (and_second a (b && (c && (d && f))) fact)))

pub manager_takes : (m : Manager) (packet : Packet) → phase_has_room m.phase ≡ true → is_well_formed m.peers packet ≡ true
    → ManagerTakes m packet (any_step (any.Manager m) (Deliver packet))
unfolding happens manager_deliver
manager_takes m packet room well s serves known =
    subst P (sym serves)
    (by_test Q (phase_has_room (Serves s)) (manager_deliver m.peers (Serves s) packet) (still (Serves s))
    (λ far.
    by_test Q (is_well_formed m.peers packet) (on_packet m.peers (Serves s) packet) (still (Serves s))
    (λ _. hear_takes m s (slots_room s far) m.peers.clients packet known) (λ fails. contrary (sym fails ∙ well)))
    (λ fails. contrary (sym fails ∙ subst (λ (p : Phase). phase_has_room p ≡ true) serves room)))
  where
    stepped : Went_to → NodeStep AnyNode
    stepped w = record {
      node = any.Manager (record m { phase = w.state });
      packets = packets_of (nodes.Manager s.lasting.number) w.outs;
      acts = acts_of (nodes.Manager s.lasting.number) w.outs;
    }

    Q : Went_to → Type 0
    Q w = TakesBody s (stepped w) packet.from packet.body

    P : Phase → Type 0
    P p =
        TakesBody s
        (record {
          node = any.Manager (record m { phase = (cond (phase_has_room p) (manager_deliver m.peers p packet) (still p)).state });
          packets = packets_of (nodes.Manager (lasting_of p).number) (cond (phase_has_room p) (manager_deliver m.peers p packet) (still p)).outs;
          acts = acts_of (nodes.Manager (lasting_of p).number) (cond (phase_has_room p) (manager_deliver m.peers p packet) (still p)).outs;
        })
        packet.from packet.body
