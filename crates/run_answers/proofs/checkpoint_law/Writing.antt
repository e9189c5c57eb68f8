-- How a manager goes on with the checkpoint of the slot at hand: as it begins to write it, and as a segment of it is settled.
use Rattle.std.proofs.Common.{◌≡◌, ◌≢◌, ◌⊎◌, ◌<◌, ◌≤◌, ◌+◌, ◌==◌, ◌||◌, min, not, ℕ, suc, Bool, true, false, List, [], ◌∷◌, ◌++◌, Option, Some, None, is_some, length, drop, take, slice_get, inl, inr, refl, sym, ap, subst, ◌∙◌, arith}
use Rattle.std.proofs.lemmas.Bool.{cases_lt, eqb-false}
use Rattle.std.specs.List.{flat_map}
use Rattle.checkpoint.specs.declared.input.In.TheVariants as writer_in
use Rattle.checkpoint.specs.declared.output.Out.{Out}
use Rattle.checkpoint.specs.declared.output.Out.TheVariants as out
use Rattle.checkpoint.specs.Transition as writer
use Rattle.checkpoint.specs.WriterState.{WorkState, WriterState, items_of}
use Rattle.client_log.specs.declared.input.In.TheVariants as log_in
use Rattle.client_log.specs.declared.output.Out.TheVariants as log_out
use Rattle.client_log.specs.Transition as log
use Rattle.core_world.specs.declared.any_node.AnyNode.{AnyNode}
use Rattle.manager_serving.specs.Checkpoints.{Done, await_answer, begin_slot, checkpointing_store, filed, give_parts, log_says, log_says_each, on_settled, register, said_by, serving_write, writer_says, writer_says_each, writer_takes, writes_slot}
use Rattle.manager_serving.specs.declared.checkpointing.Checkpointing.{Checkpointing}
use Rattle.manager_serving.specs.declared.serving.Serving.{Serving}
use Rattle.manager_slots.specs.declared.slot_phase.Active.{Active}
use Rattle.manager_slots.specs.declared.slot_phase.SlotPhase.{SlotPhase}
use Rattle.manager_slots.specs.declared.slot_phase.SlotPhase.TheVariants as phase
use Rattle.manager_slots.specs.Numbers.{risen}
use Rattle.manager_slots.specs.SlotTable.{begin_one, horizon_of, slot_table_clean}
use Rattle.checkpoint.specs.Plan.{plan_of}
use Rattle.node_base.specs.Asking.{next_ask}
use Rattle.node_base.specs.declared.effects.Effect.{Effect}
use Rattle.node_base.specs.declared.effects.Effect.TheVariants.{Send}
use Rattle.segment_format.specs.declared.segment.Item.{Item}
use Rattle.slot_beliefs.specs.Index.{pages_of}
use Rattle.wire_msg.specs.declared.body.Body.TheVariants as body
use Rattle.wire_msg.specs.declared.registry.CkptDone.{CkptDone}
use Rattle.world_base.specs.declared.estate.Estate.{Estate}
use Rattle.xfs_base.proofs.Alls.{all_append, all_flat_map}
use Rattle.xfs_base.proofs.Booleans.{by_test}
use Rattle.xfs_base.specs.declared.node.NodeId.TheVariants as nodes
use Rattle.xfs_base.specs.declared.segment.End.{End}
use Rattle.xfs_base.specs.Limits.{u32_end}
use Rattle.xfs_base.specs.Steps.{Stepped, still}
use Rattle.run_answers.proofs.checkpoint_law.Desk.{AllSo, At, EffectSo, Goes, IsFresh, IsIdle, JobSo, Leads, Turned, Waits, WorksOn, first_goes, from_goes, job_more, plainly, steps_go}
use Rattle.run_answers.proofs.wait_law.Again.{in_behind}
use Rattle.client_log.specs.declared.input.In.{In as LogIn}
use Rattle.client_log.specs.declared.output.Out.{Out as LogOut}

-- the checkpoint that is under way, of whose slot the registry isn't told
abbrev pub job_of : ℕ → ℕ → Checkpointing
job_of count next = record { next = next; count = count; done = None }

-- ---- numbers

risen_low : (n : ℕ) → risen n ≤ u32_end
risen_low n = omega arith

or_last : (a b c : Bool) → not (a || (b || c)) ≡ true → c ≡ false
or_last true b c fact = absurd cc
or_last false true c fact = absurd cc
or_last false false true fact = absurd cc
or_last false false false fact = refl

begun_number : (number dones : ℕ) → number ≡ dones → dones ≤ u32_end → number ≢ u32_end → number + 1 ≡ risen dones
begun_number number dones same low other = by (cases_lt number u32_end)
  where
    rises : number < u32_end → number + 1 ≡ risen dones
    rises less = subst (λ (n : ℕ). number + 1 ≡ min (n + 1) u32_end) same (least number u32_end less)
      where
        least : (a b : ℕ) → a < b → a + 1 ≡ min (a + 1) b
        least a b less = omega (arith, less)

    ended : u32_end ≤ number → number ≡ u32_end
    ended more = meets number u32_end more (subst (λ (n : ℕ). n ≤ u32_end) (sym same) low)
      where
        meets : (a b : ℕ) → b ≤ a → a ≤ b → a ≡ b
        meets a b more less = omega (arith, more, less)

    by : (number < u32_end) ⊎ (u32_end ≤ number) → number + 1 ≡ risen dones
    by (inl less) = rises less
    by (inr more) = absurd (other (ended more))

module _ (e : Estate AnyNode) (v now : ℕ) where
  abbrev L : List Effect → Done → Type 0
  L outs d = Leads e v now outs d

  stored_so : (o : LogOut) → AllSo e v now (checkpointing_store o)
  unfolding checkpointing_store
  stored_so (log_out.Send fragment member) = (tt, tt)
  stored_so (log_out.Settled end rows) = tt

  -- ---- the writer goes on

  module _ (outs : List Effect) (t : Serving) (count next : ℕ) (its_job : t.checkpoint ≡ Some (job_of count next))
      (at : Turned e v now count next t.lasting.items.unanswered) (fresh : IsFresh e v now at.turned) where
    module _ (w : WriterState) (it : WorkState) (asked : w.asked ≡ None) (its : it.slot ≡ at.slot) (epoch : it.epoch ≡ at.managed.epoch)
        (number : w.number ≡ risen t.dones) where
      abbrev done : CkptDone
      done = record { slot = it.slot; epoch = it.epoch; ask = next_ask t.lasting.questions; parts = it.parts; horizon = it.horizon }

      abbrev tells : Effect
      tells = Send nodes.Registry (body.CkptDone done)

      abbrev told_writer : WriterState
      told_writer = record w { work = None; asked = Some it.epoch }

      finishes : L outs (writer_says_each (record t { writer = told_writer }) (out.Done it.slot it.epoch it.parts it.horizon ∷ []))
      unfolding writer_says_each writer_says register
      finishes = record {
        state = subst
            (λ (c : Option Checkpointing).
            JobSo e v now (suc now) (outs ++ tells ∷ []) (await_answer done c) told_writer (risen t.dones) t.lasting.items.unanswered) (sym its_job)
            (record {
              at = at;
              waits = record {
                work = refl;
                asked = refl;
                number = number;
                low = risen_low t.dones;
                epoch_is = epoch;
                told = inr (record { its = its; fresh = fresh; said = in_behind tells outs (tells ∷ []) (inl refl) });
              };
            });
        says = (tt, tt);
      }

      abbrev given : List Item
      given = items_of it.slot (take 24 it.left)

      abbrev given_writer : WriterState
      given_writer = record w { work = Some (record it { left = drop 24 it.left }) }

      gives : L outs (writer_says_each (record t { writer = given_writer }) (out.Parts given ∷ []))
      unfolding writer_says_each writer_says give_parts
      gives = record {
        state = subst
            (λ (c : Option Checkpointing).
            JobSo e v now (suc now) (outs ++ (flat_map checkpointing_store (log.transition t.log (log_in.Parts given)).outs ++ [])) c given_writer t.dones
            t.lasting.items.unanswered)
            (sym its_job) (record { at = at; waits = record { asked = asked; fresh = fresh; works = (its, (epoch, number)) } });
        says = all_append (EffectSo e v now) (flat_map checkpointing_store (log.transition t.log (log_in.Parts given)).outs) []
            (all_flat_map (EffectSo e v now) checkpointing_store stored_so (log.transition t.log (log_in.Parts given)).outs) tt;
      }

      goes_on : L outs (writer_says_each (record t { writer = (writer.go_on w it).state }) (writer.go_on w it).outs)
      goes_on =
          by_test (λ (r : Stepped WriterState Out). L outs (writer_says_each (record t { writer = r.state }) r.outs)) (length it.left == 0)
          (writer.writer_finish w it) (writer.gives w it) (λ _. finishes) (λ _. gives)

  -- ---- the slot is begun

  module _ (outs : List Effect) (t : Serving) (count next : ℕ) (its_job : t.checkpoint ≡ Some (job_of count next))
      (at : Turned e v now count next t.lasting.items.unanswered) (fresh : IsFresh e v now at.turned) (idle : IsIdle e v now t.dones t.writer) (active : Active)
      (there : slice_get t.slots at.slot ≡ Some (phase.Active active)) (its_epoch : active.slot.epoch ≡ at.managed.epoch) where
    abbrev clean : Serving
    clean = record t { slots = slot_table_clean t.slots at.slot }

    abbrev work : WorkState
    work = record {
      slot = at.slot;
      epoch = active.slot.epoch;
      left = (plan_of (pages_of active.slot.index) active.parts).pages;
      parts = (plan_of (pages_of active.slot.index) active.parts).parts;
      horizon = horizon_of active.slot;
    }

    abbrev Written : Stepped WriterState Out → Type 0
    Written r = L outs (writer_says_each (record clean { writer = r.state }) r.outs)

    -- the writer takes it
    takes_it : writer.is_idle t.writer ≡ true → Written (writer.go_on (record t.writer { number = t.writer.number + 1 }) work)
    takes_it takes =
        goes_on outs clean count next its_job at fresh (record t.writer { number = t.writer.number + 1 }) work idle.asked refl its_epoch
        (begun_number t.writer.number t.dones idle.number idle.low
        (eqb-false t.writer.number u32_end (or_last (is_some t.writer.work) (is_some t.writer.asked) (t.writer.number == u32_end) takes)))

    -- or it takes no more
    takes_none : Written (still t.writer)
    unfolding writer_says_each
    takes_none = record {
      state = subst (λ (c : Option Checkpointing). JobSo e v now (suc now) (outs ++ []) c t.writer t.dones t.lasting.items.unanswered) (sym its_job)
          (record {
            at = at;
            waits = record {
              asked = idle.asked;
              fresh = fresh;
              works = subst (WorksOn e v now at.slot at.managed.epoch t.dones t.writer) (sym idle.work) (idle.number, idle.low);
            };
          });
      says = tt;
    }

    pub begin_leads : L outs (begin_slot t at.slot)
    unfolding begin_slot writer_takes
    begin_leads =
        subst (λ (o : Option SlotPhase). L outs (writes_slot clean (begin_one at.slot o))) (sym there)
        (by_test Written (writer.is_idle t.writer) (writer.go_on (record t.writer { number = t.writer.number + 1 }) work) (still t.writer) takes_it
        (λ _. takes_none))

  -- ---- a segment is settled

  module _ (s : Serving) (end : End) (outs : List Effect) (h : At e v now (suc now) outs s) where
    abbrev Settles : Option WorkState → Type 0
    Settles o = L outs (said_by s (writer.settled s.writer o end))

    -- where nothing is written all stays
    unwritten : Settles None
    unfolding writer_says_each
    unwritten = record { state = job_more e v now (suc now) outs [] s.checkpoint s.writer s.dones s.lasting.items.unanswered h; says = tt }

    none_written : (o : Option WorkState) → s.writer.work ≡ None → s.writer.work ≡ o → Settles o
    none_written o none is = subst Settles (sym none ∙ is) unwritten

    written : (job : Checkpointing) → s.checkpoint ≡ Some job → (at : Turned e v now job.count job.next s.lasting.items.unanswered) → (done : Option CkptDone)
        → job.done ≡ done → Waits e v now (suc now) outs at.turned at.slot at.managed.epoch s.dones s.writer done → (o : Option WorkState) → s.writer.work ≡ o
        → Settles o
    written job its at (Some told) is waits o fact = none_written o waits.work fact
    written job its at None is waits None fact = unwritten
    written job its at None is waits (Some it) fact =
        (let so = subst (WorksOn e v now at.slot at.managed.epoch s.dones s.writer) fact waits.works in
        goes_on outs s job.count job.next (its ∙ ap (λ (d : Option CkptDone). Some (record job { done = d })) is) at waits.fresh s.writer
        (record it { parts = it.parts ++ writer.part_at s.writer.log end ∷ [] }) waits.asked so.0 so.1.0 so.1.1)

    by_job : (c : Option Checkpointing) → s.checkpoint ≡ c → JobSo e v now (suc now) outs c s.writer s.dones s.lasting.items.unanswered → (o : Option WorkState)
        → s.writer.work ≡ o → Settles o
    by_job None its idle o work = none_written o idle.work work
    by_job (Some job) its desk o work = written job its desk.at job.done refl desk.waits o work

    settles : L outs (writer_takes s (writer_in.Settled end))
    unfolding writer_takes
    settles = by_job s.checkpoint refl h s.writer.work refl

  settled_goes : (s : Serving) (end : End) → Goes e v now s (on_settled s end)
  unfolding on_settled
  settled_goes s end = first_goes e v now s (filed s end) (writer_takes s (writer_in.Settled end)) (tt, tt) (settles s end)

  -- ---- the log

  log_goes : (s : Serving) (o : LogOut) → Goes e v now s (log_says s o)
  unfolding log_says
  log_goes s (log_out.Send fragment member) = plainly e v now s _ (λ outs h. h) (tt, tt)
  log_goes s (log_out.Settled end rows) = settled_goes s end

  pub writes_go : (s : Serving) (given : LogIn) → Goes e v now s (serving_write s given)
  unfolding serving_write log_says_each
  writes_go s given =
      let t : Serving = record s { log = (log.transition s.log given).state } in
      from_goes e v now s t (serving_write s given) (λ outs h. h) (steps_go e v now log_says log_goes t (log.transition s.log given).outs)
