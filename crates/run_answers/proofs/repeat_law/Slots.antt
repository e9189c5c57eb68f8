-- At a tick each recall of a slot that is managed is sent again that isn't answered, and each node is polled again whose report a takeover lacks.
use Rattle.std.proofs.Common.{◌≡◌, ◌≢◌, ◌⊎◌, ◌==◌, ◌<◌, ℕ, Bool, true, false, cond, filter, List, [], ◌∷◌, Option, Some, None, is_some, slice_get, slice_set, inl, inr, refl, sym, ap, subst, ◌∙◌}
use Rattle.std.proofs.lemmas.Bool.{eqb-false, eqb-true}
use Rattle.manager_slots.specs.declared.slot_phase.Active.{Active}
use Rattle.manager_slots.specs.declared.slot_phase.SlotPhase.{SlotPhase}
use Rattle.manager_slots.specs.declared.slot_phase.SlotPhase.TheVariants as phase
use Rattle.manager_slots.specs.declared.slot_phase.Taking.{Taking}
use Rattle.manager_slots.specs.Slots.{epoch_of}
use Rattle.manager_slots.specs.SlotTable.{Table, TableAsker, in_slot, in_taken, recall_again, slot_table_ask, slot_table_ask_again, slot_table_recall}
use Rattle.manager_slots.specs.Takeovers.{Asker, asker, is_wanted, outs_of, say_each, takeovers_ask_again, takeovers_say}
use Rattle.manager_slots.specs.Tokens as tokens
use Rattle.manager_slots.specs.Tokens.{tokens_say, tokens_take}
use Rattle.node_base.specs.declared.effects.Effect.{Effect}
use Rattle.node_base.specs.declared.effects.Effect.TheVariants.{Send}
use Rattle.node_base.specs.declared.questions.Questions.{Questions}
use Rattle.slot_beliefs.specs.declared.job.Awaited.{Awaited}
use Rattle.slot_beliefs.specs.declared.job.Job.{Job}
use Rattle.takeover.specs.declared.output.Out.{Out}
use Rattle.takeover.specs.declared.output.Out.TheVariants as out
use Rattle.takeover.specs.Transition as takeover
use Rattle.token_manager.specs.declared.output.Out.TheVariants.{Recall}
use Rattle.token_manager.specs.Recalls.{send_all, send_recalls}
use Rattle.token_protocol.specs.Basics.{In}
use Rattle.wire_msg.specs.declared.body.Body.TheVariants as body
use Rattle.world_base.proofs.Lists.{get_set_other, get_set_same}
use Rattle.xfs_base.proofs.StepLoops.{steps_keep}
use Rattle.xfs_base.specs.declared.block.BlockId.{BlockId}
use Rattle.xfs_base.specs.declared.node.NodeId.{NodeId}
use Rattle.xfs_base.specs.declared.node.NodeId.TheVariants as nodes
use Rattle.xfs_base.specs.Limits.{all_slots, slot_count}
use Rattle.xfs_base.specs.Steps.{Stepped, steps}
use Rattle.run_answers.proofs.repeat_law.Among.{in_flat_map, in_map, in_slots, steps_say_while}
use Rattle.run_answers.proofs.wait_law.Again.{in_behind, in_front}
use Rattle.token_manager.specs.declared.output.Out.{Out as Said}

-- one place or another
one_or_other : (slot k : ℕ) → (slot ≡ k) ⊎ (k ≢ slot)
one_or_other slot k = by (k == slot) refl
  where
    by : (t : Bool) → (k == slot) ≡ t → (slot ≡ k) ⊎ (k ≢ slot)
    by true fact = inl (sym (eqb-true k slot fact))
    by false fact = inr (eqb-false k slot fact)

-- ---- the recalls of one slot

module _ (block : BlockId) (a : Awaited) (unanswered : a.end ≡ None) where
  abbrev it : Said
  it = Recall a.client block a.stamp a.keep

  among_awaited : (awaited : List Awaited) → In a awaited → In it (send_recalls block awaited)
  among_awaited [] among = absurd among
  among_awaited (b ∷ rest) (inl is) =
      subst (λ (c : Awaited). In it (send_recalls block (c ∷ rest))) is
      (subst (λ (o : Option ℕ). In it (cond (is_some o) (send_recalls block rest) (it ∷ send_recalls block rest))) (sym unanswered) (inl refl))
  among_awaited (b ∷ rest) (inr among) = by (is_some b.end) (among_awaited rest among)
    where
      by : (t : Bool) → In it (send_recalls block rest)
          → In it (cond t (send_recalls block rest) (Recall b.client block b.stamp b.keep ∷ send_recalls block rest))
      by true later = later
      by false later = inr later

  among_jobs : (job : Job) → In a job.awaited → (jobs : List (BlockId × Job)) → In (block, job) jobs → In it (send_all jobs)
  among_jobs job waits [] among = absurd among
  among_jobs job waits (e ∷ jobs) (inl is) =
      in_front it (send_recalls e.0 e.1.awaited) (send_all jobs)
      (subst (λ (x : BlockId × Job). In it (send_recalls x.0 x.1.awaited)) is (among_awaited job.awaited waits))
  among_jobs job waits (e ∷ jobs) (inr among) = in_behind it (send_recalls e.0 e.1.awaited) (send_all jobs) (among_jobs job waits jobs among)

  abbrev pub recall_to : Effect
  recall_to = Send (nodes.Client a.client) (body.Recall (record { block = block; stamp = a.stamp; keep = a.keep }))

  slot_recalls : (active : Active) (slot : ℕ) (job : Job) → In (block, job) active.slot.jobs → In a job.awaited
      → In recall_to (tokens.on_tick (phase.Active active) slot).outs
  unfolding tokens_take tokens_say
  slot_recalls active slot job works waits =
      in_flat_map (tokens_say slot active.slot.epoch) recall_to it (send_all active.slot.jobs) (among_jobs job waits active.slot.jobs works) (inl refl)

-- ---- the table

-- nothing is made of a slot at a tick
stays_phase : (p : SlotPhase) (slot : ℕ) → (tokens.on_tick p slot).state ≡ p
unfolding tokens_take
stays_phase (phase.Active active) slot = refl
stays_phase (phase.Away epoch) slot = refl
stays_phase (phase.Taking taking) slot = refl
stays_phase (phase.Broken epoch seg) slot = refl

module _ (slot : ℕ) (p : SlotPhase) where
  abbrev Stands : Table → Type 0
  Stands table = slice_get table slot ≡ Some p

  set_stands : (table : Table) (k : ℕ) (q : SlotPhase) → slice_get table k ≡ Some q → Stands table → Stands (slice_set table k q)
  set_stands table k q at stands = by (one_or_other slot k)
    where
      by : (slot ≡ k) ⊎ (k ≢ slot) → Stands (slice_set table k q)
      by (inl is) =
          subst (λ (j : ℕ). slice_get (slice_set table k q) j ≡ Some p) (sym is)
          (get_set_same table k q q at ∙ (sym at ∙ (ap (slice_get table) (sym is) ∙ stands)))
      by (inr other) = get_set_other table k q slot (λ same. other (sym same)) ∙ stands

  recall_stands : (table : Table) (k : ℕ) → Stands table → Stands (slot_table_recall table k).state
  unfolding slot_table_recall
  recall_stands table k stands = by (slice_get table k) refl
    where
      by : (o : Option SlotPhase) → slice_get table k ≡ o → Stands (in_slot table k (λ q. tokens.on_tick q k) o).state
      by None at = stands
      by (Some q) at = subst (λ (r : SlotPhase). Stands (slice_set table k r)) (sym (stays_phase q k)) (set_stands table k q at stands)

  -- behind the recalls the slot stands as before
  pub recalls_stand : (table : Table) → Stands table → Stands (recall_again table).state
  recalls_stand table stands = steps_keep slot_table_recall Stands recall_stands table all_slots stands

pub table_recalls : (table : Table) (slot : ℕ) (active : Active) → slot < slot_count → slice_get table slot ≡ Some (phase.Active active) → (block : BlockId) (job : Job)
    → In (block, job) active.slot.jobs → (a : Awaited) → In a job.awaited → (unanswered : a.end ≡ None) → In (recall_to block a unanswered) (recall_again table).outs
unfolding slot_table_recall
table_recalls table slot active below at block job works a waits unanswered =
    steps_say_while slot_table_recall (Stands slot (phase.Active active)) (recall_to block a unanswered) slot here
    (λ t k stands. inr (recall_stands slot (phase.Active active) t k stands)) table at all_slots (in_slots slot below)
  where
    here : (t : Table) → slice_get t slot ≡ Some (phase.Active active) → In (recall_to block a unanswered) (slot_table_recall t slot).outs
    here t stands =
        subst (λ (o : Option SlotPhase). In (recall_to block a unanswered) (in_slot t slot (λ q. tokens.on_tick q slot) o).outs) (sym stands)
        (slot_recalls block a unanswered active slot job works waits)

-- ---- the polls

module _ (slot : ℕ) (node : NodeId) where
  abbrev pub poll_of : ℕ → Effect
  poll_of epoch = Send node (body.Poll (record { slot = slot; epoch = epoch }))

  one_node : (to : NodeId) → out.Poll node ≡ out.Poll to → node ≡ to
  one_node to fact = cc

  among_polls : (outs : List Out) (a : Asker) → In (out.Poll node) outs
      → In (poll_of (epoch_of a.phase)) (steps (takeovers_say slot) a (filter (is_wanted true) outs)).outs
  unfolding takeovers_say
  among_polls [] a among = absurd among
  among_polls (out.Poll to ∷ outs) a (inl is) = inl (ap (λ (n : NodeId). Send n (body.Poll (record { slot = slot; epoch = epoch_of a.phase }))) (one_node to is))
  among_polls (out.Poll to ∷ outs) a (inr among) = inr (among_polls outs a among)
  among_polls (out.Fetch server name own ∷ outs) a (inl is) = absurd cc
  among_polls (out.Fetch server name own ∷ outs) a (inr among) = among_polls outs a among
  among_polls (out.Active epoch index beliefs applied ∷ outs) a (inl is) = absurd cc
  among_polls (out.Active epoch index beliefs applied ∷ outs) a (inr among) = among_polls outs a among
  among_polls (out.Lost seg ∷ outs) a (inl is) = absurd cc
  among_polls (out.Lost seg ∷ outs) a (inr among) = among_polls outs a among

  takeover_polls : (taking : Taking) (q : Questions) → In node (takeover.awaited taking.take)
      → In (poll_of taking.epoch) (takeovers_ask_again (asker (phase.Taking taking) q) slot true).outs
  unfolding takeovers_ask_again say_each outs_of
  takeover_polls taking q lacks =
      among_polls (takeover.on_tick taking.take) (asker (phase.Taking taking) q)
      (in_front (out.Poll node) (takeover.polls (takeover.awaited taking.take)) (takeover.repeated taking.take.present)
      (in_map (λ (n : NodeId). out.Poll n) node (takeover.awaited taking.take) lacks))

pub table_polls : (a : TableAsker) (slot : ℕ) (taking : Taking) → slot < slot_count → slice_get a.table slot ≡ Some (phase.Taking taking) → (node : NodeId)
    → In node (takeover.awaited taking.take) → In (poll_of slot node taking.epoch) (slot_table_ask_again true a).outs
unfolding slot_table_ask
table_polls a slot taking below at node lacks =
    steps_say_while (slot_table_ask true) Stands_ (poll_of slot node taking.epoch) slot here keeps a at all_slots (in_slots slot below)
  where
    Stands_ : TableAsker → Type 0
    Stands_ b = slice_get b.table slot ≡ Some (phase.Taking taking)

    asks : ℕ → Asker → Stepped Asker Effect
    asks k one = takeovers_ask_again one k true

    here : (b : TableAsker) → Stands_ b → In (poll_of slot node taking.epoch) (slot_table_ask true b slot).outs
    here b stands =
        subst (λ (o : Option SlotPhase). In (poll_of slot node taking.epoch) (in_taken b slot (asks slot) o).outs) (sym stands)
        (takeover_polls slot node taking b.questions lacks)

    keeps : (b : TableAsker) (k : ℕ) → Stands_ b → (slot ≡ k) ⊎ Stands_ (slot_table_ask true b k).state
    keeps b k stands = by (one_or_other slot k)
      where
        other : k ≢ slot → (o : Option SlotPhase) → Stands_ (in_taken b k (asks k) o).state
        other differs None = stands
        other differs (Some q) = get_set_other b.table k (asks k (asker q b.questions)).state.phase slot (λ same. differs (sym same)) ∙ stands

        by : (slot ≡ k) ⊎ (k ≢ slot) → (slot ≡ k) ⊎ Stands_ (slot_table_ask true b k).state
        by (inl is) = inl is
        by (inr differs) = inr (other differs (slice_get b.table k))
