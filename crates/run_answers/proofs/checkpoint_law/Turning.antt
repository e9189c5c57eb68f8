-- A manager turns to the next slot that it manages, as its checkpoint begins and as the registry's answer comes; behind the last one it answers the item.
use Rattle.std.proofs.Common.{◌≡◌, ◌≢◌, ◌⊎◌, ◌<◌, ◌≤◌, ◌==◌, ◌||◌, cond, not, nat_lt, ℕ, suc, Bool, true, false, List, [], ◌∷◌, Option, Some, None, is_some, inl, inr, refl, sym, ap, subst, ◌∙◌, arith}
use Rattle.std.proofs.lemmas.Bool.{cases_lt, eq-eqb, eqb-false, eqb-true, ltb-false, ltb-true}
use Rattle.checkpoint.specs.declared.output.Out.{Out}
use Rattle.checkpoint.specs.declared.output.Out.TheVariants as out
use Rattle.checkpoint.specs.Transition as writer
use Rattle.checkpoint.specs.WriterState.{WriterState}
use Rattle.core_world.specs.declared.any_node.AnyNode.{AnyNode}
use Rattle.manager_serving.specs.Checkpoints.{Done, answered_by, awaits, checkpointing_count, gives, next_for, next_from, next_slot, no_more, on_checkpoint, on_ckpt_ack, waits}
use Rattle.manager_serving.specs.declared.checkpointing.Checkpointing.{Checkpointing}
use Rattle.manager_serving.specs.declared.serving.Serving.{Serving}
use Rattle.manager_slots.specs.Numbers.{risen, slot_after}
use Rattle.manager_slots.specs.SlotTable.{Table, is_active_at, next_active}
use Rattle.node_base.specs.Beginning.{answers_unanswered}
use Rattle.node_base.specs.declared.effects.Effect.{Effect}
use Rattle.version_model.specs.declared.answer.Answer.TheVariants as answer
use Rattle.wire_msg.specs.declared.registry.CkptAck.{CkptAck}
use Rattle.wire_msg.specs.declared.registry.CkptDone.{CkptDone}
use Rattle.world_base.specs.declared.estate.Estate.{Estate}
use Rattle.xfs_base.proofs.Booleans.{by_test, contrary}
use Rattle.xfs_base.specs.declared.node.NodeId.TheVariants as nodes
use Rattle.xfs_base.specs.Limits.{slot_count}
use Rattle.xfs_base.specs.Steps.{Stepped, still}
use Rattle.headline.specs.Checkpoints.{HasGone, Hears, IsTold, done_of}
use Rattle.headline.specs.Checkpoints.HasGone.{Begins, Counts, Leaves}
use Rattle.headline.specs.Managers.{active_at, active_in, phase_at}
use Rattle.headline.specs.Moments.{moment}
use Rattle.headline.specs.Numbers.{BeganAt}
use Rattle.run_answers.proofs.checkpoint_law.Desk.{AllSo, At, IsAwaiting, IsIdle, JobSo, Leads, ToldBy, Turned, Waits, job_more}
use Rattle.run_answers.proofs.checkpoint_law.Passing.{Found, IsManaged, counted_low, is_managed, its_state, next_found}
use Rattle.run_answers.proofs.checkpoint_law.Writing.{begin_leads, job_of}
use Rattle.node_base.specs.declared.effects.Effect.TheVariants.{Answer as Answers}

module _ (e : Estate AnyNode) (v now : ℕ) where
  abbrev L : List Effect → Done → Type 0
  L outs d = Leads e v now outs d

  -- the slots of the manager before the event
  abbrev pub IsTable : Table → Type 0
  IsTable table = (k : ℕ) → active_at (moment e now) k v ≡ active_in (phase_at table k)

  -- ---- the next slot

  module _ (outs : List Effect) (t : Serving) (count next : ℕ) (its_job : t.checkpoint ≡ Some (job_of count next)) (idle : IsIdle e v now t.dones t.writer)
      (item begun : ℕ) (began : BeganAt e (nodes.Manager v) item begun) (waits_ : t.lasting.items.unanswered ≡ Some item) (same : IsTable t.slots)
      (low : next ≤ slot_count) (gone : HasGone e v begun now next count) where
    abbrev F : Option ℕ → Type 0
    F o = Found e v begun now t.slots same next count low gone o

    over : HasGone e v begun now slot_count count → L outs (no_more t (job_of count next))
    over all = record {
      state = record { work = idle.work; asked = idle.asked; number = idle.number; low = idle.low };
      says = subst (λ (o : Option ℕ). AllSo e v now (answers_unanswered o (answer.Count count))) (sym waits_)
          (record { begun = begun; began = began; gone = all }, tt);
    }

    goes : (slot : ℕ) → HasGone e v begun now slot count → slot < slot_count → is_active_at t.slots slot ≡ true
        → L outs (next_from t (job_of count next) (Some slot))
    goes slot passed small is_active =
        (let there : IsManaged t.slots slot = is_managed t.slots slot is_active in
        begin_leads e v now outs (record t { checkpoint = Some (job_of count (slot_after slot)) }) count (slot_after slot) refl
        (record {
          item = item;
          begun = begun;
          began = began;
          is_open = waits_;
          turned = now;
          reached = itself now;
          slot = slot;
          next_is = after slot small;
          small = small;
          gone = passed;
          managed = there.active.slot;
          manages = same slot ∙ its_state t.slots slot there.active there.at;
        }) (inl refl) (record { work = idle.work; asked = idle.asked; number = idle.number; low = idle.low }) there.active there.at refl)
      where
        itself : (n : ℕ) → n ≤ n
        itself n = omega arith

        after : (n : ℕ) → n < slot_count → slot_after n ≡ suc n
        after n less = omega (arith, less)

    found_leads : (o : Option ℕ) → F o → L outs (next_from t (job_of count next) o)
    found_leads None found = over found
    found_leads (Some slot) found = goes slot found.0 found.1.0 found.1.1

    pub turns : L outs (next_slot t)
    unfolding next_slot
    turns =
        subst (λ (c : Option Checkpointing). L outs (next_for t c)) (sym its_job)
        (found_leads (next_active t.slots next) (next_found e v begun now t.slots same next count low gone))

  -- ---- a checkpoint begins

  busy_leads : (s : Serving) (number : ℕ) → At e v now (suc now) [] s → L [] (gives s (Answers number answer.Busy ∷ []))
  busy_leads s number h = record {
    state = job_more e v now (suc now) [] (Answers number answer.Busy ∷ []) s.checkpoint s.writer s.dones s.lasting.items.unanswered h;
    says = (tt, tt);
  }

  pub checkpoint_leads : (s : Serving) (number : ℕ) → BeganAt e (nodes.Manager v) number now → IsTable s.slots → At e v now (suc now) [] s
      → L [] (on_checkpoint s number)
  unfolding on_checkpoint
  checkpoint_leads s number began same h =
      by_test (L []) (is_some s.lasting.items.unanswered) (gives s (Answers number answer.Busy ∷ [])) (next_slot (waits s number))
      (λ _. busy_leads s number h) (λ none. begins (s.checkpoint) h none)
    where
      begins : (c : Option Checkpointing) → JobSo e v now (suc now) [] c s.writer s.dones s.lasting.items.unanswered
          → is_some s.lasting.items.unanswered ≡ false → L [] (next_slot (waits s number))
      begins None idle none =
          turns [] (waits s number) 0 0 refl (record { work = idle.work; asked = idle.asked; number = idle.number; low = idle.low }) number now began refl same
          nothing_more Begins
        where
          nothing_more : 0 ≤ slot_count
          nothing_more = omega arith
      begins (Some job) desk none = contrary (sym none ∙ ap is_some desk.at.is_open)

  -- ---- the registry answers

  -- where no answer to it comes in the event, none has come behind it
  pub told_wider : (slot turned : ℕ) (done : CkptDone) → ((other : CkptAck) → Hears e v now done other → ⊥) → IsTold e v slot turned now done
      → IsTold e v slot turned (suc now) done
  told_wider slot turned done deaf told = record {
    its = told.its;
    managed = told.managed;
    manages = told.manages;
    epoch = told.epoch;
    told = told.told;
    since = told.since;
    before = (let low = told.before in omega (arith, low));
    tells = told.tells;
    first_told = told.first_told;
    unanswered = λ between more less other hears. by between more (cases_lt between now) less other hears;
  }
    where
      by : (between : ℕ) → told.told < between → (between < now) ⊎ (now ≤ between) → between < suc now → (other : CkptAck) → Hears e v between done other → ⊥
      by between more (inl low) less other hears = told.unanswered between more low other hears
      by between more (inr high) less other hears =
          deaf other (subst (λ (n : ℕ). Hears e v n done other) (meets between now less high) hears)
        where
          meets : (a b : ℕ) → a < suc b → b ≤ a → a ≡ b
          meets a b less high = omega (arith, less, high)

  wider_by : (outs : List Effect) (turned slot : ℕ) (done : CkptDone) → ((other : CkptAck) → Hears e v now done other → ⊥) → ToldBy e v now now outs turned slot done
      → ToldBy e v now (suc now) outs turned slot done
  wider_by outs turned slot done deaf (inl told) = inl (told_wider slot turned done deaf told)
  wider_by outs turned slot done deaf (inr just) = inr just

  pub waits_wider : (outs : List Effect) (turned slot epoch dones : ℕ) (w : WriterState) (done : Option CkptDone)
      → ((its : CkptDone) → done ≡ Some its → (other : CkptAck) → Hears e v now its other → ⊥) → Waits e v now now outs turned slot epoch dones w done
      → Waits e v now (suc now) outs turned slot epoch dones w done
  waits_wider outs turned slot epoch dones w None deaf h = h
  waits_wider outs turned slot epoch dones w (Some done) deaf h = record {
    work = h.work;
    asked = h.asked;
    number = h.number;
    low = h.low;
    epoch_is = h.epoch_is;
    told = wider_by outs turned slot done (deaf done refl) h.told;
  }

  pub job_wider : (outs : List Effect) (checkpoint : Option Checkpointing) (w : WriterState) (dones : ℕ) (open_item : Option ℕ)
      → ((its : CkptDone) → done_of checkpoint ≡ Some its → (other : CkptAck) → Hears e v now its other → ⊥) → JobSo e v now now outs checkpoint w dones open_item
      → JobSo e v now (suc now) outs checkpoint w dones open_item
  job_wider outs None w dones open_item deaf h = record { work = h.work; asked = h.asked; number = h.number; low = h.low }
  job_wider outs (Some job) w dones open_item deaf h = record {
    at = h.at;
    waits = waits_wider outs h.at.turned h.at.slot h.at.managed.epoch dones w job.done deaf h.waits;
  }

  module _ (s : Serving) (ack : CkptAck) (same : IsTable s.slots) (h : At e v now now [] s)
      (heard : (done : CkptDone) → ack.ask ≡ done.ask → done.epoch ≤ ack.epoch → Hears e v now done ack)
      (only : (done : CkptDone) (other : CkptAck) → Hears e v now done other → other ≡ ack) where
    abbrev acked : Option ℕ → Stepped WriterState Out
    acked asked = writer.acked s.writer asked ack.epoch s.dones

    -- it isn't taken
    stays : ((its : CkptDone) → done_of s.checkpoint ≡ Some its → (other : CkptAck) → Hears e v now its other → ⊥) → L [] (still s)
    stays deaf = record { state = job_wider [] s.checkpoint s.writer s.dones s.lasting.items.unanswered deaf h; says = tt }

    -- it is of what is awaited
    module _ (job : Checkpointing) (done : CkptDone) (its : s.checkpoint ≡ Some (record job { done = Some done }))
        (at : Turned e v now job.count job.next s.lasting.items.unanswered)
        (waits_ : IsAwaiting e v now now [] at.turned at.slot at.managed.epoch s.dones s.writer done) (asks : ack.ask ≡ done.ask) where
      told_before : ToldBy e v now now [] at.turned at.slot done → IsTold e v at.slot at.turned now done
      told_before (inl told) = told
      told_before (inr just) = absurd just.said

      abbrev told : IsTold e v at.slot at.turned now done
      told = told_before waits_.told

      abbrev heard_writer : WriterState
      heard_writer = record s.writer { asked = None }

      next_low : job.next ≤ slot_count
      next_low = (let is = at.next_is in let small = at.small in omega (arith, is, small))

      turned_on : (count : ℕ) → HasGone e v at.begun now (suc at.slot) count → L [] (next_slot (record s { writer = heard_writer; checkpoint = Some (job_of count job.next) }))
      turned_on count gone =
          turns [] (record s { writer = heard_writer; checkpoint = Some (job_of count job.next) }) count job.next refl
          (record { work = waits_.work; asked = refl; number = waits_.number; low = waits_.low }) at.item at.begun at.began at.is_open same next_low
          (subst (λ (n : ℕ). HasGone e v at.begun now n count) (sym at.next_is) gone)

      -- the slot is counted
      kept : done.epoch ≤ ack.epoch → ack.epoch ≡ done.epoch
          → L [] (next_slot (record s { writer = heard_writer; checkpoint = checkpointing_count s.checkpoint out.Kept }))
      unfolding checkpointing_count
      kept reached is =
          subst (λ (c : Option Checkpointing). L [] (next_slot (record s { writer = heard_writer; checkpoint = checkpointing_count c out.Kept }))) (sym its)
          (turned_on (risen job.count)
          (subst (λ (n : ℕ). HasGone e v at.begun now (suc at.slot) n) (sym (rises job.count at.slot (counted_low at.gone) at.small))
          (Counts done ack at.gone told (heard done asks reached) is)))
        where
          rises : (count slot : ℕ) → count ≤ slot → slot < slot_count → risen count ≡ suc count
          rises count slot low small = omega (arith, low, small)

      -- or it isn't
      stale : done.epoch < ack.epoch → L [] (next_slot (record s { writer = heard_writer; checkpoint = checkpointing_count s.checkpoint (out.Stale ack.epoch) }))
      unfolding checkpointing_count
      stale later =
          subst (λ (c : Option Checkpointing). L [] (next_slot (record s { writer = heard_writer; checkpoint = checkpointing_count c (out.Stale ack.epoch) }))) (sym its)
          (turned_on job.count (Leaves done ack at.gone told (heard done asks (not_more done.epoch ack.epoch later)) later))
        where
          not_more : (a b : ℕ) → a < b → a ≤ b
          not_more a b less = omega (arith, less)

      -- it is taken
      taken : done.epoch ≤ ack.epoch → L [] (answered_by s (record { state = heard_writer; outs = writer.answer done.epoch ack.epoch ∷ [] }))
      taken reached =
          by_test (λ (o : Out). L [] (next_slot (record s { writer = heard_writer; checkpoint = checkpointing_count s.checkpoint o }))) (ack.epoch == done.epoch)
          out.Kept (out.Stale ack.epoch) (λ is. kept reached (eqb-true ack.epoch done.epoch is))
          (λ differs. stale (greater done.epoch ack.epoch reached (eqb-false ack.epoch done.epoch differs)))
        where
          greater : (a b : ℕ) → a ≤ b → b ≢ a → a < b
          greater a b low other = by (cases_lt a b)
            where
              by : (a < b) ⊎ (b ≤ a) → a < b
              by (inl less) = less
              by (inr more) = absurd (other (meets a b low more))
                where
                  meets : (x y : ℕ) → x ≤ y → y ≤ x → y ≡ x
                  meets x y p q = omega (arith, p, q)

      -- or it is of an epoch before
      ignored : ack.epoch < done.epoch → L [] (still s)
      ignored less = stays (λ mine is other hears. deaf mine (same_done mine (sym is ∙ ap done_of its)) other hears)
        where
          same_done : (mine : CkptDone) → Some mine ≡ Some done → mine ≡ done
          same_done mine fact = cc

          never : (a b : ℕ) → a < b → b ≤ a → ⊥
          never a b less more = absurd (omega (arith, less, more))

          deaf : (mine : CkptDone) → mine ≡ done → (other : CkptAck) → Hears e v now mine other → ⊥
          deaf mine is other hears =
              never ack.epoch done.epoch less
              (subst (λ (d : CkptDone). d.epoch ≤ ack.epoch) is (subst (λ (a : CkptAck). mine.epoch ≤ a.epoch) (only mine other hears) hears.reached))

      number_is : (s.dones == s.writer.number) ≡ true
      number_is = eq-eqb s.dones s.writer.number (sym waits_.number)

      of_epoch : (b : Bool) → (not (s.dones == s.writer.number) || b) ≡ true → b ≡ true
      of_epoch b fact = subst (λ (t : Bool). (not t || b) ≡ true) number_is fact

      past_epoch : (b : Bool) → (not (s.dones == s.writer.number) || b) ≡ false → b ≡ false
      past_epoch b fact = subst (λ (t : Bool). (not t || b) ≡ false) number_is fact

      answers_so : L [] (answered_by s (acked s.writer.asked))
      answers_so =
          subst (λ (o : Option ℕ). L [] (answered_by s (acked o))) (sym waits_.asked)
          (by_test (λ (r : Stepped WriterState Out). L [] (answered_by s r)) (not (s.dones == s.writer.number) || nat_lt ack.epoch done.epoch) (still s.writer)
          (record { state = heard_writer; outs = writer.answer done.epoch ack.epoch ∷ [] })
          (λ fact. ignored (ltb-true ack.epoch done.epoch (of_epoch (nat_lt ack.epoch done.epoch) fact)))
          (λ fact. taken (ltb-false ack.epoch done.epoch (past_epoch (nat_lt ack.epoch done.epoch) fact))))

    abbrev Heard : Option Checkpointing → Type 0
    Heard c = L [] (cond (awaits c ack.ask) (answered_by s (acked s.writer.asked)) (still s))

    by_done : (job : Checkpointing) → s.checkpoint ≡ Some job → (at : Turned e v now job.count job.next s.lasting.items.unanswered) → (done : Option CkptDone)
        → job.done ≡ done → Waits e v now now [] at.turned at.slot at.managed.epoch s.dones s.writer done → Heard (Some (record job { done = done }))
    by_done job its at None is waits_ = stays (λ mine fact. absurd (none mine (sym (ap done_of its ∙ is) ∙ fact)))
      where
        none : (mine : CkptDone) → None ≡ Some mine → ⊥
        none mine fact = cc
    by_done job its at (Some done) is waits_ =
        by_test (L []) (done.ask == ack.ask) (answered_by s (acked s.writer.asked)) (still s)
        (λ asks.
        answers_so job done (its ∙ ap (λ (d : Option CkptDone). Some (record job { done = d })) is) at waits_ (sym (eqb-true done.ask ack.ask asks)))
        (λ other. stays (λ mine fact reply hears. deaf mine (same_done mine (sym fact ∙ (ap done_of its ∙ is))) reply hears (eqb-false done.ask ack.ask other)))
      where
        same_done : (mine : CkptDone) → Some mine ≡ Some done → mine ≡ done
        same_done mine fact = cc

        deaf : (mine : CkptDone) → mine ≡ done → (reply : CkptAck) → Hears e v now mine reply → done.ask ≢ ack.ask → ⊥
        deaf mine is reply hears differs =
            differs
            (ap (λ (d : CkptDone). d.ask) (sym is) ∙ (sym hears.asked ∙ ap (λ (a : CkptAck). a.ask) (only mine reply hears)))

    by_job : (c : Option Checkpointing) → s.checkpoint ≡ c → JobSo e v now now [] c s.writer s.dones s.lasting.items.unanswered → Heard c
    by_job None its idle = stays (λ mine fact. absurd (none mine (sym (ap done_of its) ∙ fact)))
      where
        none : (mine : CkptDone) → None ≡ Some mine → ⊥
        none mine fact = cc
    by_job (Some job) its desk = by_done job its desk.at job.done refl desk.waits

    pub ack_leads : L [] (on_ckpt_ack s ack)
    unfolding on_ckpt_ack
    ack_leads = by_job s.checkpoint refl h
