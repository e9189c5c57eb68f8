-- What is known of the checkpoint that a manager writes, in an event of it: which slots it has gone over, what it counts, and what it has told of the slot at hand.
use Rattle.std.proofs.Common.{◌≡◌, ◌⊎◌, ◌<◌, ◌≤◌, cond, ℕ, suc, Bool, List, [], ◌∷◌, ◌++◌, Option, Some, None, append_assoc, inl, inr, subst}
use Rattle.std.specs.List.{AllByRecursion}
use Rattle.checkpoint.specs.WriterState.{WorkState, WriterState}
use Rattle.core_world.specs.declared.any_node.AnyNode.{AnyNode}
use Rattle.manager_serving.specs.Checkpoints.{Done}
use Rattle.manager_serving.specs.declared.checkpointing.Checkpointing.{Checkpointing}
use Rattle.manager_serving.specs.declared.serving.Serving.{Serving}
use Rattle.manager_slots.specs.Numbers.{risen}
use Rattle.node_base.specs.declared.effects.Effect.{Effect}
use Rattle.node_base.specs.declared.effects.Effect.TheVariants.{Answer as Answers, Does, Lose, Send}
use Rattle.serving_moves.specs.item_moves.Moves.{AllPlain, IsPlain, MayAct}
use Rattle.serving_moves.specs.item_moves.Moves.Losses.{Telling}
use Rattle.token_manager.specs.SlotState.{SlotState}
use Rattle.token_protocol.specs.Basics.{In}
use Rattle.version_model.specs.declared.answer.Answer.{Answer}
use Rattle.version_model.specs.declared.answer.Answer.TheVariants as answer
use Rattle.wire_msg.specs.declared.body.Body.TheVariants as body
use Rattle.wire_msg.specs.declared.registry.CkptDone.{CkptDone}
use Rattle.world_base.specs.declared.estate.Estate.{Estate}
use Rattle.xfs_base.proofs.Alls.{all_append}
use Rattle.xfs_base.proofs.Booleans.{by_test}
use Rattle.xfs_base.specs.declared.node.NodeId.TheVariants as nodes
use Rattle.xfs_base.specs.Limits.{slot_count, u32_end}
use Rattle.xfs_base.specs.Steps.{saying, steps, still}
use Rattle.headline.specs.Checkpoints.{Awaits, HasGone, IsCheckpointed, IsTold}
use Rattle.headline.specs.Managers.{active_at}
use Rattle.headline.specs.Moments.{moment}
use Rattle.headline.specs.Numbers.{BeganAt}
use Rattle.run_answers.proofs.wait_law.Again.{in_front}

-- of a manager and of an event
module _ (e : Estate AnyNode) (v now : ℕ) where
  -- ---- what it has told of the slot at hand

  -- it turned to the slot in this event, or it awaits no answer before it
  abbrev pub IsFresh : ℕ → Type 0
  IsFresh turned = (now ≡ turned) ⊎ Awaits e v now None

  -- of the slot to which it turned it tells in this event, by what it does in it
  pub record JustTold (outs : List Effect) (turned slot : ℕ) (done : CkptDone) : Type 0 where
    pub its : done.slot ≡ slot
    pub fresh : IsFresh turned
    pub said : In (Send nodes.Registry (body.CkptDone done)) outs

  -- it told in an event before this place, or does so in this event
  abbrev pub ToldBy : ℕ → List Effect → ℕ → ℕ → CkptDone → Type 0
  ToldBy upto outs turned slot done = IsTold e v slot turned upto done ⊎ JustTold outs turned slot done

  -- a checkpoint of the slot is written in this epoch; where none is, none can be begun any more
  abbrev pub WorksOn : ℕ → ℕ → ℕ → WriterState → Option WorkState → Type 0
  WorksOn slot epoch dones w None = (w.number ≡ dones) × (dones ≤ u32_end)
  WorksOn slot epoch dones w (Some it) = (it.slot ≡ slot) × ((it.epoch ≡ epoch) × (w.number ≡ risen dones))

  -- nothing is written, and no answer is awaited
  pub record IsIdle (dones : ℕ) (w : WriterState) : Type 0 where
    pub work : w.work ≡ None
    pub asked : w.asked ≡ None
    pub number : w.number ≡ dones
    pub low : dones ≤ u32_end

  -- the slot is written, and wasn't told of; or it was, and the answer is awaited
  pub record IsWriting (turned slot epoch dones : ℕ) (w : WriterState) : Type 0 where
    pub asked : w.asked ≡ None
    pub fresh : IsFresh turned
    pub works : WorksOn slot epoch dones w w.work

  pub record IsAwaiting (upto : ℕ) (outs : List Effect) (turned slot epoch dones : ℕ) (w : WriterState) (done : CkptDone) : Type 0 where
    pub work : w.work ≡ None
    pub asked : w.asked ≡ Some done.epoch
    pub number : w.number ≡ dones
    pub low : dones ≤ u32_end
    pub epoch_is : done.epoch ≡ epoch
    pub told : ToldBy upto outs turned slot done

  abbrev pub Waits : ℕ → List Effect → ℕ → ℕ → ℕ → ℕ → WriterState → Option CkptDone → Type 0
  Waits upto outs turned slot epoch dones w None = IsWriting turned slot epoch dones w
  Waits upto outs turned slot epoch dones w (Some done) = IsAwaiting upto outs turned slot epoch dones w done

  -- the checkpoint of the open item turned to this slot, which its manager managed, in an event at a place, and has gone over all below it
  pub record Turned (count next : ℕ) (open_item : Option ℕ) : Type 0 where
    pub item : ℕ
    pub begun : ℕ
    pub began : BeganAt e (nodes.Manager v) item begun
    pub is_open : open_item ≡ Some item
    pub turned : ℕ
    pub reached : turned ≤ now
    pub slot : ℕ
    pub next_is : next ≡ suc slot
    pub small : slot < slot_count
    pub gone : HasGone e v begun turned slot count
    pub managed : SlotState
    pub manages : active_at (moment e turned) slot v ≡ Some managed

  -- and so far the slot is
  pub record Desk (upto : ℕ) (outs : List Effect) (job : Checkpointing) (w : WriterState) (dones : ℕ) (open_item : Option ℕ) : Type 0 where
    pub at : Turned job.count job.next open_item
    pub waits : Waits upto outs at.turned at.slot at.managed.epoch dones w job.done

  abbrev pub JobSo : ℕ → List Effect → Option Checkpointing → WriterState → ℕ → Option ℕ → Type 0
  JobSo upto outs None w dones open_item = IsIdle dones w
  JobSo upto outs (Some job) w dones open_item = Desk upto outs job w dones open_item

  -- so it is of a manager that serves, by what it was told before a place, and what it did so far in this event
  abbrev pub At : ℕ → List Effect → Serving → Type 0
  At upto outs s = JobSo upto outs s.checkpoint s.writer s.dones s.lasting.items.unanswered

  -- ---- more is done

  told_more : (upto : ℕ) (outs more : List Effect) (turned slot : ℕ) (done : CkptDone) → ToldBy upto outs turned slot done
      → ToldBy upto (outs ++ more) turned slot done
  told_more upto outs more turned slot done (inl told) = inl told
  told_more upto outs more turned slot done (inr just) =
      inr (record { its = just.its; fresh = just.fresh; said = in_front (Send nodes.Registry (body.CkptDone done)) outs more just.said })

  waits_more : (upto : ℕ) (outs more : List Effect) (turned slot epoch dones : ℕ) (w : WriterState) (done : Option CkptDone)
      → Waits upto outs turned slot epoch dones w done → Waits upto (outs ++ more) turned slot epoch dones w done
  waits_more upto outs more turned slot epoch dones w None h = h
  waits_more upto outs more turned slot epoch dones w (Some done) h = record {
    work = h.work;
    asked = h.asked;
    number = h.number;
    low = h.low;
    epoch_is = h.epoch_is;
    told = told_more upto outs more turned slot done h.told;
  }

  pub job_more : (upto : ℕ) (outs more : List Effect) (checkpoint : Option Checkpointing) (w : WriterState) (dones : ℕ) (open_item : Option ℕ)
      → JobSo upto outs checkpoint w dones open_item → JobSo upto (outs ++ more) checkpoint w dones open_item
  job_more upto outs more None w dones open_item h = h
  job_more upto outs more (Some job) w dones open_item h = record {
    at = h.at;
    waits = waits_more upto outs more h.at.turned h.at.slot h.at.managed.epoch dones w job.done h.waits;
  }

  -- ---- what it does

  -- a count that it answers is so
  abbrev pub AnswerSo : ℕ → Answer → Type 0
  AnswerSo item (answer.Count count) = IsCheckpointed e now v item count
  AnswerSo item _ = Unit {0}

  abbrev pub EffectSo : Effect → Type 0
  EffectSo (Send to said) = Unit {0}
  EffectSo (Answers item a) = AnswerSo item a
  EffectSo (Lose seg) = Unit {0}
  EffectSo (Does act) = MayAct Telling act

  abbrev pub AllSo : List Effect → Type 0
  AllSo outs = AllByRecursion EffectSo outs

  plain_so : (x : Effect) → IsPlain Telling x → EffectSo x
  plain_so (Send to said) plain = tt
  plain_so (Answers item a) plain = absurd plain
  plain_so (Lose seg) plain = tt
  plain_so (Does act) plain = plain

  pub all_plain_so : (outs : List Effect) → AllPlain Telling outs → AllSo outs
  all_plain_so [] plain = tt
  all_plain_so (x ∷ outs) plain = (plain_so x plain.0, all_plain_so outs plain.1)

  -- behind what was done so far
  pub record Leads (outs : List Effect) (d : Done) : Type 0 where
    pub state : At (suc now) (outs ++ d.outs) d.state
    pub says : AllSo d.outs

  abbrev pub Goes : Serving → Done → Type 0
  Goes s d = (outs : List Effect) → At (suc now) outs s → Leads outs d

  -- all stays, and what is done answers no item
  pub plainly : (s : Serving) (d : Done) → ((outs : List Effect) → At (suc now) outs s → At (suc now) outs d.state) → AllPlain Telling d.outs → Goes s d
  plainly s d same plain outs h = record {
    state = job_more (suc now) outs d.outs d.state.checkpoint d.state.writer d.state.dones d.state.lasting.items.unanswered (same outs h);
    says = all_plain_so d.outs plain;
  }

  pub rests : (s : Serving) → Goes s (still s)
  rests s = plainly s (still s) (λ outs h. h) tt

  pub then_leads : (outs : List Effect) (d f : Done) → Leads outs d → Leads (outs ++ d.outs) f → Leads outs (saying d.outs f)
  then_leads outs d f one more = record {
    state = subst (λ (all : List Effect). At (suc now) all f.state) (append_assoc outs d.outs f.outs) more.state;
    says = all_append EffectSo d.outs f.outs one.says more.says;
  }

  pub then_goes : (s : Serving) (d f : Done) → Goes s d → Goes d.state f → Goes s (saying d.outs f)
  then_goes s d f one more outs h = (let first = one outs h in then_leads outs d f first (more (outs ++ d.outs) first.state))

  -- another state, of which as much is known
  pub from_goes : (s t : Serving) (d : Done) → ((outs : List Effect) → At (suc now) outs s → At (suc now) outs t) → Goes t d → Goes s d
  from_goes s t d same g outs h = g outs (same outs h)

  pub first_goes : (s : Serving) (outs : List Effect) (f : Done) → AllPlain Telling outs → Goes s f → Goes s (saying outs f)
  first_goes s outs f plain g =
      then_goes s (record { state = s; outs = outs }) f (plainly s (record { state = s; outs = outs }) (λ more h. h) plain) g

  pub if_goes : (t : Bool) (s : Serving) (d : Done) → Goes s d → Goes s (cond t d (still s))
  if_goes t s d g = by_test (Goes s) t d (still s) (λ _. g) (λ _. rests s)

  pub steps_go : {A : Type 0} (step : Serving → A → Done) → ((s : Serving) (x : A) → Goes s (step s x)) → (s : Serving) (xs : List A)
      → Goes s (steps step s xs)
  steps_go step each s [] = rests s
  steps_go step each s (x ∷ xs) = then_goes s (step s x) (steps step (step s x).state xs) (each s x) (steps_go step each (step s x).state xs)
