-- What the open call of a client answers, and what that stands on.
use Rattle.std.proofs.Common.{◌≡◌, ℕ, zero, suc, List, [], ◌∷◌, ◌++◌, append-nil, append_assoc, Option, Some, None, is_some, inl, refl, sym, ap, subst, ◌∙◌}
use Rattle.client_call.specs.Calls.{plan_answered, answer_of, call_of, stands_by, going_by, may_make}
use Rattle.client_call.specs.declared.call.Call.{Call}
use Rattle.client_call.specs.declared.call.Going.{Going}
use Rattle.client_call.specs.declared.call.Going.TheVariants.{On, Ends}
use Rattle.client_call.specs.declared.call.Plan.{Plan}
use Rattle.client_call.specs.declared.call.Plan.TheVariants.{One, File}
use Rattle.client_running.specs.Blocks.{Made, blocks_make}
use Rattle.client_running.specs.Opens.{begin_call, call_at, opens}
use Rattle.client_running.specs.Running.{Ran, take_answer, running_go_on, most_steps, run, runs_call, run_once, run_upto}
use Rattle.client_serving.specs.declared.serving.Serving.{Serving}
use Rattle.client_serving.specs.Sends.{Done, gives}
use Rattle.file_plan.specs.declared.block_call.BlockAnswer.{BlockAnswer}
use Rattle.file_plan.specs.declared.block_call.BlockAnswer.TheVariants.{Got, Changed, Synced}
use Rattle.file_plan.specs.declared.block_call.BlockAnswer.TheVariants.{Put as Written}
use Rattle.file_plan.specs.declared.block_call.BlockCall.{BlockCall}
use Rattle.file_plan.specs.declared.block_call.BlockCall.TheVariants.{Get, Put, PutAt, Sync}
use Rattle.file_plan.specs.declared.block_call.Next.{Next}
use Rattle.file_plan.specs.declared.block_call.Next.TheVariants.{Step, Reply}
use Rattle.file_plan.specs.declared.state.PlanState.{PlanState}
use Rattle.file_plan.specs.Plan as plan
use Rattle.node_base.specs.Beginning.{items_wait, work_at}
use Rattle.node_base.specs.declared.effects.Effect.{Effect}
use Rattle.node_base.specs.declared.effects.Effect.TheVariants.{Answer as Answers, Does}
use Rattle.node_base.specs.Effects.{acts_of}
use Rattle.token_protocol.specs.Basics.{In}
use Rattle.version_model.specs.declared.act.Act.{Act}
use Rattle.version_model.specs.declared.act.Act.TheVariants as act
use Rattle.version_model.specs.declared.answer.Answer.{Answer}
use Rattle.version_model.specs.declared.answer.Answer.TheVariants as answer
use Rattle.version_model.specs.declared.file_call.FileCall.{FileCall}
use Rattle.version_model.specs.declared.work.Work.{Work}
use Rattle.version_model.specs.declared.work.Work.TheVariants as work
use Rattle.xfs_base.proofs.Booleans.{by_test}
use Rattle.xfs_base.specs.declared.block.BlockId.{BlockId}
use Rattle.xfs_base.specs.declared.node.NodeId.{NodeId}
use Rattle.xfs_base.specs.declared.node.NodeId.TheVariants as nodes
use Rattle.xfs_base.specs.Steps.{saying, still}
use Rattle.serving_moves.proofs.item_moves.Plans.{EndsWell, IsFileReply, all_well, replies_well, start_well}
use Rattle.serving_moves.proofs.item_moves.ClientServing.{Goes, IsOpen, items_of, items_stay, makes_go}
use Rattle.serving_moves.proofs.item_moves.Keeping.{no_item, one_number}
use Rattle.serving_moves.proofs.call_moves.Blocks as blocks
use Rattle.serving_moves.specs.call_moves.Moves.{Fits, MakesSo, tells}
use Rattle.serving_moves.specs.item_moves.Moves.{IsNone}
use Rattle.serving_moves.specs.item_moves.Moves.Losses.{Answering}
use Rattle.run_answers.proofs.act_law.Foundations.{Its, ItsOf, its_grow}
use Rattle.run_answers.proofs.act_law.Telling.{DoneIn, Foundation, Founded, Grows, acted, acted_by, acted_then, effect_behind, founded_then, is_acted, moves_founded, open_founded}
use Rattle.run_answers.proofs.act_law.Trails.{Trailed, begins_trailed, more_trailed, next_trailed, replies_so}
use Rattle.run_answers.proofs.once_law.Ledger.{IsLoss}
use Rattle.headline.specs.Answers.{IsDone, IsFounded, IsRead, IsWritten}
use Rattle.headline.specs.Items.{IsFileCall, asked_at}
use Rattle.headline.specs.Files.{IsActed, IsByPlan, IsCallsAnswer, IsGiven}

-- ---- what a call on blocks is of its item

-- the item asks for this block
abbrev pub IsGetOf : BlockId → Option Work → Type 0
IsGetOf block (Some (work.Bget c b)) = b ≡ block
IsGetOf block _ = ⊥

abbrev pub IsPutOf : BlockId → Option (List ℕ) → Option Work → Type 0
IsPutOf block value (Some (work.Bput c b v)) = (b ≡ block) × (v ≡ value)
IsPutOf block value _ = ⊥

abbrev pub IsSync : Option Work → Type 0
IsSync (Some (work.Sync c)) = Unit {0}
IsSync _ = ⊥

-- the one call on blocks of the item
abbrev pub StepFits : BlockCall → Option Work → Type 0
StepFits (Get block) w = IsGetOf block w
StepFits (Put block value) w = IsPutOf block value w
StepFits (PutAt block ver value) w = ⊥
StepFits Sync w = IsSync w

-- ---- what a call on blocks acts

-- its answer tells of what is acted
abbrev pub ActedFor : ℕ → BlockCall → List Effect → Option BlockAnswer → Type 0
ActedFor client step outs None = Unit {0}
ActedFor client (Get block) outs (Some (Got ver value)) = In (Does (act.Read client block ver value)) outs
ActedFor client (Put block value) outs (Some (Written ver)) = In (Does (act.Wrote client block value)) outs
ActedFor client (PutAt block named value) outs (Some (Written ver)) = In (Does (act.Wrote client block value)) outs
ActedFor client (PutAt block named value) outs (Some Changed) = Unit {0}
ActedFor client Sync outs (Some Synced) = In (Does (act.Synced client)) outs
ActedFor client _ outs (Some _) = ⊥

acted_so : (client : ℕ) (step : BlockCall) (a : Option BlockAnswer) (before behind : List Effect) → Fits step a
    → ActedFor client step (before ++ (tells client step a ++ behind)) a
acted_so client step None before behind fits = tt
acted_so client (Get block) (Some (Got ver value)) before behind fits = effect_behind (Does (act.Read client block ver value)) before _ (inl refl)
acted_so client (Put block value) (Some (Written ver)) before behind fits = effect_behind (Does (act.Wrote client block value)) before _ (inl refl)
acted_so client (PutAt block named value) (Some (Written ver)) before behind fits = effect_behind (Does (act.Wrote client block value)) before _ (inl refl)
acted_so client (PutAt block named value) (Some Changed) before behind fits = tt
acted_so client Sync (Some Synced) before behind fits = effect_behind (Does (act.Synced client)) before _ (inl refl)
acted_so client _ (Some _) before behind fits = absurd fits

pub makes_acted : (s : Serving) (step : BlockCall) → ActedFor s.lasting.number step (blocks_make s step).done.outs (blocks_make s step).answer
makes_acted s step =
    let m : MakesSo s step (blocks_make s step) = blocks.makes_go s step in
    subst (λ (d : Done). ActedFor s.lasting.number step d.outs (blocks_make s step).answer) (sym m.all)
    (acted_so s.lasting.number step (blocks_make s step).answer m.first.outs m.last.outs m.fits)

-- what its acts say of its answer
answer_acted : (client : ℕ) (step : BlockCall) (a : BlockAnswer) (outs : List Effect) → ActedFor client step outs (Some a)
    → IsActed client step a (acts_of (nodes.Client client) outs)
answer_acted client (Get block) (Got ver value) outs among = is_acted (nodes.Client client) (act.Read client block ver value) outs among
answer_acted client (Put block value) (Written ver) outs among = is_acted (nodes.Client client) (act.Wrote client block value) outs among
answer_acted client (PutAt block named value) (Written ver) outs among = is_acted (nodes.Client client) (act.Wrote client block value) outs among
answer_acted client (PutAt block named value) Changed outs among = tt
answer_acted client Sync Synced outs among = is_acted (nodes.Client client) (act.Synced client) outs among
answer_acted client _ _ outs among = absurd among

module _ (Began : ℕ → List Act → Type 0) (client : ℕ) (works : List Work) (first : List Act) where
  abbrev pub me : NodeId
  me = nodes.Client client

  -- what an answer is founded on, and of the item that asks for this
  abbrev pub F : Foundation
  F = Its Began client works first

  abbrev pub For : Option Work → ℕ → List Act → (ℕ → Type 0) → Answer → Type 0
  For = ItsOf Began client works first

  grow : Grows F
  grow = its_grow Began client works first

  -- ---- an answer of one call on blocks

  got_founded : (w : Option Work) (block : BlockId) (ver : ℕ) (value : Option (List ℕ)) (said : List Act) → IsGetOf block w
      → In (act.Read client block ver value) said → IsRead client w said ver value
  got_founded (Some (work.Bget c b)) block ver value said same among = subst (λ k. In (act.Read client k ver value) said) (sym same) among
  got_founded _ block ver value said same among = absurd same

  written_founded : (w : Option Work) (block : BlockId) (value : Option (List ℕ)) (said : List Act) → IsPutOf block value w
      → In (act.Wrote client block value) said → IsWritten client w said
  written_founded (Some (work.Bput c b v)) block value said same among =
      subst (λ k. In (act.Wrote client k v) said) (sym same.0) (subst (λ x. In (act.Wrote client block x) said) (sym same.1) among)
  written_founded _ block value said same among = absurd same

  synced_founded : (w : Option Work) (said : List Act) → IsSync w → In (act.Synced client) said → IsDone client w said
  synced_founded (Some (work.Sync c)) said same among = among
  synced_founded _ said same among = absurd same

  one_founded : (w : Option Work) (step : BlockCall) (a : BlockAnswer) (said : List Act) (outs : List Effect) → StepFits step w
      → ActedFor client step outs (Some a) → (done : ℕ → Type 0) → IsFounded client works w (acted me said outs) done (answer_of a)
  one_founded w (Get block) (Got ver value) said outs fits among done =
      got_founded w block ver value (acted me said outs) fits (acted_by me (act.Read client block ver value) said outs among)
  one_founded w (Put block value) (Written ver) said outs fits among done =
      written_founded w block value (acted me said outs) fits (acted_by me (act.Wrote client block value) said outs among)
  one_founded w (PutAt block named value) a said outs fits among done = absurd fits
  one_founded w Sync Synced said outs fits among done =
      synced_founded w (acted me said outs) fits (acted_by me (act.Synced client) said outs among)
  one_founded w _ _ said outs fits among done = absurd among

  -- an item that asks for one call on blocks asks for none on files
  no_file : (w : Option Work) (step : BlockCall) (item : ℕ) (acts : List Act) (a : Answer) → StepFits step w → IsCallsAnswer Began client item w acts a
  no_file (Some (work.Bget c b)) (Get block) item acts a fits = tt
  no_file (Some (work.Bput c b v)) (Put block value) item acts a fits = tt
  no_file (Some (work.Sync c)) Sync item acts a fits = tt
  no_file _ (Get block) item acts a fits = absurd fits
  no_file _ (Put block value) item acts a fits = absurd fits
  no_file _ (PutAt block named value) item acts a fits = absurd fits
  no_file _ Sync item acts a fits = absurd fits

  one_by_plan : (w : Option Work) (step : BlockCall) (a : BlockAnswer) (item : ℕ) (acts : List Act) → StepFits step w
      → IsByPlan Began client item w acts (answer_of a)
  one_by_plan w step (Got ver value) item acts fits = tt
  one_by_plan w step (Written ver) item acts fits = tt
  one_by_plan w step Changed item acts fits = no_file w step item acts answer.Done fits
  one_by_plan w step Synced item acts fits = no_file w step item acts answer.Done fits

  -- ---- an answer of a call on files

  is_file : (w : Option Work) (item : ℕ) (acts : List Act) (p : PlanState) → Trailed Began client item w acts p → IsFileCall w
  is_file (Some (work.File c call)) item acts p t = tt
  is_file _ item acts p t = absurd t

  file_done : (w : Option Work) (said : List Act) → IsFileCall w → IsDone client w said
  file_done (Some (work.File c call)) said file = tt
  file_done _ said file = absurd file

  file_founded : (w : Option Work) (said : List Act) (done : ℕ → Type 0) (a : Answer) → IsFileCall w → IsFileReply a → IsFounded client works w said done a
  file_founded w said done answer.Done file reply = file_done w said file
  file_founded w said done (answer.Made ino) file reply = file
  file_founded w said done (answer.Bytes bytes) file reply = file
  file_founded w said done (answer.Size size) file reply = file
  file_founded w said done (answer.Names names) file reply = file
  file_founded w said done (answer.File fault) file reply = file
  file_founded w said done _ file reply = absurd reply

  file_by_plan : (w : Option Work) (item : ℕ) (acts : List Act) (a : Answer) → IsFileReply a → IsCallsAnswer Began client item w acts a
      → IsByPlan Began client item w acts a
  file_by_plan w item acts answer.Done reply its = its
  file_by_plan w item acts (answer.Made ino) reply its = its
  file_by_plan w item acts (answer.Bytes bytes) reply its = its
  file_by_plan w item acts (answer.Size size) reply its = its
  file_by_plan w item acts (answer.Names names) reply its = its
  file_by_plan w item acts (answer.File fault) reply its = its
  file_by_plan w item acts _ reply its = absurd reply

  -- ---- the open call

  -- its call on blocks is the one that the item asks for, or the next one of the plan of the call on files that it asks for
  abbrev pub PlanFits : List Act → ℕ → Plan → BlockCall → Option Work → Type 0
  PlanFits said item One step w = StepFits step w
  PlanFits said item (File p) step w = (plan.file_plan_next p ≡ Step step) × Trailed Began client item w (first ++ said) p

  more_fits : (said more : List Act) (item : ℕ) (p : Plan) (step : BlockCall) (w : Option Work) → PlanFits said item p step w
      → PlanFits (said ++ more) item p step w
  more_fits said more item One step w fits = fits
  more_fits said more item (File p) step w fits =
      (fits.0, subst (λ acts. Trailed Began client item w acts p) (append_assoc first said more) (more_trailed Began client item w (first ++ said) more p fits.1))

  -- it goes on so, or ends with an answer that is founded
  abbrev pub GoingFits : List Act → ℕ → Option Work → Going → Type 0
  GoingFits said item w (On call) = PlanFits said item call.plan call.step w
  GoingFits said item w (Ends a) = For w item said (DoneIn []) a

  file_going : (said : List Act) (item : ℕ) (w : Option Work) (p : PlanState) → EndsWell p → Trailed Began client item w (first ++ said) p
      → GoingFits said item w (stands_by p)
  file_going said item w p well t = by (plan.file_plan_next p) refl
    where
      by : (next : Next) → plan.file_plan_next p ≡ next → GoingFits said item w (going_by p next)
      by (Step step) e = (e, t)
      by (Reply a) e =
          let reply : IsFileReply a = replies_well p a well e in (
            file_founded w said (DoneIn []) a (is_file w item (first ++ said) p t) reply,
            file_by_plan w item (first ++ said) a reply (replies_so Began client item w (first ++ said) p a e t),
          )

  pub trailed_well : (w : Option Work) (item : ℕ) (acts : List Act) (p : PlanState) → Trailed Began client item w acts p → EndsWell p
  trailed_well (Some (work.File c call)) item acts p t =
      subst EndsWell t.1.stands (all_well (plan.start call (plan.made_by item client)) t.1.answers (start_well call (plan.made_by item client)))
  trailed_well _ item acts p t = absurd t

  after_fits : (said : List Act) (outs : List Effect) (item : ℕ) (w : Option Work) (p : Plan) (step : BlockCall) (a : BlockAnswer)
      → ActedFor client step outs (Some a) → PlanFits said item p step w → GoingFits (acted me said outs) item w (plan_answered p a)
  after_fits said outs item w One step a among fits =
      (one_founded w step a said outs fits among (DoneIn []), one_by_plan w step a item (first ++ acted me said outs) fits)
  after_fits said outs item w (File p) step a among fits =
      file_going (acted me said outs) item w (plan.file_plan_answered p a) (trailed_well w item (first ++ acted me said outs) (plan.file_plan_answered p a) now) now
    where
      now : Trailed Began client item w (first ++ acted me said outs) (plan.file_plan_answered p a)
      now =
          subst (λ acts. Trailed Began client item w acts (plan.file_plan_answered p a)) (append_assoc first said (acts_of me outs))
          (next_trailed Began client item w (first ++ said) (acts_of me outs) p step a fits.0 (answer_acted client step a outs among) fits.1)

  -- ---- a client that serves

  -- the open call is one of the open item
  abbrev pub CallFits : List Act → Serving → Type 0
  CallFits said s = (item : ℕ) → IsOpen s item → (call : Call) → s.call ≡ Some call → PlanFits said item call.plan call.step (asked_at works item)

  -- it is this client, and these are its items
  pub record Holds (said : List Act) (s : Serving) : Type 0 where
    pub number : s.lasting.number ≡ client
    pub its : s.lasting.items.works ≡ works
    pub fits : CallFits said s

  pub record Runs (said : List Act) (d : Done) : Type 0 where
    pub holds : Holds (acted me said d.outs) d.state
    pub founded : Founded me F said d.outs

  pub more_holds : (said more : List Act) (s : Serving) → Holds said s → Holds (said ++ more) s
  more_holds said more s h = record {
    number = h.number;
    its = h.its;
    fits = λ item waits call fact. more_fits said more item call.plan call.step (asked_at works item) (h.fits item waits call fact);
  }

  -- nothing is done
  rests : (said : List Act) (s : Serving) → Holds said s → Runs said (still s)
  rests said s h = record { holds = subst (λ acts. Holds acts s) (sym (append-nil said)) h; founded = tt }

  pub then_runs : (said : List Act) (d x : Done) → Runs said d → Runs (acted me said d.outs) x → Runs said (saying d.outs x)
  then_runs said d x a b = record {
    holds = subst (λ acts. Holds acts x.state) (acted_then me said d.outs x.outs) b.holds;
    founded = founded_then me F grow said d.outs x.outs a.founded b.founded;
  }

  goes_holds : (said : List Act) (s : Serving) (d : Done) → Goes s d → Holds said s → Holds said d.state
  goes_holds said s d g h = record { number = g.does.its_number ∙ h.number; its = (items_stay s d g).works ∙ h.its; fits = fits_then }
    where
      fits_then : CallFits said d.state
      fits_then item waits call fact =
          let old = g.calls call fact in
          let f : PlanFits said item old.0.plan old.0.step (asked_at works item) =
          h.fits item ((items_stay s d g).waits item waits) old.0 old.1.0 in
          subst (λ p. PlanFits said item p call.step (asked_at works item)) (sym old.1.1.0)
          (subst (λ t. PlanFits said item old.0.plan t (asked_at works item)) (sym old.1.1.1) f)

  loss_founded : (item : ℕ) (said : List Act) (done : ℕ → Type 0) (a : Answer) → IsLoss a → F item said done a
  loss_founded item said done (answer.Lost name) loss = (tt, tt)
  loss_founded item said done _ loss = absurd loss

  pub goes_run : (said : List Act) (s : Serving) (d : Done) → Goes s d → Holds said s → Runs said d
  goes_run said s d g h = record {
    holds = more_holds said (acts_of me d.outs) d.state (goes_holds said s d g h);
    founded = moves_founded me F grow IsLoss loss_founded Answering IsNone (λ a none. absurd none) (λ name may. tt) said (items_of s) (items_of d.state) d.outs
        g.does.moves;
  }

  -- ---- the open call runs

  -- it goes on, or its item is answered
  running_go_on_runs : (said : List Act) (s : Serving) (g : Going) → s.lasting.number ≡ client → s.lasting.items.works ≡ works
      → ((item : ℕ) → IsOpen s item → GoingFits said item (asked_at works item) g) → Runs said (running_go_on s g)
  unfolding running_go_on
  running_go_on_runs said s (On call) number its fits = rests said (record s { call = Some call }) (record { number = number; its = its; fits = by })
    where
      by : CallFits said (record s { call = Some call })
      by item waits other fact =
          let same : call ≡ other = cc in
          subst (λ (k : Call). PlanFits said item k.plan k.step (asked_at works item)) same (fits item waits)
  running_go_on_runs said s (Ends a) number its fits = record {
    holds = record { number = number; its = its; fits = λ item waits call fact. absurd (no_item item waits) };
    founded = open_founded me F grow said s.lasting.items.unanswered a fits;
  }

  answers_run : (said : List Act) (outs : List Effect) (s : Serving) (call : Call) (a : Option BlockAnswer) → s.lasting.number ≡ client
      → s.lasting.items.works ≡ works → ActedFor client call.step outs a
      → ((item : ℕ) → IsOpen s item → PlanFits said item call.plan call.step (asked_at works item)) → Runs (acted me said outs) (take_answer s call a).done
  answers_run said outs s call None number its among fits = rests (acted me said outs) (record s { call = Some call }) (record { number = number; its = its; fits = by })
    where
      by : CallFits (acted me said outs) (record s { call = Some call })
      by item waits other fact =
          let same : call ≡ other = cc in
          more_fits said (acts_of me outs) item other.plan other.step (asked_at works item)
          (subst (λ (k : Call). PlanFits said item k.plan k.step (asked_at works item)) same (fits item waits))
  answers_run said outs s call (Some a) number its among fits =
      running_go_on_runs (acted me said outs) s (plan_answered call.plan a) number its
      (λ item waits. after_fits said outs item (asked_at works item) call.plan call.step a among (fits item waits))

  without_call : (said : List Act) (s : Serving) → Holds said s → Holds said (record s { call = None })
  without_call said s h = record { number = h.number; its = h.its; fits = λ item waits call fact. absurd (none call fact) }
    where
      none : (call : Call) → None ≡ Some call → ⊥
      none call fact = cc

  call_runs : (said : List Act) (s : Serving) (call : Option Call) → s.call ≡ call → Holds said s → Runs said (runs_call s call).done
  call_runs said s None at h = rests said s h
  call_runs said s (Some call) at h =
      let u : Serving = record s { call = None } in
      let m : Made = blocks_make u call.step in
      let g : Goes u m.done = makes_go u call.step in
      let r : Runs said m.done = goes_run said u m.done g (without_call said s h) in
      then_runs said m.done (take_answer m.done.state call m.answer).done r
      (answers_run said m.done.outs m.done.state call m.answer r.holds.number r.holds.its
      (subst (λ n. ActedFor n call.step m.done.outs m.answer) h.number (makes_acted u call.step))
      (λ item waits. h.fits item ((items_stay u m.done g).waits item waits) call at))

  pub once_runs : (said : List Act) (s : Serving) → Holds said s → Runs said (run_once s).done
  unfolding run_once
  once_runs said s h = call_runs said s s.call refl h

  upto_runs : (said : List Act) (k : ℕ) (s : Serving) → Holds said s → Runs said (run_upto k s)
  unfolding run_upto
  upto_runs said zero s h = rests said s h
  upto_runs said (suc k) s h =
      let r : Ran = run_once s in
      let one : Runs said r.done = once_runs said s h in
      by_test (Runs said) r.goes (saying r.done.outs (run_upto k r.done.state)) r.done
      (λ _. then_runs said r.done (run_upto k r.done.state) one (upto_runs (acted me said r.done.outs) k r.done.state one.holds)) (λ _. one)

  pub all_run : (said : List Act) (s : Serving) → Holds said s → Runs said (run s)
  unfolding run
  all_run said s h = upto_runs said most_steps s h

  -- ---- a call begins

  -- an item that a client neither crashes nor starts again by
  abbrev pub IsNoRestart : Option Work → Type 0
  IsNoRestart (Some (work.Restart node)) = ⊥
  IsNoRestart _ = Unit {0}

  -- what is made of an item: a call that is its own, an answer of a call on files, or that all is done
  abbrev pub BeginsFor : Option Work → ℕ → List Act → Option Going → Type 0
  BeginsFor w number said None = For w number said (DoneIn []) answer.Done
  BeginsFor w number said (Some g) = GoingFits said number w g

  file_begins : (c : ℕ) (call : FileCall) (number : ℕ) (said : List Act) → Began number first
      → BeginsFor (Some (work.File c call)) number said (call_of (work.File c call) number client)
  file_begins c call number said began =
      by_test (BeginsFor (Some (work.File c call)) number said) (may_make number client) (Some (stands_by (plan.start call (plan.made_by number client)))) None
      (λ room. file_going said number (Some (work.File c call)) (plan.start call (plan.made_by number client))
      (start_well call (plan.made_by number client)) (begins_trailed Began client number c call first said began room))
      (λ none. (tt, subst (λ room. IsGiven Began client number call room (first ++ said) answer.Done) (sym none) refl))

  pub begins_for : (w : Option Work) (s : Serving) (number : ℕ) (said : List Act) → s.lasting.number ≡ client → Began number first → IsNoRestart w
      → BeginsFor w number said (call_at s number w)
  begins_for None s number said its began none = (tt, tt)
  begins_for (Some (work.Bget c block)) s number said its began none = refl
  begins_for (Some (work.Bput c block value)) s number said its began none = (refl, refl)
  begins_for (Some (work.Sync c)) s number said its began none = tt
  begins_for (Some (work.File c call)) s number said its began none =
      subst (λ self. BeginsFor (Some (work.File c call)) number said (call_of (work.File c call) number self)) (sym its)
      (file_begins c call number said began)
  begins_for (Some (work.Restart node)) s number said its began none = absurd none
  begins_for (Some _) s number said its began none = (tt, tt)

  pub begun_runs : (said : List Act) (s : Serving) (number : ℕ) (g : Going) → Holds said s → BeginsFor (asked_at works number) number said (Some g)
      → Runs said (running_go_on (record s { lasting = record s.lasting { items = items_wait s.lasting.items number } }) g)
  begun_runs said s number g h its =
      running_go_on_runs said (record s { lasting = record s.lasting { items = items_wait s.lasting.items number } }) g h.number h.its
      (λ item waits. subst (λ n. GoingFits said n (asked_at works n) g) (one_number number item waits) its)

  begins_run : (said : List Act) (s : Serving) (number : ℕ) (o : Option Going) → Holds said s → BeginsFor (asked_at works number) number said o
      → Runs said (begin_call s number o)
  begins_run said s number None h its = record { holds = more_holds said (act.Answered me number answer.Done ∷ []) s h; founded = (its, tt) }
  begins_run said s number (Some g) h its =
      let d : Done = running_go_on (record s { lasting = record s.lasting { items = items_wait s.lasting.items number } }) g in
      let one : Runs said d = begun_runs said s number g h its in
      then_runs said d (run d.state) one (all_run (acted me said d.outs) d.state one.holds)

  pub opens_run : (said : List Act) (s : Serving) (number : ℕ) → Holds said s → Began number first → IsNoRestart (asked_at works number)
      → Runs said (opens s number)
  unfolding opens
  opens_run said s number h began none =
      by_test (Runs said) (is_some s.lasting.items.unanswered) (gives s (Answers number answer.Busy ∷ []))
      (begin_call s number (call_at s number (work_at s.lasting.items number)))
      (λ _. record { holds = more_holds said (act.Answered me number answer.Busy ∷ []) s h; founded = ((tt, tt), tt) })
      (λ _.
      subst (λ w. Runs said (begin_call s number (call_at s number w))) (sym asked)
      (begins_run said s number (call_at s number (asked_at works number)) h
      (begins_for (asked_at works number) s number said h.number began none)))
    where
      asked : work_at s.lasting.items number ≡ asked_at works number
      asked = ap (λ (ws : List Work). asked_at ws number) h.its

-- what an event acted was acted before the next
module _ (Began : ℕ → List Act → Type 0) (client : ℕ) (works : List Work) (first said : List Act) where
  pub fits_on : (item : ℕ) (p : Plan) (step : BlockCall) (w : Option Work) → PlanFits Began client works first said item p step w
      → PlanFits Began client works (first ++ said) [] item p step w
  fits_on item One step w fits = fits
  fits_on item (File p) step w fits =
      (fits.0, subst (λ acts. Trailed Began client item w acts p) (sym (append-nil (first ++ said))) fits.1)
