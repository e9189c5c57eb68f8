-- Where an event of a client answers a version, that is the last word of it: the client serves behind it, and holds the block that it wrote, with this version.
use Rattle.std.proofs.Common.{◌≡◌, ◌⊎◌, ℕ, zero, suc, cond, List, [], ◌∷◌, ◌++◌, Option, Some, None, is_some, inl, inr, refl, sym, ap, subst}
use Rattle.client_call.specs.Calls.{plan_answered, answer_of, going_by}
use Rattle.client_call.specs.declared.call.Call.{Call}
use Rattle.client_call.specs.declared.call.Going.{Going}
use Rattle.client_call.specs.declared.call.Going.TheVariants.{On, Ends}
use Rattle.client_call.specs.declared.call.Plan.{Plan}
use Rattle.client_call.specs.declared.call.Plan.TheVariants.{One, File}
use Rattle.client_running.specs.Blocks.{Made, blocks_make, blocks_put}
use Rattle.client_running.specs.Opens.{begin_call, call_at, opens}
use Rattle.client_running.specs.Running.{Ran, take_answer, running_go_on, most_steps, run, runs_call, run_once, run_upto}
use Rattle.client_serving.specs.declared.serving.Serving.{Serving}
use Rattle.client_serving.specs.Sends.{Done, gives}
use Rattle.file_plan.specs.declared.block_call.BlockAnswer.{BlockAnswer}
use Rattle.file_plan.specs.declared.block_call.BlockAnswer.TheVariants.{Got, Synced}
use Rattle.file_plan.specs.declared.block_call.BlockAnswer.TheVariants.{Put as Written}
use Rattle.file_plan.specs.declared.block_call.BlockCall.{BlockCall}
use Rattle.file_plan.specs.declared.block_call.BlockCall.TheVariants.{Get, Put, PutAt, Sync}
use Rattle.file_plan.specs.declared.block_call.Next.{Next}
use Rattle.file_plan.specs.declared.block_call.Next.TheVariants.{Step, Reply}
use Rattle.file_plan.specs.Plan as plan
use Rattle.node_base.specs.Beginning.{answers_unanswered, items_wait, work_at}
use Rattle.node_base.specs.declared.effects.Effect.{Effect}
use Rattle.node_base.specs.declared.effects.Effect.TheVariants.{Send, Answer as Answers, Lose, Does}
use Rattle.token_client.specs.State.{TokensState}
use Rattle.token_protocol.specs.Basics.{In}
use Rattle.version_model.specs.declared.act.Act.{Act}
use Rattle.version_model.specs.declared.answer.Answer.{Answer}
use Rattle.version_model.specs.declared.answer.Answer.TheVariants as answer
use Rattle.version_model.specs.declared.work.Work.{Work}
use Rattle.version_model.specs.declared.work.Work.TheVariants as work
use Rattle.xfs_base.proofs.Booleans.{by_test}
use Rattle.xfs_base.specs.declared.node.NodeId.TheVariants as nodes
use Rattle.xfs_base.specs.Steps.{saying, still}
use Rattle.serving_moves.specs.call_moves.Moves.{CallStays}
use Rattle.serving_moves.proofs.item_moves.Plans.{IsFileReply, answered_well, replies_well}
use Rattle.serving_moves.proofs.item_moves.ClientServing.{Goes, IsOpen, items_of, items_stay, makes_go}
use Rattle.serving_moves.specs.item_moves.Moves.{IsNone}
use Rattle.serving_moves.specs.item_moves.Moves.Losses.{Answering}
use Rattle.run_answers.proofs.act_law.Calling.{ActedFor, BeginsFor, Holds, IsNoRestart, PlanFits, StepFits, begins_for, begun_runs, makes_acted, once_runs, trailed_well}
use Rattle.run_answers.proofs.act_law.Telling.{DoneIn, acted}
use Rattle.run_answers.proofs.act_law.Writing.{IsWritten, puts_put}
use Rattle.run_answers.proofs.once_law.Ledger.{AllPlain, Closes, IsLoss}
use Rattle.headline.specs.Answers.{IsFounded, IsWritten as founded_IsWritten}
use Rattle.headline.specs.Items.{asked_at}
use Rattle.run_answers.specs.once_law.Ledgers.{Without}
use Rattle.run_answers.proofs.once_law.Items.{moves_close}

-- ---- what effects answer

pub effect_either : (x : Effect) (xs ys : List Effect) → In x (xs ++ ys) → In x xs ⊎ In x ys
effect_either x [] ys among = inr among
effect_either x (y ∷ xs) ys (inl e) = inl (inl e)
effect_either x (y ∷ xs) ys (inr among) = by (effect_either x xs ys among)
  where
    by : In x xs ⊎ In x ys → In x (y ∷ xs) ⊎ In x ys
    by (inl fact) = inl (inr fact)
    by (inr fact) = inr fact

closes_answers : (J : Answer → Type 0) (these left : ℕ → Type 0) (outs : List Effect) → Closes J these outs left → (item : ℕ) (a : Answer)
    → In (Answers item a) outs → J a
closes_answers J these left [] c item a among = absurd among
closes_answers J these left (Send to b ∷ outs) c item a (inl e) = absurd cc
closes_answers J these left (Send to b ∷ outs) c item a (inr among) = closes_answers J these left outs c item a among
closes_answers J these left (Answers n x ∷ outs) c item a (inl e) = (let same : x ≡ a = cc in subst J same c.0)
closes_answers J these left (Answers n x ∷ outs) c item a (inr among) = closes_answers J (Without these n) left outs c.1.1 item a among
closes_answers J these left (Lose name ∷ outs) c item a (inl e) = absurd cc
closes_answers J these left (Lose name ∷ outs) c item a (inr among) = closes_answers J these left outs c item a among
closes_answers J these left (Does x ∷ outs) c item a (inl e) = absurd cc
closes_answers J these left (Does x ∷ outs) c item a (inr among) = closes_answers J these left outs c.1 item a among

pub plain_answers : (outs : List Effect) → AllPlain outs → (item : ℕ) (a : Answer) → In (Answers item a) outs → ⊥
plain_answers [] plain item a among = among
plain_answers (Send to b ∷ outs) plain item a (inl e) = absurd cc
plain_answers (Send to b ∷ outs) plain item a (inr among) = plain_answers outs plain.1 item a among
plain_answers (Answers n x ∷ outs) plain item a among = plain.0
plain_answers (Lose name ∷ outs) plain item a (inl e) = absurd cc
plain_answers (Lose name ∷ outs) plain item a (inr among) = plain_answers outs plain.1 item a among
plain_answers (Does x ∷ outs) plain item a (inl e) = absurd cc
plain_answers (Does x ∷ outs) plain item a (inr among) = plain_answers outs plain.1 item a among

pub record IsOne (o : Option ℕ) (a : Answer) (item : ℕ) (b : Answer) : Type 0 where
  pub waits : o ≡ Some item
  pub same : a ≡ b

pub open_answers : (o : Option ℕ) (a : Answer) (item : ℕ) (b : Answer) → In (Answers item b) (answers_unanswered o a) → IsOne o a item b
open_answers None a item b among = absurd among
open_answers (Some n) a item b (inl e) =
    let one : n ≡ item = cc in
    record { waits = ap Some one; same = cc }
open_answers (Some n) a item b (inr among) = absurd among

one_answer : (n item : ℕ) (a b : Answer) → In (Answers item b) (Answers n a ∷ []) → a ≡ b
one_answer n item a b (inl e) = cc
one_answer n item a b (inr among) = absurd among

-- ---- the open call

-- the block that the item asks to be written is held, with this version and the value that it asks for
abbrev pub HasWritten : TokensState → Option Work → ℕ → Type 0
HasWritten t (Some (work.Bput c block value)) ver = IsWritten t block value ver
HasWritten t _ ver = ⊥

got_apart : (v : ℕ) (value : Option (List ℕ)) (ver : ℕ) → answer.Got v value ≡ answer.Version ver → ⊥
got_apart v value ver e = cc

done_apart : (ver : ℕ) → answer.Done ≡ answer.Version ver → ⊥
done_apart ver e = cc

busy_apart : (ver : ℕ) → answer.Busy ≡ answer.Version ver → ⊥
busy_apart ver e = cc

one_version : (v ver : ℕ) → answer.Version v ≡ answer.Version ver → v ≡ ver
one_version v ver e = cc

-- a call on blocks that is answered by a version is a write
written_so : (client : ℕ) (s : Serving) (step : BlockCall) (a : BlockAnswer) (outs : List Effect) (w : Option Work) (ver : ℕ) → StepFits step w
    → ActedFor client step outs (Some a) → (blocks_make s step).answer ≡ Some a → answer_of a ≡ answer.Version ver → HasWritten (blocks_make s step).done.state.tokens w ver
unfolding blocks_make
written_so client s (Get block) (Got v value) outs w ver fits among made same = absurd (got_apart v value ver same)
written_so client s (Put block value) (Written v) outs (Some (work.Bput c b x)) ver fits among made same =
    let version : v ≡ ver = one_version v ver same in
    subst (λ k. IsWritten (blocks_put s block value).done.state.tokens k x ver) (sym fits.0)
    (subst (λ y. IsWritten (blocks_put s block value).done.state.tokens block y ver) (sym fits.1)
    (subst (λ n. IsWritten (blocks_put s block value).done.state.tokens block value n) version (puts_put s block value v made)))
written_so client s (Put block value) (Written v) outs _ ver fits among made same = absurd fits
written_so client s (PutAt block named value) a outs w ver fits among made same = absurd fits
written_so client s Sync Synced outs w ver fits among made same = absurd (done_apart ver same)
written_so client s _ _ outs w ver fits among made same = absurd among

none_stays : (o : Option Call) → CallStays None o → o ≡ None
none_stays None stays = refl
none_stays (Some call) stays = (let old = stays call refl in absurd (none old.0 old.1.0))
  where
    none : (c : Call) → None ≡ Some c → ⊥
    none c fact = cc

-- without a call nothing is done
idle_upto : (k : ℕ) (s : Serving) → s.call ≡ None → (run_upto k s).state ≡ s
unfolding run_upto run_once
idle_upto zero s none = refl
idle_upto (suc k) s none = subst (λ call. (cond (runs_call s call).goes (saying (runs_call s call).done.outs (run_upto k (runs_call s call).done.state)) (runs_call s call).done).state ≡ s) (sym none) refl

none_written : (client : ℕ) (w : Option Work) → founded_IsWritten client w [] → ⊥
none_written client (Some (work.Bput c block value)) f = f
none_written client _ f = f

module _ (Began : ℕ → List Act → Type 0) (client : ℕ) (works : List Work) (first : List Act) where
  -- where a version is answered, the block is held with it
  abbrev pub IsVersed : Done → Type 0
  IsVersed d = (item ver : ℕ) → In (Answers item (answer.Version ver)) d.outs → HasWritten d.state.tokens (asked_at works item) ver

  -- and no call is open then
  record Over (s : Serving) (item ver : ℕ) : Type 0 where
    written : HasWritten s.tokens (asked_at works item) ver
    call : s.call ≡ None

  abbrev IsOver : Done → Type 0
  IsOver d = (item ver : ℕ) → In (Answers item (answer.Version ver)) d.outs → Over d.state item ver

  goes_none : (s : Serving) (d : Done) → Goes s d → (item ver : ℕ) → In (Answers item (answer.Version ver)) d.outs → ⊥
  goes_none s d g item ver among = closes_answers IsLoss (IsOpen s) (IsOpen d.state) d.outs
      (moves_close Answering IsNone IsLoss (λ a none. absurd none) (λ name may. tt) (items_of s) (items_of d.state) d.outs g.does.moves) item (answer.Version ver)
      among

  then_versed : (d x : Done) → IsOver d → (d.state.call ≡ None → x.state ≡ d.state) → IsVersed x → IsVersed (saying d.outs x)
  then_versed d x over idle more item ver among = by (effect_either (Answers item (answer.Version ver)) d.outs x.outs among)
    where
      by : In (Answers item (answer.Version ver)) d.outs ⊎ In (Answers item (answer.Version ver)) x.outs → HasWritten x.state.tokens (asked_at works item) ver
      by (inl f) =
          let o : Over d.state item ver = over item ver f in
          subst (λ (s : Serving). HasWritten s.tokens (asked_at works item) ver) (sym (idle o.call)) o.written
      by (inr f) = more item ver f

  -- a call on blocks is answered: its version is the answer, and a plan replies no version
  rest_over : (said : List Act) (p : Plan) (step : BlockCall) (a : BlockAnswer) (s : Serving) → (blocks_make s step).answer ≡ Some a
      → ActedFor client step (blocks_make s step).done.outs (Some a)
      → ((item : ℕ) → IsOpen (blocks_make s step).done.state item → PlanFits Began client works first said item p step (asked_at works item))
      → (blocks_make s step).done.state.call ≡ None → IsOver (running_go_on (blocks_make s step).done.state (plan_answered p a))
  unfolding running_go_on
  rest_over said One step a s made among fits none item ver answers =
      let o = open_answers (blocks_make s step).done.state.lasting.items.unanswered (answer_of a) item (answer.Version ver) answers in
      record { written = written_so client s step a (blocks_make s step).done.outs (asked_at works item) ver (fits item o.waits) among made o.same; call = none }
  rest_over said (File q) step a s made among fits none item ver answers = absurd (by (plan.file_plan_next (plan.file_plan_answered q a)) refl answers)
    where
      by : (next : Next) → plan.file_plan_next (plan.file_plan_answered q a) ≡ next
          → In (Answers item (answer.Version ver)) (running_go_on (blocks_make s step).done.state (going_by (plan.file_plan_answered q a) next)).outs → ⊥
      by (Step other) e f = f
      by (Reply b) e f =
          let o = open_answers (blocks_make s step).done.state.lasting.items.unanswered b item (answer.Version ver) f in
          subst IsFileReply o.same
          (replies_well (plan.file_plan_answered q a) b
          (answered_well q (trailed_well Began client works first (asked_at works item) item (first ++ said) q (fits item o.waits).1) a) e)

  call_over : (said : List Act) (s : Serving) (call : Option Call) → s.call ≡ call → Holds Began client works first said s → IsOver (runs_call s call).done
  call_over said s None at h item ver among = absurd among
  call_over said s (Some call) at h item ver among = by (effect_either (Answers item (answer.Version ver)) m.done.outs (take_answer m.done.state call m.answer).done.outs among)
    where
      u : Serving
      u = record s { call = None }

      m : Made
      m = blocks_make u call.step

      g : Goes u m.done
      g = makes_go u call.step

      its : (n : ℕ) → IsOpen m.done.state n → PlanFits Began client works first said n call.plan call.step (asked_at works n)
      its n waits = h.fits n ((items_stay u m.done g).waits n waits) call at

      rest : (a : Option BlockAnswer) → m.answer ≡ a → In (Answers item (answer.Version ver)) (take_answer m.done.state call a).done.outs
          → Over (take_answer m.done.state call a).done.state item ver
      rest None e f = absurd f
      rest (Some a) e f =
          rest_over said call.plan call.step a u e
          (subst (λ n. ActedFor n call.step m.done.outs (Some a)) h.number (subst (ActedFor u.lasting.number call.step m.done.outs) e (makes_acted u call.step)))
          its (none_stays m.done.state.call g.calls) item ver f

      by : In (Answers item (answer.Version ver)) m.done.outs ⊎ In (Answers item (answer.Version ver)) (take_answer m.done.state call m.answer).done.outs
          → Over (take_answer m.done.state call m.answer).done.state item ver
      by (inl f) = absurd (goes_none u m.done g item ver f)
      by (inr f) = rest m.answer refl f

  once_over : (said : List Act) (s : Serving) → Holds Began client works first said s → IsOver (run_once s).done
  unfolding run_once
  once_over said s h = call_over said s s.call refl h

  none_upto : (s : Serving) → IsVersed (still s)
  none_upto s item ver among = absurd among

  upto_versed : (said : List Act) (k : ℕ) (s : Serving) → Holds Began client works first said s → IsVersed (run_upto k s)
  unfolding run_upto
  upto_versed said zero s h = none_upto s
  upto_versed said (suc k) s h =
      let r : Ran = run_once s in
      let more : IsVersed (run_upto k r.done.state) =
      upto_versed (acted (nodes.Client client) said r.done.outs) k r.done.state (once_runs Began client works first said s h).holds in
      by_test IsVersed r.goes (saying r.done.outs (run_upto k r.done.state)) r.done
      (λ _. then_versed r.done (run_upto k r.done.state) (once_over said s h) (idle_upto k r.done.state) more)
      (λ _ item ver among. (once_over said s h item ver among).written)

  pub all_versed : (said : List Act) (s : Serving) → Holds Began client works first said s → IsVersed (run s)
  unfolding run
  all_versed said s h = upto_versed said most_steps s h

  -- behind what answers none
  pub behind_versed : (s : Serving) (d x : Done) → Goes s d → IsVersed x → IsVersed (saying d.outs x)
  behind_versed s d x g more item ver among = by (effect_either (Answers item (answer.Version ver)) d.outs x.outs among)
    where
      by : In (Answers item (answer.Version ver)) d.outs ⊎ In (Answers item (answer.Version ver)) x.outs → HasWritten x.state.tokens (asked_at works item) ver
      by (inl f) = absurd (goes_none s d g item ver f)
      by (inr f) = more item ver f

  -- ---- a call begins

  -- no item is answered by a version as it begins
  begins_none : (s : Serving) (number : ℕ) (g : Going) → BeginsFor Began client works first (asked_at works number) number [] (Some g) → (item ver : ℕ)
      → In (Answers item (answer.Version ver)) (running_go_on (record s { lasting = record s.lasting { items = items_wait s.lasting.items number } }) g).outs → ⊥
  unfolding running_go_on
  begins_none s number (On call) its item ver among = among
  begins_none s number (Ends a) its item ver among =
      let o = open_answers (Some number) a item (answer.Version ver) among in
      none_written client (asked_at works number) (version_founded a o.same its.0)
    where
      version_founded : (b : Answer) → b ≡ answer.Version ver → IsFounded client works (asked_at works number) [] (DoneIn []) b
          → founded_IsWritten client (asked_at works number) []
      version_founded b same f = subst (IsFounded client works (asked_at works number) [] (DoneIn [])) same f

  begins_versed : (s : Serving) (number : ℕ) (o : Option Going) → Holds Began client works first [] s
      → BeginsFor Began client works first (asked_at works number) number [] o → IsVersed (begin_call s number o)
  begins_versed s number None h its item ver among = absurd (done_apart ver (one_answer number item answer.Done (answer.Version ver) among))
  begins_versed s number (Some g) h its item ver among = by (effect_either (Answers item (answer.Version ver)) d.outs (run d.state).outs among)
    where
      t : Serving
      t = record s { lasting = record s.lasting { items = items_wait s.lasting.items number } }

      d : Done
      d = running_go_on t g

      by : In (Answers item (answer.Version ver)) d.outs ⊎ In (Answers item (answer.Version ver)) (run d.state).outs
          → HasWritten (run d.state).state.tokens (asked_at works item) ver
      by (inl f) = absurd (begins_none s number g its item ver f)
      by (inr f) =
          all_versed (acted (nodes.Client client) [] d.outs) d.state (begun_runs Began client works first [] s number g h its).holds item ver f

  pub opens_versed : (s : Serving) (number : ℕ) → Holds Began client works first [] s → Began number first
      → IsNoRestart Began client works first (asked_at works number) → IsVersed (opens s number)
  unfolding opens
  opens_versed s number h began none =
      by_test IsVersed (is_some s.lasting.items.unanswered) (gives s (Answers number answer.Busy ∷ []))
      (begin_call s number (call_at s number (work_at s.lasting.items number)))
      (λ _ item ver among. absurd (busy_apart ver (one_answer number item answer.Busy (answer.Version ver) among)))
      (λ _.
      subst (λ w. IsVersed (begin_call s number (call_at s number w))) (sym asked)
      (begins_versed s number (call_at s number (asked_at works number)) h
      (begins_for Began client works first (asked_at works number) s number [] h.number began none)))
    where
      asked : work_at s.lasting.items number ≡ asked_at works number
      asked = ap (λ (ws : List Work). asked_at ws number) h.its
