-- An act of blocks in an event of a client is for an item: where the item's one call on blocks is answered, or by a call on files.
use Rattle.std.proofs.Common.{◌≡◌, ◌⊎◌, ℕ, List, [], ◌∷◌, ◌++◌, Option, Some, None, inl, inr, refl, sym, subst}
use Rattle.std.specs.List.{AllByRecursion}
use Rattle.client_call.specs.Calls.{plan_answered, answer_of, call_of, stands_by, going_by, may_make}
use Rattle.client_running.specs.Opens.{call_at}
use Rattle.client_serving.specs.declared.serving.Serving.{Serving}
use Rattle.file_plan.specs.declared.block_call.Next.{Next}
use Rattle.file_plan.specs.declared.block_call.Next.TheVariants.{Step, Reply}
use Rattle.file_plan.specs.declared.state.PlanState.{PlanState}
use Rattle.file_plan.specs.Plan as plan
use Rattle.xfs_base.proofs.Booleans.{by_test}
use Rattle.xfs_base.specs.declared.block.BlockId.{BlockId}
use Rattle.client_call.specs.declared.call.Call.{Call}
use Rattle.client_call.specs.declared.call.Going.{Going}
use Rattle.client_call.specs.declared.call.Going.TheVariants.{On, Ends}
use Rattle.client_call.specs.declared.call.Plan.{Plan}
use Rattle.client_call.specs.declared.call.Plan.TheVariants.{One, File}
use Rattle.file_plan.specs.declared.block_call.BlockAnswer.{BlockAnswer}
use Rattle.file_plan.specs.declared.block_call.BlockAnswer.TheVariants.{Got, Changed, Synced}
use Rattle.file_plan.specs.declared.block_call.BlockAnswer.TheVariants.{Put as Written}
use Rattle.file_plan.specs.declared.block_call.BlockCall.{BlockCall}
use Rattle.file_plan.specs.declared.block_call.BlockCall.TheVariants.{Get, Put, PutAt, Sync}
use Rattle.headline.specs.Calls.{IsAnswerTo, Stretch, answered_so, of_items, told}
use Rattle.token_protocol.specs.Basics.{In}
use Rattle.version_model.specs.declared.act.Act.{Act}
use Rattle.version_model.specs.declared.act.Act.TheVariants as act
use Rattle.version_model.specs.declared.answer.Answer.{Answer}
use Rattle.version_model.specs.declared.work.Work.{Work}
use Rattle.version_model.specs.declared.work.Work.TheVariants as work
use Rattle.xfs_base.specs.declared.node.NodeId.{NodeId}
use Rattle.xfs_base.specs.declared.node.NodeId.TheVariants as nodes
use Rattle.run_laws.proofs.world_law.Sent.{in_append}
use Rattle.run_answers.proofs.act_law.Calling.{IsGetOf, IsPutOf, IsSync, StepFits}
use Rattle.headline.specs.Items.{IsFileCall}
use Rattle.headline.specs.ItemActs.{IsBy, IsFor, IsOfBlocks}
use Rattle.headline.specs.ItemActs.IsFor.{OfFile, OfBlock}
use Rattle.headline.specs.Calls.Stretch.{Waits, Told, Finishes}

-- ---- acts of blocks among acts

-- none of these is one
abbrev pub NoneOfBlocks : List Act → Type 0
NoneOfBlocks acts = AllByRecursion (λ a. IsOfBlocks a → ⊥) acts

pub no_such : (acts : List Act) → NoneOfBlocks acts → (a : Act) → IsOfBlocks a → In a acts → ⊥
no_such [] none a is among = among
no_such (x ∷ acts) none a is (inl e) = none.0 (subst IsOfBlocks e is)
no_such (x ∷ acts) none a is (inr among) = no_such acts none.1 a is among

pub answers_none : (node : NodeId) (item : Option ℕ) (a : Answer) → NoneOfBlocks (answered_so node item a)
answers_none node None a = tt
answers_none node (Some item) a = (λ is. is, tt)

-- they are acts of items
pub among_items : (a : Act) → IsOfBlocks a → (acts : List Act) → In a acts → In a (of_items acts)
among_items a is [] among = among
among_items a is (act.Filed seg ∷ acts) (inl e) = absurd (subst IsOfBlocks e is)
among_items a is (act.Filed seg ∷ acts) (inr among) = among_items a is acts among
among_items a is (act.Lost node seg ∷ acts) (inl e) = absurd (subst IsOfBlocks e is)
among_items a is (act.Lost node seg ∷ acts) (inr among) = among_items a is acts among
among_items a is (_ ∷ acts) (inl e) = inl e
among_items a is (_ ∷ acts) (inr among) = inr (among_items a is acts among)

module _ (client : ℕ) where
  abbrev me : NodeId
  me = nodes.Client client

  -- ---- a stretch names its client

  told_by : (step : BlockCall) (x : BlockAnswer) (a : Act) → In a (told client step x) → IsBy client a
  told_by (Get block) (Got ver value) a (inl e) = subst (IsBy client) (sym e) refl
  told_by (Put block value) (Written ver) a (inl e) = subst (IsBy client) (sym e) refl
  told_by (PutAt block named value) (Written ver) a (inl e) = subst (IsBy client) (sym e) refl
  told_by Sync Synced a (inl e) = subst (IsBy client) (sym e) refl
  told_by (Get block) (Got ver value) a (inr among) = absurd among
  told_by (Put block value) (Written ver) a (inr among) = absurd among
  told_by (PutAt block named value) (Written ver) a (inr among) = absurd among
  told_by Sync Synced a (inr among) = absurd among
  told_by (Get block) (Written ver) a among = absurd among
  told_by (Get block) Changed a among = absurd among
  told_by (Get block) Synced a among = absurd among
  told_by (Put block value) (Got ver v) a among = absurd among
  told_by (Put block value) Changed a among = absurd among
  told_by (Put block value) Synced a among = absurd among
  told_by (PutAt block named value) (Got ver v) a among = absurd among
  told_by (PutAt block named value) Changed a among = absurd among
  told_by (PutAt block named value) Synced a among = absurd among
  told_by Sync (Got ver v) a among = absurd among
  told_by Sync (Written ver) a among = absurd among
  told_by Sync Changed a among = absurd among

  pub stretch_by : {item : Option ℕ} {going : Going} {acts : List Act} {after : Option Call} → Stretch client item going acts after → (a : Act) → IsOfBlocks a
      → In a acts → IsBy client a
  stretch_by (Waits p q) a is among = absurd among
  stretch_by (Told {call = call} {acts = rest} x fits more) a is among =
      by (λ later. stretch_by more a is later) (in_append (told client call.step x) rest a among)
    where
      by : (In a rest → IsBy client a) → In a (told client call.step x) ⊎ In a rest → IsBy client a
      by behind (inl first) = told_by call.step x a first
      by behind (inr later) = behind later
  stretch_by {item} (Finishes x) a is among = absurd (no_such (answered_so me item x) (answers_none me item x) a is among)

  -- ---- a call that is one call on blocks

  -- it is of the item that asks for this
  abbrev pub IsOwnCall : Option Work → Plan → BlockCall → Type 0
  IsOwnCall w One step = StepFits step w
  IsOwnCall w (File p) step = IsFileCall w

  -- all that is acted of items
  abbrev its : BlockCall → BlockAnswer → ℕ → List Act
  its step x item = told client step x ++ answered_so me (Some item) (answer_of x)

  read_told : (item : ℕ) (w : Option Work) (block : BlockId) (ver : ℕ) (value : Option (List ℕ)) → IsGetOf block w
      → IsFor client item w (its (Get block) (Got ver value) item) (act.Read client block ver value)
  read_told item (Some (work.Bget c b)) block ver value same = OfBlock (answer_of (Got ver value)) refl (sym same, (refl, refl)) refl
  read_told item _ block ver value same = absurd same

  wrote_told : (item : ℕ) (w : Option Work) (block : BlockId) (value : Option (List ℕ)) (ver : ℕ) → IsPutOf block value w
      → IsFor client item w (its (Put block value) (Written ver) item) (act.Wrote client block value)
  wrote_told item (Some (work.Bput c b v)) block value ver same = OfBlock (answer_of (Written ver)) refl (sym same.0, sym same.1) refl
  wrote_told item _ block value ver same = absurd same

  synced_told : (item : ℕ) (w : Option Work) → IsSync w → IsFor client item w (its Sync Synced item) (act.Synced client)
  synced_told item (Some (work.Sync c)) same = OfBlock (answer_of Synced) refl tt refl
  synced_told item _ same = absurd same

  -- what is answered is none
  no_answer : (item : ℕ) (x : Answer) (a : Act) → IsOfBlocks a → In a (answered_so me (Some item) x) → ⊥
  no_answer item x a is among = no_such (answered_so me (Some item) x) (answers_none me (Some item) x) a is among

  one_told : (item : ℕ) (w : Option Work) (step : BlockCall) (x : BlockAnswer) → StepFits step w → IsAnswerTo step x → (a : Act) → IsOfBlocks a
      → In a (its step x item) → IsFor client item w (its step x item) a
  one_told item w (Get block) (Got ver value) same fits a is (inl e) =
      subst (IsFor client item w (its (Get block) (Got ver value) item)) (sym e) (read_told item w block ver value same)
  one_told item w (Put block value) (Written ver) same fits a is (inl e) =
      subst (IsFor client item w (its (Put block value) (Written ver) item)) (sym e) (wrote_told item w block value ver same)
  one_told item w Sync Synced same fits a is (inl e) = subst (IsFor client item w (its Sync Synced item)) (sym e) (synced_told item w same)
  one_told item w (Get block) (Got ver value) same fits a is (inr among) = absurd (no_answer item (answer_of (Got ver value)) a is among)
  one_told item w (Put block value) (Written ver) same fits a is (inr among) = absurd (no_answer item (answer_of (Written ver)) a is among)
  one_told item w Sync Synced same fits a is (inr among) = absurd (no_answer item (answer_of Synced) a is among)
  one_told item w (PutAt block named value) x same fits a is among = absurd same
  one_told item w _ _ same fits a is among = absurd fits

  -- behind what is done
  ends_with : {item : Option ℕ} {x : Answer} {acts : List Act} {after : Option Call} → Stretch client item (Ends x) acts after → acts ≡ answered_so me item x
  ends_with (Finishes x) = refl

  one_for : {item : ℕ} {w : Option Work} {acts : List Act} {after : Option Call} (plan : Plan) (call : Call) → call.plan ≡ plan → IsOwnCall w plan call.step
      → Stretch client (Some item) (On call) acts after → (a : Act) → IsOfBlocks a → In a acts → IsFor client item w acts a
  one_for (File p) call same own st a is among = OfFile own (stretch_by st a is among)
  one_for One call same own (Waits p q) a is among = absurd among
  one_for {item} {w} {after = after} One call same own (Told {acts = rest} x fits more) a is among =
      let end : rest ≡ answered_so me (Some item) (answer_of x) =
      ends_with (subst (λ (p : Plan). Stretch client (Some item) (plan_answered p x) rest after) same more) in
      subst (λ (acts : List Act). IsFor client item w (told client call.step x ++ acts) a) (sym end)
      (one_told item w call.step x own fits a is (subst (λ (acts : List Act). In a (told client call.step x ++ acts)) end among))

  -- ---- a call that begins

  abbrev pub GoingOwn : Option Work → Going → Type 0
  GoingOwn w (On call) = IsOwnCall w call.plan call.step
  GoingOwn w (Ends x) = Unit {0}

  pub going_for : {item : ℕ} {w : Option Work} {acts : List Act} {after : Option Call} (going : Going) → GoingOwn w going
      → Stretch client (Some item) going acts after → (a : Act) → IsOfBlocks a → In a acts → IsFor client item w acts a
  going_for (On call) own st a is among = one_for call.plan call refl own st a is among
  going_for {item} (Ends x) own (Finishes _) a is among = absurd (no_answer item x a is among)

  pub call_for_item : {item : ℕ} {w : Option Work} {acts : List Act} {after : Option Call} (call : Call) → IsOwnCall w call.plan call.step
      → Stretch client (Some item) (On call) acts after → (a : Act) → IsOfBlocks a → In a acts → IsFor client item w acts a
  call_for_item call own st a is among = one_for call.plan call refl own st a is among

  abbrev pub BeginsOwn : Option Work → Option Going → Type 0
  BeginsOwn w None = Unit {0}
  BeginsOwn w (Some going) = GoingOwn w going

  file_going : (w : Option Work) → IsFileCall w → (p : PlanState) (next : Next) → GoingOwn w (going_by p next)
  file_going w is p (Step step) = is
  file_going w is p (Reply x) = tt

  begins_own : (w : Work) (number self : ℕ) → BeginsOwn (Some w) (call_of w number self)
  begins_own (work.Bget c block) number self = refl
  begins_own (work.Bput c block value) number self = (refl, refl)
  begins_own (work.Sync c) number self = tt
  begins_own (work.File c call) number self =
      by_test (BeginsOwn (Some (work.File c call))) (may_make number self) (Some (stands_by (plan.start call (plan.made_by number self)))) None
      (λ _. file_going (Some (work.File c call)) tt (plan.start call (plan.made_by number self)) (plan.file_plan_next (plan.start call (plan.made_by number self))))
      (λ _. tt)
  begins_own _ number self = tt

  pub call_own : (s : Serving) (number : ℕ) (w : Option Work) (g : Going) → call_at s number w ≡ Some g → GoingOwn w g
  call_own s number None g made = absurd cc
  call_own s number (Some w) g made = subst (BeginsOwn (Some w)) made (begins_own w number s.lasting.number)
