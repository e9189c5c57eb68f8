-- How a call on files comes to its answer: the calls on blocks of its plan are answered one after another, and what these answers tell of was acted.
use Rattle.std.specs.Prelude.{◌≡◌, ℕ, Bool, true, false, List, [], ◌∷◌, ◌++◌, Option, Some, slice_get}
use Rattle.client_call.specs.Calls.{may_make}
use Rattle.core_world.specs.declared.any_node.AnyNode.{AnyNode}
use Rattle.file_plan.specs.declared.block_call.BlockAnswer.{BlockAnswer}
use Rattle.file_plan.specs.declared.block_call.BlockAnswer.TheVariants.{Changed, Got, Synced, Put as Written}
use Rattle.file_plan.specs.declared.block_call.BlockCall.{BlockCall}
use Rattle.file_plan.specs.declared.block_call.BlockCall.TheVariants.{Get, Put, PutAt, Sync}
use Rattle.file_plan.specs.declared.block_call.Next.{Next}
use Rattle.file_plan.specs.declared.block_call.Next.TheVariants.{Reply, Step}
use Rattle.file_plan.specs.Plan.{plan}
use Rattle.node_base.specs.Beginning.{next_item}
use Rattle.token_protocol.specs.Basics.{In}
use Rattle.version_model.specs.declared.act.Act.{Act}
use Rattle.version_model.specs.declared.act.Act.TheVariants as act
use Rattle.version_model.specs.declared.answer.Answer.{Answer}
use Rattle.version_model.specs.declared.answer.Answer.TheVariants as answer
use Rattle.version_model.specs.declared.file_call.FileCall.{FileCall}
use Rattle.version_model.specs.declared.work.Work.{Work}
use Rattle.version_model.specs.declared.work.Work.TheVariants as work
use Rattle.world_base.specs.declared.estate.Estate.{Estate}
use Rattle.world_base.specs.declared.event.Event.{Event}
use Rattle.world_base.specs.declared.event.Event.TheVariants.{Begin}
use Rattle.world_base.specs.Items.{items_of}
use Rattle.xfs_base.specs.declared.node.NodeId.TheVariants.{Client}
use Rattle.headline.specs.Items.{asked_at, items_in}
use Rattle.headline.specs.Moments.{acts_in, moment, node_named}

module _ (client : ℕ) where
  -- A call on blocks of the client is answered so by these acts: what was read is acted, with its version and value; what was written, with its value; and that
  -- all is settled. That a block has no longer the version that was named is answered to a write at a version alone, by which nothing is acted.
  abbrev pub IsActed : BlockCall → BlockAnswer → List Act → Type 0
  IsActed (Get block) (Got ver value) acts = In (act.Read client block ver value) acts
  IsActed (Put block value) (Written ver) acts = In (act.Wrote client block value) acts
  IsActed (PutAt block named value) (Written ver) acts = In (act.Wrote client block value) acts
  IsActed (PutAt block named value) Changed acts = Unit {0}
  IsActed Sync Synced acts = In (act.Synced client) acts
  IsActed _ _ acts = ⊥

  -- A plan that had some answers gets these, in their order: each is one to the call on blocks that the plan makes then, and acted behind what those before it
  -- tell of.
  abbrev pub AreActed : (List BlockAnswer → Next) → List BlockAnswer → List BlockAnswer → List Act → Type 0
  AreActed makes had [] acts = Unit {0}
  AreActed makes had (a ∷ answers) acts =
      (front : List Act) × (back : List Act) × (step : BlockCall) × (acts ≡ front ++ back) × (makes had ≡ Step step) × IsActed step a front
      × AreActed makes (had ++ a ∷ []) answers back

-- when an item began: by an event behind these acts
module _ (Began : ℕ → List Act → Type 0) (client item : ℕ) where
  -- So a call on files comes to its answer behind these acts of a run: since the item began the calls on blocks of its plan were answered so, each was acted, and
  -- what the plan replies to that is the answer.
  pub record IsPlanned (call : FileCall) (acts : List Act) (a : Answer) : Type 0 where
    pub first : List Act
    pub since : List Act
    pub all : acts ≡ first ++ since
    pub begins : Began item first
    pub answers : List BlockAnswer
    pub acted : AreActed client (plan call item client) [] answers since
    pub replies : plan call item client answers ≡ Reply a

  -- where the numbers of the item and the client are in range, as those of each script that is read are; else it is done at once
  abbrev pub IsGiven : FileCall → Bool → List Act → Answer → Type 0
  IsGiven call true acts a = IsPlanned call acts a
  IsGiven call false acts a = a ≡ answer.Done

  -- what is asked for is a call on files: so this is its answer
  abbrev pub IsCallsAnswer : Option Work → List Act → Answer → Type 0
  IsCallsAnswer (Some (work.File c call)) acts a = IsGiven call (may_make item client) acts a
  IsCallsAnswer _ acts a = Unit {0}

  -- So it is with each answer, to an item that asks for this, that a plan can reply. That the client is busy or down, that the item is cut, or that a segment is
  -- lost, may be the answer to any item.
  abbrev pub IsByPlan : Option Work → List Act → Answer → Type 0
  IsByPlan w acts answer.Done = IsCallsAnswer w acts answer.Done
  IsByPlan w acts (answer.Made ino) = IsCallsAnswer w acts (answer.Made ino)
  IsByPlan w acts (answer.Bytes bytes) = IsCallsAnswer w acts (answer.Bytes bytes)
  IsByPlan w acts (answer.Size size) = IsCallsAnswer w acts (answer.Size size)
  IsByPlan w acts (answer.Names names) = IsCallsAnswer w acts (answer.Names names)
  IsByPlan w acts (answer.File fault) = IsCallsAnswer w acts (answer.File fault)
  IsByPlan w acts _ = Unit {0}

module _ (e : Estate AnyNode) where
  -- these are the acts of the run before an event by which the client begins its next item, and that is this one
  pub record BeganBehind (client item : ℕ) (acts : List Act) : Type 0 where
    pub count : ℕ
    pub happens : slice_get e.events count ≡ Some (Begin (Client client))
    pub node : AnyNode
    pub its : node_named (moment e count) (Client client) ≡ Some node
    pub next : next_item (items_in node) ≡ Some item
    pub before : acts ≡ (moment e count).acts

  -- wherever among the acts of an event a client answers an item, that is by the plan of the call on files that it asks for, if it does, behind all acts of the
  -- run before the answer
  abbrev pub FileAnswersArePlanned : Type 0
  FileAnswersArePlanned =
      (count : ℕ) (event : Event) → slice_get e.events count ≡ Some event → (client item : ℕ) (a : Answer) (before behind : List Act)
      → acts_in (moment e count) event ≡ before ++ act.Answered (Client client) item a ∷ behind
      → IsByPlan (BeganBehind client) client item (asked_at (items_of e.script.lines (Client client)) item) ((moment e count).acts ++ before) a
