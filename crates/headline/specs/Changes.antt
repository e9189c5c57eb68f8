-- What calls find of the versions of blocks: a write makes the version behind the newest; one that names a version is made where just that is the newest, and is
-- told that the version has changed where there are more since.
use Rattle.std.specs.List.{AllByRecursion}
use Rattle.std.specs.Prelude.{◌≡◌, ◌<◌, ◌+◌, ◌⊎◌, ℕ, suc, List, [], ◌++◌, Option, Some, None, slice_get}
use Rattle.client_call.specs.Calls.{plan_answered}
use Rattle.client_call.specs.declared.call.Call.{Call}
use Rattle.client_call.specs.declared.call.Going.{Going}
use Rattle.client_call.specs.declared.call.Going.TheVariants.{Ends, On}
use Rattle.client_node.specs.declared.client.Client.{Client}
use Rattle.client_node.specs.declared.phase.Phase.{Phase}
use Rattle.client_node.specs.declared.phase.Phase.TheVariants.{Serving as Serves}
use Rattle.client_node.specs.Phases.{lasting_of}
use Rattle.client_running.specs.Opens.{call_at}
use Rattle.client_serving.specs.declared.serving.Serving.{Serving}
use Rattle.core_world.specs.declared.any_node.AnyNode.{AnyNode}
use Rattle.core_world.specs.declared.any_node.AnyNode.TheVariants as any
use Rattle.file_plan.specs.declared.block_call.BlockAnswer.{BlockAnswer}
use Rattle.file_plan.specs.declared.block_call.BlockAnswer.TheVariants.{Changed, Put as Written}
use Rattle.file_plan.specs.declared.block_call.BlockCall.{BlockCall}
use Rattle.file_plan.specs.declared.block_call.BlockCall.TheVariants.{Put, PutAt}
use Rattle.version_model.specs.declared.act.Act.{Act}
use Rattle.version_model.specs.declared.act.Act.TheVariants as act
use Rattle.version_model.specs.declared.answer.Answer.{Answer}
use Rattle.version_model.specs.declared.work.Work.{Work}
use Rattle.wire_msg.specs.declared.packet.Do.{Do}
use Rattle.world_base.specs.declared.estate.Estate.{Estate}
use Rattle.world_base.specs.declared.event.Event.{Event}
use Rattle.world_base.specs.Events.{node_of, what_of}
use Rattle.xfs_base.specs.declared.block.BlockId.{BlockId}
use Rattle.xfs_base.specs.declared.node.NodeId.TheVariants as nodes
use Rattle.headline.specs.Calls.{DoesServe, IsAnswerTo, IsBegun, answered_so, call_in, of_items, open_in, told}
use Rattle.headline.specs.ItemActs.{IsOfBlocks, IsOfCall}
use Rattle.headline.specs.Moments.{acts_in, moment, node_named}
use Rattle.headline.specs.Restarts.{NoDoubtfulRestart}
use Rattle.headline.specs.Updates.{versions_behind}

-- a call on blocks is answered so, where each block has so many versions
abbrev pub IsFound : (BlockId → ℕ) → BlockCall → BlockAnswer → Type 0
IsFound versions (Put block value) (Written ver) = ver ≡ versions block + 1
IsFound versions (PutAt block named value) (Written ver) = named ≡ versions block
IsFound versions (PutAt block named value) Changed = named < versions block
IsFound versions _ _ = Unit {0}

-- A stretch of one event, of which each answer is as the block is behind the acts of the run up to there, of which these are those before it.
pub data FoundStretch (client : ℕ) (item : Option ℕ) : List Act → Going → List Act → Option Call → Type 0 where
  -- It waits for the answer of its call on blocks.
  Awaits : {before : List Act} {call new : Call} → new.plan ≡ call.plan → new.step ≡ call.step → FoundStretch client item before (On call) [] (Some new)
  -- Its call on blocks is answered so: that is acted, and then it goes on as its plan says.
  Follows : {before : List Act} {call : Call} {acts : List Act} {after : Option Call} (a : BlockAnswer) → IsAnswerTo call.step a
      → IsFound (versions_behind before) call.step a → FoundStretch client item (before ++ told client call.step a) (plan_answered call.plan a) acts after
      → FoundStretch client item before (On call) (told client call.step a ++ acts) after
  -- It is done: its item is answered.
  Concludes : {before : List Act} (a : Answer) → FoundStretch client item before (Ends a) (answered_so (nodes.Client client) item a) None

-- the event begins this item, and that is no call
pub record IsNoCall (p : Phase) (what : Do) (item : ℕ) : Type 0 where
  pub serving : Serving
  pub serves : p ≡ Serves serving
  pub wanted : Option Work
  pub begun : IsBegun p what item wanted
  pub none : call_at serving item wanted ≡ None

-- It doesn't answer a call that is done: what is answered so is an item that begins and is no call, or that of a client that doesn't serve.
abbrev pub EndsNoCall : Phase → Do → Act → Type 0
EndsNoCall p what (act.Answered node item a) = IsOfCall a → IsNoCall p what item ⊎ (DoesServe p → ⊥)
EndsNoCall p what _ = Unit {0}

-- So a client goes from a phase to the next by an event behind these acts of the run, and these are its acts of items.
pub data CallsFind (client : ℕ) (before : List Act) (p : Phase) (what : Do) (acts : List Act) (q : Phase) : Type 0 where
  -- The call that is open goes on.
  GoesOn : (call : Call) → call_in p ≡ Some call → FoundStretch client (open_in p) before (On call) acts (call_in q) → CallsFind client before p what acts q
  -- A call of the item that begins is opened, while none is open, and goes on.
  Begins : {s : Serving} (number : ℕ) (wanted : Option Work) (going : Going) → p ≡ Serves s → IsBegun p what number wanted → call_in p ≡ None
      → call_at s number wanted ≡ Some going → FoundStretch client (Some number) before going acts (call_in q) → CallsFind client before p what acts q
  -- No call goes on: nothing is acted of blocks, no call is answered as one that is done, and what was open is as it was, or is open no more.
  Rests : AllByRecursion (λ a. IsOfBlocks a → ⊥) acts → AllByRecursion (EndsNoCall p what) acts → (call_in q ≡ call_in p) ⊎ (call_in q ≡ None)
      → CallsFind client before p what acts q

-- So it is of each event of a client, up to the first doubtful restart.
abbrev pub CallsFindVersions : Estate AnyNode → Type 0
CallsFindVersions e =
    (count : ℕ) (event : Event) → slice_get e.events count ≡ Some event → NoDoubtfulRestart e (suc count) → (before behind : Client)
    → node_named (moment e count) (node_of event) ≡ Some (any.Client before) → node_named (moment e (suc count)) (node_of event) ≡ Some (any.Client behind)
    → CallsFind (lasting_of before.phase).number (moment e count).acts before.phase (what_of event) (of_items (acts_in (moment e count) event)) behind.phase
