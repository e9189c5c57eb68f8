-- What a client acts it acts for its items: of blocks it is one stretch of the call that the open item asks for, over all events since the item began, and what no
-- item asks for is not acted.
use Rattle.std.specs.List.{filter}
use Rattle.std.specs.Prelude.{◌≡◌, ◌+◌, ℕ, suc, Bool, true, false, if◌then◌else◌, is_some, List, [], ◌∷◌, ◌++◌, Option, Some, None}
use Rattle.client_call.specs.Calls.{plan_answered}
use Rattle.client_call.specs.declared.call.Call.{Call}
use Rattle.client_call.specs.declared.call.Going.{Going}
use Rattle.client_call.specs.declared.call.Going.TheVariants.{Ends, On}
use Rattle.client_call.specs.declared.call.Plan.TheVariants.{One}
use Rattle.client_node.specs.declared.client.Client.{Client}
use Rattle.client_node.specs.declared.phase.Phase.{Phase}
use Rattle.client_node.specs.declared.phase.Phase.TheVariants.{Down, Opening, Serving as Serves}
use Rattle.client_node.specs.Phases.{client_step, lasting_of}
use Rattle.client_running.specs.Blocks.{is_settled}
use Rattle.client_running.specs.Opens.{call_at}
use Rattle.client_serving.specs.declared.serving.Serving.{Serving}
use Rattle.client_serving.specs.Flights.{held_at}
use Rattle.file_plan.specs.declared.block_call.BlockAnswer.{BlockAnswer}
use Rattle.file_plan.specs.declared.block_call.BlockAnswer.TheVariants.{Changed, Got, Synced, Put as Written}
use Rattle.file_plan.specs.declared.block_call.BlockCall.{BlockCall}
use Rattle.file_plan.specs.declared.block_call.BlockCall.TheVariants.{Get, Put, PutAt, Sync}
use Rattle.node_base.specs.Beginning.{next_item, work_at}
use Rattle.token_client.specs.declared.held.Held.{Held}
use Rattle.token_client.specs.Held.{held_new}
use Rattle.version_model.specs.declared.act.Act.{Act}
use Rattle.version_model.specs.declared.act.Act.TheVariants as act
use Rattle.version_model.specs.declared.act.Fall.{Fall}
use Rattle.version_model.specs.declared.answer.Answer.{Answer}
use Rattle.version_model.specs.declared.answer.Answer.TheVariants as answer
use Rattle.version_model.specs.declared.work.Work.{Work}
use Rattle.version_model.specs.declared.work.Work.TheVariants as work
use Rattle.wire_msg.specs.declared.packet.Do.{Do}
use Rattle.wire_msg.specs.declared.packet.Do.TheVariants.{Begin}
use Rattle.xfs_base.specs.Blocks.{same_block}
use Rattle.xfs_base.specs.declared.block.BlockId.{BlockId}
use Rattle.xfs_base.specs.declared.node.NodeId.{NodeId}
use Rattle.xfs_base.specs.declared.node.NodeId.TheVariants as nodes
use Rattle.xfs_base.specs.declared.segment.SegName.{SegName}
use Rattle.xfs_base.specs.Modes.{is_held}

-- Of which kind an answer to a call on blocks is. What is written at a named version is the next one.
abbrev pub IsAnswerTo : BlockCall → BlockAnswer → Type 0
IsAnswerTo (Get block) (Got ver value) = Unit {0}
IsAnswerTo (Put block value) (Written ver) = Unit {0}
IsAnswerTo (PutAt block named value) (Written ver) = ver ≡ named + 1
IsAnswerTo (PutAt block named value) Changed = Unit {0}
IsAnswerTo Sync Synced = Unit {0}
IsAnswerTo _ _ = ⊥

-- what a client acts of a call on blocks that is answered so
abbrev pub told : ℕ → BlockCall → BlockAnswer → List Act
told client (Get block) (Got ver value) = act.Read client block ver value ∷ []
told client (Put block value) (Written ver) = act.Wrote client block value ∷ []
told client (PutAt block named value) (Written ver) = act.Wrote client block value ∷ []
told client Sync Synced = act.Synced client ∷ []
told client _ _ = []

-- it is done for an item, or ends one: no segment is filed or lost by it; and segments are given up by no client
abbrev pub is_of_items : Act → Bool
is_of_items (act.Filed seg) = false
is_of_items (act.Lost node seg) = false
is_of_items _ = true

-- those among acts, in their order
abbrev pub of_items : List Act → List Act
of_items acts = filter is_of_items acts

-- the item of this node that is open, if one is, is answered so
abbrev pub answered_so : NodeId → Option ℕ → Answer → List Act
answered_so node None a = []
answered_so node (Some item) a = act.Answered node item a ∷ []

-- From where a call stands, by these acts of the client, to the call that is open then, if one is. `item` is the item of the call.
pub data Stretch (client : ℕ) (item : Option ℕ) : Going → List Act → Option Call → Type 0 where
  -- It waits for the answer of its call on blocks.
  Waits : {call new : Call} → new.plan ≡ call.plan → new.step ≡ call.step → Stretch client item (On call) [] (Some new)
  -- Its call on blocks is answered so: what the answer tells of is acted, and nothing else, and then it goes on as its plan says.
  Told : {call : Call} {acts : List Act} {after : Option Call} (a : BlockAnswer) → IsAnswerTo call.step a
      → Stretch client item (plan_answered call.plan a) acts after → Stretch client item (On call) (told client call.step a ++ acts) after
  -- It is done: its item is answered, and nothing is acted behind.
  Finishes : (a : Answer) → Stretch client item (Ends a) (answered_so (nodes.Client client) item a) None

-- how often a block is written by these acts
abbrev pub writes_of : BlockId → List Act → ℕ
writes_of b [] = 0
writes_of b (act.Wrote client block value ∷ acts) = if same_block block b then suc (writes_of b acts) else writes_of b acts
writes_of b (_ ∷ acts) = writes_of b acts

-- it is held with a value, of the version that is so many after this one
pub record IsHeldAfter (h : Held) (ver more : ℕ) : Type 0 where
  pub held : is_held h.mode ≡ true
  pub valued : is_some h.value ≡ true
  pub version : h.ver ≡ ver + more

-- a block that was written so is held then, and its version has risen by one wherever these acts write it
abbrev pub IsHeldSince : (BlockId → Held) → BlockCall → BlockAnswer → List Act → Type 0
IsHeldSince now (Put block value) (Written ver) acts = IsHeldAfter (now block) ver (writes_of block acts)
IsHeldSince now (PutAt block named value) (Written ver) acts = IsHeldAfter (now block) ver (writes_of block acts)
IsHeldSince now _ _ acts = Unit {0}

-- A stretch of one event, behind which blocks are held so: what it writes is held since.
pub data EventStretch (client : ℕ) (item : Option ℕ) (now : BlockId → Held) : Going → List Act → Option Call → Type 0 where
  -- It waits for the answer of its call on blocks.
  Awaits : {call new : Call} → new.plan ≡ call.plan → new.step ≡ call.step → EventStretch client item now (On call) [] (Some new)
  -- Its call on blocks is answered so: that is acted, what it wrote is held behind the event, and then it goes on as its plan says.
  Follows : {call : Call} {acts : List Act} {after : Option Call} (a : BlockAnswer) → IsAnswerTo call.step a → IsHeldSince now call.step a acts
      → EventStretch client item now (plan_answered call.plan a) acts after → EventStretch client item now (On call) (told client call.step a ++ acts) after
  -- It is done: its item is answered.
  Concludes : (a : Answer) → EventStretch client item now (Ends a) (answered_so (nodes.Client client) item a) None

-- the open call of a client that serves
abbrev pub call_in : Phase → Option Call
call_in (Down l) = None
call_in (Opening l o) = None
call_in (Serves s) = s.call

-- the item that is open
abbrev pub open_in : Phase → Option ℕ
open_in p = (lasting_of p).items.unanswered

-- what a client that serves holds of each block
abbrev pub held_in : Phase → BlockId → Held
held_in (Down l) = λ b. held_new
held_in (Opening l o) = λ b. held_new
held_in (Serves s) = held_at s

-- where a call is open, an item is
abbrev pub CallHasItem : Phase → Type 0
CallHasItem p = (call : Call) → call_in p ≡ Some call → (item : ℕ) × (open_in p ≡ Some item)

-- while a call is open behind the event, this is the open item
abbrev pub ItemStays : Option ℕ → Phase → Type 0
ItemStays item q = (call : Call) → call_in q ≡ Some call → open_in q ≡ item

-- the event begins this item, which asks for this
pub record IsBegun (p : Phase) (what : Do) (number : ℕ) (wanted : Option Work) : Type 0 where
  pub begins : what ≡ Begin
  pub next : next_item (lasting_of p).items ≡ Some number
  pub asks : work_at (lasting_of p).items number ≡ wanted

-- it crashes
abbrev pub IsCrash : Option Work → Type 0
IsCrash (Some (work.Crash node)) = Unit {0}
IsCrash _ = ⊥

-- it is down behind the event, with no open item
abbrev pub HasFallen : Phase → Type 0
HasFallen (Down l) = l.items.unanswered ≡ None
HasFallen _ = ⊥

-- it opens its log
abbrev pub Opens : Phase → Type 0
Opens (Opening l o) = Unit {0}
Opens _ = ⊥

-- it serves
abbrev pub DoesServe : Phase → Type 0
DoesServe (Serves s) = Unit {0}
DoesServe _ = ⊥

-- it serves, and nothing waits to be written to its log, or is in flight
abbrev pub IsDrained : Phase → Type 0
IsDrained (Serves s) = is_settled s ≡ true
IsDrained _ = ⊥

-- where the call is one sync, and is open no more behind the event, all that waited is settled
abbrev pub SyncDrains : Going → Phase → Type 0
SyncDrains (On call) q = call.plan ≡ One → call.step ≡ Sync → call_in q ≡ None → IsDrained q
SyncDrains (Ends a) q = Unit {0}

-- it refuses what begins
abbrev pub IsRefusal : Answer → Type 0
IsRefusal answer.Busy = Unit {0}
IsRefusal answer.Down = Unit {0}
IsRefusal answer.Up = Unit {0}
IsRefusal _ = ⊥

-- So a client goes from a phase to the next by an event, and these are its acts of items.
pub data Acts (client : ℕ) (p : Phase) (what : Do) : List Act → Phase → Type 0 where
  -- No call is open before and behind, and nothing is acted.
  Rests : {q : Phase} → call_in p ≡ None → call_in q ≡ None → Acts client p what [] q
  -- The item that begins is no call, and is done.
  Passes : {s : Serving} {q : Phase} (number : ℕ) (wanted : Option Work) → p ≡ Serves s → IsBegun p what number wanted → open_in p ≡ None
      → call_at s number wanted ≡ None → call_in q ≡ call_in p → open_in q ≡ open_in p
      → Acts client p what (act.Answered (nodes.Client client) number answer.Done ∷ []) q
  -- The item that begins is refused. What was open is open still.
  AtOnce : {q : Phase} (number : ℕ) (wanted : Option Work) (a : Answer) → IsRefusal a → IsBegun p what number wanted → call_in q ≡ call_in p → open_in q ≡ open_in p
      → Acts client p what (act.Answered (nodes.Client client) number a ∷ []) q
  -- The call that is open goes on.
  GoesOn : {q : Phase} {acts : List Act} (call : Call) → call_in p ≡ Some call → ItemStays (open_in p) q → SyncDrains (On call) q
      → EventStretch client (open_in p) (held_in q) (On call) acts (call_in q) → Acts client p what acts q
  -- A call of the item that begins is opened, while none is open, and goes on.
  Begins : {s : Serving} {q : Phase} {acts : List Act} (number : ℕ) (wanted : Option Work) (going : Going) → p ≡ Serves s → IsBegun p what number wanted
      → open_in p ≡ None → call_at s number wanted ≡ Some going → ItemStays (Some number) q → SyncDrains going q
      → EventStretch client (Some number) (held_in q) going acts (call_in q) → Acts client p what acts q
  -- A segment is lost, and the open item is answered so.
  Loses : {q : Phase} (name : SegName) → call_in q ≡ None → open_in q ≡ None
      → Acts client p what (answered_so (nodes.Client client) (open_in p) (answer.Lost name)) q
  -- By the item that begins it falls, while it serves: what it may lose is acted, the open item is cut, and the item is answered.
  Falls : {q : Phase} (number : ℕ) (wanted : Option Work) (flight : Option (ℕ × ℕ)) (falls : List Fall) → DoesServe p → IsBegun p what number wanted → IsCrash wanted
      → HasFallen q
      → Acts client p what
      (act.Fell client flight falls ∷ answered_so (nodes.Client client) (open_in p) answer.Cut ++ act.Answered (nodes.Client client) number answer.Done ∷ []) q
  -- The same while it opens its log: it holds nothing that it may lose.
  Stops : {q : Phase} (number : ℕ) (wanted : Option Work) → Opens p → IsBegun p what number wanted → IsCrash wanted → HasFallen q
      → Acts client p what
      (answered_so (nodes.Client client) (open_in p) answer.Cut ++ act.Answered (nodes.Client client) number answer.Done ∷ []) q
  -- Its log is open again: that is acted, and the open item is answered. It serves with no call.
  Returns : {q : Phase} (chain : List SegName) → Opens p → DoesServe q → call_in q ≡ None → open_in q ≡ None
      → Acts client p what (act.Back client chain ∷ answered_so (nodes.Client client) (open_in p) answer.Done) q

-- What an event of a client whose open call is one of an open item makes of it.
pub record EventActs (c : Client) (what : Do) : Type 0 where
  pub acts : Acts (lasting_of c.phase).number c.phase what (of_items (client_step c what).acts) (client_step c what).node.phase
  pub sound : CallHasItem (client_step c what).node.phase

-- an act that clients alone do
abbrev pub IsClients : Act → Type 0
IsClients (act.Wrote client block value) = Unit {0}
IsClients (act.Read client block ver value) = Unit {0}
IsClients (act.Synced client) = Unit {0}
IsClients (act.Fell client flight falls) = Unit {0}
IsClients (act.Back client chain) = Unit {0}
IsClients _ = ⊥
