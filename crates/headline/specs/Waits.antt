-- What an open call of a client lacks has been asked for, and is asked for again at each tick.
use Rattle.std.specs.List.{list_any}
use Rattle.std.specs.Map.{values_of}
use Rattle.std.specs.Prelude.{◌≡◌, ◌⊎◌, ◌≤◌, ◌+◌, ◌&&◌, ℕ, zero, suc, Bool, true, false, List, [], ◌++◌, Option, Some, None, is_some, slice_get}
use Rattle.client_call.specs.Calls.{plan_answered}
use Rattle.client_call.specs.declared.call.Call.{Call}
use Rattle.client_call.specs.declared.call.Going.{Going}
use Rattle.client_call.specs.declared.call.Going.TheVariants.{On}
use Rattle.client_call.specs.Fitting.{put_fits}
use Rattle.client_node.specs.declared.client.Client.{Client}
use Rattle.client_node.specs.declared.phase.Phase.{Phase}
use Rattle.client_node.specs.declared.phase.Phase.TheVariants.{Down, Opening, Serving as Serves}
use Rattle.client_node.specs.Phases.{client_has_room, client_step, lasting_of}
use Rattle.client_running.specs.Blocks.{is_settled}
use Rattle.client_running.specs.Opens.{call_at}
use Rattle.client_running.specs.Running.{most_steps}
use Rattle.client_serving.specs.declared.serving.Serving.{Serving}
use Rattle.client_serving.specs.Flights.{held_at}
use Rattle.client_serving.specs.Sends.{asked_of}
use Rattle.core_world.specs.declared.any_node.AnyNode.{AnyNode}
use Rattle.core_world.specs.declared.any_node.AnyNode.TheVariants as any
use Rattle.file_plan.specs.declared.block_call.BlockAnswer.{BlockAnswer}
use Rattle.file_plan.specs.declared.block_call.BlockCall.{BlockCall}
use Rattle.file_plan.specs.declared.block_call.BlockCall.TheVariants.{Get, Put, PutAt, Sync}
use Rattle.node_base.specs.Shape.{is_well_formed}
use Rattle.token_client.specs.declared.held.Wanted.{Wanted}
use Rattle.token_client.specs.Held.{is_dirty, may_write}
use Rattle.token_client.specs.Transition.{is_spent}
use Rattle.token_protocol.specs.Basics.{In}
use Rattle.version_model.specs.declared.act.Act.{Act}
use Rattle.version_model.specs.declared.work.Work.{Work}
use Rattle.wire_msg.specs.declared.body.Body.TheVariants as body
use Rattle.wire_msg.specs.declared.packet.Do.{Do}
use Rattle.wire_msg.specs.declared.packet.Do.TheVariants.{Begin, Deliver, Tick}
use Rattle.wire_msg.specs.declared.packet.Packet.{Packet}
use Rattle.world_base.specs.declared.estate.Estate.{Estate}
use Rattle.world_base.specs.declared.event.Event.{Event}
use Rattle.world_base.specs.Events.{node_of, what_of}
use Rattle.xfs_base.specs.declared.block.BlockId.{BlockId}
use Rattle.xfs_base.specs.declared.node.NodeId.{NodeId}
use Rattle.xfs_base.specs.declared.node.NodeId.TheVariants as nodes
use Rattle.xfs_base.specs.declared.token.Mode.{Mode}
use Rattle.xfs_base.specs.declared.token.Mode.TheVariants.{Copy, Own}
use Rattle.xfs_base.specs.Limits.{u32_end, u64_end}
use Rattle.xfs_base.specs.Modes.{is_nothing, is_own}
use Rattle.headline.specs.Calls.{IsAnswerTo, IsBegun, call_in, of_items, open_in, told}
use Rattle.headline.specs.Moments.{moment, node_named}

-- ---- what an open call lacks

-- It has asked for the block in this mode, or is to give it up first.
pub data HasAsked (s : Serving) (block : BlockId) (mode : Mode) : Type 0 where
  -- A want of it stands, in this mode.
  Wants : (w : Wanted) → (held_at s block).want ≡ Some w → w.mode ≡ mode → HasAsked s block mode
  -- To be read, it is fetched from a log.
  Fetches : mode ≡ Copy → is_some (held_at s block).fetch ≡ true → HasAsked s block mode
  -- To be written: it is owned, but to be given up, once its newest version is settled.
  GivesUp : mode ≡ Own → is_own (held_at s block).mode ≡ true → is_some (held_at s block).giving ≡ true → is_dirty (held_at s block) ≡ true
      → HasAsked s block mode
  -- To be written: it is owned, and its version is the last one.
  IsLast : mode ≡ Own → is_own (held_at s block).mode ≡ true → u64_end ≤ (held_at s block).ver → HasAsked s block mode
  -- The numbers of wants have come to their end.
  HasNoNumber : u32_end ≤ s.tokens.req → HasAsked s block mode

-- it may not write the block, and has asked to own it
abbrev pub AwaitsLeave : Serving → BlockId → Type 0
AwaitsLeave s block = (may_write (held_at s block) ≡ false) × HasAsked s block Own

-- no segment can hold the block's next version with this value, as no text of a script has it
abbrev pub FitsNone : Serving → BlockId → Option (List ℕ) → Type 0
FitsNone s block value = put_fits block ((held_at s block).ver + 1) value ≡ false

abbrev pub AwaitsBlock : Serving → BlockId → Option (List ℕ) → Type 0
AwaitsBlock s block value = AwaitsLeave s block ⊎ FitsNone s block value

-- what it wrote is in flight; or waits, and the numbers of segments have come to their end
abbrev pub AwaitsSettled : Serving → Type 0
AwaitsSettled s = (is_some s.log.flight ≡ true) ⊎ ((is_settled s ≡ false) × (u32_end ≤ s.log.end.seq))

-- So it awaits what its call on blocks lacks: the block, which it doesn't hold; leave to write it; or that what it wrote is settled. Over a version that was named
-- it waits only while that is the block's, or while it has no leave.
abbrev pub Awaits : Serving → BlockCall → Type 0
Awaits s (Get block) = (is_nothing (held_at s block).mode ≡ true) × HasAsked s block Copy
Awaits s (Put block value) = AwaitsBlock s block value
Awaits s (PutAt block ver value) = AwaitsLeave s block ⊎ (((held_at s block).ver ≡ ver) × FitsNone s block value)
Awaits s Sync = AwaitsSettled s

-- its open call, if there is one, awaits what it lacks
abbrev pub CallWaits : Serving → Type 0
CallWaits t = (call : Call) → t.call ≡ Some call → Awaits t call.step

abbrev pub PhaseWaits : Phase → Type 0
PhaseWaits (Down l) = Unit {0}
PhaseWaits (Opening l o) = Unit {0}
PhaseWaits (Serves s) = CallWaits s

-- ---- a call that is cut off

-- From where a call stands so many of its calls on blocks are answered, one after the other, each next one as its plan says; these acts tell of the answers, and it
-- stands there then. `client` is the number of the client.
pub data Makes (client : ℕ) : ℕ → Going → List Act → Going → Type 0 where
  NoMore : {going : Going} → Makes client zero going [] going
  OneMore : {count : ℕ} {call : Call} {acts : List Act} {after : Going} (a : BlockAnswer) → IsAnswerTo call.step a
      → Makes client count (plan_answered call.plan a) acts after → Makes client (suc count) (On call) (told client call.step a ++ acts) after

-- The call that goes on in an event stands so before it: it is open, or is that of the item that begins, while no item is open.
pub data HasTurn (p : Phase) (what : Do) : Going → Type 0 where
  IsOpen : (call : Call) → call_in p ≡ Some call → HasTurn p what (On call)
  Begins : {s : Serving} (number : ℕ) (wanted : Option Work) (going : Going) → p ≡ Serves s → IsBegun p what number wanted → open_in p ≡ None
      → call_at s number wanted ≡ Some going → HasTurn p what going

-- In the event 4,096 calls on blocks of the call were answered, which is all that is acted for items in it; and it is open behind it.
pub record IsCutOff (c : Client) (what : Do) : Type 0 where
  pub going : Going
  pub turn : HasTurn c.phase what going
  pub now : Call
  pub stays : call_in (client_step c what).node.phase ≡ Some now
  pub makes : Makes (lasting_of c.phase).number most_steps going (of_items (client_step c what).acts) (On now)

-- ---- each event

-- whether an event has the open call go on: time, and each packet that is well formed, while the counters are far from their ends
abbrev pub has_calls_go_on : Client → Do → Bool
has_calls_go_on c Begin = false
has_calls_go_on c (Deliver packet) = client_has_room c && is_well_formed c.peers packet
has_calls_go_on c Tick = client_has_room c

-- its open call, its tokens and its log are as they were
pub record IsAsBefore (s t : Serving) : Type 0 where
  pub call : t.call ≡ s.call
  pub tokens : t.tokens ≡ s.tokens
  pub log : t.log ≡ s.log

abbrev pub StandsAsBefore : Phase → Phase → Type 0
StandsAsBefore (Serves s) (Serves t) = IsAsBefore s t
StandsAsBefore p q = ⊥

-- So an event leaves a client.
pub data EventWaits (c : Client) (what : Do) : Type 0 where
  -- Its open call, if there is one, awaits what it lacks.
  Lacks : PhaseWaits (client_step c what).node.phase → EventWaits c what
  -- The call is cut off. It goes on at the next event that has it do so.
  CutOff : IsCutOff c what → EventWaits c what
  -- It stands as before: this is no event that has it go on.
  Passed : has_calls_go_on c what ≡ false → StandsAsBefore c.phase (client_step c what).node.phase → EventWaits c what

pub record CallsWait (e : Estate AnyNode) : Type 0 where
  -- at the start no call is open
  pub starts : (name : NodeId) (c : Client) → node_named (moment e 0) name ≡ Some (any.Client c) → call_in c.phase ≡ None
  -- and each event of a client leaves it so
  pub events : (count : ℕ) (event : Event) → slice_get e.events count ≡ Some event → (c : Client)
      → node_named (moment e count) (node_of event) ≡ Some (any.Client c) → EventWaits c (what_of event)

-- ---- and it asks again

-- a want, sent once more to the manager of its block
abbrev pub again_of : Serving → BlockId → Wanted → Packet
again_of s block w = record {
  from = nodes.Client s.lasting.number;
  to = asked_of s block;
  clock = 0;
  body = body.Want (record { block = block; inc = s.lasting.inc; req = w.req; again = w.again + 1; mode = w.mode; end = s.log.end.seq });
}

-- Time passes at a client that serves, with counters far from their ends:
pub record AsksAgain (c : Client) : Type 0 where
  -- each want is sent again, where none was sent so often that it can't be counted once more
  pub wants : (s : Serving) → c.phase ≡ Serves s → client_has_room c ≡ true → list_any (λ h. is_spent h.want) (values_of s.tokens.blocks) ≡ false → (block : BlockId)
      → (w : Wanted) → (held_at s block).want ≡ Some w → In (again_of s block w) (client_step c Tick).packets

abbrev pub WantsAgain : Estate AnyNode → Type 0
WantsAgain e =
    (count : ℕ) (event : Event) → slice_get e.events count ≡ Some event → what_of event ≡ Tick → (c : Client)
    → node_named (moment e count) (node_of event) ≡ Some (any.Client c) → AsksAgain c
