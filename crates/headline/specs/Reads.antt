-- What a client says is lost while it reads a block for its open call: a manager told it so, or it was torn while the call read it.
use Rattle.std.specs.Prelude.{◌≡◌, ◌<◌, ◌≤◌, ℕ, suc, true, Option, Some, None, slice_get}
use Rattle.client_call.specs.Reads.{reading_in}
use Rattle.client_node.specs.declared.phase.Phase.{Phase}
use Rattle.client_node.specs.declared.phase.Phase.TheVariants.{Down, Opening, Serving as Serves}
use Rattle.client_serving.specs.declared.serving.Serving.{Serving}
use Rattle.client_serving.specs.Packets.{is_gone}
use Rattle.core_world.specs.declared.any_node.AnyNode.{AnyNode}
use Rattle.core_world.specs.declared.any_node.AnyNode.TheVariants as any
use Rattle.manager_slots.specs.declared.slot_phase.SlotPhase.TheVariants as phase
use Rattle.segment_reading.specs.Reading.{ReadingState}
use Rattle.token_client.specs.State.{epoch_of}
use Rattle.token_protocol.specs.Basics.{In}
use Rattle.version_model.specs.declared.act.Act.TheVariants as act
use Rattle.wire_msg.specs.declared.body.Body.TheVariants as body
use Rattle.wire_msg.specs.declared.packet.Do.{Do}
use Rattle.wire_msg.specs.declared.packet.Do.TheVariants.{Deliver}
use Rattle.wire_msg.specs.declared.packet.Packet.{Packet}
use Rattle.wire_msg.specs.declared.tokens.Gone.{Gone}
use Rattle.world_base.specs.declared.estate.Estate.{Estate}
use Rattle.world_base.specs.declared.event.Event.{Event}
use Rattle.world_base.specs.Events.{node_of}
use Rattle.xfs_base.specs.Blocks.{slot_of}
use Rattle.xfs_base.specs.declared.node.NodeId.TheVariants as nodes
use Rattle.xfs_base.specs.declared.node.NodeId.TheVariants.{Manager}
use Rattle.xfs_base.specs.declared.segment.SegName.{SegName}
use Rattle.xfs_base.specs.declared.segment.SegRef.{SegRef}
use Rattle.headline.specs.Moments.{acts_in, moment, node_named}
use Rattle.headline.specs.Segments.{NotDeleted}
use Rattle.headline.specs.Takeovers.{WasTornOrDeleted, slot_at}
use Rattle.headline.specs.Torn.{IsStoredAs, IsTornAt, WasFiled}

abbrev pub serving_in : Phase → Option Serving
serving_in (Down l) = None
serving_in (Opening l o) = None
serving_in (Serves s) = Some s

abbrev pub serving_of : Option AnyNode → Option Serving
serving_of None = None
serving_of (Some (any.Client node)) = serving_in node.phase
serving_of (Some (any.Manager node)) = None
serving_of (Some (any.Server node)) = None
serving_of (Some (any.Cleaner node)) = None
serving_of (Some (any.Registry node)) = None

-- the item whose answer is still out
abbrev pub open_item : Option Serving → Option ℕ
open_item None = None
open_item (Some s) = s.lasting.items.unanswered

-- what the open call reads
abbrev pub what_is_read : Option Serving → Option ReadingState
what_is_read None = None
what_is_read (Some s) = reading_in s.call

-- word that the block of the open want can't be served, in the epoch that the client has promised, for this segment is lost
pub record BringsGone (s : Serving) (what : Do) (name : SegName) : Type 0 where
  pub packet : Packet
  pub delivers : what ≡ Deliver packet
  pub gone : Gone
  pub bears : packet.body ≡ body.Gone gone
  pub names : gone.seg ≡ name
  pub meant : is_gone s gone ≡ true

module _ (e : Estate AnyNode) where
  -- a client at a moment, where it serves
  abbrev pub serving_at : ℕ → ℕ → Option Serving
  serving_at c count = serving_of (node_named (moment e count) (nodes.Client c))

  -- The call of an item reads a segment.
  pub record ReadsAt (c count item : ℕ) (segment : SegRef) : Type 0 where
    pub reading : ReadingState
    pub reads : what_is_read (serving_at c count) ≡ Some reading
    pub of : reading.target.seg ≡ segment
    pub its_item : open_item (serving_at c count) ≡ Some item

module _ (e : Estate AnyNode) (j : ℕ) where
  -- At a moment before this one manager j said that a segment was lost while it took this slot over in this epoch: that was torn then, or was deleted.
  pub record SaidLost (count slot epoch : ℕ) (name : SegName) : Type 0 where
    pub when : ℕ
    pub before : when < count
    pub event : Event
    pub happens : slice_get e.events when ≡ Some event
    pub own : Manager j ≡ node_of event
    pub says : In (act.Lost (Manager j) name) (acts_in (moment e when) event)
    pub was : WasTornOrDeleted e j when name
    pub of_slot : was.slot ≡ slot
    pub in_epoch : was.epoch ≡ epoch
    -- and with that the slot broke
    pub broke : slot_at e j slot (suc when) ≡ phase.Broken epoch name

-- the epoch of a slot that a client has promised, where it serves
abbrev pub promised_in : ℕ → Option Serving → ℕ
promised_in slot None = 0
promised_in slot (Some s) = epoch_of s.tokens.epochs slot

module _ (e : Estate AnyNode) where
  -- A Gone of this segment is delivered, in the epoch that the client has promised for the slot of its block; and the manager that sent it said before that the
  -- segment was lost, while it took that slot over in that epoch.
  pub record ToldLost (c : ℕ) (s : Serving) (count : ℕ) (what : Do) (name : SegName) : Type 0 where
    pub brings : BringsGone s what name
    pub among : In brings.packet (moment e count).sent
    pub manager : ℕ
    pub from : brings.packet.from ≡ Manager manager
    pub promised : promised_in (slot_of brings.gone.block.ino.0) (serving_at e c count) ≡ brings.gone.epoch
    pub said : SaidLost e manager count (slot_of brings.gone.block.ino.0) brings.gone.epoch name

-- A Gone of this segment is delivered, in the epoch that the client has promised for the slot of its block, from a manager that said before that the segment
-- was lost, while it took that slot over in that epoch. No server has been told to delete the segment; and at a moment from which on that manager read it
-- there, until it said so, it had been filed, and it was torn, over the group over which it is stored.
pub record ToldTorn (e : Estate AnyNode) (c : ℕ) (s : Serving) (count : ℕ) (what : Do) (name : SegName) : Type 0 where
  pub told : ToldLost e c s count what name
  pub stands : NotDeleted (moment e count) name
  pub filed : WasFiled e told.said.was.when told.said.was.segment.name
  pub torn : IsTornAt e told.said.was.when told.said.was.segment
  pub stored : IsStoredAs e told.said.was.when told.said.was.segment

module _ (e : Estate AnyNode) where
  -- The name is that of a segment that the client's open call reads; since a moment the call of the same item has read it, and at that moment it had been
  -- filed, and it was torn, over the group over which it is stored.
  pub record WasTornInRead (c count : ℕ) (name : SegName) : Type 0 where
    pub segment : SegRef
    pub named : name ≡ segment.name
    pub item : ℕ
    pub when : ℕ
    pub before : when ≤ count
    pub reads : (k : ℕ) → when ≤ k → k ≤ count → ReadsAt e c k item segment
    pub filed : WasFiled e when segment.name
    pub torn : IsTornAt e when segment
    pub stored : IsStoredAs e when segment
