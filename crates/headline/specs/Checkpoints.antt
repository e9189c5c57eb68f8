-- What a checkpoint counts: its manager goes over all slots, in order, and passes over none that it manages then; it tells the registry that the slot's checkpoint
-- is written, and counts the slot where the first answer to that names the epoch in which it was written.
use Rattle.std.specs.Prelude.{◌≡◌, ◌⊎◌, ◌<◌, ◌≤◌, ℕ, suc, true, Option, Some, None, slice_get}
use Rattle.core_world.specs.declared.any_node.AnyNode.{AnyNode}
use Rattle.core_world.specs.declared.any_node.AnyNode.TheVariants as any
use Rattle.manager_node.specs.declared.manager.Manager.{Manager}
use Rattle.manager_node.specs.declared.phase.Phase.{Phase}
use Rattle.manager_node.specs.declared.phase.Phase.TheVariants.{Down, Serving as Serves, Waiting}
use Rattle.manager_serving.specs.declared.checkpointing.Checkpointing.{Checkpointing}
use Rattle.node_base.specs.Shape.{is_well_formed}
use Rattle.token_manager.specs.SlotState.{SlotState}
use Rattle.token_protocol.specs.Basics.{In}
use Rattle.version_model.specs.declared.act.Act.TheVariants as act
use Rattle.version_model.specs.declared.answer.Answer.TheVariants as answer
use Rattle.wire_msg.specs.declared.body.Body.TheVariants as body
use Rattle.wire_msg.specs.declared.packet.Packet.{Packet}
use Rattle.wire_msg.specs.declared.registry.CkptAck.{CkptAck}
use Rattle.wire_msg.specs.declared.registry.CkptDone.{CkptDone}
use Rattle.world_base.specs.declared.estate.Estate.{Estate}
use Rattle.world_base.specs.declared.event.Event.{Event}
use Rattle.world_base.specs.declared.event.Event.TheVariants.{Deliver}
use Rattle.xfs_base.specs.declared.node.NodeId.TheVariants as nodes
use Rattle.xfs_base.specs.Limits.{slot_count}
use Rattle.headline.specs.Dues.{PassesClocks, has_counters}
use Rattle.headline.specs.Managers.{active_at}
use Rattle.headline.specs.Moments.{acts_in, moment, node_named}
pub use Rattle.headline.specs.Moments.{sent_in}
use Rattle.headline.specs.Numbers.{BeganAt}

abbrev pub done_of : Option Checkpointing → Option CkptDone
done_of None = None
done_of (Some job) = job.done

abbrev pub awaited_in : Phase → Option CkptDone
awaited_in (Down kept) = None
awaited_in (Waiting kept hello) = None
awaited_in (Serves s) = done_of s.checkpoint

-- of a manager
module _ (e : Estate AnyNode) (manager : ℕ) where
  -- before the event at this place it awaits the registry's answer to this
  pub record Awaits (place : ℕ) (awaited : Option CkptDone) : Type 0 where
    pub node : Manager
    pub its : node_named (moment e place) (nodes.Manager manager) ≡ Some (any.Manager node)
    pub is : awaited_in node.phase ≡ awaited

  -- in this event it tells the registry that the checkpoint of a slot is written
  pub record Tells (place : ℕ) (done : CkptDone) : Type 0 where
    pub event : Event
    pub happens : slice_get e.events place ≡ Some event
    pub packet : Packet
    pub sent : In packet (sent_in (moment e place) event)
    pub from_it : packet.from ≡ nodes.Manager manager
    pub to_registry : packet.to ≡ nodes.Registry
    pub says : packet.body ≡ body.CkptDone done

  -- in this event an answer to that comes, which it takes: it is well formed, all counters are far from their ends, and its clock is below the end of clocks
  pub record Hears (place : ℕ) (done : CkptDone) (ack : CkptAck) : Type 0 where
    pub packet : Packet
    pub happens : slice_get e.events place ≡ Some (Deliver packet)
    pub to_it : packet.to ≡ nodes.Manager manager
    pub says : packet.body ≡ body.CkptAck ack
    pub asked : ack.ask ≡ done.ask
    -- the slot's epoch by then, which is never below that of the checkpoint
    pub reached : done.epoch ≤ ack.epoch
    pub node : Manager
    pub its : node_named (moment e place) (nodes.Manager manager) ≡ Some (any.Manager node)
    pub far : has_counters (any.Manager node) ≡ true
    pub well_formed : is_well_formed node.peers packet ≡ true
    pub in_time : PassesClocks (moment e place) (Deliver packet) → ⊥

  -- It turned to this slot, which it managed, in the event at one place, has told the registry of the slot's checkpoint since, and no answer came before the event at
  -- the other.
  pub record IsTold (slot turned place : ℕ) (done : CkptDone) : Type 0 where
    pub its : done.slot ≡ slot
    pub managed : SlotState
    pub manages : active_at (moment e turned) slot manager ≡ Some managed
    pub epoch : done.epoch ≡ managed.epoch
    pub told : ℕ
    pub since : turned ≤ told
    pub before : told < place
    pub tells : Tells told done
    -- it is told for the first time: as the manager turns to the slot, or where it awaits no answer
    pub first_told : (told ≡ turned) ⊎ Awaits told None
    pub unanswered : (between : ℕ) → told < between → between < place → (ack : CkptAck) → Hears between done ack → ⊥

-- of a manager, of which a checkpoint began at a place
module _ (e : Estate AnyNode) (manager begun : ℕ) where
  -- by the event at a place it has gone over the slots below a number, and so many are counted
  pub data HasGone : ℕ → ℕ → ℕ → Type 0 where
    Begins : HasGone begun 0 0
    -- it doesn't manage the next slot
    Passes : {place slot count : ℕ} → HasGone place slot count → active_at (moment e place) slot manager ≡ None → HasGone place (suc slot) count
    -- the answer names the epoch of the checkpoint
    Counts : {turned slot count place : ℕ} (done : CkptDone) (ack : CkptAck) → HasGone turned slot count → IsTold e manager slot turned place done
        → Hears e manager place done ack → ack.epoch ≡ done.epoch → HasGone place (suc slot) (suc count)
    -- or a later one: the slot was given to a manager anew
    Leaves : {turned slot count place : ℕ} (done : CkptDone) (ack : CkptAck) → HasGone turned slot count → IsTold e manager slot turned place done
        → Hears e manager place done ack → done.epoch < ack.epoch → HasGone place (suc slot) count

module _ (e : Estate AnyNode) where
  -- so many are counted of all slots since the item began, by the event at a place
  pub record IsCheckpointed (count manager item counted : ℕ) : Type 0 where
    pub begun : ℕ
    pub began : BeganAt e (nodes.Manager manager) item begun
    pub gone : HasGone e manager begun count slot_count counted

  -- so it is whenever a manager answers an item by a count
  abbrev pub CheckpointsAreTrue : Type 0
  CheckpointsAreTrue =
      (count : ℕ) (event : Event) → slice_get e.events count ≡ Some event → (manager item counted : ℕ)
      → In (act.Answered (nodes.Manager manager) item (answer.Count counted)) (acts_in (moment e count) event) → IsCheckpointed count manager item counted
