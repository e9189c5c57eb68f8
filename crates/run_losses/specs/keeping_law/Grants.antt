-- What a manager tells in a Grant: what the index of the block's slot holds of the block.
use Rattle.std.specs.Prelude.{◌≡◌, ℕ, Some}
use Rattle.std.specs.List.{AllByRecursion}
use Rattle.manager_node.specs.declared.manager.Manager.{Manager}
use Rattle.manager_node.specs.declared.phase.Phase.{Phase}
use Rattle.manager_node.specs.Events.{manager_step}
use Rattle.node_slots.specs.node_tie.ManagerEvents.{OtherAgrees}
use Rattle.headline.specs.Managers.{active_in, slot_in}
use Rattle.token_manager.specs.SlotState.{SlotState}
use Rattle.token_manager.specs.Transition.{entry_at}
use Rattle.wire_msg.specs.declared.body.Body.{Body}
use Rattle.wire_msg.specs.declared.body.Body.TheVariants as body
use Rattle.wire_msg.specs.declared.packet.Do.{Do}
use Rattle.wire_msg.specs.declared.packet.Packet.{Packet}
use Rattle.wire_msg.specs.declared.tokens.Grant.{Grant}
use Rattle.xfs_base.specs.Blocks.{slot_of}

-- Of a manager: it manages the slot of the Grant's block, at the epoch of the Grant's stamp, and its index holds of the block what the Grant tells.
pub record GrantTells (p : Phase) (m : Grant) : Type 0 where
  pub slot : SlotState
  pub managed : active_in (slot_in (slot_of m.block.ino.0) p) ≡ Some slot
  pub epoch : slot.epoch ≡ m.stamp.epoch
  pub entry : entry_at slot m.block ≡ m.entry

-- where a body is a Grant, that is so
abbrev pub IfGrant : (Grant → Type 0) → Body → Type 0
IfGrant Is (body.Grant m) = Is m
IfGrant Is _ = Unit {0}

-- in each of its slots wants wait for blocks of that slot alone
abbrev pub WaitsInPlace : Phase → Type 0
WaitsInPlace p = (k : ℕ) → OtherAgrees k (slot_in k p)

-- Whatever happens to such a manager, each Grant that it sends tells what its index holds after the event.
abbrev pub ManagersGrantWhatTheyHold : Type 0
ManagersGrantWhatTheyHold =
    (manager : Manager) (what : Do) → WaitsInPlace manager.phase
    → AllByRecursion (λ (p : Packet). IfGrant (GrantTells (manager_step manager what).node.phase) p.body) (manager_step manager what).packets
