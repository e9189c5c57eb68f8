-- What logs owe an event of a node, where they keep their word; and what the event makes of the books of the small world.
use Rattle.std.specs.Prelude.{ℕ, true}
use Rattle.manager_node.specs.declared.phase.Phase.{Phase as ManagerPhase}
use Rattle.manager_node.specs.declared.phase.Phase.TheVariants as managing
use Rattle.manager_slots.specs.declared.slot_phase.SlotPhase.{SlotPhase}
use Rattle.node_slots.specs.node_tie.ManagerEvents.{AbsentGets, DeltasGets, FoundGets, LastReportGets}
use Rattle.headline.specs.Managers.{slot_in}
use Rattle.token_law.specs.Net.{Net}
use Rattle.wire_msg.specs.declared.body.Body.{Body}
use Rattle.wire_msg.specs.declared.body.Body.TheVariants as body
use Rattle.wire_msg.specs.declared.packet.Do.{Do}
use Rattle.wire_msg.specs.declared.packet.Do.TheVariants.{Begin, Deliver, Tick}
use Rattle.wire_msg.specs.declared.packet.Packet.{Packet}
use Rattle.xfs_base.specs.declared.node.NodeId.{NodeId}

-- ---- what is owed

-- the Deltas that a slot takes, and what a takeover gathers
module _ (members part : ℕ) (n : Net) where
  abbrev pub SlotTold : SlotPhase → NodeId → Body → Type 0
  SlotTold p from (body.Deltas m) = DeltasGets true members part n p from m
  SlotTold p from (body.Report m) = LastReportGets true members part n p from m
  SlotTold p from (body.Fragment m) = FoundGets true members part n p from m
  SlotTold p from (body.Missing m) = AbsentGets true members part n p from m
  SlotTold p from _ = Unit {0}

  abbrev pub ServingTold : ManagerPhase → Packet → Type 0
  ServingTold (managing.Serving s) packet = SlotTold (slot_in part (managing.Serving s)) packet.from packet.body
  ServingTold (managing.Down kept) packet = Unit {0}
  ServingTold (managing.Waiting kept hello) packet = Unit {0}

  abbrev pub ManagerTold : ManagerPhase → Do → Type 0
  ManagerTold p Begin = Unit {0}
  ManagerTold p (Deliver packet) = ServingTold p packet
  ManagerTold p Tick = Unit {0}
