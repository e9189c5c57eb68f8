-- Whatever happens to a manager, what it refers to, in what it holds and sends, it was told of or had in flight.
use Rattle.std.proofs.Common.{ℕ, ◌==◌, List}
use Rattle.manager_map.specs.Slots.{manager_map_start, entry_at}
use Rattle.manager_node.specs.declared.manager.Manager.{Manager}
use Rattle.manager_node.specs.Events.{manager_start, manager_step, happens}
use Rattle.manager_node.specs.Phases.{lasting_of}
use Rattle.manager_slots.specs.declared.slot_phase.SlotPhase.TheVariants as phase
use Rattle.manager_slots.specs.Slots.{first_active}
use Rattle.manager_slots.specs.SlotTable.{first_phase}
use Rattle.version_model.specs.declared.work.Work.{Work}
use Rattle.wire_msg.specs.declared.packet.Do.{Do}
use Rattle.xfs_base.proofs.Booleans.{by_test}
use Rattle.xfs_base.specs.Blocks.{slot_of}
use Rattle.xfs_base.specs.declared.node.NodeId.{NodeId}
use Rattle.xfs_base.specs.declared.node.NodeId.TheVariants.{Manager as AManager}
use Rattle.xfs_base.specs.declared.setup.Setup.{Setup}
use Rattle.node_tellings.specs.reference_tie.Managers.{ManagerRefers, PhaseFlies, RefersThen, SlotRefers}
use Rattle.node_tellings.specs.reference_tie.References.{DoRefers, PacketRefers, References}
use Rattle.node_tellings.proofs.reference_tie.ManagerWalk as walked
use Rattle.node_moves.proofs.manager_walk.Events.{manager_goes, packets_so}

-- ---- the start

module _ (refs : References) where
  -- no checkpoint was written
  first_refer : (number : ℕ) (setup : Setup) (works : List Work) → ManagerRefers refs (manager_start number setup works)
  first_refer number setup works =
      record { slots = (one 0, (one 1, (one 2, (one 3, (one 4, (one 5, (one 6, (one 7, tt)))))))); writer = tt; checkpoint = tt }
    where
      one : (slot : ℕ) → SlotRefers refs (first_phase number (manager_map_start setup.managers) slot)
      one slot =
          by_test (SlotRefers refs) ((entry_at (manager_map_start setup.managers) (slot_of slot)).manager == number) first_active (phase.Away 1)
          (λ _. tt) (λ _. tt)

-- ---- the laws

pub managers_start : (r : References) (number : ℕ) (setup : Setup) (works : List Work) → ManagerRefers r (manager_start number setup works)
managers_start r number setup works = first_refer r number setup works

pub managers_keep : (r : References) (m : Manager) (what : Do) → ManagerRefers r m → PhaseFlies r m.phase → DoRefers r what
    → RefersThen ManagerRefers r (manager_step m what)
managers_keep r m what h flies told =
    let node : NodeId = AManager (lasting_of m.phase).number in
    let its = walked.walk r node in
    let d = manager_goes its m what (walked.stands r node m.phase h) (walked.flies r node m.phase flies) (walked.known r node m.phase what told) in
    record {
      node = walked.refers r node (happens m what).state d.state;
      packets = packets_so its (PacketRefers r) node (λ to said tells. tells) (happens m what).outs d.outs;
    }
