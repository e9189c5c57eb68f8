-- Whatever happens to a manager, what it has of the logs, and what it tells of them, keeps to the bounds.
use Rattle.std.proofs.Common.{ℕ, ◌==◌, List, replicate}
use Rattle.manager_map.specs.Slots.{manager_map_start, entry_at}
use Rattle.manager_node.specs.declared.manager.Manager.{Manager}
use Rattle.manager_node.specs.Events.{manager_start, happens}
use Rattle.manager_slots.specs.declared.slot_phase.SlotPhase.TheVariants as phase
use Rattle.manager_slots.specs.Slots.{first_active}
use Rattle.manager_slots.specs.SlotTable.{first_phase}
use Rattle.version_model.specs.declared.work.Work.{Work}
use Rattle.wire_msg.specs.declared.packet.Do.{Do}
use Rattle.xfs_base.proofs.Booleans.{by_test}
use Rattle.xfs_base.specs.Blocks.{slot_of}
use Rattle.xfs_base.specs.declared.node.NodeId.{NodeId}
use Rattle.xfs_base.specs.declared.setup.Setup.{Setup}
use Rattle.xfs_base.proofs.Leaving.{Leaves}
use Rattle.xfs_base.specs.Limits.{block_logs}
use Rattle.node_tellings.specs.filed_tie.Bounds.{Bounds, SlotBounded, PhaseBounded, ManagerBounded, DoBounded}
use Rattle.node_tellings.proofs.filed_tie.Bounding.{Bounding, EffectBounded}
use Rattle.node_tellings.proofs.filed_tie.ManagerWalk as walked
use Rattle.node_moves.proofs.manager_walk.Events as events

-- ---- the start

module _ (b : Bounds) where
  -- nothing of any log is applied in a slot that is managed from the start on
  pub first_bounded : (number : ℕ) (setup : Setup) (works : List Work) → ((slot : ℕ) → b.applied slot 1 (replicate block_logs 0))
      → ManagerBounded b (manager_start number setup works)
  first_bounded number setup works none =
      record { slots = (one 0, (one 1, (one 2, (one 3, (one 4, (one 5, (one 6, (one 7, tt)))))))); writer = tt; checkpoint = tt }
    where
      one : (slot : ℕ) → SlotBounded b slot (first_phase number (manager_map_start setup.managers) slot)
      one slot =
          by_test (SlotBounded b slot) ((entry_at (manager_map_start setup.managers) (slot_of slot)).manager == number) first_active (phase.Away 1)
          (λ _. none slot) (λ _. tt)

-- ---- the events

module _ (b : Bounds) (laws : Bounding b) (node : NodeId) where
  pub manager_goes : (m : Manager) (what : Do) → ManagerBounded b m → DoBounded b what → Leaves (PhaseBounded b) (EffectBounded b node) (happens m what)
  manager_goes m what h told =
      let d = events.manager_goes (walked.walk b laws node) m what (walked.stands b laws node m.phase h) (walked.flies b laws node m.phase)
      (walked.known b laws node m.phase what told)
      in
      record { state = walked.bounded b laws node (happens m what).state d.state; outs = d.outs }
