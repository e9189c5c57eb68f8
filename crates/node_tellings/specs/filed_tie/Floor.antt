-- How far the logs are applied and covered at least: from the horizon on with which an epoch of a slot began, nothing of them is ever missing.
use Rattle.std.specs.Prelude.{ℕ, suc, ◌≤◌, min, List}
use Rattle.std.specs.List.{AllByRecursion}
use Rattle.manager_node.specs.declared.manager.Manager.{Manager}
use Rattle.manager_node.specs.Events.{manager_start, manager_step}
use Rattle.slot_beliefs.specs.Recalls.{applied_of}
use Rattle.registry_node.specs.declared.node.RegistryNode.{RegistryNode}
use Rattle.registry_node.specs.Events.{registry_start, registry_step}
use Rattle.takeover.specs.Reports.{horizon_at}
use Rattle.version_model.specs.declared.work.Work.{Work}
use Rattle.wire_msg.specs.declared.packet.Do.{Do}
use Rattle.xfs_base.specs.declared.setup.Setup.{Setup}
use Rattle.xfs_base.specs.Limits.{u32_end, block_logs}
use Rattle.node_tellings.specs.filed_tie.Bounds.{Bounds, ManagerBounded, RegistryBounded, NewEpochsBounded, PacketBounded, DoBounded}

-- of each slot, of each epoch of it, of each log, the least that a horizon may be in it
abbrev pub Floor : Type 0
Floor = ℕ → ℕ → ℕ → ℕ

-- no horizon can go past the end of its numbers
abbrev pub least : Floor → Floor
least floor slot epoch log = min (floor slot epoch log) u32_end

-- of the logs 1 to 9 each horizon reaches the floor, and all below the floor is applied
abbrev pub above : Floor → Bounds
above floor = record {
  applied = λ slot epoch applied. (log : ℕ) → 1 ≤ log → log ≤ block_logs → least floor slot epoch log ≤ suc (applied_of applied log);
  horizon = λ slot epoch horizon. (log : ℕ) → 1 ≤ log → log ≤ block_logs → least floor slot epoch log ≤ horizon_at horizon log;
  told = λ log number. Unit {0};
}

-- ---- a manager

abbrev pub ManagerAbove : Floor → Manager → Type 0
ManagerAbove floor manager = ManagerBounded (above floor) manager

-- a manager at its start has epoch 1 of its slots, in which no horizon is above 1
abbrev pub ManagerStartsAbove : Type 0
ManagerStartsAbove =
    (floor : Floor) (number : ℕ) (setup : Setup) (works : List Work) → ((slot log : ℕ) → floor slot 1 log ≤ 1)
    → ManagerAbove floor (manager_start number setup works)

-- what a manager has after an event, and sends in it, is above the floor
pub record StaysAbove (floor : Floor) (manager : Manager) (what : Do) : Type 0 where
  pub node : ManagerAbove floor (manager_step manager what).node
  pub packets : AllByRecursion (PacketBounded (above floor)) (manager_step manager what).packets

-- Whatever happens to a manager: where what it has, and each horizon that the packet that comes names, is above the floor of its slot and epoch, then so it
-- stays, and so is each horizon that it tells.
abbrev pub ManagersStayAbove : Type 0
ManagersStayAbove = (floor : Floor) (manager : Manager) (what : Do) → ManagerAbove floor manager → DoBounded (above floor) what → StaysAbove floor manager what

-- ---- the registry

abbrev pub RegistryAbove : Floor → RegistryNode → Type 0
RegistryAbove floor node = RegistryBounded (above floor) node

-- the registry at its start has epoch 1 of each slot
abbrev pub RegistryStartsAbove : Type 0
RegistryStartsAbove =
    (floor : Floor) (setup : Setup) (works : List Work) → ((slot log : ℕ) → floor slot 1 log ≤ 1) → RegistryAbove floor (registry_start setup works)

-- what the registry keeps after an event, and each horizon that it sends in it, is above the floor
pub record KeepsAbove (floor : Floor) (registry : RegistryNode) (what : Do) : Type 0 where
  pub node : RegistryAbove floor (registry_step registry what).node
  pub packets : AllByRecursion (PacketBounded (above floor)) (registry_step registry what).packets

-- Whatever happens to the registry: where what it keeps, and each horizon that the packet that comes names, is above the floor of its slot and epoch, and the
-- floor of each new epoch is no higher than the horizon with which it begins, so it stays, and so is each horizon that it sends.
abbrev pub RegistryKeepsAbove : Type 0
RegistryKeepsAbove =
    (floor : Floor) (node : RegistryNode) (what : Do) → RegistryAbove floor node → DoBounded (above floor) what
    → NewEpochsBounded (above floor) node (registry_step node what).node → KeepsAbove floor node what
