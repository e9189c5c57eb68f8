-- Where managers and the registry have numbers of the logs of the clients and of the cleaner, and what is to hold of them.
use Rattle.std.specs.Prelude.{◌≢◌, ◌<◌, ℕ, List, Option, IfSome}
use Rattle.std.specs.List.{AllByRecursion}
use Rattle.checkpoint.specs.WriterState.{WorkState, WriterState}
use Rattle.manager_node.specs.declared.manager.Manager.{Manager}
use Rattle.manager_node.specs.declared.phase.Phase.{Phase}
use Rattle.manager_node.specs.declared.phase.Phase.TheVariants.{Down, Waiting, Serving as Serves}
use Rattle.manager_slots.specs.declared.slot_phase.SlotPhase.{SlotPhase}
use Rattle.manager_serving.specs.declared.checkpointing.Checkpointing.{Checkpointing}
use Rattle.manager_serving.specs.declared.serving.Serving.{Serving}
use Rattle.manager_serving.specs.Serving.{fed_log}
use Rattle.registry.specs.Checkpoints.{horizon_at}
use Rattle.registry.specs.Slots.{entry_of}
use Rattle.registry_node.specs.declared.node.RegistryNode.{RegistryNode}
use Rattle.takeover.specs.declared.report.Report.{Report}
use Rattle.takeover.specs.TakeState.{TakeState}
use Rattle.wire_msg.specs.declared.body.Body.{Body}
use Rattle.wire_msg.specs.declared.body.Body.TheVariants as body
use Rattle.wire_msg.specs.declared.packet.Do.{Do}
use Rattle.wire_msg.specs.declared.packet.Do.TheVariants.{Begin, Deliver, Tick}
use Rattle.wire_msg.specs.declared.packet.Packet.{Packet}
use Rattle.wire_msg.specs.declared.registry.CkptDone.{CkptDone}
use Rattle.xfs_base.specs.declared.news.SlotNews.{SlotNews}
use Rattle.xfs_base.specs.declared.node.NodeId.{NodeId}
use Rattle.xfs_base.specs.declared.segment.LogId.{LogId}
use Rattle.xfs_base.specs.Limits.{slot_count}
use Rattle.node_moves.specs.SlotPhases.{EachSlot, SlotIs}

-- What is to hold, in a slot and an epoch of it, of what is applied of the logs 1 to 9 and of the horizon of a checkpoint; and what is to hold of the number
-- of a segment that the owner of a log tells.
pub record Bounds : Type 1 where
  pub applied : (slot epoch : ℕ) → List ℕ → Type 0
  pub horizon : (slot epoch : ℕ) → List ℕ → Type 0
  pub told : Option LogId → ℕ → Type 0

-- ---- a slot

-- the end that a node reported
abbrev pub ReportBounded : Bounds → Report → Type 0
ReportBounded b report = b.told (fed_log report.from) report.end.seq

-- what a takeover knows of the logs: by the slot's checkpoint, and by the reports that came
pub record KnownBounded (b : Bounds) (slot epoch : ℕ) (horizon : List ℕ) (reports : List Report) : Type 0 where
  pub covered : b.horizon slot epoch horizon
  pub reported : AllByRecursion (ReportBounded b) reports

abbrev pub TakeBounded : Bounds → ℕ → TakeState → Type 0
TakeBounded b slot take = KnownBounded b slot take.news.epoch take.news.horizon take.reports

-- what is applied where the slot is managed, and what is known where it is taken over
abbrev pub SlotBounded : Bounds → ℕ → SlotPhase → Type 0
SlotBounded b slot = SlotIs (λ active. b.applied slot active.slot.epoch active.slot.applied) (λ taking. TakeBounded b slot taking.take)

-- the slots from this number on
abbrev pub SlotsBounded : Bounds → ℕ → List SlotPhase → Type 0
SlotsBounded b slot phases = EachSlot (SlotBounded b) slot phases

-- ---- a manager

-- the checkpoint that is being written
abbrev pub WorkBounded : Bounds → WorkState → Type 0
WorkBounded b work = b.horizon work.slot work.epoch work.horizon

abbrev pub WriterBounded : Bounds → WriterState → Type 0
WriterBounded b writer = IfSome writer.work (WorkBounded b)

-- the checkpoint of which the registry is told
abbrev pub DoneBounded : Bounds → CkptDone → Type 0
DoneBounded b done = b.horizon done.slot done.epoch done.horizon

abbrev pub JobBounded : Bounds → Option Checkpointing → Type 0
JobBounded b checkpoint = IfSome checkpoint (λ job. IfSome job.done (DoneBounded b))

pub record ServingBounded (b : Bounds) (s : Serving) : Type 0 where
  pub slots : SlotsBounded b 0 s.slots
  pub writer : WriterBounded b s.writer
  pub checkpoint : JobBounded b s.checkpoint

abbrev pub PhaseBounded : Bounds → Phase → Type 0
PhaseBounded b (Down kept) = Unit {0}
PhaseBounded b (Waiting kept hello) = Unit {0}
PhaseBounded b (Serves s) = ServingBounded b s

abbrev pub ManagerBounded : Bounds → Manager → Type 0
ManagerBounded b manager = PhaseBounded b manager.phase

-- ---- the registry

-- the checkpoint that is kept of each slot, in the epoch that the slot has
abbrev pub RegistryBounded : Bounds → RegistryNode → Type 0
RegistryBounded b node = (slot : ℕ) → slot < slot_count → b.horizon slot (entry_of node.board.entries slot).epoch (horizon_at node.board.checkpoints slot)

-- where a slot gets another epoch, the checkpoint that was kept of it before
abbrev pub NewEpochsBounded : Bounds → RegistryNode → RegistryNode → Type 0
NewEpochsBounded b before node =
    (slot : ℕ) → slot < slot_count → (entry_of node.board.entries slot).epoch ≢ (entry_of before.board.entries slot).epoch
    → b.horizon slot (entry_of node.board.entries slot).epoch (horizon_at before.board.checkpoints slot)

-- ---- packets

abbrev pub NewsBounded : Bounds → SlotNews → Type 0
NewsBounded b news = b.horizon news.slot news.epoch news.horizon

abbrev pub BodyBounded : Bounds → NodeId → Body → Type 0
BodyBounded b from (body.Deltas deltas) = b.told (fed_log from) deltas.upto
BodyBounded b from (body.Report report) = b.told (fed_log from) report.end.seq
BodyBounded b from (body.CkptDone done) = DoneBounded b done
BodyBounded b from (body.MapNews news) = AllByRecursion (NewsBounded b) news.slots
BodyBounded b from (body.Welcome welcome) = AllByRecursion (NewsBounded b) welcome.news.slots
BodyBounded b from _ = Unit {0}

abbrev pub PacketBounded : Bounds → Packet → Type 0
PacketBounded b packet = BodyBounded b packet.from packet.body

abbrev pub DoBounded : Bounds → Do → Type 0
DoBounded b Begin = Unit {0}
DoBounded b (Deliver packet) = PacketBounded b packet
DoBounded b Tick = Unit {0}
