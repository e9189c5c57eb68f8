-- What a manager refers to: the parts of checkpoints of its slots, and the ends that were reported to a takeover.
use Rattle.std.specs.Prelude.{ℕ, List, Option, IfSome}
use Rattle.std.specs.List.{AllByRecursion}
use Rattle.checkpoint.specs.Transition.{part_at}
use Rattle.checkpoint.specs.WriterState.{WorkState, WriterState}
use Rattle.client_log.specs.Transition.{end_of}
use Rattle.log_flight.specs.Flights.{FlightState}
use Rattle.manager_node.specs.declared.manager.Manager.{Manager}
use Rattle.manager_node.specs.declared.phase.Phase.{Phase}
use Rattle.manager_node.specs.declared.phase.Phase.TheVariants.{Down, Waiting, Serving as Serves}
use Rattle.manager_node.specs.Events.{manager_start, manager_step}
use Rattle.manager_slots.specs.declared.slot_phase.SlotPhase.{SlotPhase}
use Rattle.manager_serving.specs.declared.checkpointing.Checkpointing.{Checkpointing}
use Rattle.manager_serving.specs.declared.serving.Serving.{Serving}
use Rattle.takeover.specs.declared.report.Report.{Report}
use Rattle.takeover.specs.TakeState.{TakeState}
use Rattle.version_model.specs.declared.work.Work.{Work}
use Rattle.wire_msg.specs.declared.packet.Do.{Do}
use Rattle.wire_msg.specs.NodeStep.{NodeStep}
use Rattle.xfs_base.specs.declared.node.NodeId.{NodeId}
use Rattle.xfs_base.specs.declared.segment.End.{End}
use Rattle.xfs_base.specs.declared.segment.SegRef.{SegRef}
use Rattle.xfs_base.specs.declared.setup.Setup.{Setup}
use Rattle.node_moves.specs.SlotPhases.{SlotIs}
use Rattle.node_tellings.specs.reference_tie.References.{DoRefers, DoneRefers, PacketRefers, PartsRefer, References, listed}

-- ---- a slot

abbrev pub ReportRefers : References → Report → Type 0
ReportRefers r report = r.end report.from report.end

-- what a takeover knows: the parts that its news name, and the ends that were reported to it
pub record KnownRefers (r : References) (parts : List SegRef) (reports : List Report) : Type 0 where
  pub parts_refer : PartsRefer r parts
  pub reported : AllByRecursion (ReportRefers r) reports

abbrev pub TakeRefers : References → TakeState → Type 0
TakeRefers r take = KnownRefers r take.news.parts take.reports

abbrev pub SlotRefers : References → SlotPhase → Type 0
SlotRefers r = SlotIs (λ active. PartsRefer r active.parts) (λ taking. TakeRefers r taking.take)

-- ---- a manager

-- the checkpoint that is being written
abbrev pub WorkRefers : References → WorkState → Type 0
WorkRefers r work = PartsRefer r work.parts

abbrev pub WriterRefers : References → WriterState → Type 0
WriterRefers r writer = IfSome writer.work (WorkRefers r)

-- the checkpoint of which the registry is told
abbrev pub JobRefers : References → Option Checkpointing → Type 0
JobRefers r checkpoint = IfSome checkpoint (λ job. IfSome job.done (DoneRefers r))

pub record ServingRefers (r : References) (s : Serving) : Type 0 where
  pub slots : AllByRecursion (SlotRefers r) s.slots
  pub writer : WriterRefers r s.writer
  pub checkpoint : JobRefers r s.checkpoint

abbrev pub PhaseRefers : References → Phase → Type 0
PhaseRefers r (Down kept) = Unit {0}
PhaseRefers r (Waiting kept hello) = Unit {0}
PhaseRefers r (Serves s) = ServingRefers r s

abbrev pub ManagerRefers : References → Manager → Type 0
ManagerRefers r manager = PhaseRefers r manager.phase

-- once the segment in flight is settled it is a part that may be named
abbrev pub FlightRefers : References → Serving → Type 0
FlightRefers r s = IfSome s.log.flight (λ (f : FlightState). r.part (part_at s.writer.log (end_of f.segment)))

abbrev pub PhaseFlies : References → Phase → Type 0
PhaseFlies r (Down kept) = Unit {0}
PhaseFlies r (Waiting kept hello) = Unit {0}
PhaseFlies r (Serves s) = FlightRefers r s

-- the node refers so, and so does each packet that it sends
pub record RefersThen {N : Type 0} (Refers : References → N → Type 0) (r : References) (step : NodeStep N) : Type 0 where
  pub node : Refers r step.node
  pub packets : AllByRecursion (PacketRefers r) step.packets

-- ---- the laws (which `proofs/reference_tie/Managers.antt` has of references of any kind)

-- at its start a manager refers to nothing
abbrev pub ManagersStartReferring : Type 0
ManagersStartReferring =
    (parts : List SegRef) (ends : List (NodeId × End)) (number : ℕ) (setup : Setup) (works : List Work)
    → ManagerRefers (listed parts ends) (manager_start number setup works)

-- Whatever happens to a manager: where it, the packet that comes, and the segment that it has in flight refer to these, it does then, and so does each packet
-- that it sends.
abbrev pub ManagersKeepReferences : Type 0
ManagersKeepReferences =
    (parts : List SegRef) (ends : List (NodeId × End)) (m : Manager) (what : Do) → ManagerRefers (listed parts ends) m → PhaseFlies (listed parts ends) m.phase
    → DoRefers (listed parts ends) what → RefersThen ManagerRefers (listed parts ends) (manager_step m what)
