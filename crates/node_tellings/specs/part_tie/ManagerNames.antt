-- What a manager names of checkpoints: the parts of the last one of each slot that it manages, those that it has written of the present one, and those that
-- news named of a slot that it takes over.
use Rattle.std.specs.Prelude.{◌≡◌, ℕ, List, Some, IfSome, Contains}
use Rattle.std.specs.List.{AllByRecursion}
use Rattle.checkpoint.specs.Transition.{part_at}
use Rattle.checkpoint.specs.WriterState.{WorkState}
use Rattle.client_log.specs.LogState.{LogState}
use Rattle.client_log.specs.Transition.{end_of}
use Rattle.log_flight.specs.Flights.{FlightState}
use Rattle.log_owner.specs.Sending.{name_of}
use Rattle.manager_node.specs.declared.manager.Manager.{Manager}
use Rattle.manager_node.specs.declared.phase.Phase.{Phase}
use Rattle.manager_node.specs.declared.phase.Phase.TheVariants.{Down, Waiting, Serving as Serves}
use Rattle.manager_node.specs.Events.{manager_start, manager_step}
use Rattle.manager_slots.specs.declared.slot_phase.SlotPhase.{SlotPhase}
use Rattle.manager_slots.specs.Lasting.{log_of}
use Rattle.manager_serving.specs.declared.checkpointing.Checkpointing.{Checkpointing}
use Rattle.manager_serving.specs.declared.serving.Serving.{Serving}
use Rattle.version_model.specs.declared.act.Act.{Act}
use Rattle.version_model.specs.declared.act.Act.TheVariants.{Filed}
use Rattle.version_model.specs.declared.work.Work.{Work}
use Rattle.wire_msg.specs.declared.packet.Do.{Do}
use Rattle.wire_msg.specs.declared.registry.CkptDone.{CkptDone}
use Rattle.xfs_base.specs.declared.segment.LogId.{LogId}
use Rattle.xfs_base.specs.declared.segment.SegRef.{SegRef}
use Rattle.xfs_base.specs.declared.setup.Setup.{Setup}
use Rattle.node_moves.specs.SlotPhases.{SlotIs}
use Rattle.node_tellings.specs.part_tie.Names.{AllKnown, DoNames, Known, NamesKnown, named_by}

-- ---- what it names

abbrev pub SlotNames : Known → SlotPhase → Type 0
SlotNames known = SlotIs (λ a. AllKnown known a.parts) (λ t. AllKnown known t.take.news.parts)

abbrev pub WorkNames : Known → WorkState → Type 0
WorkNames known work = AllKnown known work.parts

abbrev pub DoneNames : Known → CkptDone → Type 0
DoneNames known done = AllKnown known done.parts

-- the checkpoint whose answer is awaited
abbrev pub JobNames : Known → Checkpointing → Type 0
JobNames known job = IfSome job.done (DoneNames known)

pub record ServingNames (known : Known) (s : Serving) : Type 0 where
  pub slots : AllByRecursion (SlotNames known) s.slots
  pub work : IfSome s.writer.work (WorkNames known)
  pub done : IfSome s.checkpoint (JobNames known)

abbrev pub PhaseNames : Known → Phase → Type 0
PhaseNames known (Down kept) = Unit {0}
PhaseNames known (Waiting kept hello) = Unit {0}
PhaseNames known (Serves s) = ServingNames known s

abbrev pub ManagerNames : Known → Manager → Type 0
ManagerNames known manager = PhaseNames known manager.phase

-- What its log has in flight, which the writer names once it is settled: where it is among the acts of an event, to be filed.
abbrev pub FlightNames : Known → List Act → ℕ → LogId → LogState → Type 0
FlightNames known acts number log s =
    (f : FlightState) → s.flight ≡ Some f → Contains acts (Filed (name_of (log_of number) (end_of f.segment))) → known (part_at log (end_of f.segment))

abbrev pub PhaseFlies : Known → List Act → Phase → Type 0
PhaseFlies known acts (Down kept) = Unit {0}
PhaseFlies known acts (Waiting kept hello) = Unit {0}
PhaseFlies known acts (Serves s) = FlightNames known acts s.lasting.number s.writer.log s.log

-- ---- the laws

-- a manager at its start names nothing
abbrev pub ManagersStartNaming : Type 0
ManagersStartNaming =
    (refs : List SegRef) (number : ℕ) (setup : Setup) (works : List Work) → ManagerNames (named_by refs) (manager_start number setup works)

-- Where more may be named, it names none but that still.
abbrev pub ManagerNamesRise : Type 0
ManagerNamesRise =
    (refs later : List SegRef) (manager : Manager) → ((ref : SegRef) → named_by refs ref → named_by later ref) → ManagerNames (named_by refs) manager
    → ManagerNames (named_by later) manager

-- Whatever happens to a manager: where the parts that it names, and those that the packet that comes names, are among these, and so is the segment that its log
-- has in flight, if that is acted to be filed in the event, then so are all that it names after the event, and all that it sends.
abbrev pub ManagersNameKnown : Type 0
ManagersNameKnown =
    (refs : List SegRef) (manager : Manager) (what : Do) → ManagerNames (named_by refs) manager → DoNames (named_by refs) what
    → PhaseFlies (named_by refs) (manager_step manager what).acts manager.phase
    → NamesKnown (ManagerNames (named_by refs)) (named_by refs) (manager_step manager what)
