-- What a manager holds of the takeovers of its slots.
use Rattle.std.specs.Prelude.{ℕ, List, Option}
use Rattle.std.specs.List.{AllByRecursion}
use Rattle.group_map.specs.GroupMapState.{GroupMapState}
use Rattle.group_map.specs.Groups.{group_map_start}
use Rattle.manager_node.specs.declared.manager.Manager.{Manager}
use Rattle.manager_node.specs.declared.phase.Phase.{Phase}
use Rattle.manager_node.specs.declared.phase.Phase.TheVariants.{Down, Waiting, Serving as Serves}
use Rattle.manager_node.specs.Events.{manager_start, manager_step}
use Rattle.manager_slots.specs.declared.slot_phase.SlotPhase.{SlotPhase}
use Rattle.manager_slots.specs.declared.slot_phase.SlotPhase.TheVariants as phase
use Rattle.manager_serving.specs.declared.serving.Serving.{Serving}
use Rattle.version_model.specs.declared.work.Work.{Work}
use Rattle.wire_msg.specs.declared.packet.Packet.{Packet}
use Rattle.xfs_base.specs.declared.setup.Setup.{Setup}
use Rattle.xfs_base.specs.declared.node.NodeId.{NodeId}
use Rattle.node_tellings.specs.reading_tie.Arrivals.{Cuts, answered_in, cut_by, HoldsRise, EventsKeep}
use Rattle.node_tellings.specs.reading_tie.Came.{Came, Striped, MapStriped, MapsStriped}
use Rattle.node_tellings.specs.reading_tie.TakeoverReads.{TakeHolds}

-- ---- what a manager holds

abbrev pub SlotHolds : Came → Striped → SlotPhase → Type 0
SlotHolds came striped (phase.Taking taking) = TakeHolds came striped taking.take
SlotHolds came striped _ = Unit {0}

pub record ServingHolds (came : Came) (striped : Striped) (groups : Option GroupMapState) (table : List SlotPhase) : Type 0 where
  pub maps : MapsStriped striped groups
  pub slots : AllByRecursion (SlotHolds came striped) table

abbrev pub ServesSo : Came → Striped → Serving → Type 0
ServesSo came striped s = ServingHolds came striped s.maps.groups s.slots

abbrev pub PhaseHolds : Came → Striped → Phase → Type 0
PhaseHolds came striped (Down kept) = Unit {0}
PhaseHolds came striped (Waiting kept hello) = Unit {0}
PhaseHolds came striped (Serves s) = ServesSo came striped s

abbrev pub ManagerHolds : Came → Striped → Manager → Type 0
ManagerHolds came striped manager = PhaseHolds came striped manager.phase

-- ---- the laws

-- at its start a manager takes nothing over, and knows the groups of the setup
abbrev pub ManagerStarts : Type 0
ManagerStarts =
    (packets : List Packet) (to : NodeId) (cuts : Cuts) (number : ℕ) (setup : Setup) (works : List Work)
    → MapStriped (cut_by cuts) (group_map_start setup.servers setup.groups)
    → ManagerHolds (answered_in packets to) (cut_by cuts) (manager_start number setup works)

abbrev pub ManagerHoldsRise : Type 0
ManagerHoldsRise = HoldsRise Manager ManagerHolds

-- whatever happens to a manager
abbrev pub ManagerEventsKeep : Type 0
ManagerEventsKeep = EventsKeep Manager ManagerHolds manager_step
