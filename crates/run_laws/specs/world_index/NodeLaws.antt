-- What each kind of node does in an event, as the small world of a slot's index sees it: the laws of the nodes, and of the small world, on which the laws of runs
-- stand.
use Rattle.index_tie.specs.NetLaws.{CheckpointsHaveManagers}
use Rattle.node_slots.specs.node_index_tie.ManagerEvents.{FirstManagerAgrees, ManagerEventGoes, ManagersStay}
use Rattle.node_slots.specs.node_index_tie.RegistryEvents.{RegistryEventGoes, RegistryStarts}
use Rattle.node_slots.specs.node_tie.RegistryEvents as maps
use Rattle.node_slots.specs.owner_index_tie.CleanerEvents.{CleanerEventGoes, CleanerStartAgrees, CleanerStays}
use Rattle.node_slots.specs.owner_index_tie.ClientEvents.{ClientEventGoes, ClientsStay, FirstClientAgrees}
use Rattle.node_slots.specs.owner_index_tie.ServerEvents.{ServerEventGoes}
use Rattle.run_laws.specs.Kinds.{OfKind}

pub record NodeLaws : Type 0 where
  pub client : OfKind FirstClientAgrees ClientsStay ClientEventGoes
  pub manager : OfKind FirstManagerAgrees ManagersStay ManagerEventGoes
  pub cleaner : OfKind CleanerStartAgrees CleanerStays CleanerEventGoes
  pub server : ServerEventGoes
  pub registry_starts : RegistryStarts
  pub registry : RegistryEventGoes
  pub begins : maps.RegistryStarts
  pub maps : maps.RegistryEventGoes
  pub managed : CheckpointsHaveManagers
