-- What each kind of node does in an event, as the small world of tokens sees it: the laws of the nodes on which the laws of runs stand.
use Rattle.node_slots.specs.node_tie.AskingEvents.{EventsKeepAsking, StartsAsking}
use Rattle.node_slots.specs.node_tie.CleanerEvents.{CleanerStarts, CleanerTakes}
use Rattle.node_slots.specs.node_tie.ClientEvents.{ClientTakes}
use Rattle.node_slots.specs.node_tie.ManagerEvents.{FirstManagerAgrees, ManagerEventGoes}
use Rattle.node_slots.specs.node_tie.RegistryEvents.{RegistryEventGoes, RegistryStarts}
use Rattle.node_slots.specs.node_tie.StoreEvents.{ServersSay}

pub record NodeLaws : Type 0 where
  pub starts_asking : StartsAsking
  pub keeps_asking : EventsKeepAsking
  pub client : ClientTakes
  pub first_manager : FirstManagerAgrees
  pub manager : ManagerEventGoes
  pub begins : RegistryStarts
  pub registry : RegistryEventGoes
  pub server : ServersSay
  pub cleaner_starts : CleanerStarts
  pub cleaner : CleanerTakes
