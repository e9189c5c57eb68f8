-- What each kind of node does in an event, as the small world of a log sees it: the laws of the nodes, and of that small world, on which the laws of runs stand.
use Rattle.log_law.specs.LogLaws.{LogLaws}
use Rattle.node_logs.specs.cleaner_log_tie.OwnerEvents.{OwnerStarts, OwnerTakes}
use Rattle.node_logs.specs.client_log_tie.ClientEvents.{ClientStarts, ClientTakes}
use Rattle.node_logs.specs.manager_log_tie.Listing.{ServersListWhatWasStored, ServersStartBare}
use Rattle.node_logs.specs.manager_log_tie.OwnerEvents.{ManagerStarts, ManagerTakes}
use Rattle.node_logs.specs.manager_log_tie.Servers.{ServersStartEmpty, ServersTellBytes}
use Rattle.node_logs.specs.manager_log_tie.Told.{WhatIsToldIsInRange}
use Rattle.node_logs.specs.node_log_tie.CleanerEvents.{CleanerEventGoes, CleanerStarts}
use Rattle.node_logs.specs.node_log_tie.CleanerStores.{CleanerStoresItsOwn}
use Rattle.node_logs.specs.node_log_tie.RegistryEvents.{RegistryEventGoes, RegistryGoesAbove, RegistryStarts}
use Rattle.node_logs.specs.node_log_tie.ServerEvents.{SentMapsName, ServerEventGoes, ServerStarts}
use Rattle.run_laws.specs.Kinds.{OfOne}
use Rattle.run_laws.specs.world_law.NodeLaws as tokens

-- what each kind of node does: owners of logs, each to its own, and those that have none; the maps that are sent name groups of the registry's map, what servers
-- tell is bytes, and what they list was stored
pub record LogEvents : Type 0 where
  pub client : OfOne ClientStarts ClientTakes
  pub owner : OfOne OwnerStarts OwnerTakes
  pub manager : OfOne ManagerStarts ManagerTakes
  pub server : OfOne ServerStarts ServerEventGoes
  pub maps : SentMapsName
  pub tells : OfOne ServersStartEmpty ServersTellBytes
  pub lists : OfOne ServersStartBare ServersListWhatWasStored
  pub cleaner : OfOne CleanerStarts CleanerEventGoes
  pub cleaner_stores : CleanerStoresItsOwn
  pub registry : OfOne RegistryStarts RegistryEventGoes
  pub registry_above : RegistryGoesAbove

pub record NodeLaws : Type 0 where
  pub tokens : tokens.NodeLaws
  pub events : LogEvents
  pub told : WhatIsToldIsInRange
  pub logs : LogLaws
