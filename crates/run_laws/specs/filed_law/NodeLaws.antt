-- What each kind of node holds and tells of logs was filed: the laws of the nodes on which the laws of runs stand.
use Rattle.node_tellings.specs.filed_tie.CleanerReach.{CleanerReachRises, CleanerStartsReaching, CleanerTellsFiled}
use Rattle.node_tellings.specs.filed_tie.ClientReach.{ClientReachRises, ClientStartsReaching, ClientsTellFiled}
use Rattle.node_tellings.specs.filed_tie.ManagerReach.{ManagerReachRises, ManagerStartsReaching, ManagersTellFiled, ManagersTellNoMore}
use Rattle.node_tellings.specs.filed_tie.RegistryReach.{RegistryReachRises, RegistryStartsReaching, RegistryTellsFiled, RegistryTellsNoMore}
use Rattle.node_tellings.specs.filed_tie.ServerReach.{ServersTellFiled, ServersTellNoMore}
use Rattle.run_laws.specs.Kinds.{OfKind}

pub record NodeLaws : Type 0 where
  pub client : OfKind ClientStartsReaching ClientReachRises ClientsTellFiled
  pub manager : OfKind ManagerStartsReaching ManagerReachRises ManagersTellFiled
  pub server : ServersTellFiled
  pub cleaner : OfKind CleanerStartsReaching CleanerReachRises CleanerTellsFiled
  pub registry : OfKind RegistryStartsReaching RegistryReachRises RegistryTellsFiled
  -- managers, servers and the registry tell nothing of a log of their own
  pub managers_alone : ManagersTellNoMore
  pub servers_alone : ServersTellNoMore
  pub registry_alone : RegistryTellsNoMore
