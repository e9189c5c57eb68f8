-- What the registry keeps of what was filed of the logs of the clients and of the cleaner.
use Rattle.std.specs.Prelude.{List}
use Rattle.registry_node.specs.declared.node.RegistryNode.{RegistryNode}
use Rattle.registry_node.specs.Events.{registry_start, registry_step}
use Rattle.version_model.specs.declared.work.Work.{Work}
use Rattle.xfs_base.specs.declared.setup.Setup.{Setup}
use Rattle.node_tellings.specs.filed_tie.Bounds.{RegistryBounded}
use Rattle.node_tellings.specs.filed_tie.ManagerReach.{filed}
use Rattle.node_tellings.specs.filed_tie.Reach.{Reach, ReachesRise, EventsTellFiled, EventsTellNoMore}

-- the horizons of the slots' newest checkpoints are above nothing but what was filed
abbrev pub RegistryReaches : Reach → RegistryNode → Type 0
RegistryReaches reach node = RegistryBounded (filed reach) node

-- at the start of a run no checkpoint covers anything
abbrev pub RegistryStartsReaching : Type 0
RegistryStartsReaching = (reach : Reach) (setup : Setup) (works : List Work) → RegistryReaches reach (registry_start setup works)

-- what the registry keeps was filed later too
abbrev pub RegistryReachRises : Type 0
RegistryReachRises = ReachesRise RegistryNode RegistryReaches

-- whatever happens to the registry
abbrev pub RegistryTellsFiled : Type 0
RegistryTellsFiled = EventsTellFiled RegistryNode RegistryReaches registry_step

-- and whatever it acts itself
abbrev pub RegistryTellsNoMore : Type 0
RegistryTellsNoMore = EventsTellNoMore RegistryNode RegistryReaches registry_step
