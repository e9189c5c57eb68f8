-- Which nodes serve.
use Rattle.std.specs.Prelude.{Bool, true}
use Rattle.client_node.specs.Phases as client
use Rattle.manager_node.specs.Phases as manager
use Rattle.cleaner_node.specs.CleanerEvents as cleaner
use Rattle.core_world.specs.declared.any_node.AnyNode.{AnyNode}
use Rattle.core_world.specs.declared.any_node.AnyNode.TheVariants.{Client, Manager, Server, Cleaner, Registry}

-- whether a node serves: a client and the cleaner where they neither are down nor open their log, a manager where it has been told of the maps; servers and
-- the registry always do
abbrev pub is_serving : AnyNode → Bool
is_serving (Client node) = client.is_serving node.phase
is_serving (Manager node) = manager.is_serving node.phase
is_serving (Server node) = true
is_serving (Cleaner node) = cleaner.is_serving node.phase
is_serving (Registry node) = true
